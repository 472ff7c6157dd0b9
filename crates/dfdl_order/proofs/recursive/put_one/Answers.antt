use Rattle.std.proofs.Common.{sym, subst, ℕ}
use Rattle.dfdl_order.specs.Filling.{IsListing, with_one}
use Rattle.dfdl_order.specs.Reaching.{AreReached}
use Rattle.dfdl_order.proofs.Reach.{reached_with}
use Rattle.dfdl_order.proofs.recursive.put_one.Goals as goal

pub returns-clause-reached : goal.returns-clause-reached
returns-clause-reached c =
    let listing : IsListing c.count-count.result (with_one c.args.reached.now c.args.part)
    = subst (IsListing c.count-count.result) c.in_ok-put.ensures.put c.put.ensures.listing in
    subst (AreReached c.args.uses.now c.args.from) (sym c.in_ok-put.ensures.put)
    (reached_with c.args.uses.now c.args.from c.args.reached.now c.args.part c.requires.reached
    (subst (λ (n : ℕ). IsListing n (with_one c.args.reached.now c.args.part)) c.count-count.ensures listing) c.requires.next)
