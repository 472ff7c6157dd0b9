use Rattle.std.proofs.Common.{ℕ, sym, ap, ◌∙◌, nat_lt, get_or}
use Rattle.dfdl_order.proofs.Reach.{falls_once, reach_is}
use Rattle.dfdl_order.proofs.recursive.is_recursive.Goals as goal

pub returns-then-fall : goal.returns-then-fall
returns-then-fall c = sym (falls_once c.args.uses.now c.args.levels.now c.args.component c.requires.closed (c.requires.levels c.if-told.true) c.requires.within
    (c.fall.ensures c.if-fall.true))

pub returns : goal.returns
returns c = c.has.ensures ∙ (ap (λ (n : ℕ). nat_lt (get_or c.in_ok-reached.reached.rank c.args.component 0) n) c.count.ensures
    ∙ reach_is c.args.uses.now c.args.component c.in_ok-reached.reached c.requires.closed c.requires.within c.in_ok-reached.ensures c.args.component c.requires.within)
