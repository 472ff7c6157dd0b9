use Rattle.std.proofs.Common.{◌≡◌, ◌<◌, ℕ, List, length, ap, sym, subst, ◌∙◌, arith, true, false}
use Rattle.dfdl_order.specs.Parts.{IsClosed, IsOrder}
use Rattle.dfdl_order.specs.Cycles.{IsFirstRecursive, IsFaultOf, reaches_itself}
use Rattle.dfdl_components.specs.Recursion.{all_uses, count_of}
use Rattle.dfdl_components.proofs.Consisting.{closed, length_all}
use Rattle.dfdl_components.proofs.recursion.first_recursive.Goals as goal

pub order_of-requires : goal.order_of-requires
order_of-requires c = subst IsClosed (sym c.in_ok-uses.ensures.uses) (closed c.args.schema.now)

pub returns-in-Ok-clause-first : goal.returns-in-Ok-clause-first
returns-in-Ok-clause-first c =
    let ordered = subst (λ (uses : List (List ℕ)). IsOrder uses c.in-Ok.field-0) c.in_ok-uses.ensures.uses c.in-Ok.ensures.ordered in
    let long : length (all_uses c.args.schema.now) ≡ count_of c.args.schema.now = length_all c.args.schema.now in
    record {
      few = omega (arith, c.requires.count);
      before = λ b low. c.nothing_in_an_order_reaches_itself.ensures (all_uses c.args.schema.now) c.in-Ok.field-0 ordered b (omega (arith, low, long, c.requires.count));
      at = λ low. absurd (omega (arith, low, c.requires.count));
    }

pub returns-in-Err-Recursive-clause-first : goal.returns-in-Err-Recursive-clause-first
returns-in-Err-Recursive-clause-first c =
    let told : IsFirstRecursive c.in_ok-uses.uses c.in-Err-Recursive.component
    = subst (IsFaultOf c.in_ok-uses.uses) c.in-Err-Recursive.field-0-is c.in-Err-Recursive.ensures.fault in
    let first : IsFirstRecursive (all_uses c.args.schema.now) c.in-Err-Recursive.component
    = subst (λ (uses : List (List ℕ)). IsFirstRecursive uses c.in-Err-Recursive.component) c.in_ok-uses.ensures.uses told in
    let long : length (all_uses c.args.schema.now) ≡ count_of c.args.schema.now = length_all c.args.schema.now in
    record {
      few = omega (arith, first.within, long);
      before = first.before;
      at = λ low. first.recursive;
    }
