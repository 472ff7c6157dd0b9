use Rattle.std.proofs.Common.{◌≡◌, ◌<◌, ℕ, List, length, get_or, ap, ◌∙◌, subst, sym, arith}
use Rattle.dfdl_order.specs.Parts.{uses_of}
use Rattle.dfdl_order.specs.Reaching.{AreNext}
use Rattle.dfdl_order.proofs.Reach.{reached_none, next_first, next_from}
use Rattle.dfdl_order.proofs.recursive.reach.Goals as goal

pub put_new-requires-clause-reached : goal.put_new-requires-clause-reached
put_new-requires-clause-reached c = reached_none c.args.uses.now c.args.from c.in_ok-reached.reached c.in_ok-reached.ensures.part.listing
    (ap (λ (xs : List ℕ). length xs) c.in_ok-reached.ensures.none)

pub put_new-requires-clause-next : goal.put_new-requires-clause-next
put_new-requires-clause-next c = subst (AreNext c.args.uses.now c.args.from c.in_ok-reached.reached) (sym c.of.ensures)
    (next_first c.args.uses.now c.args.from c.in_ok-reached.reached c.requires.closed c.requires.within)

pub put_new-requires-in-loop-next-clause-next : goal.put_new-requires-in-loop-next-clause-next
put_new-requires-in-loop-next-clause-next c =
    let here : c.of-in-loop-next.result.now ≡ uses_of c.args.uses.now (get_or c.loop-next.reached.list c.loop-next.next 0)
    = c.of-in-loop-next.ensures ∙ ap (λ (xs : List ℕ). uses_of c.args.uses.now (get_or xs c.loop-next.next 0)) c.list-in-loop-next.ensures in
    let small : c.loop-next.next < length c.loop-next.reached.list = omega (arith, c.loop-next-test.true, ap (λ (xs : List ℕ). length xs) c.list.ensures) in
    subst (AreNext c.args.uses.now c.args.from c.loop-next.reached) (sym here)
    (next_from c.args.uses.now c.args.from c.loop-next.reached c.loop-next.next c.requires.closed c.loop-next.invariant.reached small)
