use Rattle.std.proofs.Common.{◌<◌, [], length, All, arith}
use Rattle.std.proofs.lemmas.List.Elements.{All-from_get_or}
use Rattle.dfdl_order.proofs.uses.Uses.is_closed.Goals as goal

pub returns-clause-closed : goal.returns-clause-closed
returns-clause-closed c = λ _.
    All-from_get_or (λ ps. All (λ p. p < length c.args.self.now) ps) c.args.self.now []
    (λ k small. c.loop-component.invariant k (omega (arith, small, c.loop-component.auto.component-end, c.loop-component-test.false, c.count-count.ensures)))
