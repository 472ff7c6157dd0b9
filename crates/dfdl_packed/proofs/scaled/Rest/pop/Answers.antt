use Rattle.std.proofs.Common.{arith}
use Rattle.dfdl_packed.proofs.ScaledLemmas.{last_zero}
use Rattle.dfdl_packed.proofs.scaled.Rest.pop.Goals as goal

pub returns-then-self-gt0-clause-digit : goal.returns-then-self-gt0-clause-digit
returns-then-self-gt0-clause-digit c =
    rw (← c.self.view_is) (omega (arith, last_zero c.self.inside.number c.self.inside.zeros c.if-self-gt0.true))

pub returns-then-self-gt0-clause-rest : goal.returns-then-self-gt0-clause-rest
returns-then-self-gt0-clause-rest c =
    rw (← c.self.view_is) (omega (arith, last_zero c.self.inside.number c.self.inside.zeros c.if-self-gt0.true))
