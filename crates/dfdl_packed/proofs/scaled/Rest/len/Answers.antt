use Rattle.dfdl_packed.proofs.ScaledLemmas.{digits_zeros}
use Rattle.dfdl_packed.proofs.scaled.Rest.len.Goals as goal

pub returns-clause-digits : goal.returns-clause-digits
returns-clause-digits c =
    rw (← c.self.view_is, c.from.ensures)
    (digits_zeros c.self.inside.number c.digits_of.result c.self.inside.zeros c.if-self-eq0.false c.digits_of.ensures.digits)
