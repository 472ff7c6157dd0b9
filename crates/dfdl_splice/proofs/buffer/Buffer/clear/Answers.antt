use Rattle.std.proofs.Common.{ap, List, ℕ}
use Rattle.dfdl_splice.proofs.Runs.{bits_from-none}
use Rattle.dfdl_splice.proofs.buffer.Buffer.clear.Goals as goal

pub returns : goal.returns
returns c =
    rw (← c.self.view_is) (ap (λ (bits : List ℕ). record { bits = bits; order = c.self.inside.order; room = c.self.inside.room }) (bits_from-none _ _ _))
