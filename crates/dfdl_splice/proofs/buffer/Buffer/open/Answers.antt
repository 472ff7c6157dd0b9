use Rattle.std.proofs.Common.{ap, List, ℕ}
use Rattle.dfdl_splice.proofs.Runs.{bits_from-none}
use Rattle.dfdl_splice.proofs.buffer.Buffer.open.Goals as goal

pub returns : goal.returns
returns c =
    ap (λ (bits : List ℕ). record { bits = bits; order = c.args.order; room = c.args.room }) (bits_from-none _ _ _)
