use Rattle.std.proofs.Common.{subst}
use Rattle.hex.specs.Hex.{IsBytes}
use Rattle.dfdl_value.proofs.BackLemmas.{bytes_back}
use Rattle.dfdl_value.proofs.laws.bytes_are_read_back.Goals as goal

pub returns : goal.returns
returns c = bytes_back c.args.held.now (subst IsBytes c.as_slice.ensures c.are_bytes.ensures)
