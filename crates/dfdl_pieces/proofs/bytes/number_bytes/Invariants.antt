use Rattle.std.proofs.Common.{◌≡◌, length}
use Rattle.dfdl_pieces.proofs.ByteLists.{IsWritten}
use Rattle.dfdl_pieces.proofs.bytes.number_bytes.Given as goal

abbrev pub invariant-loop-place : goal.invariant-loop-place
invariant-loop-place l = (length l.bytes ≡ 8) × IsWritten l.by l.count l.number l.place l.bytes
