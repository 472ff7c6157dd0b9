use Rattle.std.proofs.Common.{◌≡◌, take}
use Rattle.dfdl_writings.proofs.characters.widened.Given as goal

abbrev pub invariant-loop-byte : goal.invariant-loop-byte
invariant-loop-byte l = l.all.items ≡ take l.byte-index l.bytes
