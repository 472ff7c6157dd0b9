use Rattle.std.proofs.Common.{◌≡◌, ◌++◌, take}
use Rattle.dfdl_texts.proofs.spot.put.Given as goal

-- the characters of the bytes before stand behind the others
abbrev pub invariant-loop-byte : goal.invariant-loop-byte
invariant-loop-byte l = l.into.items ≡ l.fn.into.items ++ take l.byte-index l.bytes
