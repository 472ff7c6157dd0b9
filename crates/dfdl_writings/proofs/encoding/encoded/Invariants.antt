use Rattle.std.proofs.Common.{◌≡◌, [], take, Some}
use Rattle.dfdl_chars.specs.Encodings.{encoded_text, joined}
use Rattle.dfdl_writings.proofs.encoding.encoded.Given as goal

-- the bytes of the characters before
abbrev pub invariant-loop-c : goal.invariant-loop-c
invariant-loop-c l = joined (Some []) (encoded_text l.encoding (take l.c-index l.characters)) ≡ Some l.bytes.items
