use Rattle.std.proofs.Common.{◌≡◌, take, Some}
use Rattle.dfdl_chars.specs.Encodings.{encoded_text, joined}
use Rattle.dfdl_escapes.proofs.placing.encode_all.Given as goal

-- the bytes of the characters before
abbrev pub invariant-loop-c : goal.invariant-loop-c
invariant-loop-c l = joined (Some l.fn.into.items) (encoded_text l.enc (take l.c-index l.text)) ≡ Some l.into.items
