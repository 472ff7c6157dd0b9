use Rattle.std.proofs.Common.{◌≡◌, length, take, Some}
use Rattle.std.specs.Str.{chars}
use Rattle.dfdl_chars.specs.Encodings.{encoded_text, joined}
use Rattle.dfdl_chars.proofs.text.encode_each.Given as goal

-- the bytes of the characters before
abbrev pub invariant-loop-c : goal.invariant-loop-c
invariant-loop-c l = joined (Some l.fn.into.items) (encoded_text l.enc (take (length l.yielded) (chars l.text))) ≡ Some l.into.items
