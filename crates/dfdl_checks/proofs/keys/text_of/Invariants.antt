use Rattle.std.proofs.Common.{◌≡◌, ◌++◌, drop, encode_utf8_all, string_bytes}
use Rattle.dfdl_checks.proofs.keys.text_of.Given as goal

-- what is put, with the others behind it, is all
abbrev pub invariant-loop-c : goal.invariant-loop-c
invariant-loop-c l = string_bytes l.text ++ encode_utf8_all (drop l.c-index l.characters) ≡ encode_utf8_all l.characters
