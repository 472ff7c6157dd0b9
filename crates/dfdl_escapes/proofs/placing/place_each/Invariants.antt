use Rattle.std.proofs.Common.{◌≡◌, ◌++◌, ◌≤◌, List, drop, length, Some}
use Rattle.dfdl_chars.specs.Encodings.{encoded_text}
use Rattle.dfdl_delims.specs.Lists.{Opened}
use Rattle.dfdl_delims.specs.Opening.{Opens}
use Rattle.dfdl_escapes.specs.Written.{placed}
use Rattle.dfdl_escapes.proofs.placing.place_each.Given as goal

-- the characters that are left are still to be put, and their bytes are those that are left
abbrev pub invariant-loop-c : goal.invariant-loop-c
invariant-loop-c g l = record {
  placed : (opened : List Opened) → Opens l.lists opened → l.into.items ++ placed l.enc opened (drop l.c-index l.text) ≡ l.fn.into.items ++ placed l.enc opened l.text;
  encoded : encoded_text l.enc (drop l.c-index l.text) ≡ Some (drop l.from l.bytes);
  within : l.from ≤ length l.bytes;
}
