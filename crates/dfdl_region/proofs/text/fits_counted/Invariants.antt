use Rattle.std.proofs.Common.{◌≤◌, ◌↔◌, length, drop}
use Rattle.dfdl_region.specs.Bytes.{utf8_of}
use Rattle.dfdl_region.proofs.text.fits_counted.Given as goal

-- the characters fit exactly where those that are left fit in what is left of the room
abbrev pub invariant-loop-c : goal.invariant-loop-c
invariant-loop-c l = (length (utf8_of l.characters) ≤ l.room) ↔ (length (utf8_of (drop l.c-index l.characters)) ≤ l.left)
