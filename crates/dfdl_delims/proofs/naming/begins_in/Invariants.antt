use Rattle.std.proofs.Common.{◌≡◌, ◌<◌, ◌||◌, ℕ, drop}
use Rattle.dfdl_bits.specs.ByteSets.{has_byte}
use Rattle.dfdl_delims.specs.Verdicts.{begins_with, named_firsts, some_first}
use Rattle.dfdl_delims.proofs.naming.begins_in.Given as goal

-- the set has those of the lists before, and the lists that are left have the others
abbrev pub invariant-loop-number : goal.invariant-loop-number
invariant-loop-number l = (byte : ℕ) → byte < 256
    → (has_byte l.set byte || some_first (begins_with byte) (named_firsts l.firsts (drop l.number-index l.numbers)))
    ≡ some_first (begins_with byte) (named_firsts l.firsts l.numbers)
