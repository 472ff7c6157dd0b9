use Rattle.std.proofs.Common.{◌≡◌, drop}
use Rattle.dfdl_escape_schemes.proofs.Singles.{behind}
use Rattle.dfdl_escape_schemes.specs.Schemes.{singles}
use Rattle.dfdl_escape_schemes.proofs.reading.singles.Given as goal

-- the characters of the literals before, and those that are left
abbrev pub invariant-loop-at : goal.invariant-loop-at
invariant-loop-at l = behind l.characters.items (singles (drop l.at l.literals)) ≡ singles l.literals
