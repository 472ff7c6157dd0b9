use Rattle.std.proofs.Common.{◌≡◌, length}
use Rattle.dfdl_properties.proofs.joined.empty_formats.Given as goal

-- so many are made
abbrev pub invariant-loop : goal.invariant-loop
invariant-loop l = length l.formats.items ≡ l.counter
