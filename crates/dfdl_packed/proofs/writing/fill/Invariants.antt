use Rattle.std.proofs.Common.{◌≡◌, ℕ, ◌-◌, ◌/◌, ◌^◌, ◌<◌, ◌≤◌, ◌++◌, take, drop, get_or}
use Rattle.dfdl_packed.specs.Digits.{padded_digits}
use Rattle.dfdl_packed.proofs.writing.fill.Given as goal

abbrev pub invariant-loop-place : goal.invariant-loop-place
invariant-loop-place l = record {
  filled : l.places ≡ take l.place l.fn.places ++ (padded_digits (l.to - l.place) l.fn.number ++ drop l.to l.fn.places);
  rest : l.rest ≡ l.fn.number / 10 ^ (l.to - l.place);
  begins : l.from ≤ l.place;
  low : (k : ℕ) → get_or l.fn.places k 0 < 16 → get_or l.places k 0 < 16;
}
