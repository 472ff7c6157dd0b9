use Rattle.std.proofs.Common.{◌≡◌, ℕ, ◌-◌, ◌/◌, ◌^◌, ◌<◌, ◌≤◌, ◌++◌, map, take, drop, get_or}
use Rattle.dfdl_packed.specs.Digits.{padded_digits}
use Rattle.dfdl_packed.specs.Zoned.{plain_char}
use Rattle.dfdl_packed.proofs.zoned_writing.fill.Given as goal

abbrev pub invariant-loop-place : goal.invariant-loop-place
invariant-loop-place l = record {
  filled : l.places ≡ take l.place l.fn.places ++ (map plain_char (padded_digits (l.count - l.place) l.fn.number) ++ drop l.count l.fn.places);
  rest : l.rest ≡ l.fn.number / 10 ^ (l.count - l.place);
  least : (k : ℕ) → l.place ≤ k → k < l.count → 48 ≤ get_or l.places k 0;
  most : (k : ℕ) → l.place ≤ k → k < l.count → get_or l.places k 0 < 58;
}
