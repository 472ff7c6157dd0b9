-- How a count of calls rises.
use Rattle.std.specs.Prelude.{ℕ, ◌+◌, ◌-◌, ◌^◌, ◌≤◌, min}

-- one more than a count, which stands still at the last value of its type
abbrev pub one_more : ℕ → ℕ
one_more count = min (count + 1) (2 ^ 64 - 1)

-- the count has risen, or stands at the last value of its type
abbrev pub Rose : ℕ → ℕ → Type 0
Rose before now = one_more before ≤ now
