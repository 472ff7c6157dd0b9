-- How a count that stands still at the last value of its type rises.
use Rattle.std.specs.Prelude.{ℕ, ◌+◌, ◌-◌, ◌^◌, ◌≤◌, min}

-- the count has risen by so many, or stands at the last value of a u64
abbrev pub RoseBy : ℕ → ℕ → ℕ → Type 0
RoseBy count before now = min (before + count) (2 ^ 64 - 1) ≤ now
