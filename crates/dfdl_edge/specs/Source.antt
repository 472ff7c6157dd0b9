-- What one read of a source gives.
use Rattle.std.specs.Prelude.{Option, ◌≡◌, ℕ, List, [], ◌++◌, take}
use Rattle.dfdl_edge.specs.Told.{WhereTold}

-- `count` bytes went from the front of what was left to the front of the buffer, and none only at
-- the end
pub record TakesFront (left : List ℕ) (count : ℕ) (buffer now : List ℕ) : Type 0 where
  pub bytes : left ≡ take count buffer ++ now
  pub end : count ≡ 0 → left ≡ []

-- the same of what is left before and after the read, where it is told
abbrev pub Takes : Option (List ℕ) → ℕ → List ℕ → Option (List ℕ) → Type 0
Takes left count buffer now = WhereTold (λ bytes rest. TakesFront bytes count buffer rest) left now

-- what is seen of a source: the bytes that reads will still give, where that is told, and how many
-- reads have failed
pub record SourceSeen : Type 0 where
  pub left : Option (List ℕ)
  pub faults : ℕ
