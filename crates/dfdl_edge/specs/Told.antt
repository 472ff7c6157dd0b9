-- What an implementation of the outside tells of its content. It may tell nothing: then it is
-- `None`.
use Rattle.std.specs.Prelude.{Option, Some, None, ◌≡◌, ℕ, List, ◌<◌, ◌≤◌, length, IfSome}

-- both are told and stand in the relation R, or neither is told
abbrev pub WhereTold : {A : Type 0} → (A → A → Type 0) → Option A → Option A → Type 0
WhereTold R None None = Unit {0}
WhereTold R None (Some now) = ⊥
WhereTold R (Some before) None = ⊥
WhereTold R (Some before) (Some now) = R before now

-- where they are told, these bytes are all of them
abbrev pub IsAll : Option (List ℕ) → List ℕ → Type 0
IsAll told bytes = IfSome told (λ all. bytes ≡ all)

-- where they are told, there are more bytes than `most`
abbrev pub IsLonger : Option (List ℕ) → ℕ → Type 0
IsLonger told most = IfSome told (λ all. most < length all)

-- where they are told, there are at most `most` bytes
abbrev pub IsWithin : Option (List ℕ) → ℕ → Type 0
IsWithin told most = IfSome told (λ all. length all ≤ most)

-- the text is now the one that failed last, where that is told
abbrev pub IsNowLast : Option (Option (List ℕ)) → List ℕ → Option (Option (List ℕ)) → Type 0
IsNowLast before text now = WhereTold (λ _ last. last ≡ Some text) before now
