-- What one write to a sink adds.
use Rattle.std.specs.Prelude.{Option, ◌≡◌, ℕ, List, ◌++◌, take}
use Rattle.dfdl_edge.specs.Told.{WhereTold}

-- where it is told, all of the piece was taken after what had been taken before
abbrev pub Adds : Option (List ℕ) → List ℕ → Option (List ℕ) → Type 0
Adds taken piece now = WhereTold (λ before after. after ≡ before ++ piece) taken now

-- where it is told, a front of the piece was taken, which may be none or all of it
abbrev pub AddsFront : Option (List ℕ) → List ℕ → Option (List ℕ) → Type 0
AddsFront taken piece now =
    WhereTold (λ before after. (count : ℕ) × (after ≡ before ++ take count piece)) taken now

-- what is seen of a sink: the bytes taken so far, where that is told, and how many writes have
-- failed
pub record SinkSeen : Type 0 where
  pub taken : Option (List ℕ)
  pub faults : ℕ
