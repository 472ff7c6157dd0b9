-- Lists without the elements at an end that pass a test.
use Rattle.std.specs.Prelude.{ℕ, Bool, if◌then◌else◌, List, [], ◌∷◌}

-- what is left of the list without the elements at its front that pass
abbrev pub without_leading : (ℕ → Bool) → List ℕ → List ℕ
without_leading passes [] = []
without_leading passes (x ∷ xs) = if passes x then without_leading passes xs else x ∷ xs

-- x before the rest, unless nothing is left and x passes
abbrev pub before_rest : (ℕ → Bool) → ℕ → List ℕ → List ℕ
before_rest passes x [] = if passes x then [] else x ∷ []
before_rest passes x (y ∷ ys) = x ∷ (y ∷ ys)

-- what is left of the list without the elements at its end that pass
abbrev pub without_trailing : (ℕ → Bool) → List ℕ → List ℕ
without_trailing passes [] = []
without_trailing passes (x ∷ xs) = before_rest passes x (without_trailing passes xs)
