-- Mirror for the prover: how numbers of any length are compared by their digits.
use Rattle.std.specs.Prelude.{ℕ, ◌==◌, Bool, false, nat_lt, List, [], ◌∷◌, length, if◌then◌else◌}

-- the digits without zeros in front
abbrev pub significant : List ℕ → List ℕ
significant [] = []
significant (b ∷ digits) = if b == 48 then significant digits else b ∷ digits

-- the first digits are above the second ones, which are as many
abbrev pub is_greater : List ℕ → List ℕ → Bool
is_greater [] second = false
is_greater (a ∷ first) [] = false
is_greater (a ∷ first) (b ∷ second) = if a == b then is_greater first second else nat_lt b a

-- the first digits are more, or as many and above the second ones
abbrev pub is_more : List ℕ → List ℕ → Bool
is_more first second =
    if length first == length second then is_greater first second else nat_lt (length second) (length first)

-- the digits are a 1 alone
abbrev pub is_only_one : List ℕ → Bool
is_only_one (b ∷ []) = b == 49
is_only_one _ = false
