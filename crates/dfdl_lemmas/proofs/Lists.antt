-- Lists, and what is left of them.
use Rattle.std.proofs.Common.{◌≡◌, ℕ, ◌+◌, ◌<◌, List, ◌∷◌, length, drop, get_or, refl, ◌∙◌, add-one, drop-cons}

-- what is left from an item on is that item and what is left behind it
pub left_at : {A : Type 0} (all : List A) (i : ℕ) (a : A) → i < length all → a ≡ get_or all i a → drop i all ≡ a ∷ drop (i + 1) all
left_at all i a here is = drop-cons all i a here ∙ rw (← is, add-one) refl
