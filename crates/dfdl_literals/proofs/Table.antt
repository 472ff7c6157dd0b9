-- What is begun of a name can become one, and what names are written with.
use Rattle.std.proofs.Common.{◌≡◌, ℕ, ◌≤◌, List, [], ◌∷◌, ◌++◌, length, drop, Some, None, Bool, true, false, not, ◌&&◌, ◌==◌, nat_le, eqb, refl, sym, ap, subst, ◌∙◌, arith, length-append}
use Rattle.std.proofs.lemmas.Bool.{cond_both, cond-true}
use Rattle.std.proofs.lemmas.Bool.Decides.{Decides-eqb, nat_tests}
use Rattle.std.proofs.lemmas.List.Folds.{list_all-append}
use Rattle.std.proofs.lemmas.Slice.Eq.{starts_is}
use Rattle.std.specs.Cmp.Lexicographic.{pointwise, same_text, other_text}
use Rattle.std.specs.List.{starts_with, list_all}
use Rattle.dfdl_forms.specs.declared.literals.Piece.{Piece}
use Rattle.dfdl_lemmas.proofs.Bools.{both}
use Rattle.dfdl_literals.specs.Names.{Entry, names, named, named_in, begins_name, begins_in}

begun_in : (entries : List Entry) (front : List ℕ) → begins_in entries front ≡ true
    → (rest : List ℕ) × (piece : Piece) × (named_in entries (front ++ rest) ≡ Some piece)
begun_in [] front is = let no : ⊥ = cc in absurd no
begun_in (e ∷ entries) front is =
    cond_both (starts_with eqb e.name front) true (begins_in entries front)
    (λ b. b ≡ true → (rest : List ℕ) × (piece : Piece) × (named_in (e ∷ entries) (front ++ rest) ≡ Some piece))
    (λ starts got.
    (let same = (starts_is Decides-eqb e.name front (starts_with eqb e.name front) refl).0 starts in (
      drop (length front) e.name,
      e.piece,
      cond_both (pointwise eqb e.name (front ++ drop (length front) e.name)) (Some e.piece) (named_in entries (front ++ drop (length front) e.name))
          (λ o. o ≡ Some e.piece) (λ yes_it. refl) (λ other. absurd (other_text _ _ (sym other) same)),
    )))
    (λ other got.
    (let more = begun_in entries front got in
    let found : (piece : Piece) × (named_in (e ∷ entries) (front ++ more.0) ≡ Some piece) =
    cond_both (pointwise eqb e.name (front ++ more.0)) (Some e.piece) (named_in entries (front ++ more.0))
    (λ o. (piece : Piece) × (o ≡ Some piece)) (λ it. (e.piece, refl)) (λ it. (more.1, more.2)) in
    (more.0, found.0, found.1)))
    is

begins_in_named : (entries : List Entry) (front rest : List ℕ) (piece : Piece) → named_in entries (front ++ rest) ≡ Some piece → begins_in entries front ≡ true
begins_in_named [] front rest piece is = let no : ⊥ = cc in absurd no
begins_in_named (e ∷ entries) front rest piece is =
    cond_both (pointwise eqb e.name (front ++ rest)) (Some e.piece) (named_in entries (front ++ rest)) (λ o. o ≡ Some piece → begins_in (e ∷ entries) front ≡ true)
    (λ same got. cond-true _ _ _ ((starts_is Decides-eqb e.name front (starts_with eqb e.name front) refl).1 rest (same_text _ _ (sym same))))
    (λ other got. cond_both (starts_with eqb e.name front) true (begins_in entries front) (λ b. b ≡ true) (λ it. refl) (λ it. begins_in_named entries front rest piece got))
    is

-- what is neither the end of an entity nor the second sign of %% and of %#
abbrev pub is_letter : ℕ → Bool
is_letter c = not (c == 59) && (not (c == 37) && not (c == 35))

abbrev are_letters : List Entry → Bool
are_letters entries = list_all (λ e. list_all is_letter e.name) entries

letter_in : (entries : List Entry) (front rest : List ℕ) (c : ℕ) (piece : Piece) → are_letters entries ≡ true
    → named_in entries (front ++ c ∷ rest) ≡ Some piece → is_letter c ≡ true
letter_in [] front rest c piece are is = let no : ⊥ = cc in absurd no
letter_in (e ∷ entries) front rest c piece are is =
    let parts = both (list_all is_letter e.name) (are_letters entries) are in
    cond_both (pointwise eqb e.name (front ++ c ∷ rest)) (Some e.piece) (named_in entries (front ++ c ∷ rest)) (λ o. o ≡ Some piece → is_letter c ≡ true)
    (λ same got.
    (let all : list_all is_letter (front ++ c ∷ rest) ≡ true = subst (λ l. list_all is_letter l ≡ true) (same_text e.name (front ++ c ∷ rest) (sym same)) parts.0 in
    let split = both (list_all is_letter front) (list_all is_letter (c ∷ rest)) (sym (list_all-append is_letter front (c ∷ rest)) ∙ all) in
    (both (is_letter c) (list_all is_letter rest) split.1).0))
    (λ other got. letter_in entries front rest c piece parts.1 got)
    is

pub begun : (front : List ℕ) → begins_name front ≡ true → (rest : List ℕ) × (piece : Piece) × (named (front ++ rest) ≡ Some piece)
unfolding begins_name named
begun front is = begun_in names front is

pub begins_named : (front rest : List ℕ) (piece : Piece) → named (front ++ rest) ≡ Some piece → begins_name front ≡ true
unfolding begins_name named
begins_named front rest piece is = begins_in_named names front rest piece is

all_letters : are_letters names ≡ true
unfolding names
all_letters = refl

pub letter_named : (front rest : List ℕ) (c : ℕ) (piece : Piece) → named (front ++ c ∷ rest) ≡ Some piece → is_letter c ≡ true
unfolding named
letter_named front rest c piece is = letter_in names front rest c piece all_letters is

pub begins_empty : begins_name [] ≡ true
unfolding begins_name names
begins_empty = refl

pub begins_e : begins_name (69 ∷ []) ≡ true
unfolding begins_name names
begins_e = refl

pub begins_es : begins_name (69 ∷ 83 ∷ []) ≡ true
unfolding begins_name names
begins_es = refl

pub empty_unnamed : named (69 ∷ 83 ∷ []) ≡ None
unfolding named names
empty_unnamed = refl

abbrev are_short : List Entry → Bool
are_short entries = list_all (λ e. nat_le (length e.name) 4) entries

at_most : (n : ℕ) → nat_le n 4 ≡ true → n ≤ 4
at_most n is = grind (arith, nat_tests)

short_in : (entries : List Entry) (front : List ℕ) → are_short entries ≡ true → begins_in entries front ≡ true → length front ≤ 4
short_in [] front are is = let no : ⊥ = cc in absurd no
short_in (e ∷ entries) front are is =
    let parts = both (nat_le (length e.name) 4) (are_short entries) are in
    cond_both (starts_with eqb e.name front) true (begins_in entries front) (λ b. b ≡ true → length front ≤ 4)
    (λ starts got.
    (let same = ap length ((starts_is Decides-eqb e.name front (starts_with eqb e.name front) refl).0 starts) in
    let sum = length-append front (drop (length front) e.name) in
    let size = at_most (length e.name) parts.0 in
    omega (arith, same, sum, size)))
    (λ other got. short_in entries front parts.1 got)
    is

all_short : are_short names ≡ true
unfolding names
all_short = refl

short_name : (front : List ℕ) → begins_name front ≡ true → length front ≤ 4
unfolding begins_name
short_name front is = short_in names front all_short is

-- no name has five letters
pub too_long : (front : List ℕ) (c : ℕ) → 4 ≤ length front → begins_name (front ++ c ∷ []) ≡ false
too_long front c four =
    cond_both (begins_name (front ++ c ∷ [])) true false (λ _. begins_name (front ++ c ∷ []) ≡ false)
    (λ is.
    (let least = short_name (front ++ c ∷ []) is in
    let sum = length-append front (c ∷ []) in
    absurd (omega (arith, least, sum, four))))
    (λ other. other)
