-- What marks of places come to where one is put or taken off.
use Rattle.std.proofs.Common.{◌≡◌, ℕ, zero, suc, ◌+◌, ◌<◌, ◌≤◌, List, [], ◌∷◌, length, set, get_or, Bool, true, false, ◌&&◌, ◌||◌, nat_lt, ◌≢◌, inl, inr, refl, sym, ap, ◌∙◌, arith}
use Rattle.std.proofs.lemmas.Bool.{cond-true, cond-false, cases_order}
use Rattle.std.proofs.lemmas.Bool.Decides.{nat_tests}
use Rattle.std.proofs.lemmas.List.{get_or-set_same}
use Rattle.dfdl_literal_texts.specs.Places.{some_marked, split}

mark_zero : (mark a rest : Bool) → ((true && a) || rest) ≡ (((mark && a) || rest) || a)
mark_zero true true true = refl
mark_zero true true false = refl
mark_zero true false rest = sym (or_false rest)
  where
    or_false : (b : Bool) → (b || false) ≡ b
    or_false true = refl
    or_false false = refl
mark_zero false true true = refl
mark_zero false true false = refl
mark_zero false false rest = sym (or_false rest)
  where
    or_false : (b : Bool) → (b || false) ≡ b
    or_false true = refl
    or_false false = refl

pub or_assoc : (a b c : Bool) → (a || (b || c)) ≡ ((a || b) || c)
or_assoc true b c = refl
or_assoc false b c = refl

-- a mark is put
pub mark_on : (places : List Bool) (j : ℕ) (passes : ℕ → Bool) → j < length places
    → some_marked (set places j true) passes ≡ (some_marked places passes || passes j)
unfolding some_marked
mark_on [] j passes within = absurd (omega (arith, within))
mark_on (mark ∷ places) zero passes within = mark_zero mark (passes zero) (some_marked places (λ k. passes (suc k)))
mark_on (mark ∷ places) (suc j) passes within =
    ap (λ b. (mark && passes zero) || b) (mark_on places j (λ k. passes (suc k)) (omega (arith, within)))
    ∙ or_assoc (mark && passes zero) (some_marked places (λ k. passes (suc k))) (passes (suc j))

off_zero : (mark a rest : Bool) → ((mark && a) || rest) ≡ (((false && a) || rest) || (mark && a))
off_zero true true true = refl
off_zero true true false = refl
off_zero true false true = refl
off_zero true false false = refl
off_zero false a true = refl
off_zero false a false = refl

-- a mark is taken off
pub mark_off : (places : List Bool) (j : ℕ) (passes : ℕ → Bool) → j < length places
    → some_marked places passes ≡ (some_marked (set places j false) passes || (get_or places j false && passes j))
unfolding some_marked
mark_off [] j passes within = absurd (omega (arith, within))
mark_off (mark ∷ places) zero passes within = off_zero mark (passes zero) (some_marked places (λ k. passes (suc k)))
mark_off (mark ∷ places) (suc j) passes within =
    ap (λ b. (mark && passes zero) || b) (mark_off places j (λ k. passes (suc k)) (omega (arith, within)))
    ∙ or_assoc (mark && passes zero) (some_marked (set places j false) (λ k. passes (suc k))) (get_or places j false && passes (suc j))

and_same : (mark a b rest more : Bool) → (mark ≡ true → a ≡ b) → rest ≡ more → ((mark && a) || rest) ≡ ((mark && b) || more)
and_same true a b rest more same rests = ap (λ x. x || rest) (same refl) ∙ ap (λ x. b || x) rests
and_same false a b rest more same rests = rests

-- tests that are the same at each marked place
pub marked_same : (places : List Bool) (first second : ℕ → Bool)
    → ((k : ℕ) → k < length places → get_or places k false ≡ true → first k ≡ second k) → some_marked places first ≡ some_marked places second
unfolding some_marked
marked_same [] first second same = refl
marked_same (mark ∷ places) first second same =
    and_same mark (first zero) (second zero) (some_marked places (λ k. first (suc k))) (some_marked places (λ k. second (suc k)))
    (same zero (omega arith))
    (marked_same places (λ k. first (suc k)) (λ k. second (suc k)) (λ k within marked. same (suc k) (omega (arith, within)) marked))

less_test : (k at : ℕ) → k < at → nat_lt k at ≡ true
less_test k at less = grind (arith, nat_tests)

most_test : (k at : ℕ) → at ≤ k → nat_lt k at ≡ false
most_test k at most = grind (arith, nat_tests)

pub split_before : (at : ℕ) (first second : ℕ → Bool) (k : ℕ) → k < at → split at first second k ≡ first k
unfolding split
split_before at first second k less = cond-true (nat_lt k at) (first k) (second k) (less_test k at less)

pub split_behind : (at : ℕ) (first second : ℕ → Bool) (k : ℕ) → at ≤ k → split at first second k ≡ second k
unfolding split
split_behind at first second k most = cond-false (nat_lt k at) (first k) (second k) (most_test k at most)

-- every test is behind the place 0, and before one past all
pub split_none : (places : List Bool) (first second : ℕ → Bool) → some_marked places (split 0 first second) ≡ some_marked places second
split_none places first second =
    marked_same places (split 0 first second) second (λ k within marked. split_behind 0 first second k (omega arith))

pub split_all : (places : List Bool) (first second : ℕ → Bool) → some_marked places (split (length places) first second) ≡ some_marked places first
split_all places first second =
    marked_same places (split (length places) first second) first (λ k within marked. split_before (length places) first second k within)

or_false : (b : Bool) → (b || false) ≡ b
or_false true = refl
or_false false = refl

not_marked : (b : Bool) → b ≡ false → b ≡ true → ⊥
not_marked b no_mark marked = cc

-- tests split behind a place and before it differ at it alone
split_other : (at : ℕ) (first second : ℕ → Bool) (k : ℕ) → k ≢ at → split (at + 1) first second k ≡ split at first second k
split_other at first second k other = elim (cases_order k at) [
  | inl is ↦ absurd (other is)
  | inr (inl before) ↦ split_before (at + 1) first second k (omega (arith, before)) ∙ sym (split_before at first second k before)
  | inr (inr behind) ↦ split_behind (at + 1) first second k (omega (arith, behind)) ∙ sym (split_behind at first second k (omega (arith, behind)))
]

-- no mark at the place: it may be split on either side
pub split_unmarked : (places : List Bool) (at : ℕ) (first second : ℕ → Bool) → get_or places at false ≡ false
    → some_marked places (split (at + 1) first second) ≡ some_marked places (split at first second)
split_unmarked places at first second none =
    marked_same places (split (at + 1) first second) (split at first second)
    (λ k within marked. split_other at first second k (λ is. not_marked (get_or places at false) none (ap (λ j. get_or places j false) (sym is) ∙ marked)))

-- a mark that is taken off, with what it passed by
pub split_off : (places : List Bool) (at : ℕ) (first second : ℕ → Bool) → at < length places → get_or places at false ≡ true
    → some_marked places (split (at + 1) first second) ≡ (some_marked (set places at false) (split at first second) || first at)
split_off places at first second within marked =
    mark_off places at (split (at + 1) first second) within
    ∙ ap (λ b. some_marked (set places at false) (split (at + 1) first second) || (b && split (at + 1) first second at)) marked
    ∙ ap (λ b. some_marked (set places at false) (split (at + 1) first second) || b) (split_before (at + 1) first second at (omega arith))
    ∙ ap (λ b. b || first at) (split_unmarked (set places at false) at first second (get_or-set_same places at false false within))

-- a mark that stays, with what it passes by
pub split_kept : (places : List Bool) (at : ℕ) (first second : ℕ → Bool) → at < length places → get_or places at false ≡ true
    → some_marked places (split at first second) ≡ (some_marked (set places at false) (split (at + 1) first second) || second at)
split_kept places at first second within marked =
    mark_off places at (split at first second) within
    ∙ ap (λ b. some_marked (set places at false) (split at first second) || (b && split at first second at)) marked
    ∙ ap (λ b. some_marked (set places at false) (split at first second) || b) (split_behind at first second at (omega arith))
    ∙ ap (λ b. b || second at) (sym (split_unmarked (set places at false) at first second (get_or-set_same places at false false within)))

pub split_stays : (places : List Bool) (at : ℕ) (first second : ℕ → Bool) → at < length places → get_or places at false ≡ true
    → some_marked places (split (at + 1) first second) ≡ (some_marked (set places at false) (split (at + 1) first second) || first at)
split_stays places at first second within marked =
    mark_off places at (split (at + 1) first second) within
    ∙ ap (λ b. some_marked (set places at false) (split (at + 1) first second) || (b && split (at + 1) first second at)) marked
    ∙ ap (λ b. some_marked (set places at false) (split (at + 1) first second) || b) (split_before (at + 1) first second at (omega arith))

pub or_three : (all some none first other rest : Bool) → all ≡ (some || rest) → some ≡ (none || first) → first ≡ other → all ≡ (none || (other || rest))
or_three all some none first other rest is more same =
    is ∙ ap (λ b. b || rest) more ∙ ap (λ b. (none || b) || rest) same ∙ sym (or_assoc none other rest)
