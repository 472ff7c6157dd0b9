-- The list of those that are ready, as one leaves it or comes to it.
use Rattle.std.proofs.Common.{◌≡◌, ◌≢◌, ℕ, ◌<◌, ◌≤◌, Bool, true, false, ◌||◌, Some, List, [], ◌∷◌, ◌++◌, length, set, get_or, nat_eq, refl, sym, ap, ◌∙◌, arith, length-set, inl, inr, ◌⊎◌}
use Rattle.std.specs.Cmp.{nat_eq_equiv}
use Rattle.std.specs.List.{slice_get, IsDistinct, AllByRecursion}
use Rattle.std.specs.List.Sorted.{IsPermutation}
use Rattle.std.proofs.lemmas.Bool.{cases_eq, or_cases, eqb-true, eq-eqb}
use Rattle.std.proofs.lemmas.List.{length_push}
use Rattle.std.proofs.lemmas.List.Folds.{list_any-append}
use Rattle.std.proofs.lemmas.List.Sorted.{list_any-IsPermutation}
use Rattle.std.proofs.lemmas.Map.Keys.{IsDistinct-head, IsDistinct-tail, IsDistinct-push, IsDistinct-IsPermutation, any_passes_from_place}
use Rattle.std.proofs.lemmas.Map.Steps.{length-le_from_distinct_below}
use Rattle.std.proofs.lemmas.Option.{slice_get_within, slice_get_read}
use Rattle.dfdl_suspend.specs.declared.mark.Mark.{Mark}
use Rattle.dfdl_suspend.specs.declared.mark.Mark.TheVariants.{Ready, Waits}
use Rattle.dfdl_suspend.specs.Asks.{is_in}
use Rattle.dfdl_suspend.specs.Marks.{IsReadyList}
use Rattle.dfdl_suspend.proofs.Places.{get_set_same, get_set_other, get_append_old, get_push_new, get_push_cases}

true_false : {P : Type 0} (b : Bool) → b ≡ true → b ≡ false → P
true_false b yes_ no_ = absurd (cc)

flips : (x y : ℕ) → nat_eq x y ≡ nat_eq y x
flips x y = nat_eq_equiv.symm x y

-- it is in the list, or it is the one in front
pub in_cons : (cell x : ℕ) (xs : List ℕ) → is_in cell (x ∷ xs) ≡ true → (cell ≡ x) ⊎ (is_in cell xs ≡ true)
in_cons cell x xs e = elim (or_cases (nat_eq cell x) (is_in cell xs) e) [
  | inl same ↦ inl (eqb-true cell x same)
  | inr behind ↦ inr behind
]

pub in_front : (cell x : ℕ) (xs : List ℕ) → cell ≡ x → is_in cell (x ∷ xs) ≡ true
in_front cell x xs e = ap (λ b. b || is_in cell xs) (eq-eqb cell x e)

or_right : (a b : Bool) → b ≡ true → (a || b) ≡ true
or_right true b e = refl
or_right false b e = e

pub in_behind : (cell x : ℕ) (xs : List ℕ) → is_in cell xs ≡ true → is_in cell (x ∷ xs) ≡ true
in_behind cell x xs e = or_right (nat_eq cell x) (is_in cell xs) e

-- a test is false where it isn't true
pub not_true : (b : Bool) → (b ≡ true → ⊥) → b ≡ false
not_true true no_ = absurd (no_ refl)
not_true false no_ = refl

-- it is in the list, or it is the one that was put behind
pub in_push : (cell x : ℕ) (xs : List ℕ) → is_in cell (xs ++ x ∷ []) ≡ true → (is_in cell xs ≡ true) ⊎ (cell ≡ x)
in_push cell x xs e = elim (or_cases (is_in cell xs) (is_in cell (x ∷ [])) (sym (list_any-append (nat_eq cell) xs (x ∷ [])) ∙ e)) [
  | inl old ↦ inl old
  | inr new ↦ elim (in_cons cell x [] new) [
    | inl same ↦ inr same
    | inr none ↦ absurd (false_true none)
  ]
]
  where
    false_true : false ≡ true → ⊥
    false_true e = cc

pub in_push_old : (cell x : ℕ) (xs : List ℕ) → is_in cell xs ≡ true → is_in cell (xs ++ x ∷ []) ≡ true
in_push_old cell x xs e = list_any-append (nat_eq cell) xs (x ∷ []) ∙ ap (λ b. b || is_in cell (x ∷ [])) e

pub in_push_new : (cell x : ℕ) (xs : List ℕ) → cell ≡ x → is_in cell (xs ++ x ∷ []) ≡ true
in_push_new cell x xs e = list_any-append (nat_eq cell) xs (x ∷ []) ∙ or_right (is_in cell xs) (is_in cell (x ∷ [])) (in_front cell x [] e)

pub in_at : (xs : List ℕ) (i cell : ℕ) → slice_get xs i ≡ Some cell → is_in cell xs ≡ true
in_at xs i cell is = any_passes_from_place (nat_eq cell) xs i cell is (eq-eqb cell cell refl)

-- no more are ready than there are
pub few_ready : (marks : List Mark) (ready : List ℕ) → IsReadyList marks ready → length ready ≤ length marks
few_ready marks ready is = length-le_from_distinct_below ready (length marks) is.apart (λ q e. slice_get_within marks q Ready (is.each q e))

some_same : {m : Mark} → Some Ready ≡ Some m → m ≡ Ready
some_same {m} e = cc

module _ (marks : List Mark) (ready : List ℕ) (is : IsReadyList marks ready) where
  -- one that is ready leaves the list, and gets another mark
  pub left_ready : (cell : ℕ) (m : Mark) (rest : List ℕ) → slice_get marks cell ≡ Some Ready → IsPermutation ready (cell ∷ rest) → (m ≡ Ready → ⊥)
      → IsReadyList (set marks cell m) rest
  left_ready cell m rest stands moved other =
      let apart : IsDistinct nat_eq (cell ∷ rest) = IsDistinct-IsPermutation nat_eq flips ready (cell ∷ rest) moved is.apart in
      let gone : is_in cell rest ≡ false = gone_from cell rest (IsDistinct-head nat_eq cell rest apart) in
      record {
        apart = IsDistinct-tail nat_eq cell rest apart;
        each = λ q e.
            let was : is_in q ready ≡ true = list_any-IsPermutation (nat_eq q) ready (cell ∷ rest) moved ∙ in_behind q cell rest e in
            let differs : q ≢ cell = λ same. true_false (is_in q rest) e (ap (λ k. is_in k rest) same ∙ gone) in
            get_set_other marks cell q m differs ∙ is.each q was;
        every = λ q e. elim (cases_eq q cell) [
          | inl same ↦ absurd (other (some_same (sym e ∙ (ap (λ k. slice_get (set marks cell m) k) same ∙ get_set_same marks cell m (slice_get_within marks cell Ready stands)))))
          | inr differs ↦ elim (in_cons q cell rest (sym (list_any-IsPermutation (nat_eq q) ready (cell ∷ rest) moved) ∙ is.every q (sym (get_set_other marks cell q m differs) ∙ e))) [
            | inl same ↦ absurd (differs same)
            | inr behind ↦ behind
          ]
        ];
      }
    where
      gone_from : (cell : ℕ) (rest : List ℕ) → AllByRecursion (λ y. nat_eq cell y ≡ false) rest → is_in cell rest ≡ false
      gone_from cell [] all = refl
      gone_from cell (x ∷ xs) all = ap (λ b. b || is_in cell xs) all.0 ∙ gone_from cell xs all.1

  -- one that isn't ready becomes so, and comes behind the others
  pub came_ready : (cell : ℕ) (m : Mark) → slice_get marks cell ≡ Some m → (m ≡ Ready → ⊥) → IsReadyList (set marks cell Ready) (ready ++ cell ∷ [])
  came_ready cell m stands other =
      let absent : is_in cell ready ≡ false = not_true (is_in cell ready) (λ e. other (some_same (sym (is.each cell e) ∙ stands))) in
      record {
        apart = IsDistinct-push nat_eq_equiv ready cell is.apart absent;
        each = λ q e. elim (in_push q cell ready e) [
          | inl old ↦ get_set_other marks cell q Ready (λ same. true_false (is_in q ready) old (ap (λ k. is_in k ready) same ∙ absent)) ∙ is.each q old
          | inr same ↦ ap (λ k. slice_get (set marks cell Ready) k) same ∙ get_set_same marks cell Ready (slice_get_within marks cell m stands)
        ];
        every = λ q e. elim (cases_eq q cell) [
          | inl same ↦ in_push_new q cell ready same
          | inr differs ↦ in_push_old q cell ready (is.every q (sym (get_set_other marks cell q Ready differs) ∙ e))
        ];
      }

  -- one that is added is ready
  pub added_ready : IsReadyList (marks ++ Ready ∷ []) (ready ++ length marks ∷ [])
  added_ready =
      let absent : is_in (length marks) ready ≡ false = not_true (is_in (length marks) ready) (λ e. past (slice_get_within marks (length marks) Ready (is.each (length marks) e))) in
      record {
        apart = IsDistinct-push nat_eq_equiv ready (length marks) is.apart absent;
        each = λ q e. elim (in_push q (length marks) ready e) [
          | inl old ↦ get_append_old marks (Ready ∷ []) q (slice_get_within marks q Ready (is.each q old)) ∙ is.each q old
          | inr same ↦ ap (λ k. slice_get (marks ++ Ready ∷ []) k) same ∙ get_push_new marks Ready
        ];
        every = λ q e. elim (get_push_cases marks Ready Ready q e) [
          | inl old ↦ in_push_old q (length marks) ready (is.every q old)
          | inr new ↦ in_push_new q (length marks) ready new.0
        ];
      }
    where
      past : length marks < length marks → ⊥
      past h = omega arith

-- the unknown at a place of the list is ready
pub ready_at_is : (marks : List Mark) (ready : List ℕ) (i cell : ℕ) → IsReadyList marks ready → i < length ready → cell ≡ get_or ready i cell → slice_get marks cell ≡ Some Ready
ready_at_is marks ready i cell is within e = is.each cell (in_at ready i cell (slice_get_read ready (length ready) i cell refl within e))

-- where one isn't ready, fewer are ready than there are
pub room_ready : (marks : List Mark) (ready : List ℕ) (cell : ℕ) (m : Mark) → IsReadyList marks ready → slice_get marks cell ≡ Some m → (m ≡ Ready → ⊥) → length ready < length marks
room_ready marks ready cell m is stands other =
    let few = few_ready (set marks cell Ready) (ready ++ cell ∷ []) (came_ready marks ready is cell m stands other) in
    let more = length_push ready cell in let same = length-set marks cell Ready in omega arith

pub waits_ready : (w : ℕ) → Waits w ≡ Ready → ⊥
waits_ready w e = cc
