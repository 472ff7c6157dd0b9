-- Lemmas on decimal numbers, and on their digits before and after the point.
use Rattle.std.proofs.Common.{◌≡◌, ◌≢◌, ℕ, zero, suc, ◌+◌, ◌-◌, ◌*◌, ◌%◌, ◌^◌, ◌<◌, ◌≤◌, Bool, true, false, ◌&&◌, nat_lt, if◌then◌else◌, List, [], ◌∷◌, ◌++◌, length, replicate, refl, sym, ap, subst, ◌∙◌, ◌⊎◌, inl, inr, arith, append_assoc, length-append, unsigned_abs, Some, None}
use Rattle.std.specs.Char.{is_ascii_digit}
use Rattle.std.specs.List.{list_all}
use Rattle.std.proofs.lemmas.List.Folds.{list_all-append}
use Rattle.std.proofs.lemmas.Bool.{le-ltb}
use Rattle.std.proofs.Math.Bool.{and-false}
use Rattle.std.proofs.lemmas.List.{append-nil}
use Rattle.std.proofs.lemmas.Bool.Decides.{nat_tests}
use Rattle.dfdl_decimal.specs.Decimal.{DecimalNumber, shortest_from, is_small, fixed_of, with_sign}
use Rattle.dfdl_value.specs.Texts.{is_zero, number_after, number_of}
use Rattle.dfdl_lemmas.proofs.Bools.{both}
use Rattle.dfdl_lemmas.specs.Trimmed.{before_rest, without_trailing}
use Rattle.dfdl_decimal.proofs.FixedLemmas.{unsigned_abs-with_sign, shortest_from-zero, shortest_from-stops, not_round}

-- ---- digits

pub number_after-append : (n : ℕ) (xs ys : List ℕ) → number_after n (xs ++ ys) ≡ number_after (number_after n xs) ys
number_after-append n [] ys = refl
number_after-append n (x ∷ xs) ys = number_after-append (n * 10 + (x - 48)) xs ys

number_of-push : (w f : List ℕ) (c : ℕ) → number_of (w ++ (f ++ c ∷ [])) ≡ number_of (w ++ f) * 10 + (c - 48)
number_of-push w f c = ap number_of (sym (append_assoc w f (c ∷ []))) ∙ number_after-append 0 (w ++ f) (c ∷ [])

zero_is : (x : ℕ) → is_zero x ≡ true → x ≡ 48
zero_is x h = grind (arith, nat_tests)

-- digits are those without the zeros at their end, and these zeros
pub trailing_zeros : (xs : List ℕ) → (k : ℕ) × (xs ≡ without_trailing is_zero xs ++ replicate k 48)
trailing_zeros [] = (0, refl)
trailing_zeros (x ∷ xs) = let rest = trailing_zeros xs in more (without_trailing is_zero xs) rest.0 rest.1
  where
    alone : (b : Bool) (k : ℕ) (x : ℕ) (xs : List ℕ) → (b ≡ true → x ≡ 48) → xs ≡ replicate k 48 → (j : ℕ) × ((x ∷ xs) ≡ (if b then [] else x ∷ []) ++ replicate j 48)
    alone true k x xs is e = (suc k, ap (λ c. c ∷ xs) (is refl) ∙ ap (λ r. 48 ∷ r) e)
    alone false k x xs is e = (k, ap (λ r. x ∷ r) e)

    more : (kept : List ℕ) (k : ℕ) → xs ≡ kept ++ replicate k 48 → (j : ℕ) × ((x ∷ xs) ≡ before_rest is_zero x kept ++ replicate j 48)
    more [] k e = alone (is_zero x) k x xs (zero_is x) e
    more (y ∷ ys) k e = (k, ap (λ r. x ∷ r) e)

-- the last digit that is left is not zero
last_kept : (xs : List ℕ) → (without_trailing is_zero xs ≡ []) ⊎ ((ys : List ℕ) × (y : ℕ) × (without_trailing is_zero xs ≡ ys ++ y ∷ []) × (is_zero y ≡ false))
last_kept [] = inl refl
last_kept (x ∷ xs) = more (without_trailing is_zero xs) (last_kept xs)
  where
    alone : (b : Bool) → is_zero x ≡ b → ((if b then [] else x ∷ []) ≡ []) ⊎ ((ys : List ℕ) × (y : ℕ) × ((if b then [] else x ∷ []) ≡ ys ++ y ∷ []) × (is_zero y ≡ false))
    alone true e = inl refl
    alone false e = inr ([], x, refl, e)

    more : (kept : List ℕ) → (kept ≡ []) ⊎ ((ys : List ℕ) × (y : ℕ) × (kept ≡ ys ++ y ∷ []) × (is_zero y ≡ false))
        → (before_rest is_zero x kept ≡ []) ⊎ ((ys : List ℕ) × (y : ℕ) × (before_rest is_zero x kept ≡ ys ++ y ∷ []) × (is_zero y ≡ false))
    more [] h = alone (is_zero x) refl
    more (z ∷ zs) (inl e) = absurd (cc)
    more (z ∷ zs) (inr h) = inr (x ∷ h.0, h.1, ap (λ r. x ∷ r) h.2, h.3)

pub list_all-without_trailing : (xs : List ℕ) → list_all is_ascii_digit xs ≡ true → list_all is_ascii_digit (without_trailing is_zero xs) ≡ true
list_all-without_trailing xs h =
    let zeros = trailing_zeros xs in
    let split : (list_all is_ascii_digit (without_trailing is_zero xs) && list_all is_ascii_digit (replicate zeros.0 48)) ≡ true =
    sym (list_all-append is_ascii_digit (without_trailing is_zero xs) (replicate zeros.0 48)) ∙ ap (list_all is_ascii_digit) (sym zeros.1) ∙ h in
    (both _ _ split).0

pub list_all-empty : (xs : List ℕ) → length xs < 1 → list_all is_ascii_digit xs ≡ true
list_all-empty [] h = refl
list_all-empty (x ∷ xs) h = absurd (omega arith)

-- ---- the shortest form

-- zeros at the end are dropped
shortest_from-zeros : (k : ℕ) (b : Bool) (w f : List ℕ) → shortest_from (length (f ++ replicate k 48)) (with_sign b (number_of (w ++ (f ++ replicate k 48)))) ≡ shortest_from (length f) (with_sign b (number_of (w ++ f)))
shortest_from-zeros zero b w f = ap (λ t. shortest_from (length t) (with_sign b (number_of (w ++ t)))) (append-nil f)
shortest_from-zeros (suc k) b w f =
    let longer : length (f ++ 48 ∷ []) ≡ suc (length f) = omega (arith, length-append f (48 ∷ [])) in
    let larger : number_of (w ++ (f ++ 48 ∷ [])) ≡ number_of (w ++ f) * 10 = omega (arith, number_of-push w f 48) in
    ap (λ t. shortest_from (length t) (with_sign b (number_of (w ++ t)))) (sym (append_assoc f (48 ∷ []) (replicate k 48)))
    ∙ shortest_from-zeros k b w (f ++ 48 ∷ [])
    ∙ ap (λ s. shortest_from s (with_sign b (number_of (w ++ (f ++ 48 ∷ []))))) longer
    ∙ ap (λ n. shortest_from (suc (length f)) (with_sign b n)) larger
    ∙ shortest_from-zero (length f) b (number_of (w ++ f))

-- the digits before and after the point are those of the number's shortest form
pub record IsShortest (b : Bool) (w f : List ℕ) : Type 0 where
  pub same : shortest_from (length f) (with_sign b (number_of (w ++ f))) ≡ record { mantissa = with_sign b (number_of (w ++ f)); scale = length f }
  pub last : 0 < length f → number_of (w ++ f) % 10 ≢ 0

last_digit : (y : ℕ) → is_ascii_digit y ≡ true → is_zero y ≡ false → (0 < y - 48) × (y - 48 < 10)
last_digit y digit other = grind (arith, nat_tests)

IsShortest-push : (b : Bool) (w ys : List ℕ) (y : ℕ) → list_all is_ascii_digit (ys ++ y ∷ []) ≡ true → is_zero y ≡ false → IsShortest b w (ys ++ y ∷ [])
IsShortest-push b w ys y digits other =
    let split : (list_all is_ascii_digit ys ≡ true) × (list_all is_ascii_digit (y ∷ []) ≡ true) = both _ _ (sym (list_all-append is_ascii_digit ys (y ∷ [])) ∙ digits) in
    let digit : (0 < y - 48) × (y - 48 < 10) = last_digit y (both _ _ split.1).0 other in
    let longer : length (ys ++ y ∷ []) ≡ suc (length ys) = omega (arith, length-append ys (y ∷ [])) in
    let round : number_of (w ++ (ys ++ y ∷ [])) % 10 ≢ 0 = rw (number_of-push w ys y) (not_round (number_of (w ++ ys)) (y - 48) digit.0 digit.1) in
    let z = with_sign b (number_of (w ++ (ys ++ y ∷ []))) in
    record {
      same = ap (λ s. shortest_from s z) longer ∙ shortest_from-stops (length ys) z (rw unsigned_abs-with_sign round) ∙ ap (λ s. record { mantissa = z; scale = s }) (sym longer);
      last = λ _. round;
    }

pub IsShortest-without_trailing : (b : Bool) (w f : List ℕ) → list_all is_ascii_digit f ≡ true → IsShortest b w (without_trailing is_zero f)
IsShortest-without_trailing b w f digits = ends (without_trailing is_zero f) (last_kept f) (list_all-without_trailing f digits)
  where
    ends : (kept : List ℕ) → (kept ≡ []) ⊎ ((ys : List ℕ) × (y : ℕ) × (kept ≡ ys ++ y ∷ []) × (is_zero y ≡ false)) → list_all is_ascii_digit kept ≡ true → IsShortest b w kept
    ends kept (inl e) all = subst (IsShortest b w) (sym e) (record { same = refl; last = λ some. elim some [ ] })
    ends kept (inr h) all = subst (IsShortest b w) (sym h.2) (IsShortest-push b w h.0 h.1 (ap (list_all is_ascii_digit) (sym h.2) ∙ all) h.3)

-- a number by its digits before and after the point
abbrev pub by_digits : Bool → List ℕ → List ℕ → DecimalNumber
by_digits b w f = record { mantissa = with_sign b (number_of (w ++ f)); scale = length f }

shortest_from-digits : (b : Bool) (w f : List ℕ) → list_all is_ascii_digit f ≡ true → shortest_from (length f) (with_sign b (number_of (w ++ f))) ≡ by_digits b w (without_trailing is_zero f)
shortest_from-digits b w f digits =
    let zeros = trailing_zeros f in
    let kept = without_trailing is_zero f in
    ap (λ t. shortest_from (length t) (with_sign b (number_of (w ++ t)))) zeros.1
    ∙ shortest_from-zeros zeros.0 b w kept
    ∙ (IsShortest-without_trailing b w f digits).same

-- the number without the zeros at its end has the form that `Fixed` has, where it is small
module _ (b : Bool) (w f kept : List ℕ) (digits : list_all is_ascii_digit f ≡ true) (is : kept ≡ without_trailing is_zero f) where
  by_shortest : fixed_of (by_digits b w f) ≡ (if is_small (by_digits b w kept) then Some (by_digits b w kept) else None)
  by_shortest = ap (λ d. if is_small d then Some d else None) (shortest_from-digits b w f digits ∙ ap (by_digits b w) (sym is))

  pub fixed_of-many : 10 ^ 38 ≤ number_of (w ++ kept) → fixed_of (by_digits b w f) ≡ None
  fixed_of-many many =
      let past : 10 ^ 38 ≤ unsigned_abs (with_sign b (number_of (w ++ kept))) = rw unsigned_abs-with_sign many in
      by_shortest ∙ ap (λ t. if t && nat_lt (length kept) 256 then Some (by_digits b w kept) else None) (le-ltb _ _ past)

  pub fixed_of-long : 256 ≤ length kept → fixed_of (by_digits b w f) ≡ None
  fixed_of-long long =
      let less = nat_lt (unsigned_abs (with_sign b (number_of (w ++ kept)))) (10 ^ 38) in
      let none : (less && nat_lt (length kept) 256) ≡ false = ap (λ t. less && t) (le-ltb _ _ long) ∙ and-false less in
      by_shortest ∙ ap (λ t. if t then Some (by_digits b w kept) else None) none

  -- the zeros at the end change no form
  pub fixed_of-kept : fixed_of (by_digits b w f) ≡ fixed_of (by_digits b w kept)
  fixed_of-kept = by_shortest ∙ ap (λ d. if is_small d then Some d else None) (sym (subst (IsShortest b w) (sym is) (IsShortest-without_trailing b w f digits)).same)
