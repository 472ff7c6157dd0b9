-- Lemmas on the digits of a body and of a base.
use Rattle.std.proofs.Common.{◌≡◌, ◌≢◌, ℕ, zero, suc, ◌+◌, ◌-◌, ◌*◌, ◌%◌, ◌^◌, ◌<◌, ◌≤◌, Bool, true, false, List, [], ◌∷◌, ◌++◌, length, get_or, take, drop, replicate, filter, fold, refl, sym, ap, subst, ◌∙◌, arith, add-one, drop-cons, append_assoc, length-append, length-take, if◌then◌else◌}
use Rattle.std.specs.Char.{is_ascii_digit, digit_value}
use Rattle.std.specs.List.{list_all}
use Rattle.std.proofs.lemmas.Bool.{eq-eqb, ne_eqb}
use Rattle.std.proofs.lemmas.Grind.{get_or_default_zero}
use Rattle.std.proofs.lemmas.List.{append-nil, length-replicate}
use Rattle.std.proofs.Math.Nat.{pow-suc, mul_assoc, mul_comm}
use Rattle.dfdl_decimal.specs.Decimal.{shortest_from, with_sign}
use Rattle.dfdl_value.specs.Texts.{number_after, number_of, is_zero}
use Rattle.dfdl_lemmas.proofs.Bools.{both}
use Rattle.dfdl_lemmas.specs.Trimmed.{without_trailing}
use Rattle.dfdl_value.proofs.DecimalLemmas.{trailing_zeros, number_after-append, list_all-without_trailing, IsShortest, IsShortest-without_trailing}
use Rattle.dfdl_decimal.proofs.FixedLemmas.{shortest_from-shift}
use Rattle.dfdl_value.proofs.TextLemmas.{number_after-ge}

-- a text from a place on, without what is no digit
pub filter-at : (text : List ℕ) (i c : ℕ) → i < length text → c ≡ get_or text i c
    → filter is_ascii_digit (drop i text) ≡ (if is_ascii_digit c then c ∷ filter is_ascii_digit (drop (i + 1) text) else filter is_ascii_digit (drop (i + 1) text))
filter-at text i c inside is = rw (add-one, drop-cons text i c inside, ← is) refl

-- what a digit at a place makes of the number
pub number_after-digit : (n m : ℕ) (text : List ℕ) (i c : ℕ) → i < length text → c ≡ get_or text i c → is_ascii_digit c ≡ true
    → number_after n (filter is_ascii_digit (drop i text)) ≡ m → number_after (n * 10 + (c - 48)) (filter is_ascii_digit (drop (i + 1) text)) ≡ m
number_after-digit n m text i c inside is digit e =
    let rest = filter is_ascii_digit (drop (i + 1) text) in
    sym (ap (number_after n) (filter-at text i c inside is ∙ ap (λ b. if b then c ∷ rest else rest) digit)) ∙ e

pub number_after-other : (n m : ℕ) (text : List ℕ) (i c : ℕ) → i < length text → c ≡ get_or text i c → is_ascii_digit c ≡ false
    → number_after n (filter is_ascii_digit (drop i text)) ≡ m → number_after n (filter is_ascii_digit (drop (i + 1) text)) ≡ m
number_after-other n m text i c inside is other e =
    let rest = filter is_ascii_digit (drop (i + 1) text) in
    sym (ap (number_after n) (filter-at text i c inside is ∙ ap (λ b. if b then c ∷ rest else rest) other)) ∙ e

pub number_after-digit_ge : (n m : ℕ) (text : List ℕ) (i c : ℕ) → i < length text → c ≡ get_or text i c → is_ascii_digit c ≡ true
    → number_after n (filter is_ascii_digit (drop i text)) ≡ m → n * 10 + (c - 48) ≤ m
number_after-digit_ge n m text i c inside is digit e =
    omega (arith, number_after-digit n m text i c inside is digit e, number_after-ge (n * 10 + (c - 48)) (filter is_ascii_digit (drop (i + 1) text)))

-- the number that digits of a base write behind another
abbrev pub behind : ℕ → ℕ → List ℕ → ℕ
behind base n text = fold (λ (n : ℕ) (c : ℕ). n * base + digit_value c) n text

pub behind-ge : (base n : ℕ) (text : List ℕ) → 1 ≤ base → n ≤ behind base n text
behind-ge base n [] some = omega arith
behind-ge base n (c ∷ text) some =
    let more : n ≤ n * base = grows n base some in
    omega (arith, more, behind-ge base (n * base + digit_value c) text some)
  where
    grows : (n base : ℕ) → 1 ≤ base → n ≤ n * base
    grows n zero some = elim some [ ]
    grows n (suc b) some = grind arith

-- a text from a place on
rest-at : (text : List ℕ) (i c : ℕ) → i < length text → c ≡ get_or text i c → drop i text ≡ c ∷ drop (i + 1) text
rest-at text i c inside is = rw (add-one) (drop-cons text i c inside ∙ ap (λ x. x ∷ drop (suc i) text) (sym is))

pub behind-digit : (base n m : ℕ) (text : List ℕ) (i c : ℕ) → i < length text → c ≡ get_or text i c
    → behind base n (drop i text) ≡ m → behind base (n * base + digit_value c) (drop (i + 1) text) ≡ m
behind-digit base n m text i c inside is e = sym (ap (behind base n) (rest-at text i c inside is)) ∙ e

pub behind-digit_ge : (base n m : ℕ) (text : List ℕ) (i c : ℕ) → 1 ≤ base → i < length text → c ≡ get_or text i c
    → behind base n (drop i text) ≡ m → n * base + digit_value c ≤ m
behind-digit_ge base n m text i c some inside is e =
    omega (arith, behind-digit base n m text i c inside is e, behind-ge base (n * base + digit_value c) (drop (i + 1) text) some)

-- ---- zeros at the end

pub last_zero : (xs : List ℕ) (d : ℕ) → 0 < length xs → d ≡ get_or xs (length xs - 1) d → d ≡ 48 → is_zero (get_or xs (length xs - 1) 0) ≡ true
last_zero xs d some is e = rw (← get_or_default_zero xs (length xs - 1) d (omega arith), ← is) (eq-eqb d 48 e)

pub last_other : (xs : List ℕ) (d : ℕ) → 0 < length xs → d ≡ get_or xs (length xs - 1) d → d ≢ 48 → is_zero (get_or xs (length xs - 1) 0) ≡ false
last_other xs d some is e = rw (← get_or_default_zero xs (length xs - 1) d (omega arith), ← is) (ne_eqb d 48 e)

pub fewer_front : (xs ys : List ℕ) → length xs ≤ length ys → length (take (length xs - 1) xs) ≤ length ys
fewer_front xs ys few = omega (arith, few, length-take (length xs - 1) xs)

pub filter-digits : (xs : List ℕ) → list_all is_ascii_digit xs ≡ true → filter is_ascii_digit xs ≡ xs
filter-digits [] h = refl
filter-digits (x ∷ xs) h =
    let parts = both _ _ h in
    ap (λ b. if b then x ∷ filter is_ascii_digit xs else filter is_ascii_digit xs) parts.0 ∙ ap (λ r. x ∷ r) (filter-digits xs parts.1)

number_of-zeros : (k : ℕ) (xs : List ℕ) → number_of (xs ++ replicate k 48) ≡ number_of xs * 10 ^ k
number_of-zeros zero xs = ap number_of (append-nil xs) ∙ omega arith
number_of-zeros (suc k) xs =
    let step : number_of (xs ++ 48 ∷ []) ≡ number_of xs * 10 = number_after-append 0 xs (48 ∷ []) ∙ omega arith in
    let more : number_of xs * 10 ^ suc k ≡ number_of xs * 10 * 10 ^ k = ap (λ p. number_of xs * p) (pow-suc 10 k ∙ mul_comm (10 ^ k) 10) ∙ sym (mul_assoc (number_of xs) 10 (10 ^ k)) in
    ap number_of (sym (append_assoc xs (48 ∷ []) (replicate k 48))) ∙ number_of-zeros k (xs ++ 48 ∷ []) ∙ ap (λ n. n * 10 ^ k) step ∙ sym more

-- A number of digits before and after the point, of which there are fewer than the scale says only where none stand
-- before it, without the zeros at the end.
module _ (b : Bool) (w f kept : List ℕ) (s : ℕ) (digits : list_all is_ascii_digit f ≡ true) (few : length f ≤ s) (short : length f < s → w ≡ []) (is : kept ≡ without_trailing is_zero f) where
  pub kept_digits : filter is_ascii_digit kept ≡ kept
  kept_digits = filter-digits kept (ap (list_all is_ascii_digit) is ∙ list_all-without_trailing f digits)

  pub kept_same : shortest_from s (with_sign b (number_of (w ++ f))) ≡ shortest_from (s - (length f - length kept)) (with_sign b (number_of (w ++ kept)))
  kept_same =
      let zeros = trailing_zeros f in
      let split : f ≡ kept ++ replicate zeros.0 48 = zeros.1 ∙ ap (λ r. r ++ replicate zeros.0 48) (sym is) in
      let sum : length f ≡ length kept + zeros.0 = ap length split ∙ length-append kept (replicate zeros.0 48) ∙ ap (λ k. length kept + k) (length-replicate zeros.0 48) in
      let scale : s ≡ s - (length f - length kept) + zeros.0 = omega (arith, sum) in
      let number : number_of (w ++ f) ≡ number_of (w ++ kept) * 10 ^ zeros.0 =
      ap (λ r. number_of (w ++ r)) split ∙ ap number_of (sym (append_assoc w kept (replicate zeros.0 48))) ∙ number_of-zeros zeros.0 (w ++ kept) in
      ap (λ n. shortest_from s (with_sign b n)) number
      ∙ ap (λ k. shortest_from k (with_sign b (number_of (w ++ kept) * 10 ^ zeros.0))) scale
      ∙ shortest_from-shift zeros.0 (s - (length f - length kept)) b (number_of (w ++ kept))

  pub kept_ends : 0 < s - (length f - length kept) → number_of (w ++ kept) % 10 ≡ 0 → number_of (w ++ kept) ≡ 0
  kept_ends some round = by_kept kept refl
    where
      last : 0 < length kept → number_of (w ++ kept) % 10 ≢ 0
      last = (subst (IsShortest b w) (sym is) (IsShortest-without_trailing b w f digits)).last

      by_kept : (k : List ℕ) → kept ≡ k → number_of (w ++ kept) ≡ 0
      by_kept [] e =
          let none = ap length e in
          ap (λ r. number_of (w ++ r)) e ∙ ap (λ r. number_of (r ++ [])) (short (omega (arith, none)))
      by_kept (x ∷ xs) e = let more = ap length e in absurd (last (omega (arith, more)) round)
