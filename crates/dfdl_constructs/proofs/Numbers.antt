-- Numbers in decimal digits are compared by their digits.
use Rattle.std.proofs.Common.{◌≡◌, ◌≢◌, ℕ, suc, ◌+◌, ◌-◌, ◌*◌, ◌^◌, ◌<◌, ◌≤◌, List, [], ◌∷◌, length, true, ap, sym, ◌∙◌, refl, arith, inl, inr, nat_lt, ◌==◌, subst}
use Rattle.std.proofs.lemmas.Bool.{cond-true, cond-false, cases_eq, cases_lt, ne_eqb, lt-ltb, le-ltb, eq-eqb}
use Rattle.std.proofs.lemmas.Bool.Decides.{nat_tests}
use Rattle.std.proofs.Math.Nat.{pow-suc, mul-le-mul_right, pow-le-pow_right}
use Rattle.std.specs.List.{list_all}
use Rattle.dfdl_constructs.specs.Values.{is_digit, is_number, number}
use Rattle.dfdl_constructs.specs.Comparing.{significant, is_greater, is_more, is_only_one}

-- all are decimal digits
abbrev Are : List ℕ → Type 0
Are text = list_all is_digit text ≡ true

-- the first is a digit, and so are the others
first_digit : (b : ℕ) (text : List ℕ) → Are (b ∷ text) → (48 ≤ b) × (b ≤ 57) × Are text
unfolding is_digit
first_digit b text are = grind (arith, nat_tests)

-- the number is below the power with as many zeros as there are digits
below : (text : List ℕ) → Are text → number text < 10 ^ length text
below [] are = omega arith
below (b ∷ text) are =
    let d = first_digit b text are in
    let rest : number text < 10 ^ length text = below text d.2 in
    let front : (b - 48) * 10 ^ length text ≤ 9 * 10 ^ length text = mul-le-mul_right (10 ^ length text) (omega (arith, d)) in
    let power : 10 ^ suc (length text) ≡ 10 ^ length text * 10 = pow-suc 10 (length text) in
    omega (arith, rest, front, power)

-- without zeros in front it is at least the power with one zero less
at_least : (b : ℕ) (text : List ℕ) → Are (b ∷ text) → b ≢ 48 → 10 ^ length text ≤ number (b ∷ text)
at_least b text are other =
    let d = first_digit b text are in
    let front : 1 * 10 ^ length text ≤ (b - 48) * 10 ^ length text = mul-le-mul_right (10 ^ length text) (omega (arith, d, other)) in
    omega (arith, front)

-- two pairs in one order
same_order : (a b m n : ℕ) → (a < b → m < n) → (b ≤ a → n ≤ m) → nat_lt a b ≡ nat_lt m n
same_order a b m n less more = elim (cases_lt a b) [
  | inl is ↦ lt-ltb a b is ∙ sym (lt-ltb m n (less is))
  | inr is ↦ le-ltb a b is ∙ sym (le-ltb m n (more is))
]

-- a digit below another, with numbers behind them
digit_below : (x y p m n : ℕ) → 48 ≤ y → y < x → m < p → (y - 48) * p + m < (x - 48) * p + n
digit_below x y p m n digit less small =
    let step : (y - 48 + 1) * p ≤ (x - 48) * p = mul-le-mul_right p (omega (arith, digit, less)) in
    let apart : (y - 48 + 1) * p ≡ (y - 48) * p + p = omega arith in
    omega (arith, step, apart, small)

-- as many digits
same_length : (xs ys : List ℕ) → Are xs → Are ys → length xs ≡ length ys → is_greater xs ys ≡ nat_lt (number ys) (number xs)
same_length [] [] are are' long = refl
same_length [] (y ∷ ys) are are' long = absurd (omega (arith, long))
same_length (x ∷ xs) [] are are' long = absurd (omega (arith, long))
same_length (x ∷ xs) (y ∷ ys) are are' long =
    let d = first_digit x xs are in
    let e = first_digit y ys are' in
    let behind : length xs ≡ length ys = omega (arith, long) in
    let power : 10 ^ length xs ≡ 10 ^ length ys = ap (λ (k : ℕ). 10 ^ k) behind in
    let low : number xs < 10 ^ length ys = subst (λ (p : ℕ). number xs < p) power (below xs d.2) in
    let low' : number ys < 10 ^ length ys = below ys e.2 in
    let value : number (x ∷ xs) ≡ (x - 48) * 10 ^ length ys + number xs = ap (λ (p : ℕ). (x - 48) * p + number xs) power in
    elim (cases_eq x y) [
      | inl same ↦
          let front : (x - 48) * 10 ^ length ys ≡ (y - 48) * 10 ^ length ys = ap (λ (k : ℕ). (k - 48) * 10 ^ length ys) same in
          cond-true _ _ _ (eq-eqb x y same)
          ∙ (same_length xs ys d.2 e.2 behind
          ∙ same_order (number ys) (number xs) (number (y ∷ ys)) (number (x ∷ xs))
          (λ less. omega (arith, value, front, less)) (λ more. omega (arith, value, front, more)))
      | inr other ↦
          cond-false _ _ _ (ne_eqb x y other)
          ∙ same_order y x (number (y ∷ ys)) (number (x ∷ xs))
          (λ less. let under = digit_below x y (10 ^ length ys) (number ys) (number xs) e.0 less low' in omega (arith, value, under))
          (λ more. let under = digit_below y x (10 ^ length ys) (number xs) (number ys) d.0 (omega (arith, more, other)) low in omega (arith, value, under))
    ]

-- the first is no zero
abbrev Leads : List ℕ → Type 0
Leads [] = Unit {0}
Leads (b ∷ text) = b ≢ 48

-- more digits
longer : (xs ys : List ℕ) → Are xs → Are ys → Leads xs → length ys < length xs → number ys < number xs
longer [] ys are are' leads less = absurd (omega (arith, less))
longer (x ∷ xs) ys are are' leads less =
    let high : 10 ^ length xs ≤ number (x ∷ xs) = at_least x xs are leads in
    let low : number ys < 10 ^ length ys = below ys are' in
    let power : 10 ^ length ys ≤ 10 ^ length xs = pow-le-pow_right {n = 10} (omega arith) (let few : length ys ≤ length xs = omega (arith, less) in few) in
    omega (arith, high, low, power)

-- digits without zeros in front
leading_more : (xs ys : List ℕ) → Are xs → Are ys → Leads xs → Leads ys → is_more xs ys ≡ nat_lt (number ys) (number xs)
leading_more xs ys are are' leads leads' = elim (cases_eq (length xs) (length ys)) [
  | inl same ↦ cond-true _ _ _ (eq-eqb (length xs) (length ys) same) ∙ same_length xs ys are are' same
  | inr other ↦ cond-false _ _ _ (ne_eqb (length xs) (length ys) other)
      ∙ same_order (length ys) (length xs) (number ys) (number xs) (longer xs ys are are' leads)
      (λ more. let under : number xs < number ys = longer ys xs are' are leads' (omega (arith, more, other)) in omega (arith, under))
]

-- zeros in front change nothing
significant_number : (xs : List ℕ) → number (significant xs) ≡ number xs
significant_number [] = refl
significant_number (x ∷ xs) = elim (cases_eq x 48) [
  | inl zero ↦ ap number (cond-true _ _ _ (eq-eqb x 48 zero))
      ∙ (significant_number xs ∙ subst (λ (k : ℕ). number xs ≡ (k - 48) * 10 ^ length xs + number xs) (sym zero) (omega arith))
  | inr other ↦ ap number (cond-false _ _ _ (ne_eqb x 48 other))
]

significant_digits : (xs : List ℕ) → Are xs → Are (significant xs)
significant_digits [] are = refl
significant_digits (x ∷ xs) are = elim (cases_eq x 48) [
  | inl zero ↦ ap (list_all is_digit) (cond-true _ _ _ (eq-eqb x 48 zero)) ∙ significant_digits xs (first_digit x xs are).2
  | inr other ↦ ap (list_all is_digit) (cond-false _ _ _ (ne_eqb x 48 other)) ∙ are
]

significant_leads : (xs : List ℕ) → Leads (significant xs)
significant_leads [] = tt
significant_leads (x ∷ xs) = elim (cases_eq x 48) [
  | inl zero ↦ subst Leads (sym (cond-true _ _ _ (eq-eqb x 48 zero))) (significant_leads xs)
  | inr other ↦ subst Leads (sym (cond-false _ (significant xs) (x ∷ xs) (ne_eqb x 48 other))) other
]

-- a run of digits has digits alone
digits_in : (xs : List ℕ) → is_number xs ≡ true → Are xs
digits_in [] is = refl
digits_in (x ∷ xs) is = is

-- numbers are compared by their digits
pub more_is : (xs ys : List ℕ) → is_number xs ≡ true → is_number ys ≡ true
    → is_more (significant xs) (significant ys) ≡ nat_lt (number ys) (number xs)
more_is xs ys are are' =
    leading_more (significant xs) (significant ys) (significant_digits xs (digits_in xs are)) (significant_digits ys (digits_in ys are'))
    (significant_leads xs) (significant_leads ys)
    ∙ ap (λ (n : ℕ). nat_lt n (number (significant xs))) (significant_number ys)
    ∙ ap (nat_lt (number ys)) (significant_number xs)

-- digits that begin with no zero stand for one only as the digit
leading_one : (xs : List ℕ) → Are xs → Leads xs → is_only_one xs ≡ (number xs == 1)
leading_one [] are leads = refl
leading_one (x ∷ []) are leads =
    let d = first_digit x [] are in
    elim (cases_eq x 49) [
      | inl one ↦ eq-eqb x 49 one ∙ sym (eq-eqb (number (x ∷ [])) 1 (omega (arith, d, one)))
      | inr other ↦ ne_eqb x 49 other ∙ sym (ne_eqb (number (x ∷ [])) 1 (λ one. other (omega (arith, d, one))))
    ]
leading_one (x ∷ y ∷ xs) are leads =
    let high : 10 ^ length (y ∷ xs) ≤ number (x ∷ y ∷ xs) = at_least x (y ∷ xs) are leads in
    let power : 10 ^ 1 ≤ 10 ^ length (y ∷ xs) = pow-le-pow_right {n = 10} (omega arith) (let few : 1 ≤ length (y ∷ xs) = omega arith in few) in
    sym (ne_eqb (number (x ∷ y ∷ xs)) 1 (λ one. absurd (omega (arith, high, power, one))))

-- the number one by its digits
pub one_is : (xs : List ℕ) → is_number xs ≡ true → is_only_one (significant xs) ≡ (number xs == 1)
one_is xs are =
    leading_one (significant xs) (significant_digits xs (digits_in xs are)) (significant_leads xs)
    ∙ ap (λ (n : ℕ). n == 1) (significant_number xs)
