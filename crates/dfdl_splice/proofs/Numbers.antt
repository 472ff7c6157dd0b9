-- A number of a range tells its bits.
use Rattle.std.proofs.Common.{◌≡◌, ℕ, zero, suc, ◌+◌, ◌-◌, ◌*◌, ◌^◌, ◌<◌, ◌≤◌, List, refl, sym, ◌∙◌, inl, inr, ◌⊎◌, arith, add-one}
use Rattle.std.proofs.lemmas.Nat.{pow-add}
use Rattle.std.proofs.lemmas.Bool.{cases_eq}
use Rattle.std.proofs.lemmas.Nat.Bits.{bit_at-lt}
use Rattle.dfdl_bits.specs.Bits.{sum_below, number_of, data_bit}
use Rattle.dfdl_forms.specs.declared.order.BitOrder.{BitOrder}
use Rattle.dfdl_forms.specs.declared.order.BitOrder.TheVariants.{MostFirst, LeastFirst}
use Rattle.dfdl_forms.specs.declared.order.ByteOrder.TheVariants.{Big}

-- a bit is 0 or 1
bit_cases : (bit : ℕ) → bit < 2 → (bit ≡ 0) ⊎ (bit ≡ 1)
bit_cases bit few = elim (cases_eq bit 0) [ inl e ↦ inl e | inr other ↦ inr (omega arith) ]

double : (n : ℕ) → 2 ^ suc n ≡ 2 ^ n * 2
double n =
    let more : 2 ^ (n + 1) ≡ 2 ^ n * 2 ^ 1 = pow-add 2 n 1 in
    rw (← add-one n, more) refl

-- a bit above numbers below its weight
above : (x y p a b : ℕ) → x < p → y < p → a < 2 → b < 2 → x + a * p ≡ y + b * p → (a ≡ b) × (x ≡ y)
above x y p a b below_x below_y few_a few_b same = elim (bit_cases a few_a) [
  | inl e ↦ elim (bit_cases b few_b) [
    | inl f ↦ (e ∙ sym f, omega (arith, rw (e, f) at same))
    | inr f ↦ absurd (omega (arith, rw (e, f) at same))
  ]
  | inr e ↦ elim (bit_cases b few_b) [
    | inl f ↦ absurd (omega (arith, rw (e, f) at same))
    | inr f ↦ (e ∙ sym f, omega (arith, rw (e, f) at same))
  ]
]

-- bits that rise in weight are below the next weight
rising_below : (f : ℕ → ℕ) → ((i : ℕ) → f i < 2) → (n : ℕ) → sum_below n (λ i. f i * 2 ^ i) < 2 ^ n
unfolding sum_below
rising_below f few zero = omega arith
rising_below f few (suc n) =
    let front : sum_below n (λ i. f i * 2 ^ i) < 2 ^ n = rising_below f few n in
    elim (bit_cases (f n) (few n)) [ inl e ↦ rw (e, double n) (omega arith) | inr e ↦ rw (e, double n) (omega arith) ]

rising_same : (f g : ℕ → ℕ) → ((i : ℕ) → f i < 2) → ((i : ℕ) → g i < 2) → (n : ℕ)
    → sum_below n (λ i. f i * 2 ^ i) ≡ sum_below n (λ i. g i * 2 ^ i) → (i : ℕ) → i < n → f i ≡ g i
unfolding sum_below
rising_same f g few_f few_g zero same i below = absurd (omega arith)
rising_same f g few_f few_g (suc n) same i below =
    let parts : (f n ≡ g n) × (sum_below n (λ j. f j * 2 ^ j) ≡ sum_below n (λ j. g j * 2 ^ j)) =
    above _ _ (2 ^ n) (f n) (g n) (rising_below f few_f n) (rising_below g few_g n) (few_f n) (few_g n) same in
    elim (cases_eq i n) [ inl e ↦ rw e parts.0 | inr other ↦ rising_same f g few_f few_g n parts.1 i (omega arith) ]

-- bits that fall in weight: one more bit makes each of the others count twice
falling_twice : (f : ℕ → ℕ) (n k : ℕ) → k ≤ n
    → sum_below k (λ i. f i * 2 ^ (suc n - 1 - i)) ≡ sum_below k (λ i. f i * 2 ^ (n - 1 - i)) * 2
unfolding sum_below
falling_twice f n zero within = omega arith
falling_twice f n (suc k) within =
    let weight : suc n - 1 - k ≡ suc (n - 1 - k) = omega arith in
    let front : sum_below k (λ i. f i * 2 ^ (suc n - 1 - i)) ≡ sum_below k (λ i. f i * 2 ^ (n - 1 - i)) * 2 = falling_twice f n k (omega arith) in
    rw (weight, double (n - 1 - k), front) (omega arith)

falling_more : (f : ℕ → ℕ) (n : ℕ)
    → sum_below (suc n) (λ i. f i * 2 ^ (suc n - 1 - i)) ≡ sum_below n (λ i. f i * 2 ^ (n - 1 - i)) * 2 + f n
unfolding sum_below
falling_more f n =
    let weight : suc n - 1 - n ≡ 0 = omega arith in
    rw (weight, falling_twice f n n (omega arith)) (omega arith)

falling_same : (f g : ℕ → ℕ) → ((i : ℕ) → f i < 2) → ((i : ℕ) → g i < 2) → (n : ℕ)
    → sum_below n (λ i. f i * 2 ^ (n - 1 - i)) ≡ sum_below n (λ i. g i * 2 ^ (n - 1 - i)) → (i : ℕ) → i < n → f i ≡ g i
falling_same f g few_f few_g zero same i below = absurd (omega arith)
falling_same f g few_f few_g (suc n) same i below =
    let whole : sum_below n (λ j. f j * 2 ^ (n - 1 - j)) * 2 + f n ≡ sum_below n (λ j. g j * 2 ^ (n - 1 - j)) * 2 + g n =
    sym (falling_more f n) ∙ same ∙ falling_more g n in
    let last : f n ≡ g n = omega (arith, few_f n, few_g n) in
    let front : sum_below n (λ j. f j * 2 ^ (n - 1 - j)) ≡ sum_below n (λ j. g j * 2 ^ (n - 1 - j)) = omega arith in
    elim (cases_eq i n) [ inl e ↦ rw e last | inr other ↦ falling_same f g few_f few_g n front i (omega arith) ]

-- ranges of one number have the same bits
pub same_bits : (order : BitOrder) (xs ys : List ℕ) (b c n : ℕ) → number_of xs b n Big order ≡ number_of ys c n Big order
    → (i : ℕ) → i < n → data_bit order xs (b + i) ≡ data_bit order ys (c + i)
unfolding number_of
same_bits MostFirst xs ys b c n same =
    falling_same (λ i. data_bit MostFirst xs (b + i)) (λ i. data_bit MostFirst ys (c + i)) (λ i. bit_at-lt _ _) (λ i. bit_at-lt _ _) n same
same_bits LeastFirst xs ys b c n same =
    rising_same (λ i. data_bit LeastFirst xs (b + i)) (λ i. data_bit LeastFirst ys (c + i)) (λ i. bit_at-lt _ _) (λ i. bit_at-lt _ _) n same
