-- Powers of ten, and rounding by a divisor that stands for another.
use Rattle.std.proofs.Common.{◌≡◌, ℕ, ◌+◌, ◌-◌, ◌*◌, ◌/◌, ◌%◌, ◌^◌, ◌<◌, ◌≤◌, Bool, nat_lt, nat_le, nat_eq, Some, inl, inr, refl, ap, sym, ◌∙◌, zero-mul, mul_comm, arith}
use Rattle.std.proofs.lemmas.Bool.{cases_lt, cases_eq, eq-eqb, ne_eqb, lt-ltb, le-ltb}
use Rattle.std.proofs.lemmas.Bool.Decides.{nat_tests}
use Rattle.std.proofs.lemmas.Nat.{pow-add, mod-mul-add}
use Rattle.std.proofs.Math.Nat.{pow-le-pow_right, one-le-pow, mul-div-mul_right, mul-div_cancel, mul-mod_left, mod-lt, mod-eq_of_lt, div-eq_of_lt, mul-le-mul_right, mul-lt-mul_of_pos_right}
use Rattle.dfdl_forms.specs.declared.number.Rounding.{Rounding}
use Rattle.dfdl_forms.specs.declared.number.Rounding.TheVariants.{Ceiling, Floor, Down, Up, HalfEven, HalfDown, HalfUp, Unnecessary}
use Rattle.dfdl_number_text.specs.Rounding.{goes_up, rounded}

pub power_some : (base k : ℕ) → 0 < base → 0 < base ^ k
power_some base k some = one-le-pow k base some

pub power_small : (k : ℕ) → k ≤ 38 → 10 ^ k < 2 ^ 128
power_small k few =
    let most : 10 ^ k ≤ 10 ^ 38 = pow-le-pow_right {n = 10} (omega arith) few in
    omega arith

-- ten to the power of a greater number of places
pub power_apart : (base j k : ℕ) → j ≤ k → base ^ k ≡ base ^ j * base ^ (k - j)
power_apart base j k less =
    let cut : k ≡ j + (k - j) = omega arith in
    ap (λ (e : ℕ). base ^ e) cut ∙ pow-add base j (k - j)

pub ten_some : (k : ℕ) → 0 < 10 ^ k
ten_some k = power_some 10 k (omega arith)

-- the integer part and the fraction digits of a number with no more fraction digits than there are places
pub fraction_fits : (m s f : ℕ) → s ≤ f → m % 10 ^ s * 10 ^ (f - s) < 10 ^ f
fraction_fits m s f less =
    rw (power_apart 10 s f less) (mul-lt-mul_of_pos_right (mod-lt m (ten_some s)) (ten_some (f - s)))

whole_again : (q r p z : ℕ) → q * (p * z) + r * z ≡ (q * p + r) * z
whole_again q r p z = omega (arith)

pub exact_parts : (m s f : ℕ) → s ≤ f → m / 10 ^ s * 10 ^ f + m % 10 ^ s * 10 ^ (f - s) ≡ m * 10 ^ (f - s)
exact_parts m s f less =
    let all : m / 10 ^ s * 10 ^ s + m % 10 ^ s ≡ m = omega arith in
    rw (power_apart 10 s f less) (whole_again (m / 10 ^ s) (m % 10 ^ s) (10 ^ s) (10 ^ (f - s)) ∙ ap (λ (n : ℕ). n * 10 ^ (f - s)) all)

-- ---- rounding
less_scaled : (a b k : ℕ) → 0 < k → nat_lt (a * k) (b * k) ≡ nat_lt a b
less_scaled a b k some = elim (cases_lt a b) [
  | inl less ↦ lt-ltb (a * k) (b * k) (mul-lt-mul_of_pos_right less some) ∙ sym (lt-ltb a b less)
  | inr more ↦ le-ltb (a * k) (b * k) (mul-le-mul_right k more) ∙ sym (le-ltb a b more)
]

-- How a number stands to a divisor and twice another number to another divisor.
record AreAlike (r d r' d' : ℕ) : Type 0 where
  less : nat_lt d (2 * r) ≡ nat_lt d' (2 * r')
  more : nat_lt (2 * r) d ≡ nat_lt (2 * r') d'

same_test : (a b c d : ℕ) → nat_lt a b ≡ nat_lt c d → nat_lt b a ≡ nat_lt d c → nat_eq b a ≡ nat_eq d c
same_test a b c d less more = grind (arith, nat_tests)

at_least : (a b c d : ℕ) → nat_lt b a ≡ nat_lt d c → nat_le a b ≡ nat_le c d
at_least a b c d more = grind (arith, nat_tests)

goes_up_alike : (mode : Rounding) (negative : Bool) (q r d r' d' : ℕ) → AreAlike r d r' d' → goes_up mode negative q r d ≡ goes_up mode negative q r' d'
goes_up_alike Ceiling negative q r d r' d' alike = refl
goes_up_alike Floor negative q r d r' d' alike = refl
goes_up_alike Down negative q r d r' d' alike = refl
goes_up_alike Up negative q r d r' d' alike = refl
goes_up_alike HalfEven negative q r d r' d' alike = rw (alike.less, same_test d (2 * r) d' (2 * r') alike.less alike.more) refl
goes_up_alike HalfDown negative q r d r' d' alike = alike.less
goes_up_alike HalfUp negative q r d r' d' alike = at_least d (2 * r) d' (2 * r') alike.more
goes_up_alike Unnecessary negative q r d r' d' alike = refl

-- The quotient of one number is that of another, and what is left stands to the divisor in the same way.
record AreSame (n d n' d' : ℕ) : Type 0 where
  quotient : n / d ≡ n' / d'
  none : nat_eq (n % d) 0 ≡ nat_eq (n' % d') 0
  rest : AreAlike (n % d) d (n' % d') d'

rounded_same : (mode : Rounding) (negative : Bool) (n d n' d' : ℕ) → AreSame n d n' d' → rounded mode negative n d ≡ rounded mode negative n' d'
rounded_same mode negative n d n' d' same =
    rw (same.none, same.quotient, goes_up_alike mode negative (n' / d') (n % d) d (n' % d') d' same.rest) refl

-- a factor of both
rounded_scaled : (mode : Rounding) (negative : Bool) (n d k : ℕ) → 0 < d → 0 < k → rounded mode negative (n * k) (d * k) ≡ rounded mode negative n d
rounded_scaled mode negative n d k some factor =
    let r : ℕ = n % d in
    let all : n * k ≡ n / d * (d * k) + r * k = sym (whole_again (n / d) r d k ∙ ap (λ (m : ℕ). m * k) (omega arith)) in
    let small : r * k < d * k = mul-lt-mul_of_pos_right (mod-lt n some) factor in
    let left : n * k % (d * k) ≡ r * k = ap (λ (m : ℕ). m % (d * k)) all ∙ mod-mul-add (n / d) (d * k) (r * k) small in
    rounded_same mode negative (n * k) (d * k) n d (record {
      quotient = mul-div-mul_right n d factor;
      none = rw left (zero_scaled r k factor);
      rest = rw left (record {
        less = twice_less r d k factor;
        more = twice_more r d k factor;
      });
    })
  where
    zero_scaled : (r k : ℕ) → 0 < k → nat_eq (r * k) 0 ≡ nat_eq r 0
    zero_scaled r k some = elim (cases_eq r 0) [
      | inl none ↦ let zero : r * k ≡ 0 = ap (λ (m : ℕ). m * k) none ∙ zero-mul k in eq-eqb _ _ zero ∙ sym (eq-eqb r 0 none)
      | inr more ↦
          let large : 1 * k ≤ r * k = mul-le-mul_right k (omega arith) in
          ne_eqb (r * k) 0 (λ zero. more (absurd (omega arith))) ∙ sym (ne_eqb r 0 more)
    ]

    twice_less : (r d k : ℕ) → 0 < k → nat_lt (d * k) (2 * (r * k)) ≡ nat_lt d (2 * r)
    twice_less r d k some = ap (λ (m : ℕ). nat_lt (d * k) m) (omega (arith)) ∙ less_scaled d (2 * r) k some

    twice_more : (r d k : ℕ) → 0 < k → nat_lt (2 * (r * k)) (d * k) ≡ nat_lt (2 * r) d
    twice_more r d k some = ap (λ (m : ℕ). nat_lt m (d * k)) (omega (arith)) ∙ less_scaled (2 * r) d k some

-- divisors that are both more than twice the number
rounded_small : (mode : Rounding) (negative : Bool) (n d d' : ℕ) → 2 * n < d → 2 * n < d' → rounded mode negative n d ≡ rounded mode negative n d'
rounded_small mode negative n d d' small small' =
    let left : n % d ≡ n = mod-eq_of_lt (omega arith) in
    let left' : n % d' ≡ n = mod-eq_of_lt (omega arith) in
    let none : n / d ≡ 0 = div-eq_of_lt (omega arith) in
    let none' : n / d' ≡ 0 = div-eq_of_lt (omega arith) in
    rounded_same mode negative n d n d' (record {
      quotient = none ∙ sym none';
      none = rw (left, left') refl;
      rest = rw (left, left') (record {
        less = le-ltb d (2 * n) (omega arith) ∙ sym (le-ltb d' (2 * n) (omega arith));
        more = lt-ltb (2 * n) d small ∙ sym (lt-ltb (2 * n) d' small');
      });
    })

-- a number that is whole
pub rounded_whole : (mode : Rounding) (negative : Bool) (m s f : ℕ) → s ≤ f → rounded mode negative (m * 10 ^ f) (10 ^ s) ≡ Some (m * 10 ^ (f - s))
rounded_whole mode negative m s f less =
    let all : m * 10 ^ f ≡ m * 10 ^ (f - s) * 10 ^ s = rw (power_apart 10 s f less) (omega (arith)) in
    rw (all, mul-mod_left (m * 10 ^ (f - s)) (10 ^ s), mul-div_cancel (m * 10 ^ (f - s)) (ten_some s)) refl

-- a divisor that is the power of ten left, or stands for a large one
pub rounded_by : (mode : Rounding) (negative : Bool) (m s f d : ℕ) → f ≤ s → m < 10 ^ 38
    → (s - f ≤ 38 → d ≡ 10 ^ (s - f)) → (38 < s - f → 2 * 10 ^ 38 ≤ d)
    → rounded mode negative m d ≡ rounded mode negative (m * 10 ^ f) (10 ^ s)
rounded_by mode negative m s f d less small exact large =
    rw (power_apart 10 f s less, mul_comm (10 ^ f) (10 ^ (s - f)))
    (by_zeros ∙ sym (rounded_scaled mode negative m (10 ^ (s - f)) (10 ^ f) (ten_some (s - f)) (ten_some f)))
  where
    by_zeros : rounded mode negative m d ≡ rounded mode negative m (10 ^ (s - f))
    by_zeros = elim (cases_lt 38 (s - f)) [
      | inl many ↦
          let least : 10 ^ 39 ≤ 10 ^ (s - f) = pow-le-pow_right {n = 10} (omega arith) many in
          let above : 2 * 10 ^ 38 ≤ d = large many in
          rounded_small mode negative m d (10 ^ (s - f)) (omega arith) (omega arith)
      | inr few ↦ rw (exact few) refl
    ]
