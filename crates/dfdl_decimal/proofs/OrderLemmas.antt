-- How numbers compare at different scales.
use Rattle.std.proofs.Common.{◌≡◌, ℕ, zero, suc, ◌+◌, ◌-◌, ◌*◌, ◌^◌, ◌<◌, ◌≤◌, true, false, cond, ◌==◌, lit<, refl, sym, ap, ◌∙◌, arith, inl, inr, ℤ, pos, negsuc, neg_ℤ, int_lt, ◌*ℤ◌}
use Rattle.std.specs.declared.cmp.Ordering.TheVariants.{Less, Equal, Greater}
use Rattle.std.specs.Ordering.{nat_cmp, int_cmp}
use Rattle.std.proofs.lemmas.Nat.{pow-add}
use Rattle.std.proofs.lemmas.Bool.{ltb-true, cases_order, lt-ltb, le-ltb, eq-eqb, ne_eqb}
use Rattle.std.proofs.Math.Nat.{mul_assoc, mul-lt-mul_of_pos_right, one-le-pow}

pub nat_cmp-less : (m n : ℕ) → m < n → nat_cmp m n ≡ Less
nat_cmp-less m n h = ap (λ b. cond b Less (cond (m == n) Equal Greater)) (lt-ltb m n h)

pub nat_cmp-greater : (m n : ℕ) → n < m → nat_cmp m n ≡ Greater
nat_cmp-greater m n h =
    ap (λ b. cond b Less (cond (m == n) Equal Greater)) (le-ltb m n (omega arith))
    ∙ ap (λ b. cond b Equal Greater) (ne_eqb m n (λ e. omega arith))

nat_cmp-same : (n : ℕ) → nat_cmp n n ≡ Equal
nat_cmp-same n =
    ap (λ b. cond b Less (cond (n == n) Equal Greater)) (le-ltb n n (omega arith))
    ∙ ap (λ b. cond b Equal Greater) (eq-eqb n n refl)

nat_cmp-mul : (m n c : ℕ) → 0 < c → nat_cmp (m * c) (n * c) ≡ nat_cmp m n
nat_cmp-mul m n c some = elim (cases_order m n) [
  | inl same ↦ ap (λ k. nat_cmp (k * c) (n * c)) same ∙ nat_cmp-same (n * c) ∙ sym (nat_cmp-same n) ∙ ap (λ k. nat_cmp k n) (sym same)
  | inr other ↦ elim other [
    | inl less ↦ nat_cmp-less (m * c) (n * c) (mul-lt-mul_of_pos_right less some) ∙ sym (nat_cmp-less m n less)
    | inr greater ↦ nat_cmp-greater (m * c) (n * c) (mul-lt-mul_of_pos_right greater some) ∙ sym (nat_cmp-greater m n greater)
  ]
]

pub pow_split : (a b : ℕ) → a ≤ b → 10 ^ b ≡ 10 ^ (b - a) * 10 ^ a
pow_split a b le = let e : b ≡ (b - a) + a = omega arith in ap (λ n. 10 ^ n) e ∙ pow-add 10 (b - a) a

pub pow_some : (n : ℕ) → 0 < 10 ^ n
pow_some n = one-le-pow n 10 (lit< tt)

pub nat_cmp-left : (x y a b : ℕ) → a ≤ b → nat_cmp (x * 10 ^ (b - a)) y ≡ nat_cmp (x * 10 ^ b) (y * 10 ^ a)
nat_cmp-left x y a b le =
    sym (nat_cmp-mul (x * 10 ^ (b - a)) y (10 ^ a) (pow_some a))
    ∙ ap (λ n. nat_cmp n (y * 10 ^ a)) (mul_assoc x (10 ^ (b - a)) (10 ^ a) ∙ ap (λ n. x * n) (sym (pow_split a b le)))

pub nat_cmp-right : (x y a b : ℕ) → b ≤ a → nat_cmp x (y * 10 ^ (a - b)) ≡ nat_cmp (x * 10 ^ b) (y * 10 ^ a)
nat_cmp-right x y a b le =
    sym (nat_cmp-mul x (y * 10 ^ (a - b)) (10 ^ b) (pow_some b))
    ∙ ap (λ n. nat_cmp (x * 10 ^ b) n) (mul_assoc y (10 ^ (a - b)) (10 ^ b) ∙ ap (λ n. y * n) (sym (pow_split b a le)))

-- ---- signs

pub neg-some : (m : ℕ) → 0 < m → neg_ℤ (pos m) ≡ negsuc (m - 1)
neg-some zero some = elim some [ ]
neg-some (suc m) some = ap negsuc (omega arith)

pub some_product : (m n : ℕ) → 0 < m → 0 < n → 0 < m * n
some_product m n h k = omega (arith, mul-lt-mul_of_pos_right h k)

pub below_zero : (y z : ℤ) (p q : ℕ) → int_lt y (pos 0) ≡ true → int_lt z (pos 0) ≡ false → 0 < p → int_cmp (y *ℤ pos p) (z *ℤ pos q) ≡ Less
below_zero (pos n) z p q below above some = absurd (omega (arith, ltb-true n 0 below))
below_zero (negsuc n) (negsuc k) p q below above some = absurd (cc)
below_zero (negsuc n) (pos k) p q below above some =
    ap (λ y. int_cmp y (pos (k * q))) (neg-some (suc n * p) (some_product (suc n) p (omega arith) some))

pub above_zero : (y z : ℤ) (p q : ℕ) → int_lt y (pos 0) ≡ false → int_lt z (pos 0) ≡ true → 0 < q → int_cmp (y *ℤ pos p) (z *ℤ pos q) ≡ Greater
above_zero (negsuc n) z p q above below some = absurd (cc)
above_zero (pos n) (pos k) p q above below some = absurd (omega (arith, ltb-true k 0 below))
above_zero (pos n) (negsuc k) p q above below some =
    ap (λ z. int_cmp (pos (n * p)) z) (neg-some (suc k * q) (some_product (suc k) q (omega arith) some))
