-- Products and the factors two, five and ten.
use Rattle.std.proofs.Common.{◌≡◌, ◌≢◌, ℕ, zero, suc, ◌-◌, ◌*◌, ◌/◌, ◌%◌, ◌<◌, Bool, true, false, not, ◌&&◌, ◌||◌, ◌==◌, List, [], ◌∷◌, get_or, lit<, refl, sym, ap, ◌∙◌, ◌⊎◌, inl, inr, arith}
use Rattle.std.specs.List.{list_all}
use Rattle.std.proofs.lemmas.List.Sums.{AllPass-from_list_all}
use Rattle.std.proofs.lemmas.List.Elements.{All-get_or}
use Rattle.std.proofs.lemmas.Bool.{eq-eqb, eqb-true}
use Rattle.std.proofs.lemmas.Nat.{mul-mod}
use Rattle.dfdl_decimal.specs.Decimal.{shortest_from, with_sign}
use Rattle.dfdl_decimal.proofs.FixedLemmas.{shortest_from-divides}

pub product_by : (l r a b m n : ℕ) → l ≡ a * m → r ≡ b * n → m * n ≡ 10 → a * b * 10 ≡ l * r
product_by l r a b m n e f ten =
    let one : l * r ≡ a * m * (b * n) = ap (λ k. k * r) e ∙ ap (λ k. a * m * k) f in
    let two : a * b * (m * n) ≡ a * b * 10 = ap (λ k. a * b * k) ten in
    omega (arith, one, two)

both : (a b : Bool) → (a && b) ≡ true → (a ≡ true) × (b ≡ true)
both true b e = (refl, e)
both false b e = absurd (cc)

abbrev digits : List ℕ
digits = 0 ∷ 1 ∷ 2 ∷ 3 ∷ 4 ∷ 5 ∷ 6 ∷ 7 ∷ 8 ∷ 9 ∷ []

at : (p : ℕ → Bool) (k : ℕ) → k < 10 → list_all p digits ≡ true → p (get_or digits k 0) ≡ true
at p k less h = All-get_or (λ x. p x ≡ true) digits k 0 less (AllPass-from_list_all p digits h)

-- what holds of each digit
below_ten : (p : ℕ → Bool) (x : ℕ) → x < 10 → list_all p digits ≡ true → p x ≡ true
below_ten p zero less h = at p zero (lit< tt) h
below_ten p (suc zero) less h = at p (suc zero) (lit< tt) h
below_ten p (suc (suc zero)) less h = at p (suc (suc zero)) (lit< tt) h
below_ten p (suc (suc (suc zero))) less h = at p (suc (suc (suc zero))) (lit< tt) h
below_ten p (suc (suc (suc (suc zero)))) less h = at p (suc (suc (suc (suc zero)))) (lit< tt) h
below_ten p (suc (suc (suc (suc (suc zero))))) less h = at p (suc (suc (suc (suc (suc zero))))) (lit< tt) h
below_ten p (suc (suc (suc (suc (suc (suc zero)))))) less h = at p (suc (suc (suc (suc (suc (suc zero)))))) (lit< tt) h
below_ten p (suc (suc (suc (suc (suc (suc (suc zero))))))) less h = at p (suc (suc (suc (suc (suc (suc (suc zero))))))) (lit< tt) h
below_ten p (suc (suc (suc (suc (suc (suc (suc (suc zero)))))))) less h = at p (suc (suc (suc (suc (suc (suc (suc (suc zero)))))))) (lit< tt) h
below_ten p (suc (suc (suc (suc (suc (suc (suc (suc (suc zero))))))))) less h = at p (suc (suc (suc (suc (suc (suc (suc (suc (suc zero))))))))) (lit< tt) h
below_ten p (suc (suc (suc (suc (suc (suc (suc (suc (suc (suc n)))))))))) less h = absurd (omega arith)

-- the product of two digits ends in zero only where one of them is zero, or one is even and the other is five
abbrev as_said : ℕ → ℕ → Bool
as_said x y = not (x * y % 10 == 0) || ((x == 0) || ((y == 0) || (((x % 2 == 0) && (y % 5 == 0)) || ((x % 5 == 0) && (y % 2 == 0)))))

checked : (x y : ℕ) → x < 10 → y < 10 → as_said x y ≡ true
checked x y few less = below_ten (as_said x) y less (below_ten (λ x. list_all (as_said x) digits) x few refl)

or_cases : (a b : Bool) → (a || b) ≡ true → (a ≡ true) ⊎ (b ≡ true)
or_cases true b h = inl refl
or_cases false b h = inr h

unless : (a : Bool) → not a ≡ true → a ≡ true → ⊥
unless true h k = cc
unless false h k = cc

even_and_five : (x y : ℕ) → ((x % 2 == 0) && (y % 5 == 0)) ≡ true → (x % 2 ≡ 0) × (y % 5 ≡ 0)
even_and_five x y h = let parts = both (x % 2 == 0) (y % 5 == 0) h in (eqb-true _ _ parts.0, eqb-true _ _ parts.1)

five_and_even : (x y : ℕ) → ((x % 5 == 0) && (y % 2 == 0)) ≡ true → (x % 5 ≡ 0) × (y % 2 ≡ 0)
five_and_even x y h = let parts = both (x % 5 == 0) (y % 2 == 0) h in (eqb-true _ _ parts.0, eqb-true _ _ parts.1)

-- what two digits are whose product ends in zero
round_digits : (x y : ℕ) → x < 10 → y < 10 → x * y % 10 ≡ 0 → x ≢ 0 → y ≢ 0 → ((x % 2 ≡ 0) × (y % 5 ≡ 0)) ⊎ ((x % 5 ≡ 0) × (y % 2 ≡ 0))
round_digits x y few less round left right =
    elim (or_cases _ _ (checked x y few less)) [
      | inl h ↦ absurd (unless _ h (eq-eqb _ _ round))
      | inr h ↦ elim (or_cases _ _ h) [
        | inl h ↦ absurd (left (eqb-true _ _ h))
        | inr h ↦ elim (or_cases _ _ h) [
          | inl h ↦ absurd (right (eqb-true _ _ h))
          | inr h ↦ elim (or_cases ((x % 2 == 0) && (y % 5 == 0)) ((x % 5 == 0) && (y % 2 == 0)) h) [
            | inl h ↦ inl (even_and_five x y h)
            | inr h ↦ inr (five_and_even x y h)
          ]
        ]
      ]
    ]

pub no_tenth : (l r : ℕ) → l % 10 ≢ 0 → r % 10 ≢ 0 → ((l % 2 ≡ 0) × (r % 5 ≡ 0) → ⊥) → ((l % 5 ≡ 0) × (r % 2 ≡ 0) → ⊥) → l * r % 10 ≢ 0
no_tenth l r left right first second = λ e.
    elim (round_digits (l % 10) (r % 10) (omega arith) (omega arith) (sym (mul-mod l r 10) ∙ e) left right) [
      | inl h ↦ let two = h.0 in let five = h.1 in first (omega arith, omega arith)
      | inr h ↦ let five = h.0 in let two = h.1 in second (omega arith, omega arith)
    ]

-- a zero at the end is dropped
pub shortest_from-tenth : (s : ℕ) (b : Bool) (m n : ℕ) → 0 < s → m * 10 ≡ n → shortest_from (s - 1) (with_sign b m) ≡ shortest_from s (with_sign b n)
shortest_from-tenth s b m n some e =
    let even : n % 10 ≡ 0 = omega arith in
    let less : m ≡ n / 10 = omega arith in
    ap (λ k. shortest_from (s - 1) (with_sign b k)) less ∙ shortest_from-divides s b n some even
