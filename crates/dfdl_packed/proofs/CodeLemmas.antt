-- The codes of signs that a form may have.
use Rattle.std.proofs.Common.{◌≡◌, ◌⊎◌, ℕ, ◌<◌, ◌||◌, IsTrue, true, nat_eq, List, inl, inr, arith}
use Rattle.std.specs.Prelude.{slice_index}
use Rattle.std.proofs.lemmas.Bool.{cases_eq, ne_eqb}
use Rattle.std.proofs.lemmas.Bool.Decides.{nat_tests}
use Rattle.std.proofs.Math.Bool.{or-false}
use Rattle.dfdl_forms.specs.Packed.{is_positive_code, are_allowed}
use Rattle.std.proofs.lemmas.Bool.{cases_eq, ne_eqb, and_parts}

-- what codes a form may have
abbrev pub IsPlus : ℕ → Type 0
IsPlus code = is_positive_code code ≡ true

abbrev pub IsMinus : ℕ → Type 0
IsMinus code = (code ≡ 11) ⊎ (code ≡ 13)

pub record Allowed (codes : List ℕ) : Type 0 where
  pub plus : IsPlus (slice_index codes 0)
  pub minus : IsMinus (slice_index codes 1)
  pub unsigned : slice_index codes 2 ≡ 15
  pub none : IsPlus (slice_index codes 3) ⊎ (slice_index codes 3 ≡ 0)

minus_is : (code : ℕ) → (nat_eq code 11 || nat_eq code 13) ≡ true → IsMinus code
minus_is code is = elim (cases_eq code 11) [
  | inl e ↦ inl e
  | inr n ↦ inr (grind (arith, nat_tests))
]

none_is : (code : ℕ) → (is_positive_code code || nat_eq code 0) ≡ true → IsPlus code ⊎ (code ≡ 0)
none_is code is = elim (cases_eq code 0) [
  | inl e ↦ inr e
  | inr n ↦ inl (rw (ne_eqb code 0 n, or-false) at is)
]

pub allowed_is : (codes : List ℕ) → are_allowed codes ≡ true → Allowed codes
allowed_is codes is =
    let last = and_parts _ _ is in
    let third = and_parts _ _ last.0 in
    let second = and_parts _ _ third.0 in
    let fifteen : nat_eq (slice_index codes 2) 15 ≡ true = third.1 in
    record {
      plus = second.0;
      minus = minus_is (slice_index codes 1) second.1;
      unsigned = grind (arith, nat_tests);
      none = none_is (slice_index codes 3) last.1;
    }

-- each of them is a nibble
plus_low : (code : ℕ) → IsPlus code → code < 16
plus_low code is = grind (arith, nat_tests)

pub positive_low : (codes : List ℕ) → IsTrue (are_allowed codes) → slice_index codes 0 < 16
positive_low codes is = plus_low (slice_index codes 0) (allowed_is codes is).plus

pub negative_low : (codes : List ℕ) → IsTrue (are_allowed codes) → slice_index codes 1 < 16
negative_low codes is = elim (allowed_is codes is).minus [ inl e ↦ omega arith | inr e ↦ omega arith ]

pub unsigned_low : (codes : List ℕ) → IsTrue (are_allowed codes) → slice_index codes 2 < 16
unsigned_low codes is = omega (arith, (allowed_is codes is).unsigned)

pub zero_low : (codes : List ℕ) → IsTrue (are_allowed codes) → slice_index codes 3 < 16
zero_low codes is = elim (allowed_is codes is).none [ inl e ↦ plus_low (slice_index codes 3) e | inr e ↦ omega arith ]
