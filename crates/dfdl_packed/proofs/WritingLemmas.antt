-- The nibbles of a number in a field.
use Rattle.std.proofs.Common.{◌≡◌, ℕ, ◌+◌, ◌-◌, ◌^◌, ◌<◌, ◌≤◌, ℤ, unsigned_abs, true, false, nat_lt, nat_le, List, ◌++◌, length, replicate, Option, Some, None, inl, inr, refl, sym, subst, arith}
use Rattle.std.proofs.lemmas.Bool.{cases_lt, lt-ltb, le-ltb, le-leb}
use Rattle.std.proofs.lemmas.Bool.Decides.{nat_tests}
use Rattle.std.proofs.Math.Bool.{and-false}
use Rattle.std.proofs.Math.Nat.{pow-le-pow_right, le_trans}
use Rattle.dfdl_forms.specs.declared.packed.PackedForm.{PackedForm}
use Rattle.dfdl_forms.specs.declared.packed.PackedRep.{PackedRep}
use Rattle.dfdl_packed.specs.declared.scaled.Scaled.{Scaled}
use Rattle.dfdl_packed.specs.Digits.{padded_digits, digit_count}
use Rattle.dfdl_packed.specs.Packed.{is_negative, ibm_filled, nibbles_by, nibbles_if}
use Rattle.dfdl_packed.specs.Written.{ShowsInteger, ShowsNibbles, HasDigits}
use Rattle.dfdl_packed.proofs.ScaledLemmas.{digit_count_is}

-- the nibbles of a value are those of its integer
pub written_as : (form : PackedForm) (rep : PackedRep) (held : Option (List ℕ)) (scaled : Scaled) (z : Option ℤ) → form.rep ≡ rep → ShowsInteger (Some scaled) z
    → ((y : ℤ) → scaled.negative ≡ is_negative y → scaled.size ≡ unsigned_abs y → ShowsNibbles held form.nibbles (nibbles_by rep form y))
    → ShowsNibbles held form.nibbles (nibbles_if form z)
written_as form rep held scaled None is shows nibbles = absurd shows
written_as form rep held scaled (Some y) is shows nibbles =
    subst (λ (r : PackedRep). ShowsNibbles held form.nibbles (nibbles_by r form y)) (sym is) (nibbles y shows.0 shows.1)

module _ (count n len : ℕ) (mark : List ℕ) (few : count ≤ 39) (has : HasDigits n len) where
  pub ibm_refused : count < length mark + len → length mark ≤ 1 → ibm_filled count mark n ≡ None
  ibm_refused past short = elim (cases_lt 39 len) [
    | inl many ↦
        let room : 10 ^ 39 ≤ 10 ^ (len - 1) = pow-le-pow_right {n = 10} (omega arith) (let less : 39 ≤ len - 1 = omega arith in less) in
        let front : 10 ^ (len - 1) ≤ n = has.above (omega arith) in
        rw (le-ltb n (10 ^ 39) (le_trans room front)) refl
    | inr fits ↦
        let size : digit_count 38 n ≡ len = digit_count_is 38 n len has (omega arith) in
        let over : nat_le (length mark + len) count ≡ false = grind (arith, nat_tests) in
        rw (size, over, and-false) refl
  ]

  pub ibm_accepted : length mark + len ≤ count
      → ibm_filled count mark n ≡ Some (replicate (count - (length mark + len)) 15 ++ mark ++ padded_digits len n)
  ibm_accepted within =
      let size : digit_count 38 n ≡ len = digit_count_is 38 n len has (omega arith) in
      let most : 10 ^ len ≤ 10 ^ 39 = pow-le-pow_right {n = 10} (omega arith) (let less : len ≤ 39 = omega arith in less) in
      let small : nat_lt n (10 ^ 39) ≡ true = lt-ltb n (10 ^ 39) (le_trans has.below most) in
      let room : nat_le (length mark + len) count ≡ true = le-leb (length mark + len) count within in
      rw (size, small, room) refl
