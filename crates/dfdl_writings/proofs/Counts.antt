-- Counts of bytes, one after another.
use Rattle.std.proofs.Common.{◌≡◌, ℕ, zero, suc, ◌+◌, ◌-◌, ◌<◌, true, false, Some, None, refl, sym, ap, ◌∙◌, arith}
use Rattle.std.proofs.lemmas.Bool.{cond-true, cond-false}
use Rattle.dfdl_forms.specs.declared.packed.PackedForm.{PackedForm}
use Rattle.dfdl_value.specs.declared.value.Value.{Value}
use Rattle.dfdl_writings.specs.Lengths.{fits_bytes, first_count}

-- the first count holds the number
pub found : (form : PackedForm) (value : Value) (left count : ℕ) → 0 < left → fits_bytes form value count ≡ true
    → first_count form value left count ≡ Some count
found form value zero count some fits = absurd (omega arith)
found form value (suc more) count some fits = cond-true _ _ _ fits

-- it doesn't
pub further : (form : PackedForm) (value : Value) (left count : ℕ) → 0 < left → fits_bytes form value count ≡ false
    → first_count form value left count ≡ first_count form value (left - 1) (count + 1)
further form value zero count some fits = absurd (omega arith)
further form value (suc more) count some fits =
    let one : suc more - 1 ≡ more = omega arith in
    cond-false _ _ _ fits ∙ ap (λ n. first_count form value n (count + 1)) (sym one)

-- no count is left
pub none : (form : PackedForm) (value : Value) (left count : ℕ) → left ≡ 0 → first_count form value left count ≡ None
none form value zero count all = refl
none form value (suc more) count all = absurd (omega arith)
