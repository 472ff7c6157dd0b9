use Rattle.std.proofs.Common.{◌≡◌, ℕ, ◌-◌, ◌<◌, List, [], ◌∷◌, length, take, get_or, false, sym, ap, arith}
use Rattle.std.proofs.lemmas.Bool.Decides.{nat_tests}
use Rattle.std.proofs.lemmas.Grind.{get_or_default_zero}
use Rattle.dfdl_forms.specs.declared.packed.ZonedForm.{ZonedForm}
use Rattle.dfdl_packed.specs.Zoned.{sign_digit, number_around, zoned_number}
use Rattle.dfdl_packed.proofs.zoned_reading.number_of.Goals as goal

-- the sign is in the last digit
zoned_last : (form : ZonedForm) (chars : List ℕ) (d : ℕ) → 0 < length chars → form.first ≡ false
    → zoned_number form chars ≡ number_around (take (length chars - 1) chars) (sign_digit form.style (get_or chars (length chars - 1) d)) []
zoned_last form [] d some last = absurd (omega arith)
zoned_last form (char ∷ chars) d some last =
    let place : length (char ∷ chars) - 1 ≡ length chars = omega arith in
    rw (place, last)
    (ap (λ (x : ℕ). number_around (take (length chars) (char ∷ chars)) (sign_digit form.style x) [])
    (sym (get_or_default_zero (char ∷ chars) (length chars) d (omega arith))))

pub returns-else-form : goal.returns-else-form
returns-else-form c =
    let chars = c.args.chars.now in
    let char : ℕ = c.index-chars-last.result in
    let some : 0 < length chars = grind (arith, nat_tests, c.is_empty.ensures, c.if-is_empty.false) in
    rw (zoned_last c.args.form.now chars char some c.if-form.false, ← c.index-chars-last.is, ← c.signed_digit-else-form.ensures.digit)
    c.around-else-form.ensures
