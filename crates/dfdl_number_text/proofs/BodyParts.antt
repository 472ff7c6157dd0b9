-- Lemmas on the parts of a body.
use Rattle.std.proofs.Common.{◌≡◌, ℕ, Bool, true, false, subst, Option, Some, None, if◌then◌else◌}
use Rattle.std.specs.Char.{is_ascii_digit}
use Rattle.std.specs.List.{list_all}
use Rattle.dfdl_lemmas.proofs.Bools.{both}
use Rattle.dfdl_number_text.specs.declared.read_number.Number.{Number}
use Rattle.dfdl_number_text.specs.Body.{Parts, are_digits, parts_number}
use Rattle.dfdl_number_text.specs.ReadShown.{IsNumber, Shows}

pub fraction_digits : (separator : Option ℕ) (parts : Parts) → are_digits separator parts ≡ true → list_all is_ascii_digit parts.fraction ≡ true
fraction_digits separator parts digits = (both _ _ (both _ _ digits).0).1

pub shown : (number : Number) (negative : Bool) (separator other : Option ℕ) (parts same : Parts) → separator ≡ other → parts ≡ same → are_digits separator parts ≡ true
    → IsNumber number (parts_number negative parts) → Shows (Some number) (if are_digits other same then Some (parts_number negative same) else None)
shown number negative separator other parts same one two digits is =
    let P : Option ℕ → Type 0 = λ s. Shows (Some number) (if are_digits s same then Some (parts_number negative same) else None) in
    let Q : Parts → Type 0 = λ p. Shows (Some number) (if are_digits separator p then Some (parts_number negative p) else None) in
    subst P one (subst Q two (rw digits is))

pub not_shown : (negative : Bool) (separator other : Option ℕ) (parts same : Parts) → separator ≡ other → parts ≡ same → are_digits separator parts ≡ false
    → Shows None (if are_digits other same then Some (parts_number negative same) else None)
not_shown negative separator other parts same one two digits =
    let P : Option ℕ → Type 0 = λ s. Shows None (if are_digits s same then Some (parts_number negative same) else None) in
    let Q : Parts → Type 0 = λ p. Shows None (if are_digits separator p then Some (parts_number negative p) else None) in
    subst P one (subst Q two (rw digits tt))
