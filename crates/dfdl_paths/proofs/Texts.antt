-- The string that bytes are, as UTF-8.
use Rattle.std.specs.Prelude.{◌≡◌, ℕ, Bool, true, false, List, Some, Result, Ok, Err, IsUtf8, if◌then◌else◌, refl}
use Rattle.std.specs.Str.{is_utf8}
use Rattle.std.proofs.Common.{sym, ◌∙◌, ap}
use Rattle.std.proofs.lemmas.Str.{IsUtf8-from_is_utf8, is_utf8-from_IsUtf8}
use Rattle.dfdl_value.specs.declared.value.Value.{Value}
use Rattle.dfdl_value.specs.declared.value.Value.TheVariants as value
use Rattle.dfdl_paths.specs.Values.{text_value}

pub is_text : (bytes text : List ℕ) → text ≡ bytes → IsUtf8 bytes → Ok (value.Text text) ≡ text_value (Some bytes)
is_text bytes text same utf8 =
    ap (λ (t : List ℕ). Ok (value.Text t)) same
    ∙ sym (ap (λ (b : Bool). if b then Ok (value.Text bytes) else Err 1) (is_utf8-from_IsUtf8 bytes utf8))

abbrev no_value : Result Value ℕ
no_value = Err 1

pub no_text : (bytes : List ℕ) → ¬ IsUtf8 bytes → no_value ≡ text_value (Some bytes)
no_text bytes none = by (is_utf8 bytes) refl
  where
    by : (b : Bool) → is_utf8 bytes ≡ b → no_value ≡ (if b then Ok (value.Text bytes) else no_value)
    by true e = absurd (none (IsUtf8-from_is_utf8 bytes e))
    by false e = refl
