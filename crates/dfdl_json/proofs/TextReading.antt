-- The JSON value of a text, as the reader answers it.
use Rattle.std.proofs.Common.{◌≡◌, ℕ, Bool, true, false, if◌then◌else◌, List, None, Some, Result, Ok, Err, ap, sym, ◌∙◌, inl, inr}
use Rattle.std.specs.Prelude.{IsUtf8}
use Rattle.std.specs.Str.{is_utf8}
use Rattle.std.proofs.lemmas.Bool.{cases_Bool}
use Rattle.std.proofs.lemmas.Str.{IsUtf8-from_is_utf8, is_utf8-from_IsUtf8}
use Rattle.serde_json.specs.Data.{Data}
use Rattle.serde_json.specs.Read.{read}
use Rattle.dfdl_report.specs.Paths.{whole_path}
use Rattle.dfdl_report.specs.declared.cause.InfosetCause.TheVariants.{NotJson}
use Rattle.dfdl_json.specs.Infosets.{Refusal}
use Rattle.dfdl_json.specs.Texts.{json_if, json_in}

at_test : (text : List ℕ) (b : Bool) → is_utf8 text ≡ b → json_in text ≡ json_if (if b then read text else None)
at_test text b is = ap (λ (t : Bool). json_if (if t then read text else None)) is

pub json_read : (text : List ℕ) (content : Data) → IsUtf8 text → read text ≡ Some content → json_in text ≡ Ok content
json_read text content utf8 is = at_test text true (is_utf8-from_IsUtf8 text utf8) ∙ ap json_if is

pub json_refused : (text path : List ℕ) → path ≡ whole_path → (IsUtf8 text → read text ≡ None)
    → json_in text ≡ Err (record { cause = NotJson; path = path })
json_refused text path whole none =
    elim (cases_Bool (is_utf8 text)) [
      | inl is ↦ at_test text true is ∙ ap json_if (none (IsUtf8-from_is_utf8 text is)) ∙ refused
      | inr is ↦ at_test text false is ∙ refused
    ]
  where
    refused : (let none : Result Data Refusal = json_if None in none) ≡ Err (record { cause = NotJson; path = path })
    refused = ap (λ (p : List ℕ). let made : Result Data Refusal = Err (record { cause = NotJson; path = p }) in made) (sym whole)
