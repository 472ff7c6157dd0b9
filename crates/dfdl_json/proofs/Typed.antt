-- What a text or a member is read as is a value of its type.
use Rattle.std.proofs.Common.{◌≡◌, ℕ, zero, suc, ◌<◌, Bool, true, false, cond, ◌==◌, ◌%◌, List, Option, None, Some, Result, Ok, Err, refl, sym, ap, subst, ◌∙◌, arith}
use Rattle.std.specs.Prelude.{◌≢◌, ◌^◌, nat_lt, ℤ, pos, int_div, unsigned_abs}
use Rattle.std.proofs.lemmas.Bool.{cases_Bool, and_parts}
use Rattle.std.proofs.Common.{eq-eqb, inl, inr}
use Rattle.std.proofs.lemmas.Bool.Decides.{nat_tests}
use Rattle.hex.specs.declared.error.FromHexError.{FromHexError}
use Rattle.hex.specs.Hex.{decode_of}
use Rattle.serde_json.specs.Data.{Data, null, boolean, number, string, array, object}
use Rattle.dfdl_decimal.specs.Decimal.{DecimalNumber, IsFixed, fixed_of, is_small, shortest_from}
use Rattle.dfdl_forms.specs.Types.{form_of}
use Rattle.dfdl_forms.specs.declared.simple.Form.{Form}
use Rattle.dfdl_forms.specs.declared.simple.Form.TheVariants.{Signed, Unsigned, Fixed, Characters, Truths, Octets}
use Rattle.dfdl_forms.specs.declared.simple.Simple.{Simple}
use Rattle.dfdl_value.specs.ReadValues.{Reading, bytes_reading, decimal_reading, fixed_reading, form_reading, reading_of, truth_reading}
use Rattle.dfdl_value.specs.Texts.{decimal_of, integer_of, trimmed, truth_of}
use Rattle.dfdl_value.specs.Types.{HasForm, IsOfType}
use Rattle.dfdl_value.specs.declared.value.Value.{Value}
use Rattle.dfdl_value.specs.declared.value.Value.TheVariants.{Dec, Text, Truth, Bytes}
use Rattle.dfdl_value.proofs.RangeLemmas.{HasForm-signed, HasForm-unsigned}
use Rattle.dfdl_json.specs.Infosets.{value_if, value_in}

-- no zero stands at the end of the digits behind the point
no_zero : (scale : ℕ) (mantissa : ℤ) → 0 < (shortest_from scale mantissa).scale → unsigned_abs (shortest_from scale mantissa).mantissa % 10 ≢ 0
no_zero zero mantissa some = absurd (omega arith)
no_zero (suc scale) mantissa some =
    (elim (cases_Bool (unsigned_abs mantissa % 10 == 0)) as (λ _. 0 < (shortest_from (suc scale) mantissa).scale → unsigned_abs (shortest_from (suc scale) mantissa).mantissa % 10 ≢ 0) [
      | inl yes_zero ↦ rw yes_zero (λ s. no_zero scale (int_div mantissa (pos 10)) s)
      | inr not_zero ↦ rw not_zero (λ s e. let bad : true ≡ false = sym (eq-eqb (unsigned_abs mantissa % 10) 0 e) ∙ not_zero in absurd (cc))
    ]) some

small_fixed : (d f : DecimalNumber) (small : Bool) → is_small d ≡ small → (0 < d.scale → unsigned_abs d.mantissa % 10 ≢ 0)
    → cond small (Some d) None ≡ Some f → IsFixed f
small_fixed d f true small shortest is =
    let same : d ≡ f = cc in
    let tests : (nat_lt (unsigned_abs d.mantissa) (10 ^ 38) ≡ true) × (nat_lt d.scale 256 ≡ true) = and_parts (nat_lt (unsigned_abs d.mantissa) (10 ^ 38)) (nat_lt d.scale 256) small in
    subst IsFixed same (record { digits = let t : nat_lt (unsigned_abs d.mantissa) (10 ^ 38) ≡ true = tests.0 in grind (arith, nat_tests); places = let t : nat_lt d.scale 256 ≡ true = tests.1 in grind (arith, nat_tests); shortest = shortest })
small_fixed d f false small shortest is = absurd (cc)

fixed_typed : (d f : DecimalNumber) → fixed_of d ≡ Some f → IsFixed f
fixed_typed d f is = small_fixed (shortest_from d.scale d.mantissa) f (is_small (shortest_from d.scale d.mantissa)) refl (no_zero d.scale d.mantissa) is

dec_typed : (o : Option DecimalNumber) (v : Value) → ((f : DecimalNumber) → o ≡ Some f → IsFixed f) → fixed_reading o ≡ Ok v → HasForm Fixed v
dec_typed None v each is = absurd (cc)
dec_typed (Some f) v each is = let same : Dec f ≡ v = cc in subst (λ (w : Value). HasForm Fixed w) same (each f refl)

decimal_typed : (o : Option DecimalNumber) (v : Value) → decimal_reading o ≡ Ok v → HasForm Fixed v
decimal_typed None v is = absurd (cc)
decimal_typed (Some d) v is = dec_typed (fixed_of d) v (fixed_typed d) is

truth_typed : (o : Option Bool) (v : Value) → truth_reading o ≡ Ok v → HasForm Truths v
truth_typed None v is = absurd (cc)
truth_typed (Some b) v is = let same : Truth b ≡ v = cc in subst (λ (w : Value). HasForm Truths w) same tt

bytes_typed : (r : Result (List ℕ) FromHexError) (v : Value) → bytes_reading r ≡ Ok v → HasForm Octets v
bytes_typed (Err e) v is = absurd (cc)
bytes_typed (Ok bytes) v is = let same : Bytes bytes ≡ v = cc in subst (λ (w : Value). HasForm Octets w) same tt

form_typed : (form : Form) (text : List ℕ) (v : Value) → form_reading form text ≡ Ok v → HasForm form v
form_typed (Signed bits) text v is = HasForm-signed bits (integer_of (trimmed text)) v is
form_typed (Unsigned bits) text v is = HasForm-unsigned bits (integer_of (trimmed text)) v is
form_typed Fixed text v is = decimal_typed (decimal_of (trimmed text)) v is
form_typed Truths text v is = truth_typed (truth_of (trimmed text)) v is
form_typed Octets text v is = bytes_typed (decode_of (trimmed text)) v is
form_typed Characters text v is = let same : Text text ≡ v = cc in subst (λ (w : Value). HasForm Characters w) same tt

taken : (r : Reading) (v : Value) → value_if r ≡ Ok v → r ≡ Ok v
taken (Ok w) v is = let same : w ≡ v = cc in ap Ok same
taken (Err e) v is = absurd (cc)

-- what a member says is of its type
pub value_typed : (kind : Simple) (content : Data) (v : Value) → value_in kind content ≡ Ok v → IsOfType kind v
value_typed kind (string text) v is = form_typed (form_of kind) text v (taken (reading_of kind text) v is)
value_typed kind null v is = absurd (cc)
value_typed kind (boolean b) v is = absurd (cc)
value_typed kind (number n) v is = absurd (cc)
value_typed kind (array items) v is = absurd (cc)
value_typed kind (object entries) v is = absurd (cc)
