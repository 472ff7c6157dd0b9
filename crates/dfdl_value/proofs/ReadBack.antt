-- The text of a value is read as that value again.
use Rattle.std.proofs.Common.{◌≡◌, true, false, refl, lit≤, Ok}
use Rattle.dfdl_forms.specs.declared.simple.Form.{Form}
use Rattle.dfdl_forms.specs.declared.simple.Form.TheVariants.{Signed, Unsigned, Fixed, Characters, Truths, Octets}
use Rattle.dfdl_forms.specs.declared.simple.Simple.{Simple}
use Rattle.dfdl_forms.specs.declared.simple.Simple.TheVariants.{String, HexBinary, Boolean, Decimal, Integer, NonNegativeInteger, Byte, Short, Int as IntType, Long, UnsignedByte, UnsignedShort, UnsignedInt, UnsignedLong}
use Rattle.dfdl_value.specs.declared.value.Value.{Value}
use Rattle.dfdl_value.specs.declared.value.Value.TheVariants.{Int, Uns, Dec, Text, Truth, Bytes}
use Rattle.dfdl_value.specs.ReadValues.{form_reading}
use Rattle.dfdl_forms.proofs.KindLemmas.{few_bits}
use Rattle.dfdl_forms.specs.Types.{HasFewBits, form_of}
use Rattle.dfdl_value.specs.Types.{HasForm}
use Rattle.dfdl_value.specs.Writing.{text_of}
use Rattle.dfdl_value.proofs.BackLemmas.{signed_back, unsigned_back}
use Rattle.dfdl_value.proofs.PointLemmas.{decimal_back}

-- of each value but bytes
form_back : (form : Form) (v : Value) → HasFewBits form → HasForm form v → ((bytes : _) → v ≡ Bytes bytes → ⊥) → form_reading form (text_of v) ≡ Ok v
form_back (Signed bits) (Int z) few h other = signed_back bits z few.1 h
form_back (Unsigned bits) (Uns n) few h other = unsigned_back bits n few.1 h
form_back Fixed (Dec d) few h other = decimal_back d h
form_back Characters (Text t) few h other = refl
form_back Truths (Truth true) few h other = refl
form_back Truths (Truth false) few h other = refl
form_back Octets (Bytes b) few h other = absurd (other b refl)
form_back _ _ few h other = absurd h

pub kind_back : (kind : Simple) (v : Value) → HasForm (form_of kind) v → ((bytes : _) → v ≡ Bytes bytes → ⊥) → form_reading (form_of kind) (text_of v) ≡ Ok v
kind_back kind v h other = form_back (form_of kind) v (few_bits kind) h other
