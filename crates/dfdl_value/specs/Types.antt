-- What values each simple type has.
use Rattle.std.specs.Prelude.{ℕ, ◌-◌, ◌^◌, ◌<◌, ℤ, pos, neg_ℤ, ◌≤ℤ◌}
use Rattle.dfdl_forms.specs.declared.simple.Simple.{Simple}
use Rattle.dfdl_forms.specs.Types.{form_of}
use Rattle.dfdl_forms.specs.declared.simple.Form.{Form}
use Rattle.dfdl_forms.specs.declared.simple.Form.TheVariants.{Signed, Unsigned, Fixed, Characters, Truths, Octets}
use Rattle.dfdl_value.specs.declared.value.Value.{Value}
use Rattle.dfdl_value.specs.declared.value.Value.TheVariants.{Int, Uns, Dec, Text, Truth, Bytes}
use Rattle.dfdl_decimal.specs.Decimal.{IsFixed}

-- values of this form hold memory of their own
abbrev pub HoldsMemory : Form → Type 0
HoldsMemory Characters = Unit {0}
HoldsMemory Octets = Unit {0}
HoldsMemory _ = ⊥

-- the least number of a signed type
abbrev pub least_signed : ℕ → ℤ
least_signed bits = neg_ℤ (pos (2 ^ (bits - 1)))

-- the greatest number of a signed type
abbrev pub greatest_signed : ℕ → ℤ
greatest_signed bits = pos (2 ^ (bits - 1) - 1)

-- the value is of this form
abbrev pub HasForm : Form → Value → Type 0
HasForm (Signed bits) (Int z) = (least_signed bits ≤ℤ z) × (z ≤ℤ greatest_signed bits)
HasForm (Unsigned bits) (Uns n) = n < 2 ^ bits
HasForm Fixed (Dec d) = IsFixed d
HasForm Characters (Text t) = Unit {0}
HasForm Truths (Truth b) = Unit {0}
HasForm Octets (Bytes b) = Unit {0}
HasForm _ _ = ⊥

-- the value is one of the type's
abbrev pub IsOfType : Simple → Value → Type 0
IsOfType kind v = HasForm (form_of kind) v

-- the value is a number or a truth, which holds no memory of its own
abbrev pub IsPlain : Value → Type 0
IsPlain (Text t) = ⊥
IsPlain (Bytes b) = ⊥
IsPlain _ = Unit {0}
