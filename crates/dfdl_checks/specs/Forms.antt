-- The numbers that are built for unparsing.
use Rattle.std.specs.Prelude.{◌≡◌, ℕ, ◌==◌, ◌||◌, Bool, IsTrue}
use Rattle.dfdl_forms.specs.declared.binary.IntForm.{IntForm}
use Rattle.dfdl_forms.specs.declared.order.BitOrder.TheVariants.{MostFirst}
use Rattle.dfdl_forms.specs.declared.simple.Form.TheVariants.{Unsigned}
use Rattle.dfdl_forms.specs.Types.{form_of}
use Rattle.dfdl_terms.specs.declared.row.Primitive.{Primitive}
use Rattle.dfdl_terms.specs.declared.row.Primitive.TheVariants.{Integer, Packed, Truth, Octets, Text, NilOctets, Default, NilValues, Pattern}

-- one, two, four or eight bytes
abbrev pub is_whole : ℕ → Bool
is_whole bits = bits == 8 || bits == 16 || bits == 32 || bits == 64

-- an unsigned integer of as many bits as its type has, whole bytes of them, whose most significant bits come first
pub record IsWholeUnsigned (form : IntForm) : Type 0 where
  pub bits : IsTrue (is_whole form.bits)
  pub kind : form_of form.kind ≡ Unsigned form.bits
  pub bits_by : form.bits_by ≡ MostFirst
  pub point : form.point ≡ 0

-- such an integer, and no other primitive
abbrev pub IsWhole : Primitive → Type 0
IsWhole (Integer form) = IsWholeUnsigned form
IsWhole (Packed form) = ⊥
IsWhole (Truth form) = ⊥
IsWhole (Octets form) = ⊥
IsWhole (Text form) = ⊥
IsWhole (NilOctets form) = ⊥
IsWhole (Default form) = ⊥
IsWhole (NilValues form) = ⊥
IsWhole (Pattern form) = ⊥
