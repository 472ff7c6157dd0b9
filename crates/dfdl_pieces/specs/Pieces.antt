-- The bytes of a simple element: one whole number, in its byte order ('Simple Types').
use Rattle.std.specs.Prelude.{◌≡◌, ℕ, zero, suc, ◌*◌, ◌/◌, ◌%◌, ◌^◌, ◌≤◌, List, [], ◌∷◌, reverse, flat_map, unwrap_or}
use Rattle.dfdl_forms.specs.declared.order.BitOrder.TheVariants.{MostFirst}
use Rattle.dfdl_forms.specs.declared.order.ByteOrder.{ByteOrder}
use Rattle.dfdl_forms.specs.declared.order.ByteOrder.TheVariants.{Big, Little}
use Rattle.dfdl_forms.specs.Types.{form_of}
use Rattle.dfdl_forms.specs.declared.simple.Form.TheVariants.{Unsigned}
use Rattle.dfdl_value.specs.declared.value.Value.{Value}
use Rattle.dfdl_forms.specs.declared.binary.IntForm.{IntForm}
use Rattle.dfdl_int_binary.specs.Integers.{integer_writing}

-- the field is an unsigned integer of its type's size, which is 1 to 8 whole bytes, most significant bit first
pub record IsWholeField (form : IntForm) : Type 0 where
  pub count : ℕ
  pub kind : form_of form.kind ≡ Unsigned form.bits
  pub bits : form.bits ≡ 8 * count
  pub some : 1 ≤ count
  pub few : count ≤ 8
  pub order : form.bits_by ≡ MostFirst

-- the last count bytes of a number, the most significant first
unfoldable pub bytes_of : ℕ → ℕ → List ℕ
bytes_of zero n = []
bytes_of (suc count) n = n / 256 ^ count % 256 ∷ bytes_of count n

-- bytes in a byte order
abbrev pub in_order : ByteOrder → List ℕ → List ℕ
in_order Big bytes = bytes
in_order Little bytes = reverse bytes

-- the bytes of a field's value: those of the number that it is written as
abbrev pub piece_of : IntForm → Value → List ℕ
piece_of form value = in_order form.bytes_by (bytes_of (form.bits / 8) (unwrap_or (integer_writing form value) 0))

-- the bytes of pieces, one after another
abbrev pub joined : List (List ℕ) → List ℕ
joined pieces = flat_map (λ piece. piece) pieces
