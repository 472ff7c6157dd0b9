-- The orders of bytes and of bits that a component's fields have ('Properties Common to both Content and Framing', byteOrder
-- and bitOrder).
use Rattle.std.specs.Prelude.{Bool, true, false, codes, if◌then◌else◌}
use Rattle.dfdl_forms.specs.declared.order.ByteOrder.{ByteOrder}
use Rattle.dfdl_forms.specs.declared.order.ByteOrder.TheVariants.{Big, Little}
use Rattle.dfdl_forms.specs.declared.order.BitOrder.{BitOrder}
use Rattle.dfdl_forms.specs.declared.order.BitOrder.TheVariants.{MostFirst, LeastFirst}
use Rattle.dfdl_scope.specs.Scoping.{Told}
use Rattle.dfdl_checks.specs.Judged.{Judged}
use Rattle.dfdl_checks.specs.Subjects.{is_told, is_word, told_at}
use Rattle.dfdl_checks.specs.declared.orders.Orders.{Orders}
use Rattle.dfdl_checks.specs.declared.purpose.Purpose.{Purpose}
use Rattle.dfdl_checks.specs.declared.purpose.Purpose.TheVariants.{Parsing, Unparsing}

-- the order of bytes that is told; big endian where none is, as it may be where a number has 8 bits
abbrev pub byte_order : Told → ByteOrder
byte_order told = if is_word (codes "littleEndian") told then Little else Big

-- the order of bits that is told; the most significant bit comes first where none is
abbrev pub bit_order : Told → BitOrder
bit_order told = if is_word (codes "leastSignificantBitFirst") told then LeastFirst else MostFirst

-- the order of bits of a field: the one that is told, and for unparsing the one that is built
abbrev pub order_for : Purpose → Told → BitOrder
order_for Parsing told = bit_order told
order_for Unparsing told = MostFirst

-- the order of bits that is told of the component
abbrev pub told_order : Judged → BitOrder
told_order subject = bit_order (told_at subject (codes "bitOrder"))

-- the order of bits of the component's fields
abbrev pub field_order : Judged → BitOrder
field_order subject = order_for subject.purpose (told_at subject (codes "bitOrder"))

-- both orders of the component's fields
abbrev pub orders_of : Judged → Orders
orders_of subject = record { bytes_by = byte_order (told_at subject (codes "byteOrder")); bits_by = field_order subject }

-- the component's least significant bits come first
abbrev pub is_least_first : Judged → Bool
is_least_first subject = is_told subject (codes "bitOrder") (codes "leastSignificantBitFirst")

-- two orders of bits are the same
abbrev pub is_same_order : BitOrder → BitOrder → Bool
is_same_order MostFirst MostFirst = true
is_same_order LeastFirst LeastFirst = true
is_same_order _ _ = false
