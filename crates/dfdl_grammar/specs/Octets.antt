-- The bytes that stand in the data from a bit on. 'Simple Types' (hexBinary).
use Rattle.std.specs.Prelude.{ℕ, zero, suc, ◌+◌, List, [], ◌∷◌}
use Rattle.dfdl_forms.specs.declared.order.BitOrder.{BitOrder}
use Rattle.dfdl_forms.specs.declared.order.ByteOrder.TheVariants.{Big}
use Rattle.dfdl_bits.specs.Bits.{number_of}

-- the byte whose first bit in the data is this one
abbrev pub octet_at : BitOrder → List ℕ → ℕ → ℕ
octet_at order bytes bit = number_of bytes bit 8 Big order

-- so many bytes, one after the other, from a bit of the data on
abbrev pub octets_from : BitOrder → List ℕ → ℕ → ℕ → List ℕ
octets_from order bytes bit zero = []
octets_from order bytes bit (suc count) = octet_at order bytes bit ∷ octets_from order bytes (bit + 8) count
