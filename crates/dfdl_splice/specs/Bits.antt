-- Runs of bits of the data. 'Properties Common to both Content and Framing' (bitOrder).
use Rattle.std.specs.Prelude.{ℕ, zero, suc, ◌+◌, List, [], ◌∷◌}
use Rattle.dfdl_forms.specs.declared.order.BitOrder.{BitOrder}
use Rattle.dfdl_bits.specs.Bits.{data_bit}

-- n bits of the data from bit k on, each 0 or 1
unfoldable pub bits_from : BitOrder → List ℕ → ℕ → ℕ → List ℕ
bits_from order bytes k zero = []
bits_from order bytes k (suc n) = data_bit order bytes k ∷ bits_from order bytes (k + 1) n
