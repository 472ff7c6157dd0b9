-- Mirror for the prover: bits in a buffer, and bits that are copied.
use Rattle.std.specs.Prelude.{◌≡◌, ℕ, ◌+◌, ◌<◌, List}
use Rattle.dfdl_forms.specs.declared.order.BitOrder.{BitOrder}
use Rattle.dfdl_bits.specs.Bits.{data_bit}

-- what a buffer holds, and how many bytes it has room for
pub record Buffered : Type 0 where
  pub bits : List ℕ
  pub order : BitOrder
  pub room : ℕ

-- so many bits from one place of some bytes stand at a place of others, and what stood before that place is as it was
pub record Copies (order : BitOrder) (old new : List ℕ) (at : ℕ) (from : List ℕ) (begin count : ℕ) : Type 0 where
  pub copied : (i : ℕ) → i < count → data_bit order new (at + i) ≡ data_bit order from (begin + i)
  pub kept : (k : ℕ) → k < at → data_bit order new k ≡ data_bit order old k
