-- Mirror for the prover: bytes whose bits are filled.
use Rattle.std.specs.Prelude.{◌≡◌, ℕ, ◌+◌, ◌-◌, ◌%◌, ◌<◌, List, [], ◌∷◌, ◌++◌, length, replicate, take}
use Rattle.dfdl_bits.specs.Bits.{data_bit}
use Rattle.dfdl_forms.specs.declared.order.BitOrder.{BitOrder}

-- so many bytes, with zeros behind those that there are
abbrev pub resized : ℕ → List ℕ → List ℕ
resized size bytes = take size bytes ++ replicate (size - length bytes) 0

-- so many bits of fill stand at a place, and what stood before that place is as it was
pub record Fills (order : BitOrder) (old new : List ℕ) (at fill fill_at count : ℕ) : Type 0 where
  pub put : (i : ℕ) → i < count → data_bit order new (at + i) ≡ data_bit order (fill ∷ []) ((fill_at + i) % 8)
  pub kept : (k : ℕ) → k < at → data_bit order new k ≡ data_bit order old k
