-- What can be written of pieces of which some are known: their bits up to the first one that isn't, in whole bytes.
-- 'DFDL Processing Introduction' (unparsing).
use Rattle.std.specs.Prelude.{◌≡◌, ℕ, ◌+◌, ◌*◌, ◌/◌, ◌<◌, ◌++◌, Option, Some, None, List, [], ◌∷◌, length, take, All}
use Rattle.dfdl_forms.specs.declared.order.BitOrder.{BitOrder}
use Rattle.dfdl_splice.specs.Bits.{bits_from}

-- the known front: the bits of the pieces before the first one whose bits aren't known
abbrev pub front : List (Option (List ℕ)) → List ℕ
front [] = []
front (None ∷ pieces) = []
front (Some bits ∷ pieces) = bits ++ front pieces

-- how many bits are known of pieces
abbrev pub bits_known : List (Option (List ℕ)) → ℕ
bits_known [] = 0
bits_known (None ∷ pieces) = bits_known pieces
bits_known (Some bits ∷ pieces) = length bits + bits_known pieces

-- how many bits lie in the whole bytes of some bits
abbrev pub whole : List ℕ → ℕ
whole bits = 8 * (length bits / 8)

-- these bytes are the whole bytes of some bits
pub record ArePacked (order : BitOrder) (bits bytes : List ℕ) : Type 0 where
  pub count : length bytes ≡ length bits / 8
  pub same : bits_from order bytes 0 (whole bits) ≡ take (whole bits) bits
  pub each : All (λ byte. byte < 256) bytes

-- behind what it had before, a sink has taken the whole bytes of these bits, and nothing else
pub record HasTaken (order : BitOrder) (bits before : List ℕ) (taken : Option (List ℕ)) : Type 0 where
  pub sent : List ℕ
  pub packed : ArePacked order bits sent
  pub all : taken ≡ Some (before ++ sent)

-- behind what it had before, a sink has taken a front of these bytes
pub record HasTakenFront (order : BitOrder) (bits before : List ℕ) (taken : Option (List ℕ)) : Type 0 where
  pub sent : List ℕ
  pub count : ℕ
  pub packed : ArePacked order bits sent
  pub all : taken ≡ Some (before ++ take count sent)
