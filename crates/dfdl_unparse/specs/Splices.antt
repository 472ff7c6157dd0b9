-- Mirror for the prover: what a splice is that has pieces of which some are known.
use Rattle.std.specs.Prelude.{◌≡◌, ℕ, ◌+◌, ◌*◌, ◌<◌, ◌≤◌, ◌++◌, Option, Some, None, List, [], ◌∷◌, length, drop}
use Rattle.dfdl_forms.specs.declared.order.BitOrder.{BitOrder}
use Rattle.dfdl_splice.specs.Splicing.{Spliced, Stretch, bit_count, known_bits}
use Rattle.dfdl_suspend.specs.Asks.{Asks, at, gives}
use Rattle.dfdl_suspend.specs.Boards.{with_given}
use Rattle.dfdl_suspend.specs.Rounds.{Reached}
use Rattle.dfdl_suspend.specs.declared.known.Held.{Held}
use Rattle.dfdl_unparse.specs.Documents.{Pieces, told}
use Rattle.dfdl_unparse.specs.Fronts.{front}

-- what stands behind a place, where the next piece has this number
abbrev pub stretch : ℕ → List (Option (List ℕ)) → Stretch
stretch first [] = record { known = None; awaited = [] }
stretch first (None ∷ pieces) = record {
  known = None;
  awaited = record { piece = first; bits = None; behind = (stretch (first + 1) pieces).known } ∷ (stretch (first + 1) pieces).awaited;
}
stretch first (Some bits ∷ pieces) = record {
  known = Some (bits ++ known_bits (stretch (first + 1) pieces).known);
  awaited = (stretch (first + 1) pieces).awaited;
}

-- a splice has these pieces, and so many bits of their front were dropped
pub record IsSpliced (order : BitOrder) (pieces : List (Option (List ℕ))) (dropped : ℕ) (splice : Spliced) : Type 0 where
  pub added : splice.added ≡ length pieces
  pub order_is : splice.order ≡ order
  pub front_is : splice.front ≡ drop dropped (front pieces)
  pub awaited_is : splice.awaited ≡ (stretch 0 pieces).awaited
  pub within : dropped ≤ length (front pieces)
  pub few : bit_count splice ≤ 8 * splice.most_bytes

-- what is known before an unknown without a value was run and after it, and a splice that has what was known before
pub record IsNext (equation : ℕ → Asks Held) (pieces : Pieces) (before now : List (Option Held)) (cell dropped : ℕ) (splice : Spliced) : Type 0 where
  pub begun : Reached (length now) equation before
  pub reached : Reached (length now) equation now
  pub inside : cell < length before
  pub free : at before cell ≡ None
  pub step : now ≡ with_given (gives (equation cell) before) cell before
  pub spliced : IsSpliced pieces.order (told pieces before) dropped splice
