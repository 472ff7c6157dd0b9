-- A document in memory: each unknown is that of a piece's bits, which are the first ones of the last byte of its number.
use Rattle.std.specs.Prelude.{◌≡◌, ◌≢◌, ℕ, ◌+◌, ◌%◌, ◌^◌, ◌<◌, ◌++◌, ◌∷◌, [], min, Option, Some, None, List, length, slice_set}
use Rattle.std.specs.List.{slice_get}
use Rattle.std.proofs.Common.{ap, arith, refl}
use Rattle.dfdl_forms.specs.declared.order.BitOrder.TheVariants.{MostFirst}
use Rattle.dfdl_splice.specs.Bits.{bits_from}
use Rattle.dfdl_suspend.specs.Asks.{at}
use Rattle.dfdl_suspend.specs.Formulas.{NamesWithin, Tabled, equation_in}
use Rattle.dfdl_suspend.specs.declared.known.Held.{Held}
use Rattle.dfdl_suspend.specs.declared.known.Held.TheVariants.{Given, Number, Value}
use Rattle.dfdl_suspend.specs.declared.table.Formula.{Formula}
use Rattle.dfdl_suspend.specs.declared.table.Formula.TheVariants.{Event}
use Rattle.dfdl_unparse.specs.Documents.{HasCells, IsSteady, Pieces}
use Rattle.dfdl_unparse.specs.declared.script.Line.{Line}
use Rattle.dfdl_unparse.specs.declared.script.Line.TheVariants.{Add, Give}

-- the last byte of the number that an unknown has; zero where it has none
abbrev pub last_byte : Option Held → ℕ
last_byte None = 0
last_byte (Some Given) = 0
last_byte (Some (Number number)) = number % 256
last_byte (Some (Value value)) = 0

-- how many bits are written of a byte: as many as are given, at most eight
abbrev pub width_by : Option ℕ → ℕ
width_by None = 0
width_by (Some width) = min width 8

abbrev pub width_at : List ℕ → ℕ → ℕ
width_at widths piece = width_by (slice_get widths piece)

-- the bits of a piece over what is known
abbrev pub bits_at : List ℕ → List (Option Held) → ℕ → List ℕ
bits_at widths known piece = bits_from MostFirst (last_byte (at known piece) ∷ []) 0 (width_at widths piece)

-- each row of a table is a piece
abbrev pub pieces_of : Tabled → List ℕ → Pieces
pieces_of table widths = record { count = length table.rows; cell = λ piece. piece; bits = bits_at widths; order = MostFirst }

-- a line may come next where its formula names rows that are there, and where the row that it gives waits
abbrev pub MayCome : List Formula → Line → Type 0
MayCome rows (Add formula width) = (length rows < 2 ^ 31) × NamesWithin (length rows + 1) formula
MayCome rows (Give cell formula) = (slice_get rows cell ≡ Some Event) × NamesWithin (length rows) formula

-- the rows after a line
abbrev pub rows_after : List Formula → Line → List Formula
rows_after rows (Add formula width) = rows ++ formula ∷ []
rows_after rows (Give cell formula) = slice_set rows cell formula

-- each piece is its own unknown's
pub script_cells : (table : Tabled) (widths : List ℕ) → HasCells (length table.rows) (pieces_of table widths)
script_cells table widths = record { inside = λ piece within. within; few = omega arith; apart = λ a b x y e. e }

-- what is written of a number stays the same
pub script_steady : (table : Tabled) (widths : List ℕ) → IsSteady (equation_in table.rows) (pieces_of table widths)
script_steady table widths = record {
  stays = λ room a b piece reached below within some. same (at a piece) (at b piece) (λ value e. below piece value e) some (width_at widths piece);
}
  where
    same : (o p : Option Held) → ((value : Held) → o ≡ Some value → p ≡ Some value) → o ≢ None → (width : ℕ)
        → bits_from MostFirst (last_byte p ∷ []) 0 width ≡ bits_from MostFirst (last_byte o ∷ []) 0 width
    same None p stays some width = absurd (some refl)
    same (Some value) p stays some width = ap (λ (q : Option Held). bits_from MostFirst (last_byte q ∷ []) 0 width) (stays value refl)
