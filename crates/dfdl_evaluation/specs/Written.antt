-- What the bits of pieces are. 'Framing', 'Lengths', 'Simple Types', 'Sequence Groups'. Fill is told by the place of each bit: bit k of the data is bit
-- k mod 8 of the byte of fill.
use Rattle.std.specs.Prelude.{ℕ, zero, suc, ◌+◌, ◌-◌, ◌%◌, nat_lt, List, [], ◌∷◌, ◌++◌, slice_get, if◌then◌else◌, Option, None, Some, Result, Ok, Err}
use Rattle.dfdl_bits.specs.Bits.{data_bit}
use Rattle.dfdl_forms.specs.declared.order.BitOrder.{BitOrder}
use Rattle.dfdl_splice.specs.Bits.{bits_from}
use Rattle.dfdl_suspend.specs.Asks.{Asks, Is, Fails, Gives, Gets, Faults, WaitsFor, gives}
use Rattle.dfdl_suspend.specs.declared.known.Held.{Held}
use Rattle.dfdl_suspend.specs.declared.known.Held.TheVariants as held
use Rattle.dfdl_terms.specs.declared.prefix.Prefix.{Prefix}
use Rattle.dfdl_terms.specs.declared.writing.Writing.{Writing}
use Rattle.dfdl_value.specs.declared.value.Value.{Value}
use Rattle.dfdl_value.specs.declared.value.Value.TheVariants.{Bytes}
use Rattle.dfdl_writings.specs.declared.fault.Unwritten.{Unwritten}
use Rattle.dfdl_writings.specs.declared.form.Written.{Written}
use Rattle.dfdl_cells.specs.Books.{Book}
use Rattle.dfdl_cells.specs.Lengths.{cause_of}
use Rattle.dfdl_cells.specs.Pieces.{characters_in, delimiter_of, prefix_at, written_at}
use Rattle.dfdl_cells.specs.Places.{aligned, asked_bit, further, marked}
use Rattle.dfdl_cells.specs.Plans.{Plan, form_of, writing_of}
use Rattle.dfdl_cells.specs.Separators.{is_earlier, is_there, stands}
use Rattle.dfdl_cells.specs.Values.{asked_number, asked_value}
use Rattle.dfdl_cells.specs.declared.piece.Piece.{Piece}
use Rattle.dfdl_cells.specs.declared.piece.Piece.TheVariants as piece
use Rattle.dfdl_cells.specs.declared.step.Place.{Place}
use Rattle.dfdl_evaluation.specs.declared.piece_bits.PieceBits.{PieceBits}

-- so many bits of fill from a bit of the data on
unfoldable pub fill_from : BitOrder → ℕ → ℕ → ℕ → List ℕ
fill_from order fill bit zero = []
fill_from order fill bit (suc n) = data_bit order (fill ∷ []) (bit % 8) ∷ fill_from order fill (bit + 1) n

-- the bits of a writing without its fill
abbrev pub written_bits : BitOrder → Written → List ℕ
written_bits order one = bits_from order one.bytes 0 one.bits

-- what goes on with the bits of a writing without fill; no piece without a writing has bits
abbrev pub asked_writing : BitOrder → Result Written Unwritten → (List ℕ → Asks Held) → Asks Held
asked_writing order (Ok one) go = go (written_bits order one)
asked_writing order (Err cause) go = Fails (cause_of cause)

-- the byte of fill of a component
abbrev pub fill_in : Option Writing → ℕ
fill_in None = 0
fill_in (Some writing) = writing.fill

-- what goes on with the bits of a content that begins at a place, and the fill behind them
abbrev pub asked_content : BitOrder → Book → Place → ℕ → Result Written Unwritten → (List ℕ → Asks Held) → Asks Held
asked_content order book place fill (Ok one) go =
    if nat_lt 0 one.fill
    then asked_bit book place (λ bit. go (written_bits order one ++ fill_from order fill (further one.bits bit) one.fill))
    else go (written_bits order one)
asked_content order book place fill (Err cause) go = Fails (cause_of cause)

-- what goes on with the bits of a prefix behind the length of the content
abbrev pub asked_prefix : BitOrder → Plan → Book → ℕ → Prefix → ℕ → Option ℕ → ℕ → (List ℕ → Asks Held) → Asks Held
asked_prefix order plan book component form markup None bits go = asked_writing order (prefix_at plan component form bits 0) go
asked_prefix order plan book component form markup (Some first) bits go =
    asked_value book.cells first (λ told.
    asked_writing order (prefix_at plan component form bits (characters_in (form_of plan component) (written_at plan book component markup told))) go)

-- what goes on with the bits of a piece
abbrev pub asked_bits : Plan → Book → BitOrder → Piece → (List ℕ → Asks Held) → Asks Held
asked_bits plan book order (piece.Skip bits fill place bound) go = asked_bit book place (λ bit. go (fill_from order fill bit bits))
asked_bits plan book order (piece.Align bits fill place bound) go =
    asked_bit book place (λ bit. go (fill_from order fill bit (aligned bits bit - bit)))
asked_bits plan book order (piece.Delimiter component list) go = asked_writing order (delimiter_of plan component list) go
asked_bits plan book order (piece.Marked component list mark) go =
    marked book.cells mark (λ is_marked. if is_marked then asked_writing order (delimiter_of plan component list) go else go [])
asked_bits plan book order (piece.Separator component list position slot before) go =
    is_earlier book before (λ is_before. stands book slot (λ is_written.
    if is_there position is_written is_before then asked_writing order (delimiter_of plan component list) go else go []))
asked_bits plan book order (piece.Prefix component form own first markup) go =
    asked_number own (λ bits. asked_prefix order plan book component form markup first bits go)
asked_bits plan book order (piece.Content component first markup place) go =
    asked_value book.cells first (λ told.
    asked_content order book place (fill_in (writing_of plan component)) (written_at plan book component markup told) go)
asked_bits plan book order (piece.Rest inside bits fill place) go =
    asked_number inside (λ length. asked_bit book place (λ bit. go (fill_from order fill bit (bits - length))))
asked_bits plan book order (piece.End fill place) go = asked_bit book place (λ bit. go (fill_from order fill bit (aligned 8 bit - bit)))
asked_bits plan book order piece.Missing go = Fails 0

-- the bits that are kept as a value
abbrev pub bits_as : Value → List ℕ
bits_as (Bytes bits) = bits
bits_as _ = []

abbrev pub bits_held : Held → List ℕ
bits_held held.Given = []
bits_held (held.Number number) = []
bits_held (held.Value value) = bits_as value

-- the bits that are told; none are told of a piece whose bits aren't known
abbrev pub bits_given : Gives Held → List ℕ
bits_given (Gets one) = bits_held one
bits_given (Faults cause) = []
bits_given (WaitsFor cell) = []

-- the bits of a piece over what is known
abbrev pub bits_in : Plan → Book → List (Option Held) → BitOrder → Piece → List ℕ
bits_in plan book known order one = bits_given (gives (asked_bits plan book order one (λ bits. Is (held.Value (Bytes bits)))) known)

-- those of a piece that may not be laid
abbrev pub bits_or : Plan → Book → List (Option Held) → BitOrder → Option Piece → List ℕ
bits_or plan book known order None = []
bits_or plan book known order (Some one) = bits_in plan book known order one

-- those of the piece of a number
abbrev pub bits_at : Plan → Book → List (Option Held) → BitOrder → ℕ → List ℕ
bits_at plan book known order number = bits_or plan book known order (slice_get book.pieces number)

-- the bits of a piece as they are told: those of its bytes, and the fill behind them
abbrev pub bits_shown : BitOrder → PieceBits → List ℕ
bits_shown order one = bits_from order one.bytes 0 one.bits ++ fill_from order one.fill_byte one.fill_at one.fill
