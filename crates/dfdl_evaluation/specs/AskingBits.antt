-- Mirror for the prover: what is answered to what the bits of a piece are, over what is known. That they are just these is a lemma (proofs/BitsAnswered).
use Rattle.std.specs.Prelude.{ℕ, ◌-◌, nat_lt, Bool, List, [], if◌then◌else◌, Option, None, Some, Result, Ok, Err}
use Rattle.dfdl_suspend.specs.declared.known.Held.{Held}
use Rattle.dfdl_terms.specs.declared.prefix.Prefix.{Prefix}
use Rattle.dfdl_writings.specs.declared.fault.Unwritten.{Unwritten}
use Rattle.dfdl_writings.specs.declared.form.Written.{Written}
use Rattle.dfdl_separators.specs.declared.policy.SeparatorPosition.{SeparatorPosition}
use Rattle.dfdl_cells.specs.Asking.{bit, number, onward, value}
use Rattle.dfdl_cells.specs.Asking as cells
use Rattle.dfdl_cells.specs.Books.{Book}
use Rattle.dfdl_cells.specs.Lengths.{cause_of}
use Rattle.dfdl_cells.specs.Pieces.{delimiter_of, written_at}
use Rattle.dfdl_cells.specs.Places.{aligned, further}
use Rattle.dfdl_cells.specs.Plans.{Plan, writing_of}
use Rattle.dfdl_cells.specs.Separators.{is_there}
use Rattle.dfdl_cells.specs.declared.asking.Stop.{Stop}
use Rattle.dfdl_cells.specs.declared.asking.Stop.TheVariants.{Fault}
use Rattle.dfdl_cells.specs.declared.piece.Earlier.{Earlier}
use Rattle.dfdl_cells.specs.declared.piece.Piece.{Piece}
use Rattle.dfdl_cells.specs.declared.piece.Piece.TheVariants as piece
use Rattle.dfdl_cells.specs.declared.piece.Stands.{Stands}
use Rattle.dfdl_cells.specs.declared.step.Mark.{Mark}
use Rattle.dfdl_cells.specs.declared.step.Place.{Place}
use Rattle.dfdl_evaluation.specs.AskingPieces.{prefix_of}
use Rattle.dfdl_evaluation.specs.AskingSeparators.{is_earlier, stands}
use Rattle.dfdl_evaluation.specs.Written.{fill_in}
use Rattle.dfdl_evaluation.specs.declared.piece_bits.PieceBits.{PieceBits}

-- so many bits of fill from a bit of the data on, and nothing before them
abbrev pub filled : ℕ → ℕ → ℕ → PieceBits
filled fill at count = record { bytes = []; bits = 0; fill_byte = fill; fill_at = at; fill = count }

-- no bits
abbrev pub no_bits : PieceBits
no_bits = filled 0 0 0

-- the bits of a writing without fill
abbrev pub whole : Written → PieceBits
whole one = record { bytes = one.bytes; bits = one.bits; fill_byte = 0; fill_at = 0; fill = 0 }

-- those with the fill behind them
abbrev pub with_fill : Written → ℕ → ℕ → PieceBits
with_fill one fill at = record { bytes = one.bytes; bits = one.bits; fill_byte = fill; fill_at = further one.bits at; fill = one.fill }

-- those of a writing, if there is one
abbrev pub of_writing : Result Written Unwritten → Result PieceBits Stop
of_writing (Ok one) = Ok (whole one)
of_writing (Err cause) = Err (Fault (cause_of cause))

-- a writing that stands or doesn't
abbrev pub writing_if : Bool → Result Written Unwritten → Result PieceBits Stop
writing_if there one = if there then of_writing one else Ok no_bits

abbrev pub skip : Book → List (Option Held) → ℕ → ℕ → Place → Result PieceBits Stop
skip book known bits fill place = onward (bit book known place) (λ at. Ok (filled fill at bits))

abbrev pub align : Book → List (Option Held) → ℕ → ℕ → Place → Result PieceBits Stop
align book known bits fill place = onward (bit book known place) (λ at. Ok (filled fill at (aligned bits at - at)))

abbrev pub marked : Plan → Book → List (Option Held) → ℕ → ℕ → Mark → Result PieceBits Stop
marked plan book known component list mark =
    onward (cells.stands book.cells known mark) (λ there. writing_if there (delimiter_of plan component list))

-- whether a separator stands
abbrev pub stands_there : Book → List (Option Held) → SeparatorPosition → Stands → Earlier → Result Bool Stop
stands_there book known position slot before =
    onward (is_earlier book known before) (λ is_before. onward (stands book known slot) (λ is_written. Ok (is_there position is_written is_before)))

abbrev pub separator : Plan → Book → List (Option Held) → ℕ → ℕ → SeparatorPosition → Stands → Earlier → Result PieceBits Stop
separator plan book known component list position slot before =
    onward (stands_there book known position slot before) (λ there. writing_if there (delimiter_of plan component list))

abbrev pub prefix : Plan → Book → List (Option Held) → ℕ → Prefix → ℕ → Option ℕ → ℕ → Result PieceBits Stop
prefix plan book known component form own first markup = onward (prefix_of plan book known component form own first markup) of_writing

-- the fill behind a writing at a place
abbrev pub behind : Book → List (Option Held) → Place → ℕ → Written → Result PieceBits Stop
behind book known place fill one = onward (bit book known place) (λ at. Ok (with_fill one fill at))

abbrev pub content_by : Book → List (Option Held) → Place → ℕ → Result Written Unwritten → Result PieceBits Stop
content_by book known place fill (Ok one) = if nat_lt 0 one.fill then behind book known place fill one else Ok (whole one)
content_by book known place fill (Err cause) = Err (Fault (cause_of cause))

abbrev pub content : Plan → Book → List (Option Held) → ℕ → ℕ → ℕ → Place → Result PieceBits Stop
content plan book known component first markup place =
    onward (value book.cells known first)
    (λ told. content_by book known place (fill_in (writing_of plan component)) (written_at plan book component markup told))

abbrev pub rest : Book → List (Option Held) → ℕ → ℕ → ℕ → Place → Result PieceBits Stop
rest book known inside bits fill place =
    onward (number known inside) (λ length. onward (bit book known place) (λ at. Ok (filled fill at (bits - length))))

-- the bits of a piece
abbrev pub of_piece : Plan → Book → List (Option Held) → Piece → Result PieceBits Stop
of_piece plan book known (piece.Skip bits fill place bound) = skip book known bits fill place
of_piece plan book known (piece.Align bits fill place bound) = align book known bits fill place
of_piece plan book known (piece.Delimiter component list) = of_writing (delimiter_of plan component list)
of_piece plan book known (piece.Marked component list mark) = marked plan book known component list mark
of_piece plan book known (piece.Separator component list position slot before) =
    separator plan book known component list position slot before
of_piece plan book known (piece.Prefix component form own first markup) = prefix plan book known component form own first markup
of_piece plan book known (piece.Content component first markup place) = content plan book known component first markup place
of_piece plan book known (piece.Rest inside bits fill place) = rest book known inside bits fill place
of_piece plan book known (piece.End fill place) = align book known 8 fill place
of_piece plan book known piece.Missing = Err (Fault 0)

-- what is told of a piece whose bits aren't known
abbrev pub or_none : Result PieceBits Stop → PieceBits
or_none (Ok one) = one
or_none (Err stop) = no_bits

-- the bits of the piece of a number, if it is laid
abbrev pub of_laid : Plan → Book → List (Option Held) → Option Piece → PieceBits
of_laid plan book known None = no_bits
of_laid plan book known (Some one) = or_none (of_piece plan book known one)
