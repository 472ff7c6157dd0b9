-- Mirror for the prover: what is answered to whether the bits of a piece are known, over what is known. That an equation gives just this is a lemma
-- for each (proofs/PiecesAnswered).
use Rattle.std.specs.Prelude.{ℕ, Bool, nat_lt, List, if◌then◌else◌, Option, None, Some, Result, Ok, Err}
use Rattle.dfdl_suspend.specs.declared.known.Held.{Held}
use Rattle.dfdl_suspend.specs.declared.known.Held.TheVariants as held
use Rattle.dfdl_terms.specs.declared.prefix.Prefix.{Prefix}
use Rattle.dfdl_writings.specs.declared.fault.Unwritten.{Unwritten}
use Rattle.dfdl_writings.specs.declared.form.Written.{Written}
use Rattle.dfdl_cells.specs.Asking.{begin, bit, number, onward, stands, value}
use Rattle.dfdl_cells.specs.Books.{Book}
use Rattle.dfdl_cells.specs.Lengths.{bits_in, cause_of}
use Rattle.dfdl_cells.specs.Pieces.{characters_in, delimiter_of, passes_box, passes_content, prefix_at, written_at}
use Rattle.dfdl_cells.specs.Places.{aligned, further}
use Rattle.dfdl_cells.specs.Plans.{Plan, form_of}
use Rattle.dfdl_cells.specs.Values.{Told}
use Rattle.dfdl_cells.specs.declared.asking.Stop.{Stop}
use Rattle.dfdl_cells.specs.declared.asking.Stop.TheVariants.{Fault, Wait}
use Rattle.dfdl_cells.specs.declared.piece.Bound.{Bound}
use Rattle.dfdl_cells.specs.declared.piece.Piece.{Piece}
use Rattle.dfdl_cells.specs.declared.piece.Piece.TheVariants as piece
use Rattle.dfdl_cells.specs.declared.step.Mark.{Mark}
use Rattle.dfdl_cells.specs.declared.step.Place.{Place}
use Rattle.dfdl_evaluation.specs.AskingSeparators.{separator}

-- the bits are known
abbrev pub given : Result Held Stop
given = Ok held.Given

-- there is no writing, for this cause
abbrev pub unwritten : Unwritten → Result Held Stop
unwritten cause = Err (Fault (cause_of cause))

-- the bits of a writing are known, or it has none
abbrev pub known_or : Result Written Unwritten → Result Held Stop
known_or (Ok one) = given
known_or (Err cause) = unwritten cause

-- fill that ends at a bit of the data stands in a box that begins at another one
abbrev pub in_box : ℕ → ℕ → ℕ → Result Held Stop
in_box bits end first = if nat_lt (further bits first) end then Err (Fault passes_box) else given

-- fill that ends at a bit of the data stands in its box
abbrev pub within_bound : Book → List (Option Held) → Bound → ℕ → Result Held Stop
within_bound book known bound end = onward (begin book known (Some bound.complex)) (λ first. in_box bound.bits end first)

abbrev pub within : Book → List (Option Held) → Option Bound → ℕ → Result Held Stop
within book known None end = given
within book known (Some bound) end = within_bound book known bound end

abbrev pub skip : Book → List (Option Held) → ℕ → Place → Option Bound → Result Held Stop
skip book known bits place bound = onward (bit book known place) (λ at. within book known bound (further bits at))

abbrev pub align : Book → List (Option Held) → ℕ → Place → Option Bound → Result Held Stop
align book known bits place bound = onward (bit book known place) (λ at. within book known bound (aligned bits at))

-- a delimiter that stands
abbrev pub delimiter_if : Plan → ℕ → ℕ → Bool → Result Held Stop
delimiter_if plan component list is_there = if is_there then known_or (delimiter_of plan component list) else given

abbrev pub marked : Plan → Book → List (Option Held) → ℕ → ℕ → Mark → Result Held Stop
marked plan book known component list mark = onward (stands book.cells known mark) (λ is_there. delimiter_if plan component list is_there)

-- what a prefix is written as that tells so many bits, of a simple element that is this
abbrev pub prefix_told : Plan → Book → ℕ → Prefix → ℕ → ℕ → Told → Result Written Unwritten
prefix_told plan book component form markup bits told =
    prefix_at plan component form bits (characters_in (form_of plan component) (written_at plan book component markup told))

-- the same of one that has this first unknown, or of an element with parts
abbrev pub prefix_behind : Plan → Book → List (Option Held) → ℕ → Prefix → ℕ → Option ℕ → ℕ → Result (Result Written Unwritten) Stop
prefix_behind plan book known component form markup None bits = Ok (prefix_at plan component form bits 0)
prefix_behind plan book known component form markup (Some first) bits =
    onward (value book.cells known first) (λ told. Ok (prefix_told plan book component form markup bits told))

-- what a prefix is written as behind the length of the content
abbrev pub prefix_of : Plan → Book → List (Option Held) → ℕ → Prefix → ℕ → Option ℕ → ℕ → Result (Result Written Unwritten) Stop
prefix_of plan book known component form own first markup =
    onward (number known own) (λ bits. prefix_behind plan book known component form markup first bits)

abbrev pub prefix : Plan → Book → List (Option Held) → ℕ → Prefix → ℕ → Option ℕ → ℕ → Result Held Stop
prefix plan book known component form own first markup = onward (prefix_of plan book known component form own first markup) known_or

-- the place of fill is known
abbrev pub placed : Book → List (Option Held) → Place → Result Held Stop
placed book known place = onward (bit book known place) (λ at. given)

-- the bits of a content are known where it has a writing, which asks for its place where it has fill
abbrev pub content_known : Book → List (Option Held) → Place → Result Written Unwritten → Result Held Stop
content_known book known place (Err cause) = unwritten cause
content_known book known place (Ok one) = if nat_lt 0 one.fill then placed book known place else given

abbrev pub content : Plan → Book → List (Option Held) → ℕ → ℕ → ℕ → Place → Result Held Stop
content plan book known component first markup place =
    onward (value book.cells known first) (λ told. content_known book known place (written_at plan book component markup told))

-- the fill behind a content of so many bits in a box
abbrev pub rest_known : Book → List (Option Held) → ℕ → Place → ℕ → Result Held Stop
rest_known book known bits place length = if nat_lt bits length then Err (Fault passes_content) else placed book known place

abbrev pub rest : Book → List (Option Held) → ℕ → ℕ → Place → Result Held Stop
rest book known inside bits place = onward (number known inside) (λ length. rest_known book known bits place length)

-- the bits of a piece that is laid are known
abbrev pub of_piece : Plan → Book → List (Option Held) → ℕ → Piece → Result Held Stop
of_piece plan book known cell (piece.Skip bits fill place bound) = skip book known bits place bound
of_piece plan book known cell (piece.Align bits fill place bound) = align book known bits place bound
of_piece plan book known cell (piece.Delimiter component list) = known_or (delimiter_of plan component list)
of_piece plan book known cell (piece.Marked component list mark) = marked plan book known component list mark
of_piece plan book known cell (piece.Separator component list position slot before) =
    separator book known position slot before (bits_in (delimiter_of plan component list))
of_piece plan book known cell (piece.Prefix component form own first markup) = prefix plan book known component form own first markup
of_piece plan book known cell (piece.Content component first markup place) = content plan book known component first markup place
of_piece plan book known cell (piece.Rest inside bits fill place) = rest book known inside bits place
of_piece plan book known cell (piece.End fill place) = placed book known place
of_piece plan book known cell piece.Missing = Err (Wait cell)
