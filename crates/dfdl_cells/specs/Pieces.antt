-- When the bits of a piece are known, and what they are then. 'Framing', 'Lengths', 'Simple Types', 'Sequence Groups'.
use Rattle.std.specs.Prelude.{ℕ, ◌+◌, ◌-◌, ◌/◌, Bool, ◌&&◌, not, nat_le, nat_lt, List, [], ◌∷◌, drop, length, slice_get, if◌then◌else◌, Option, None, Some, Result, Ok, Err}
use Rattle.std.specs.List.{count_by}
use Rattle.dfdl_delims.specs.Lists.{Opened}
use Rattle.dfdl_forms.specs.declared.encoding.Encoding.{Encoding}
use Rattle.dfdl_forms.specs.declared.encoding.Encoding.TheVariants.{Utf8, UsAscii, Iso88591, Utf16Be, Utf16Le}
use Rattle.dfdl_grammar.specs.Delimiters.{lists_of}
use Rattle.dfdl_separators.specs.declared.policy.SeparatorPosition.{SeparatorPosition}
use Rattle.dfdl_terms.specs.declared.delimiters.Delimiters.{Delimiters}
use Rattle.dfdl_terms.specs.declared.prefix.Prefix.{Prefix}
use Rattle.dfdl_terms.specs.declared.row.Primitive.{Primitive}
use Rattle.dfdl_terms.specs.declared.row.Primitive.TheVariants as primitive
use Rattle.dfdl_suspend.specs.Asks.{Asks, Is, Fails, waiting}
use Rattle.dfdl_suspend.specs.declared.known.Held.{Held}
use Rattle.dfdl_suspend.specs.declared.known.Held.TheVariants as held
use Rattle.dfdl_writings.specs.Delimiters.{delimiter}
use Rattle.dfdl_writings.specs.Prefixes.{prefix, units_of}
use Rattle.dfdl_writings.specs.declared.fault.Unwritten.{Unwritten}
use Rattle.dfdl_writings.specs.declared.fault.Unwritten.TheVariants as unwritten
use Rattle.dfdl_writings.specs.declared.form.Written.{Written}
use Rattle.dfdl_cells.specs.Books.{Book}
use Rattle.dfdl_cells.specs.Lengths.{cause_of, written}
use Rattle.dfdl_cells.specs.Places.{aligned, asked_begin, asked_bit, further, marked}
use Rattle.dfdl_cells.specs.Plans.{Form, Plan, form_of, list_of, writing_of}
use Rattle.dfdl_cells.specs.Separators.{is_earlier, one_if, separator, stands, told_or}
use Rattle.dfdl_cells.specs.Values.{Told, asked_number, asked_value}
use Rattle.dfdl_cells.specs.declared.piece.Bound.{Bound}
use Rattle.dfdl_cells.specs.declared.piece.Earlier.{Earlier}
use Rattle.dfdl_cells.specs.declared.piece.Piece.{Piece}
use Rattle.dfdl_cells.specs.declared.piece.Piece.TheVariants as piece
use Rattle.dfdl_cells.specs.declared.piece.Stands.{Stands}
use Rattle.dfdl_cells.specs.declared.step.Place.{Place}
use Rattle.dfdl_terms.specs.declared.writing.Writing.{Writing}

-- the cause of a box that is passed by a skip or an alignment (11), and of a content that its box doesn't hold (6)
abbrev pub passes_box : ℕ
passes_box = 11

abbrev pub passes_content : ℕ
passes_content = 6

-- the bits are known
abbrev pub known : Asks Held
known = Is held.Given

-- the bits of a writing are known, or it has none
abbrev pub known_or : Result Written Unwritten → Asks Held
known_or (Ok one) = known
known_or (Err cause) = Fails (cause_of cause)

-- fill that ends at a bit of the data stands in its box
abbrev pub within : Book → Option Bound → ℕ → Asks Held
within book None end = known
within book (Some bound) end =
    asked_begin book (Some bound.complex) (λ begin. if nat_lt (further bound.bits begin) end then Fails passes_box else known)

-- what a delimiter of a list is written as by a component, if there are such
abbrev pub delimiter_by : Option Writing → Option Delimiters → Result Written Unwritten
delimiter_by None list = Err unwritten.NotInEncoding
delimiter_by (Some writing) None = Err unwritten.NotInEncoding
delimiter_by (Some writing) (Some list) = delimiter writing.text.new_line list

-- what a list's delimiter is written as by the component of a number
abbrev pub delimiter_of : Plan → ℕ → ℕ → Result Written Unwritten
delimiter_of plan component list = delimiter_by (writing_of plan component) (list_of plan list)

-- how many bits a delimiter has; one that can't be written has none
abbrev pub bits_of : Result Written Unwritten → ℕ
bits_of (Ok one) = one.bits
bits_of (Err cause) = 0

-- the lists of markup that are open at a content
abbrev pub opened_in : Plan → Option (List ℕ) → List Opened
opened_in plan None = lists_of plan.table.delimiters []
opened_in plan (Some numbers) = lists_of plan.table.delimiters numbers

abbrev pub opened_at : Plan → Book → ℕ → List Opened
opened_at plan book markup = opened_in plan (slice_get book.markups markup)

-- what a simple element is written as that is this, if it is one
abbrev pub written_by : Option Writing → Option Form → List Opened → Told → Result Written Unwritten
written_by None form opened told = Err unwritten.BinaryForm
written_by (Some writing) None opened told = Err unwritten.BinaryForm
written_by (Some writing) (Some form) opened told = written writing.text opened form told

-- what the simple element of a component is written as
abbrev pub written_at : Plan → Book → ℕ → ℕ → Told → Result Written Unwritten
written_at plan book component markup told =
    written_by (writing_of plan component) (form_of plan component) (opened_at plan book markup) told

-- the more significant byte of a unit of UTF-16 that is the first of two for one character
abbrev pub is_high : ℕ → Bool
is_high byte = nat_le 216 byte && nat_lt byte 220

-- how many characters a text has in bytes: each begins with one that is no further byte of UTF-8
abbrev pub utf8_characters : List ℕ → ℕ
utf8_characters bytes = count_by (λ byte. not (nat_le 128 byte && nat_lt byte 192)) bytes

-- how many units of UTF-16 are the first of two for one character, where the first of two bytes is the more significant one
abbrev pub high_units : List ℕ → ℕ
high_units [] = 0
high_units (byte ∷ []) = one_if (is_high byte)
high_units (byte ∷ other ∷ bytes) = one_if (is_high byte) + high_units bytes

-- those that a writing of an encoding has: in UTF-16 each has one unit, or two where the first is the higher one of a pair
abbrev pub encoded_characters : Encoding → List ℕ → ℕ
encoded_characters Utf8 bytes = utf8_characters bytes
encoded_characters UsAscii bytes = length bytes
encoded_characters Iso88591 bytes = length bytes
encoded_characters Utf16Be bytes = length bytes / 2 - high_units bytes
encoded_characters Utf16Le bytes = length bytes / 2 - high_units (drop 1 bytes)

-- how many characters the text of a primitive has in a writing; other content has none
abbrev pub count_in : Primitive → Written → ℕ
count_in (primitive.Text form) one = encoded_characters form.encoding one.bytes
count_in (primitive.Integer form) one = 0
count_in (primitive.Packed form) one = 0
count_in (primitive.Truth form) one = 0
count_in (primitive.Octets form) one = 0
count_in (primitive.NilOctets form) one = 0
count_in (primitive.Default form) one = 0
count_in (primitive.NilValues form) one = 0
count_in (primitive.Pattern form) one = 0

-- what a prefix is written as that tells so many bits and characters, if there are such
abbrev pub prefix_by : Option Writing → Option Primitive → Prefix → ℕ → ℕ → Result Written Unwritten
prefix_by None primitive form bits characters = Err unwritten.Prefix
prefix_by (Some writing) None form bits characters = Err unwritten.Prefix
prefix_by (Some writing) (Some primitive) form bits characters = prefix writing.text primitive (units_of form bits characters)

-- how many characters a writing has
abbrev pub characters_in : Option Form → Result Written Unwritten → ℕ
characters_in None one = 0
characters_in (Some form) (Err cause) = 0
characters_in (Some form) (Ok one) = count_in form.prim one

-- what a prefix of a component is written as that tells so many bits, of a simple element that is this or of an element with parts
abbrev pub prefix_at : Plan → ℕ → Prefix → ℕ → ℕ → Result Written Unwritten
prefix_at plan component form bits characters =
    prefix_by (writing_of plan component) (slice_get plan.table.primitives form.prim) form bits characters

-- behind the length of the content, the bits of its prefix
abbrev pub prefix_known : Plan → Book → ℕ → Prefix → ℕ → Option ℕ → ℕ → Asks Held
prefix_known plan book component form markup None bits = known_or (prefix_at plan component form bits 0)
prefix_known plan book component form markup (Some value) bits =
    asked_value book.cells value (λ told.
    known_or (prefix_at plan component form bits (characters_in (form_of plan component) (written_at plan book component markup told))))

-- the bits of a content are known where it has a writing, which asks for its place where it has fill
abbrev pub content_known : Book → Place → Result Written Unwritten → Asks Held
content_known book place (Err cause) = Fails (cause_of cause)
content_known book place (Ok one) = if nat_lt 0 one.fill then asked_bit book place (λ bit. known) else known

-- how long a separator is that has a writing; one without is as none for what stands behind it
abbrev pub separator_or : Book → SeparatorPosition → Stands → Earlier → Result Written Unwritten → Asks Held
separator_or book position slot before (Ok one) = separator book position one.bits slot before
separator_or book position slot before (Err cause) =
    is_earlier book before (λ is_before. stands book slot (λ is_written. told_or position slot is_written is_before (cause_of cause)))

-- the equation of the bits of a piece that is laid; what has fill asks for its place, since fill is told by the place of each bit
abbrev pub equation_of : Plan → Book → ℕ → Piece → Asks Held
equation_of plan book cell (piece.Skip bits fill place bound) = asked_bit book place (λ bit. within book bound (further bits bit))
equation_of plan book cell (piece.Align bits fill place bound) = asked_bit book place (λ bit. within book bound (aligned bits bit))
equation_of plan book cell (piece.Delimiter component list) = known_or (delimiter_of plan component list)
equation_of plan book cell (piece.Marked component list mark) =
    marked book.cells mark (λ stands. if stands then known_or (delimiter_of plan component list) else known)
equation_of plan book cell (piece.Separator component list position slot before) =
    separator_or book position slot before (delimiter_of plan component list)
equation_of plan book cell (piece.Prefix component form length value markup) =
    asked_number length (λ bits. prefix_known plan book component form markup value bits)
equation_of plan book cell (piece.Content component first markup place) =
    asked_value book.cells first (λ told. content_known book place (written_at plan book component markup told))
equation_of plan book cell (piece.Rest inside bits fill place) =
    asked_number inside (λ length. if nat_lt bits length then Fails passes_content else asked_bit book place (λ bit. known))
equation_of plan book cell (piece.End fill place) = asked_bit book place (λ bit. known)
equation_of plan book cell piece.Missing = waiting cell
