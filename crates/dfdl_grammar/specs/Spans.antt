-- How long elements are in the data. 'DFDL Expression Language' (on lengths).
use Rattle.std.specs.Prelude.{ℕ, ◌+◌, ◌-◌, ◌*◌, ◌^◌, min, List, [], ◌∷◌, length, Some}
use Rattle.dfdl_forms.specs.declared.encoding.Encoding.{Encoding}
use Rattle.dfdl_forms.specs.declared.encoding.Encoding.TheVariants.{Utf8, UsAscii, Iso88591, Utf16Be, Utf16Le}
use Rattle.dfdl_chars.specs.Encodings.{width_in}
use Rattle.dfdl_region.specs.Bytes.{utf8_of}
use Rattle.dfdl_region.specs.Nodes.{with_lengths}
use Rattle.dfdl_grammar.specs.declared.span.Span.{Span}
use Rattle.dfdl_grammar.specs.declared.end.End.TheVariants.{Done}
use Rattle.dfdl_grammar.specs.States.{State}
use Rattle.dfdl_grammar.specs.Outcomes.{Outcome, ended, then_do}

-- a box of so many bits that begins at a bit, all of which are the value's
abbrev pub filled : ℕ → ℕ → Span
filled bit bits = record { end = bit + bits; value = bits }

-- a box without bits at a bit
abbrev pub vacant : ℕ → Span
vacant bit = record { end = bit; value = 0 }

-- how many bytes characters have in an encoding that has each of them
abbrev pub widths_in : Encoding → List ℕ → ℕ
widths_in encoding [] = 0
widths_in encoding (c ∷ characters) = width_in encoding c + widths_in encoding characters

-- How many bytes characters have that were read in an encoding. Where U+FFFD was read for bytes that are no character, it counts as it is
-- written, and where each byte is a character as one.
abbrev pub bytes_in : Encoding → List ℕ → ℕ
bytes_in Utf8 characters = length (utf8_of characters)
bytes_in UsAscii characters = length characters
bytes_in Iso88591 characters = length characters
bytes_in Utf16Be characters = widths_in Utf16Be characters
bytes_in Utf16Le characters = widths_in Utf16Le characters

-- so many bytes in bits; no value has more bits than 64 bits count
abbrev pub bits_in : ℕ → ℕ
bits_in count = min (8 * count) (2 ^ 64 - 1)

-- a box that ends at a bit, whose value has these characters
abbrev pub kept_to : ℕ → Encoding → List ℕ → Span
kept_to end encoding characters = record { end = end; value = bits_in (bytes_in encoding characters) }

-- the content of the open element has so many bits, and so many has its value
abbrev pub with_span : ℕ → ℕ → State → State
with_span content value s =
    record s { nodes = with_lengths s.nodes s.inside (Some (record { content = content; value = value })) }

-- the content of the open element ends that began at this bit and has no box: it is what was moved over
abbrev pub span_ends : ℕ → State → Outcome
span_ends from s = ended Done (with_span (s.at - from) (s.at - from) s)

-- the content of the open element, which has no box
abbrev pub spanned : (State → Outcome) → State → Outcome
spanned body s = then_do (body s) (span_ends s.at)
