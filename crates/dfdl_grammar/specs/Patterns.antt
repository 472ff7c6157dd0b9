-- How many bytes a pattern matches in the data. 'Lengths' (lengthKind pattern), 'DFDL Regular Expressions'.
use Rattle.std.specs.Prelude.{ℕ, ◌+◌, ◌&&◌, nat_le, nat_lt, if◌then◌else◌, List, [], ◌∷◌, length, Option, Some, None, encode_utf8}
use Rattle.dfdl_forms.specs.declared.encoding.Encoding.{Encoding}
use Rattle.dfdl_chars.specs.Encodings.{width_in}
use Rattle.dfdl_region.specs.Bytes.{utf8_of}
use Rattle.dfdl_length_patterns.specs.Patterns.{match_in}
use Rattle.dfdl_terms.specs.declared.text.PatternForm.{PatternForm}

-- a pattern is sought in at most so many bits of the data (profile)
abbrev pub most_sought : ℕ
most_sought = 524288

-- How many bytes those of the characters have in an encoding that begin from one byte of a text on and before another, where the
-- first character begins at this byte. The text is UTF-8.
abbrev pub width_between : Encoding → List ℕ → ℕ → ℕ → ℕ → ℕ
width_between encoding [] at from to = 0
width_between encoding (c ∷ characters) at from to =
    (if nat_le from at && nat_lt at to then width_in encoding c else 0) + width_between encoding characters (at + length (encode_utf8 c)) from to

-- how many bytes a match has; without one there are none
abbrev pub width_of_match : Encoding → List ℕ → Option (ℕ × ℕ) → ℕ
width_of_match encoding characters None = 0
width_of_match encoding characters (Some (from, to)) = width_between encoding characters 0 from to

-- how many bytes of the data the pattern matches, of which these are the characters
abbrev pub matched_width : PatternForm → List ℕ → ℕ
matched_width form characters = width_of_match form.encoding characters (match_in form.pattern (utf8_of characters))
