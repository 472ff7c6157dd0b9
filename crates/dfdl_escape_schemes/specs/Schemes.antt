-- What the properties of an escape scheme come to ('Simple Types', on escape schemes): its kind, its characters, and when a block is
-- written.
use Rattle.std.specs.Prelude.{ℕ, List, [], ◌∷◌, Bool, true, false, ◌&&◌, ◌||◌, Option, Some, None, is_some, option_and_then, codes, if◌then◌else◌}
use Rattle.std.specs.Option.{option_map_or}
use Rattle.std.specs.Str.{bytes_eq, chars}
use Rattle.dfdl_forms.specs.declared.literals.Piece.{Piece}
use Rattle.dfdl_forms.specs.declared.literals.Piece.TheVariants.{Char}
use Rattle.dfdl_forms.specs.declared.text.EscapeKind.{EscapeKind}
use Rattle.dfdl_forms.specs.declared.text.EscapeKind.TheVariants.{Absent, Character, Block}
use Rattle.dfdl_forms.specs.declared.text.EscapeScheme.{EscapeScheme}
use Rattle.dfdl_literals.specs.PadSteps.{pad_reading}
use Rattle.dfdl_literals.specs.Readings.{literals_reading}
use Rattle.dfdl_literals.specs.declared.pad.PadCharacter.{PadCharacter}
use Rattle.dfdl_literals.specs.declared.pad.PadCharacter.TheVariants as read
use Rattle.dfdl_scope.specs.Expressions.{is_expression, literal}
use Rattle.dfdl_escape_schemes.specs.declared.marks.EscapeMarks.{EscapeMarks}
use Rattle.dfdl_escape_schemes.specs.declared.named.NamedScheme.{NamedScheme}
use Rattle.dfdl_escape_schemes.specs.declared.named.NamedScheme.TheVariants as named

-- the properties of an escape scheme, each where it is told: escapeKind, escapeCharacter, escapeEscapeCharacter, escapeBlockStart,
-- escapeBlockEnd, extraEscapedCharacters and generateEscapeBlock
pub record SchemeTold : Type 0 where
  pub kind : Option (List ℕ)
  pub escape : Option (List ℕ)
  pub escape_escape : Option (List ℕ)
  pub start : Option (List ℕ)
  pub end : Option (List ℕ)
  pub extra : Option (List ℕ)
  pub generation : Option (List ℕ)

-- the kind that a word stands for
abbrev pub kind_by : List ℕ → Option EscapeKind
kind_by word =
    if bytes_eq word (codes "escapeCharacter") then Some Character
    else if bytes_eq word (codes "escapeBlock") then Some Block
    else None

-- the kind that is told, if it is one
abbrev pub kind_told : Option (List ℕ) → Option EscapeKind
kind_told kind = option_and_then kind_by kind

-- the character that a text is read as, if it is one
abbrev pub character_by : PadCharacter → Option ℕ
character_by (read.Character c) = Some c
character_by read.Malformed = None
character_by read.Other = None

-- the character that a text stands for, by the rules of string literals, if it stands for one; an expression stands for none
abbrev pub character_in : List ℕ → Option ℕ
character_in text = if is_expression text then None else character_by (pad_reading (chars (literal text)))

-- the character that is told, if one is
abbrev pub character_told : Option (List ℕ) → Option ℕ
character_told text = option_and_then character_in text

-- what is told, if anything is, is one character
abbrev pub is_character_or_none : Option (List ℕ) → Bool
is_character_or_none text = option_map_or (λ t. is_some (character_in t)) text true

-- the character that a literal is, if it is one
abbrev pub single : List Piece → Option ℕ
single (Char c ∷ []) = Some c
single _ = None

-- a character before others, if they are told
abbrev pub before : Option ℕ → Option (List ℕ) → Option (List ℕ)
before (Some c) (Some cs) = Some (c ∷ cs)
before (Some c) None = None
before None cs = None

-- the characters that literals are, if each of them is one
abbrev pub singles : List (List Piece) → Option (List ℕ)
singles [] = Some []
singles (literal ∷ literals) = before (single literal) (singles literals)

-- the characters that a text lists, which white space divides, if it is such a list; it may be empty
abbrev pub characters_in : List ℕ → Option (List ℕ)
characters_in text = if is_expression text then None else option_and_then singles (literals_reading true (chars (literal text)))

-- the characters that are told, if what is told is such a list; none where nothing is told
abbrev pub characters_told : Option (List ℕ) → Option (List ℕ)
characters_told text = option_map_or characters_in text (Some [])

-- a text says when a block is written
abbrev pub is_generation : List ℕ → Bool
is_generation text = bytes_eq text (codes "always") || bytes_eq text (codes "whenNeeded")

-- what is told, if anything is, says when a block is written
abbrev pub is_generation_or_none : Option (List ℕ) → Bool
is_generation_or_none text = option_map_or is_generation text true

-- a block is written also where none is needed; where nothing is told it isn't
abbrev pub is_always : Option (List ℕ) → Bool
is_always text = option_map_or (λ t. bytes_eq t (codes "always")) text false

-- each property besides the list of characters that is told has a value that it can have, also one that the scheme's kind doesn't need
abbrev pub are_values : SchemeTold → Bool
are_values told =
    is_character_or_none told.escape && is_character_or_none told.escape_escape && is_character_or_none told.start && is_character_or_none told.end
    && is_generation_or_none told.generation

-- a scheme of this kind with the characters that are told, and with these that are escaped too
abbrev pub scheme_with : SchemeTold → EscapeKind → List ℕ → EscapeScheme
scheme_with told kind extra = record {
  kind = kind;
  escape = character_told told.escape;
  escape_escape = character_told told.escape_escape;
  start = character_told told.start;
  end = character_told told.end;
  extra = extra;
  always = is_always told.generation;
}

-- the characters that a kind needs are there: the escape character, or the block start and the block end
abbrev pub has_needed : EscapeKind → SchemeTold → Bool
has_needed Absent told = true
has_needed Character told = is_some (character_told told.escape)
has_needed Block told = is_some (character_told told.start) && is_some (character_told told.end)

-- a scheme of this kind, with these characters that are escaped too, if the other properties make one
abbrev pub scheme_by : SchemeTold → EscapeKind → List ℕ → Option EscapeScheme
scheme_by told kind extra = if are_values told && has_needed kind told then Some (scheme_with told kind extra) else None

-- a scheme of this kind, if its properties make one
abbrev pub scheme_of_kind : SchemeTold → EscapeKind → Option EscapeScheme
scheme_of_kind told kind = option_and_then (scheme_by told kind) (characters_told told.extra)

-- the scheme that the properties make, if they make one: its kind is told, the characters that the kind needs are, and each
-- property has a value that it can have
unfoldable pub scheme_of : SchemeTold → Option EscapeScheme
scheme_of told = option_and_then (scheme_of_kind told) (kind_told told.kind)

-- what is named by a name that names the scheme of these properties
abbrev pub named_by : Option EscapeScheme → NamedScheme
named_by None = named.Malformed
named_by (Some scheme) = named.Told scheme

-- no scheme
abbrev pub no_scheme : EscapeScheme
no_scheme = record { kind = Absent; escape = None; escape_escape = None; start = None; end = None; extra = []; always = false }

-- what is named; no scheme where none is
abbrev pub scheme_named : NamedScheme → EscapeScheme
scheme_named named.NoName = no_scheme
scheme_named named.Unknown = no_scheme
scheme_named named.Malformed = no_scheme
scheme_named (named.Told scheme) = scheme

-- what reading asks of a scheme: its kind, and the characters that it takes off
abbrev pub marks_of : EscapeScheme → EscapeMarks
marks_of scheme =
    record { kind = scheme.kind; escape = scheme.escape; escape_escape = scheme.escape_escape; start = scheme.start; end = scheme.end }

-- the same of no scheme
abbrev pub no_marks : EscapeMarks
no_marks = marks_of no_scheme

-- the same of what is named
abbrev pub marks_named : NamedScheme → EscapeMarks
marks_named scheme = marks_of (scheme_named scheme)

-- a name that names nothing
abbrev pub is_unknown : NamedScheme → Bool
is_unknown named.NoName = false
is_unknown named.Unknown = true
is_unknown named.Malformed = false
is_unknown (named.Told scheme) = false

-- a name that names a scheme which is none
abbrev pub is_malformed : NamedScheme → Bool
is_malformed named.NoName = false
is_malformed named.Unknown = false
is_malformed named.Malformed = true
is_malformed (named.Told scheme) = false
