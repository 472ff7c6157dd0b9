-- The initiators and terminators of components ('Framing'), in which representations they stand ('DFDL Data Syntax Grammar', on
-- nilValueDelimiterPolicy and emptyValueDelimiterPolicy), and the separators of sequences ('Sequence Groups').
use Rattle.std.specs.Prelude.{◌≡◌, ◌⊎◌, ℕ, List, [], ◌∷◌, Bool, true, false, not, ◌&&◌, ◌||◌, Option, Some, None, option_map, codes, if◌then◌else◌}
use Rattle.std.specs.Str.{bytes_eq, chars}
use Rattle.dfdl_forms.specs.declared.encoding.Encoding.{Encoding}
use Rattle.dfdl_forms.specs.declared.literals.Piece.{Piece}
use Rattle.dfdl_literals.specs.Lists.{matches_nothing}
use Rattle.dfdl_literals.specs.Readings.{literals_reading}
use Rattle.dfdl_scope.specs.Expressions.{is_expression, literal}
use Rattle.dfdl_scope.specs.Scoping.{Told, Value, Absent, Twice}
use Rattle.dfdl_separators.specs.declared.policy.SeparatorPosition.{SeparatorPosition}
use Rattle.dfdl_separators.specs.declared.policy.SeparatorPosition.TheVariants.{Prefix, Infix, Postfix}
use Rattle.dfdl_separators.specs.declared.policy.SeparatorSuppressionPolicy.{SeparatorSuppressionPolicy}
use Rattle.dfdl_separators.specs.declared.policy.SeparatorSuppressionPolicy.TheVariants.{Never, TrailingEmpty, TrailingEmptyStrict, AnyEmpty}
use Rattle.dfdl_terms.specs.declared.delimiters.Delimiters.{Delimiters}
use Rattle.dfdl_checks.specs.Encodings.{encoding_told}
use Rattle.dfdl_checks.specs.Judged.{Judged}
use Rattle.dfdl_checks.specs.Nils.{lacks_literals}
use Rattle.dfdl_checks.specs.Subjects.{is_unframed, is_sequence, is_told, is_word, told_at}
use Rattle.dfdl_checks.specs.Values.{is_empty}
use Rattle.dfdl_checks.specs.declared.delimiters.Delimiting.{Delimiting}
use Rattle.dfdl_checks.specs.declared.delimiters.DelimiterText.{DelimiterText}
use Rattle.dfdl_checks.specs.declared.delimiters.DelimiterText.TheVariants.{Nothing, Literals, Malformed, Empty}
use Rattle.dfdl_checks.specs.declared.delimiters.Markup.{Markup}
use Rattle.dfdl_checks.specs.declared.delimiters.Separating.{Separating}
use Rattle.dfdl_checks.specs.declared.purpose.Purpose.{Purpose}
use Rattle.dfdl_checks.specs.declared.purpose.Purpose.TheVariants.{Parsing, Unparsing}

-- a delimiter is told: an empty value is none
abbrev pub is_delimiter : Told → Bool
is_delimiter (Value written) = not (is_empty (literal written))
is_delimiter Absent = false
is_delimiter (Twice place) = false

-- the component has the delimiter of this name; the type of a prefix has none, nor has a sequence that stands for a hidden group
abbrev pub has_delimiter : Judged → List ℕ → Bool
has_delimiter subject name = not (is_unframed subject.kind) && is_delimiter (told_at subject name)

-- a sequence with a separator
abbrev pub is_separated : Judged → Bool
is_separated subject = is_sequence subject.kind && is_delimiter (told_at subject (codes "separator"))

-- the component has an initiator, a terminator or a separator
abbrev pub is_delimited : Judged → Bool
is_delimited subject = has_delimiter subject (codes "initiator") || has_delimiter subject (codes "terminator") || is_separated subject

-- what a text comes to that is read as these literals, if it is a list of some; one of none is no list of a delimiter
abbrev pub delimiter_by : Option (List (List Piece)) → DelimiterText
delimiter_by None = Malformed
delimiter_by (Some []) = Malformed
delimiter_by (Some (first ∷ others)) = if matches_nothing (first ∷ others) then Empty else Literals (first ∷ others)

-- a value that is none of a delimiter: an expression, which a rule of its own refuses, or nothing
abbrev pub is_none : List ℕ → Bool
is_none written = is_expression written || is_empty (literal written)

-- what a delimiter that is told comes to; `%ES;` is none of its literals
abbrev pub delimiter_told : Told → DelimiterText
delimiter_told (Value written) = if is_none written then Nothing else delimiter_by (literals_reading false (chars (literal written)))
delimiter_told Absent = Nothing
delimiter_told (Twice place) = Nothing

-- what the component's delimiter of this name comes to
abbrev pub delimiter_at : Judged → List ℕ → DelimiterText
delimiter_at subject name = if is_unframed subject.kind then Nothing else delimiter_told (told_at subject name)

-- what the component's separator comes to; a sequence alone has one
abbrev pub separator_at : Judged → DelimiterText
separator_at subject = if is_sequence subject.kind then delimiter_told (told_at subject (codes "separator")) else Nothing

-- the text is no list of literals
abbrev pub is_malformed_text : DelimiterText → Bool
is_malformed_text Nothing = false
is_malformed_text (Literals literals) = false
is_malformed_text Malformed = true
is_malformed_text Empty = false

-- a literal of the text can match nothing
abbrev pub is_empty_text : DelimiterText → Bool
is_empty_text Nothing = false
is_empty_text (Literals literals) = false
is_empty_text Malformed = false
is_empty_text Empty = true

-- the encoding lacks a character of the text's literals
abbrev pub lacks_text : Option Encoding → DelimiterText → Bool
lacks_text encoding Nothing = false
lacks_text encoding (Literals literals) = lacks_literals encoding literals
lacks_text encoding Malformed = false
lacks_text encoding Empty = false

-- a delimiter of the component is no list of literals
abbrev pub is_delimiter_malformed : Judged → Bool
is_delimiter_malformed subject =
    is_malformed_text (delimiter_at subject (codes "initiator")) || is_malformed_text (delimiter_at subject (codes "terminator"))
    || is_malformed_text (separator_at subject)

-- 12: a literal of a delimiter of the component can match nothing
abbrev pub is_delimiter_empty : Judged → Bool
is_delimiter_empty subject =
    is_empty_text (delimiter_at subject (codes "initiator")) || is_empty_text (delimiter_at subject (codes "terminator"))
    || is_empty_text (separator_at subject)

-- the component's encoding lacks a character of a delimiter
abbrev pub is_delimiter_not_encoded : Judged → Bool
is_delimiter_not_encoded subject =
    let encoding : Option Encoding = encoding_told (told_at subject (codes "encoding")) in
    lacks_text encoding (delimiter_at subject (codes "initiator")) || lacks_text encoding (delimiter_at subject (codes "terminator"))
    || lacks_text encoding (separator_at subject)

-- a policy of which this is told names the delimiter of this name; absent it names both
abbrev pub is_named : List ℕ → Told → Bool
is_named name (Value written) = bytes_eq (literal written) (codes "both") || bytes_eq (literal written) name
is_named name Absent = true
is_named name (Twice place) = false

-- the delimiter of this name stands in the component's nil representation, if it has one
abbrev pub is_in_nil : Judged → List ℕ → Bool
is_in_nil subject name = is_named name (told_at subject (codes "nilValueDelimiterPolicy"))

-- the same of the empty representation
abbrev pub is_in_empty : Judged → List ℕ → Bool
is_in_empty subject name = is_named name (told_at subject (codes "emptyValueDelimiterPolicy"))

-- the component's empty representation has a delimiter
abbrev pub is_empty_delimited : Judged → Bool
is_empty_delimited subject =
    (has_delimiter subject (codes "initiator") && is_in_empty subject (codes "initiator"))
    || (has_delimiter subject (codes "terminator") && is_in_empty subject (codes "terminator"))

-- where the delimiter of this name is found, it resolves a point of uncertainty, as an initiator does of a branch of a choice by a key
-- whose content is initiated
abbrev pub is_resolving : Judged → List ℕ → Bool
is_resolving subject name = bytes_eq name (codes "initiator") && subject.standing.resolves

-- these literals in this encoding at the component; with ignoreCase ASCII letters match in both cases
abbrev pub list_with : Judged → List (List Piece) → Encoding → Delimiters
list_with subject literals encoding = record { literals = literals; encoding = encoding; fold = is_told subject (codes "ignoreCase") (codes "yes") }

-- the component's delimiter of this name, of these literals in this encoding
abbrev pub delimiting_with : Judged → List ℕ → List (List Piece) → Encoding → Delimiting
delimiting_with subject name literals encoding = record {
  list = list_with subject literals encoding;
  in_nil = is_in_nil subject name;
  in_empty = is_in_empty subject name;
  resolves = is_resolving subject name;
}

-- the same, where it has literals and its encoding is told
abbrev pub delimiting_by : Judged → List ℕ → DelimiterText → Option Encoding → Option Delimiting
delimiting_by subject name Nothing encoding = None
delimiting_by subject name (Literals literals) encoding = option_map (delimiting_with subject name literals) encoding
delimiting_by subject name Malformed encoding = None
delimiting_by subject name Empty encoding = None

-- the component's delimiter of this name, if it has one
abbrev pub delimiter_of : Judged → List ℕ → Option Delimiting
delimiter_of subject name = delimiting_by subject name (delimiter_at subject name) (encoding_told (told_at subject (codes "encoding")))

-- where a separator stands of which this is told: between the slots, where nothing is
abbrev pub position_told : Told → SeparatorPosition
position_told told = if is_word (codes "prefix") told then Prefix else if is_word (codes "postfix") told then Postfix else Infix

-- which optional slots may be missing under a policy of which this is told: any, where nothing is
abbrev pub policy_told : Told → SeparatorSuppressionPolicy
policy_told told =
    if is_word (codes "never") told then Never
    else if is_word (codes "trailingEmpty") told then TrailingEmpty
    else if is_word (codes "trailingEmptyStrict") told then TrailingEmptyStrict
    else AnyEmpty

-- the component's separator, of these literals in this encoding
abbrev pub separating_with : Judged → List (List Piece) → Encoding → Separating
separating_with subject literals encoding = record {
  list = list_with subject literals encoding;
  position = position_told (told_at subject (codes "separatorPosition"));
  policy = policy_told (told_at subject (codes "separatorSuppressionPolicy"));
}

-- the same, where it has literals and its encoding is told
abbrev pub separating_by : Judged → DelimiterText → Option Encoding → Option Separating
separating_by subject Nothing encoding = None
separating_by subject (Literals literals) encoding = option_map (separating_with subject literals) encoding
separating_by subject Malformed encoding = None
separating_by subject Empty encoding = None

-- the component's separator, if it has one
abbrev pub separator_of : Judged → Option Separating
separator_of subject = separating_by subject (separator_at subject) (encoding_told (told_at subject (codes "encoding")))

-- no delimiter
abbrev pub no_delimiters : Markup
no_delimiters = record { initiator = None; terminator = None; separator = None }

-- the component's delimiters for a purpose: for unparsing none is built
abbrev pub delimiters_for : Purpose → Judged → Markup
delimiters_for Parsing subject = record {
  initiator = delimiter_of subject (codes "initiator");
  terminator = delimiter_of subject (codes "terminator");
  separator = separator_of subject;
}
delimiters_for Unparsing subject = no_delimiters

-- the component's initiator, terminator and separator
abbrev pub delimiters_of : Judged → Markup
delimiters_of subject = delimiters_for subject.purpose subject

-- the component has this delimiter
abbrev pub IsDelimiterOf : Judged → Delimiting → Type 0
IsDelimiterOf subject delimiter = ((delimiters_of subject).initiator ≡ Some delimiter) ⊎ ((delimiters_of subject).terminator ≡ Some delimiter)

-- the component has this separator
abbrev pub IsSeparatorOf : Judged → Separating → Type 0
IsSeparatorOf subject separator = (delimiters_of subject).separator ≡ Some separator
