-- The rules that a component has to keep, and the first that it breaks. The numbers are those of the causes.
use Rattle.std.specs.Prelude.{ℕ, List, [], ◌∷◌, Bool, true, false, not, ◌==◌, ◌&&◌, ◌||◌, Option, Some, None, is_some, option_and_then, codes, if◌then◌else◌}
use Rattle.std.specs.Option.{option_map_or, option_or}
use Rattle.dfdl_forms.specs.declared.packed.PackedRep.{PackedRep}
use Rattle.dfdl_forms.specs.declared.simple.Simple.TheVariants.{Decimal, Integer, NonNegativeInteger}
use Rattle.dfdl_report.specs.declared.cause.SchemaCause.{SchemaCause}
use Rattle.dfdl_report.specs.declared.cause.SchemaCause.TheVariants as causes
use Rattle.dfdl_report.specs.declared.place.Place.{Place}
use Rattle.dfdl_escape_schemes.specs.Schemes.{is_malformed as is_malformed_scheme, is_unknown}
use Rattle.dfdl_scope.specs.Scoping.{repeated_at}
use Rattle.dfdl_scope.specs.Table.{names_of, property_table}
use Rattle.dfdl_checks.specs.Booleans.{falsity_told, truth_told}
use Rattle.dfdl_checks.specs.BuiltTypes.{is_built_type}
use Rattle.dfdl_checks.specs.Calculations.{is_calculation_not_allowed}
use Rattle.dfdl_checks.specs.Boxes.{is_box_too_long, is_implicit_box}
use Rattle.dfdl_checks.specs.Defaults.{is_default_not_allowed}
use Rattle.dfdl_checks.specs.Delimiters.{is_delimiter_empty, is_delimiter_malformed, is_delimiter_not_encoded}
use Rattle.dfdl_checks.specs.Encodings.{encoding_told, is_other_encoding}
use Rattle.dfdl_checks.specs.FillBytes.{is_fill_malformed, is_fill_other}
use Rattle.dfdl_checks.specs.Keys.{is_key_malformed, is_key_unfit}
use Rattle.dfdl_checks.specs.Lengths.{constant_length, size_within}
use Rattle.dfdl_checks.specs.NewLines.{is_new_line_expression, is_new_line_other}
use Rattle.dfdl_checks.specs.NilValues.{is_nil_not_allowed}
use Rattle.dfdl_checks.specs.Nils.{is_nil_malformed, is_nil_not_encoded}
use Rattle.dfdl_checks.specs.Orders.{is_least_first, is_same_order, told_order}
use Rattle.dfdl_checks.specs.BooleanTexts.{are_truth_texts_outside, false_texts, is_list_malformed, is_list_other, true_texts}
use Rattle.dfdl_checks.specs.NumberTexts.{base_of, decimal_at, grouping_at, pattern_at, pattern_in, pattern_of, zoned_form_of}
use Rattle.dfdl_checks.specs.Pads.{is_malformed, is_other, is_other_told, is_outside, is_pad_outside, is_padded_text, pad_at, single}
use Rattle.dfdl_forms.specs.NumberForms.{are_plain}
use Rattle.dfdl_forms.specs.declared.number_pattern.NumberPattern.{NumberPattern}
use Rattle.dfdl_checks.specs.Packed.{codes_told, nibbles_within, rep_of}
use Rattle.dfdl_checks.specs.Occurrences.{are_bounds_unfit, is_once}
use Rattle.dfdl_checks.specs.Prefixes.{is_name_told, is_no_prefix_type, is_not_whole, prefix_subject}
use Rattle.dfdl_checks.specs.Subjects.{is_boxed, is_delimited_bytes, is_element, is_choice, is_bare, is_binary, is_binary_boolean, is_binary_number, is_decimal, is_explicit, is_explicit_binary, is_packed, is_prefixed, is_simple, is_standard, is_text, is_text_boolean, is_text_number, is_told, is_zoned, told_at, value_bits}
use Rattle.dfdl_checks.specs.Standings.{is_initiator_missing, is_unbounded_not_allowed}
use Rattle.dfdl_checks.specs.Tests.{are_tests_other, are_tests_together, has_later_statements, is_test_text_missing}
use Rattle.dfdl_checks.specs.Flaws.{has_flaw}
use Rattle.dfdl_checks.specs.declared.flaw.Flaw.TheVariants as flaws
use Rattle.dfdl_checks.specs.declared.purpose.Purpose.{Purpose}
use Rattle.dfdl_checks.specs.declared.purpose.Purpose.TheVariants.{Parsing, Unparsing}
use Rattle.dfdl_checks.specs.declared.subject.Kind.{Kind}
use Rattle.dfdl_checks.specs.declared.subject.Kind.TheVariants.{SimpleElement, UncarriedElement, PrefixNumber}
use Rattle.dfdl_checks.specs.Judged.{Judged}
use Rattle.dfdl_checks.specs.declared.subject.Breach.{Breach}

-- an element of a simple type that is carried, or the type of a prefix, which is built later
abbrev pub has_later_type : Purpose → Kind → Bool
has_later_type purpose (SimpleElement simple) = not (is_built_type purpose simple)
has_later_type purpose (PrefixNumber simple) = not (is_built_type purpose simple)
has_later_type purpose _ = false

-- for unparsing, a choice
abbrev pub is_later_group : Purpose → Kind → Bool
is_later_group Parsing kind = false
is_later_group Unparsing kind = is_choice kind

-- for unparsing, an element that does not occur exactly once, that may be nil or that has a default
abbrev pub is_later_element : Purpose → Judged → Bool
is_later_element Parsing subject = false
is_later_element Unparsing subject = not (is_once subject.facts.bounds) || subject.facts.is_nillable || is_some subject.facts.default

-- a component of a kind that is built later, whatever its properties are but for the kind of its count
abbrev pub is_later_component : Judged → Bool
is_later_component subject =
    is_later_group subject.purpose subject.kind || has_later_type subject.purpose subject.kind || has_later_statements subject.purpose subject
    || (is_element subject.kind && is_later_element subject.purpose subject)

-- 3: the component, or the value of a property that applies to it, is of a form that is built later
abbrev pub is_unbuilt : Judged → Bool
is_unbuilt subject = is_later_component subject || has_flaw flaws.Unbuilt subject

-- 6: where the component's chain first gives a property of the profile that is given again
abbrev pub property_twice : Judged → Option Place
property_twice subject = repeated_at subject.chain (names_of property_table)

-- 7: a property that applies to the component is given nowhere, and no value stands in its place; or one of its tests is of a
-- pattern or an expression that isn't given
abbrev pub is_property_missing : Judged → Bool
is_property_missing subject = has_flaw flaws.Missing subject || is_test_text_missing subject

-- a separator of a text number is no single character
abbrev pub is_separator_other : Judged → Bool
is_separator_other subject =
    is_standard subject
    && (is_other_told (told_at subject (codes "textStandardDecimalSeparator")) || is_other_told (told_at subject (codes "textStandardGroupingSeparator")))

-- separators don't go with a pattern, where all are told
abbrev pub are_unfit : Option NumberPattern → Option ℕ → Option ℕ → Bool
are_unfit (Some pattern) (Some decimal) (Some grouping) = not (are_plain (Some pattern) decimal grouping)
are_unfit _ _ _ = false

-- the separators of a text number that its pattern uses are a digit, or the same
abbrev pub are_separators_unfit : Judged → Bool
are_separators_unfit subject =
    is_standard subject
    && are_unfit (pattern_in (base_of subject) subject) (single (decimal_at subject)) (single (grouping_at subject))

-- a text number of type decimal in another base than ten
abbrev pub is_base_unfit : Judged → Bool
is_base_unfit subject = is_standard subject && (is_decimal subject.kind && not (base_of subject == 10))

-- an element with a length prefix whose type is named by nothing's name
abbrev pub is_prefix_type_missing : Judged → Bool
is_prefix_type_missing subject =
    is_prefixed subject && (is_name_told (told_at subject (codes "prefixLengthType")) && not (is_some subject.prefix))

-- a text whose escape scheme is named by nothing's name
abbrev pub is_scheme_unknown : Judged → Bool
is_scheme_unknown subject = is_text subject && is_unknown subject.scheme

-- 9: a property that applies to the component has a value that is none of the profile, or that doesn't go with the others,
-- or names nothing; or a value of one of its tests is none
abbrev pub is_value_not_carried : Judged → Bool
is_value_not_carried subject =
    has_flaw flaws.NotCarried subject || is_separator_other subject || are_separators_unfit subject || is_base_unfit subject
    || is_prefix_type_missing subject || is_fill_other subject || is_new_line_other subject || is_scheme_unknown subject
    || are_tests_other subject || subject.group_is_unknown

-- 10: a property that applies to the component has an expression where none may stand
abbrev pub is_expression_not_allowed : Judged → Bool
is_expression_not_allowed subject = has_flaw flaws.Expression subject || is_new_line_expression subject

-- a text that is padded or trimmed, whose pad character's text is no string literal and no list of them
abbrev pub is_pad_malformed : Judged → Bool
is_pad_malformed subject = is_padded_text subject && is_malformed (pad_at subject)

-- a text number with such a separator
abbrev pub is_separator_malformed : Judged → Bool
is_separator_malformed subject = is_standard subject && (is_malformed (decimal_at subject) || is_malformed (grouping_at subject))

-- a text boolean whose texts are no list of string literals
abbrev pub are_truth_texts_malformed : Judged → Bool
are_truth_texts_malformed subject =
    is_text_boolean subject && (is_list_malformed (true_texts subject) || is_list_malformed (false_texts subject))

-- 11: a string literal of the component is none
abbrev pub is_literal_malformed : Judged → Bool
is_literal_malformed subject =
    is_pad_malformed subject || is_separator_malformed subject || is_fill_malformed subject || are_truth_texts_malformed subject || is_nil_malformed subject
    || (is_delimiter_malformed subject || is_key_malformed subject)

-- 13: an element of a simple type that is not carried
abbrev pub is_type_not_carried : Kind → Bool
is_type_not_carried UncarriedElement = true
is_type_not_carried _ = false

-- 14: a string, or an element of type hexBinary, whose length is that of its type, which has no greatest length
abbrev pub is_max_length_missing : Judged → Bool
is_max_length_missing subject = is_implicit_box subject && not (is_some subject.facts.max_length)

-- the length is delimited or by a pattern
abbrev pub is_length_by_content : Judged → Bool
is_length_by_content subject =
    is_told subject (codes "lengthKind") (codes "delimited") || is_told subject (codes "lengthKind") (codes "pattern")

-- the numbers of these types have no size of their own
abbrev pub is_unsized : Kind → Bool
is_unsized (SimpleElement Integer) = true
is_unsized (SimpleElement NonNegativeInteger) = true
is_unsized (SimpleElement Decimal) = true
is_unsized (PrefixNumber Integer) = true
is_unsized (PrefixNumber NonNegativeInteger) = true
is_unsized _ = false

-- the length is that of the type, and the type has none, or the number is packed
abbrev pub is_length_without_size : Judged → Bool
is_length_without_size subject =
    (is_unsized subject.kind || is_some (rep_of subject)) && is_told subject (codes "lengthKind") (codes "implicit")

-- a binary number of delimited length, with a length by a pattern, or with the length of a type that has none
abbrev pub is_number_length_not_allowed : Judged → Bool
is_number_length_not_allowed subject = is_binary_number subject && (is_length_by_content subject || is_length_without_size subject)

-- a binary boolean of delimited length
abbrev pub is_delimited_boolean : Judged → Bool
is_delimited_boolean subject = is_binary_boolean subject && is_told subject (codes "lengthKind") (codes "delimited")

-- a text number or boolean with the length of its type
abbrev pub is_text_without_size : Judged → Bool
is_text_without_size subject =
    (is_text_number subject || is_text_boolean subject) && is_told subject (codes "lengthKind") (codes "implicit")

-- 15: a number or boolean with a kind of length that it can't have
abbrev pub is_length_kind_not_allowed : Judged → Bool
is_length_kind_not_allowed subject =
    is_number_length_not_allowed subject || is_delimited_boolean subject || is_text_without_size subject

-- the component has a length of its own or a length prefix
abbrev pub is_length_told : Judged → Bool
is_length_told subject = is_explicit subject || is_prefixed subject

-- a component with such a length and without characters
abbrev pub is_without_characters : Judged → Bool
is_without_characters subject = is_length_told subject && (is_binary subject || (is_boxed subject && not (is_text subject)))

-- 16: what is no text has a length that is counted in characters
abbrev pub is_length_in_characters : Judged → Bool
is_length_in_characters subject = is_without_characters subject && is_told subject (codes "lengthUnits") (codes "characters")

-- a length that a field can have: of a packed representation, else of a binary value of at most so many bits
abbrev pub is_size : Option PackedRep → ℕ → Option ℕ → Bool
is_size None most length = is_some (size_within most length)
is_size (Some rep) most length = is_some (nibbles_within rep length)

-- the length is constant, and the component's field can have it
abbrev pub has_size : Judged → Bool
has_size subject = is_size (rep_of subject) (value_bits subject.kind) (constant_length subject)

-- the length is constant, and the component's field can't have it
abbrev pub is_no_size : Judged → Bool
is_no_size subject = is_some (constant_length subject) && not (has_size subject)

-- a binary number or boolean with a constant length that its field can't have
abbrev pub is_field_out_of_range : Judged → Bool
is_field_out_of_range subject = is_explicit_binary subject && is_no_size subject

-- 17: a constant length that the component's field can't have, or that its box can't
abbrev pub is_length_out_of_range : Judged → Bool
is_length_out_of_range subject = is_field_out_of_range subject || is_box_too_long subject

-- 18: an element with a length prefix whose type is no integer type, or has a length that is neither constant nor of its type
abbrev pub is_prefix_type_not_allowed : Judged → Bool
is_prefix_type_not_allowed subject = is_prefixed subject && is_no_prefix_type subject.prefix

-- 19: an element whose length prefix counts itself, and is no whole number of the units that it counts
abbrev pub is_prefix_not_whole : Judged → Bool
is_prefix_not_whole subject = option_map_or (is_not_whole subject) (prefix_subject subject) false

-- 20: a component one of whose patterns can't be built: of a test, or of the length of an element
abbrev pub is_pattern_refused : Judged → Bool
is_pattern_refused subject = subject.pattern_is_refused

-- 21: a binary number whose least significant bits come first, of which littleEndian isn't told
abbrev pub are_orders_apart : Judged → Bool
are_orders_apart subject =
    is_binary_number subject && is_least_first subject && not (is_told subject (codes "byteOrder") (codes "littleEndian"))

-- 22: an order of bits that isn't that of the schema's root; a sequence that stands for a hidden group has none, and an element whose value
-- is calculated neither
abbrev pub is_second_bit_order : Judged → Bool
is_second_bit_order subject = not (is_bare subject.kind) && not (is_same_order (told_order subject) subject.root_bits_by)

-- a text that is padded or trimmed, whose encoding lacks its pad character
abbrev pub is_pad_not_encoded : Judged → Bool
is_pad_not_encoded subject = is_padded_text subject && is_pad_outside subject

-- a text number whose encoding lacks a separator
abbrev pub is_separator_not_encoded : Judged → Bool
is_separator_not_encoded subject = is_standard subject && (is_outside subject (decimal_at subject) || is_outside subject (grouping_at subject))

-- a text boolean whose encoding lacks a character of its texts
abbrev pub are_truth_texts_not_encoded : Judged → Bool
are_truth_texts_not_encoded subject = is_text_boolean subject && are_truth_texts_outside subject

-- an element of type hexBinary of delimited length, of whose encoding another than ISO-8859-1 is told
abbrev pub is_bytes_encoding_other : Judged → Bool
is_bytes_encoding_other subject = is_delimited_bytes subject && is_other_encoding (encoding_told (told_at subject (codes "encoding")))

-- 23: the component's encoding lacks a character of its literals, or is none of its bytes
abbrev pub is_character_not_encoded : Judged → Bool
is_character_not_encoded subject =
    is_pad_not_encoded subject || is_separator_not_encoded subject || are_truth_texts_not_encoded subject || is_nil_not_encoded subject
    || is_delimiter_not_encoded subject || is_bytes_encoding_other subject

-- 24: an implicit alignment of what is no simple element
abbrev pub is_alignment_not_allowed : Judged → Bool
is_alignment_not_allowed subject = not (is_simple subject.kind || is_bare subject.kind) && is_told subject (codes "alignment") (codes "implicit")

-- a text number in base ten whose pattern, where it is told, is none
abbrev pub is_standard_pattern_malformed : Judged → Bool
is_standard_pattern_malformed subject =
    is_standard subject && (base_of subject == 10 && (is_some (pattern_at subject) && not (is_some (pattern_of (pattern_at subject)))))

-- a zoned number of the type whose pattern, where it is told, is none of zoned numbers
abbrev pub is_zoned_pattern_malformed : Judged → Kind → Bool
is_zoned_pattern_malformed subject (SimpleElement simple) = is_zoned subject && (is_some (pattern_at subject) && not (is_some (zoned_form_of subject simple)))
is_zoned_pattern_malformed subject (PrefixNumber simple) = is_zoned subject && (is_some (pattern_at subject) && not (is_some (zoned_form_of subject simple)))
is_zoned_pattern_malformed subject _ = false

-- 25: a text number whose pattern is none
abbrev pub is_pattern_malformed : Judged → Bool
is_pattern_malformed subject = is_standard_pattern_malformed subject || is_zoned_pattern_malformed subject subject.kind

-- 26: a packed number whose sign codes aren't four that are allowed
abbrev pub are_codes_malformed : Judged → Bool
are_codes_malformed subject = is_packed subject && not (is_some (codes_told (told_at subject (codes "binaryPackedSignCodes"))))

-- the number of true is one of 32 bits, or there is none
abbrev pub has_truth : Judged → Bool
has_truth subject = is_some (truth_told (told_at subject (codes "binaryBooleanTrueRep")))

-- the number of false is one of 32 bits
abbrev pub has_falsity : Judged → Bool
has_falsity subject = is_some (falsity_told (told_at subject (codes "binaryBooleanFalseRep")))

-- each number of a boolean is one of 32 bits, and only that of true may be lacking
abbrev pub are_truths_told : Judged → Bool
are_truths_told subject = has_truth subject && has_falsity subject

-- a binary boolean without a number of false, or with a number past 32 bits
abbrev pub are_truth_numbers_malformed : Judged → Bool
are_truth_numbers_malformed subject = is_binary_boolean subject && not (are_truths_told subject)

-- a text boolean of whose texts there are none, or some that are more than characters
abbrev pub are_truth_texts_other : Judged → Bool
are_truth_texts_other subject = is_text_boolean subject && (is_list_other (true_texts subject) || is_list_other (false_texts subject))

-- 27: a boolean whose numbers or texts can't stand for true and false
abbrev pub are_truths_malformed : Judged → Bool
are_truths_malformed subject = are_truth_numbers_malformed subject || are_truth_texts_other subject

-- 28: a text that is padded or trimmed, whose pad character is no single character
abbrev pub is_pad_no_character : Judged → Bool
is_pad_no_character subject = is_padded_text subject && is_other (pad_at subject)

-- 42: a text whose escape scheme is malformed
abbrev pub is_scheme_malformed : Judged → Bool
is_scheme_malformed subject = is_text subject && is_malformed_scheme subject.scheme

-- a rule: its cause, and where a component breaks it, if it does
pub record Rule : Type 0 where
  pub cause : SchemaCause
  pub broken_at : Judged → Option Place

-- a rule that is told at the component itself
abbrev pub at_itself : SchemaCause → (Judged → Bool) → Rule
at_itself cause is_broken = record { cause = cause; broken_at = λ subject. if is_broken subject then Some subject.place else None }

-- the rules, in the order of their numbers
unfoldable pub rules : List Rule
rules =
    at_itself causes.OutsideSubset is_unbuilt
    ∷ record { cause = causes.PropertyTwice; broken_at = property_twice }
    ∷ at_itself causes.PropertyMissing is_property_missing
    ∷ at_itself causes.PropertyNotCarried is_value_not_carried
    ∷ at_itself causes.ExpressionNotAllowed is_expression_not_allowed
    ∷ at_itself causes.LiteralMalformed is_literal_malformed
    ∷ at_itself causes.EmptyDelimiter is_delimiter_empty
    ∷ at_itself causes.TypeNotCarried (λ subject. is_type_not_carried subject.kind)
    ∷ at_itself causes.MaxLengthMissing is_max_length_missing
    ∷ at_itself causes.LengthKind is_length_kind_not_allowed
    ∷ at_itself causes.LengthUnits is_length_in_characters
    ∷ at_itself causes.ConstantLength is_length_out_of_range
    ∷ at_itself causes.PrefixType is_prefix_type_not_allowed
    ∷ at_itself causes.PrefixLength is_prefix_not_whole
    ∷ at_itself causes.PatternRefused is_pattern_refused
    ∷ at_itself causes.OrdersApart are_orders_apart
    ∷ at_itself causes.SecondBitOrder is_second_bit_order
    ∷ at_itself causes.EncodingNotAllowed is_character_not_encoded
    ∷ at_itself causes.Alignment is_alignment_not_allowed
    ∷ at_itself causes.NumberPattern is_pattern_malformed
    ∷ at_itself causes.SignCodes are_codes_malformed
    ∷ at_itself causes.BooleanRepresentations are_truths_malformed
    ∷ at_itself causes.PadCharacter is_pad_no_character
    ∷ at_itself causes.NilNotAllowed is_nil_not_allowed
    ∷ at_itself causes.DefaultNotAValue is_default_not_allowed
    ∷ at_itself causes.UnboundedElement is_unbounded_not_allowed
    ∷ at_itself causes.OccurrenceBounds are_bounds_unfit
    ∷ at_itself causes.TestsTogether are_tests_together
    ∷ at_itself causes.BranchKey is_key_unfit
    ∷ at_itself causes.NoInitiator is_initiator_missing
    ∷ at_itself causes.CalculationNotAllowed is_calculation_not_allowed
    ∷ at_itself causes.EscapeScheme is_scheme_malformed
    ∷ []

-- a breach of a rule
abbrev pub breach_of : SchemaCause → Place → Breach
breach_of cause place = record { cause = cause; place = place }

-- the first of some rules that the component breaks
abbrev pub first_breach : List Rule → Judged → Option Breach
first_breach [] subject = None
first_breach (rule ∷ others) subject =
    option_map_or (λ place. Some (breach_of rule.cause place)) (rule.broken_at subject) (first_breach others subject)

-- the first rule that the type of the component's prefix breaks
abbrev pub prefix_breach : Judged → Option Breach
prefix_breach subject = option_and_then (first_breach rules) (prefix_subject subject)

-- the first rule that the component breaks, and else the first that the type of its prefix does
abbrev pub breach_of_component : Judged → Option Breach
breach_of_component subject = option_or (first_breach rules subject) (prefix_breach subject)
