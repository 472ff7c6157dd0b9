-- Which components a property applies to.
use Rattle.std.specs.Prelude.{Bool, not, nat_lt, ◌==◌, ◌&&◌, ◌||◌, codes}
use Rattle.dfdl_checks.specs.Boxes.{is_explicit_box, is_implicit_string}
use Rattle.dfdl_checks.specs.Delimiters.{is_delimited, is_separated}
use Rattle.dfdl_checks.specs.Nils.{is_nil_by_value}
use Rattle.dfdl_checks.specs.Occurrences.{is_counted, is_counted_by_expression}
use Rattle.dfdl_checks.specs.Orders.{is_least_first}
use Rattle.dfdl_checks.specs.NumberTexts.{base_of}
use Rattle.dfdl_checks.specs.Pads.{is_padded_text}
use Rattle.dfdl_checks.specs.Subjects.{is_any_element, is_bare, is_boxed, is_delimited_bytes, is_explicit, is_nillable, is_unframed, is_prefixed, is_standard, is_text, is_text_boolean, is_text_number, is_zoned, is_element, is_simple, is_string, is_sequence, is_choice, is_hidden, is_plain_group, is_represented, is_decimal, value_bits, is_binary, is_binary_boolean, is_binary_number, is_explicit_binary, is_packed, is_word, told_at}
use Rattle.dfdl_checks.specs.Judged.{Judged}
use Rattle.dfdl_checks.specs.Tests.{is_tested}
use Rattle.dfdl_checks.specs.declared.applicability.Bearers.{Bearers}
use Rattle.dfdl_checks.specs.declared.applicability.Bearers.TheVariants.{EveryComponent, FramedComponents, Elements, OtherElements, SimpleElements, NillableElements, TextNillables, RepresentedElements, BoxedElements, Strings, PaddedStrings, PaddedBooleans, PaddedNumbers, BinaryNumbers, BinaryBooleans, OrderedBinaries, ExplicitBinaries, ExplicitBoxes, ImplicitStrings, PrefixedElements, Texts, TextNumbers, TextBooleans, StandardNumbers, ZonedNumbers, PatternNumbers, LooseTexts, PackedNumbers, BinaryDecimals, PatternElements, DelimitedBytes, DelimitedComponents, Groups, Sequences, SeparatedSequences, EmptySequences, Choices, CountedElements, CountedByExpression, TestedComponents, KeyedBranches}

-- a binary number or boolean whose bytes have an order: of a type with more than 8 bits, or with its least significant bits
-- first
abbrev pub is_ordered_binary : Judged → Bool
is_ordered_binary subject = is_binary subject && (nat_lt 8 (value_bits subject.kind) || is_least_first subject)

-- a component is one of these
abbrev pub is_bearer : Bearers → Judged → Bool
is_bearer EveryComponent subject = not (is_bare subject.kind)
is_bearer FramedComponents subject = not (is_unframed subject.kind)
is_bearer Elements subject = is_any_element subject.kind
is_bearer OtherElements subject = is_element subject.kind && not (is_boxed subject) && not (is_binary subject)
is_bearer SimpleElements subject = is_element subject.kind && is_simple subject.kind
is_bearer NillableElements subject = is_nillable subject
is_bearer TextNillables subject = is_nillable subject && not (is_nil_by_value subject)
is_bearer RepresentedElements subject = is_represented subject.kind
is_bearer BoxedElements subject = is_boxed subject
is_bearer Strings subject = is_string subject.kind
is_bearer PaddedStrings subject = is_padded_text subject && is_string subject.kind
is_bearer PaddedBooleans subject = is_padded_text subject && is_text_boolean subject
is_bearer PaddedNumbers subject = is_padded_text subject && is_text_number subject
is_bearer Texts subject = is_text subject
is_bearer TextNumbers subject = is_text_number subject
is_bearer TextBooleans subject = is_text_boolean subject
is_bearer StandardNumbers subject = is_standard subject
is_bearer ZonedNumbers subject = is_zoned subject
is_bearer PatternNumbers subject = is_zoned subject || (is_standard subject && base_of subject == 10)
is_bearer LooseTexts subject = (is_text_number subject || is_text_boolean subject) && not (is_explicit subject)
is_bearer BinaryNumbers subject = is_binary_number subject
is_bearer BinaryBooleans subject = is_binary_boolean subject
is_bearer OrderedBinaries subject = is_ordered_binary subject
is_bearer ExplicitBinaries subject = is_explicit_binary subject
is_bearer ExplicitBoxes subject = is_explicit_box subject
is_bearer ImplicitStrings subject = is_implicit_string subject
is_bearer PrefixedElements subject = is_prefixed subject
is_bearer PackedNumbers subject = is_packed subject
is_bearer BinaryDecimals subject = is_decimal subject.kind && is_binary_number subject
is_bearer PatternElements subject = is_element subject.kind && is_word (codes "pattern") (told_at subject (codes "lengthKind"))
is_bearer DelimitedBytes subject = is_delimited_bytes subject
is_bearer DelimitedComponents subject = is_delimited subject
is_bearer Groups subject = is_plain_group subject.kind
is_bearer Sequences subject = is_sequence subject.kind
is_bearer SeparatedSequences subject = is_separated subject
is_bearer EmptySequences subject = is_hidden subject.kind || (is_sequence subject.kind && subject.facts.is_empty)
is_bearer Choices subject = is_choice subject.kind
is_bearer CountedElements subject = is_counted subject
is_bearer CountedByExpression subject = is_counted_by_expression subject
is_bearer TestedComponents subject = is_tested subject
is_bearer KeyedBranches subject = subject.standing.needs_key
