-- Components that break no rule.
use Rattle.std.proofs.Common.{◌≡◌, refl, Option, Some, None, Bool, true, false, if◌then◌else◌, ◌||◌, arith}
use Rattle.std.specs.Option.{option_map_or}
use Rattle.dfdl_report.specs.declared.cause.SchemaCause.{SchemaCause}
use Rattle.dfdl_report.specs.declared.cause.SchemaCause.TheVariants as causes
use Rattle.dfdl_report.specs.declared.place.Place.{Place}
use Rattle.dfdl_checks.specs.Rules.{breach_of, first_breach, rules, is_unbuilt, property_twice, is_property_missing, is_value_not_carried, is_expression_not_allowed, is_literal_malformed, is_type_not_carried, is_max_length_missing, is_length_kind_not_allowed, is_length_in_characters, is_length_out_of_range, is_prefix_type_not_allowed, is_prefix_not_whole, is_pattern_refused, are_orders_apart, is_second_bit_order, is_character_not_encoded, is_alignment_not_allowed, is_pattern_malformed, are_codes_malformed, are_truths_malformed, is_pad_no_character, is_pad_malformed, is_separator_malformed, are_truth_texts_malformed, is_bytes_encoding_other, is_pad_not_encoded, is_separator_not_encoded, are_truth_texts_not_encoded, is_separator_other, are_separators_unfit, is_base_unfit, is_prefix_type_missing, is_scheme_malformed, is_scheme_unknown}
use Rattle.dfdl_checks.specs.Calculations.{is_calculation_not_allowed}
use Rattle.dfdl_checks.specs.Defaults.{is_default_not_allowed}
use Rattle.dfdl_checks.specs.Delimiters.{is_delimiter_empty, is_delimiter_malformed, is_delimiter_not_encoded}
use Rattle.dfdl_checks.specs.FillBytes.{is_fill_malformed, is_fill_other}
use Rattle.dfdl_checks.specs.Flaws.{has_flaw}
use Rattle.dfdl_checks.specs.Keys.{is_key_malformed, is_key_unfit}
use Rattle.dfdl_checks.specs.NewLines.{is_new_line_expression, is_new_line_other}
use Rattle.dfdl_checks.specs.NilValues.{is_nil_not_allowed}
use Rattle.dfdl_checks.specs.Occurrences.{are_bounds_unfit}
use Rattle.dfdl_checks.specs.Standings.{is_initiator_missing, is_unbounded_not_allowed}
use Rattle.dfdl_checks.specs.Tests.{are_tests_other, are_tests_together, is_test_text_missing}
use Rattle.dfdl_checks.specs.Nils.{is_nil_malformed, is_nil_not_encoded}
use Rattle.dfdl_checks.specs.declared.flaw.Flaw.TheVariants as flaws
use Rattle.dfdl_checks.specs.Judged.{Judged}
use Rattle.dfdl_checks.specs.declared.subject.Breach.{Breach}

-- a component keeps each rule
pub record IsKept (s : Judged) : Type 0 where
  pub built : is_unbuilt s ≡ false
  pub once : property_twice s ≡ None
  pub given : is_property_missing s ≡ false
  pub carried : is_value_not_carried s ≡ false
  pub allowed : is_expression_not_allowed s ≡ false
  pub literals : is_literal_malformed s ≡ false
  pub delimiters : is_delimiter_empty s ≡ false
  pub typed : is_type_not_carried s.kind ≡ false
  pub max_length : is_max_length_missing s ≡ false
  pub length_kind : is_length_kind_not_allowed s ≡ false
  pub length_units : is_length_in_characters s ≡ false
  pub length : is_length_out_of_range s ≡ false
  pub prefix_type : is_prefix_type_not_allowed s ≡ false
  pub prefix_length : is_prefix_not_whole s ≡ false
  pub pattern_built : is_pattern_refused s ≡ false
  pub orders : are_orders_apart s ≡ false
  pub bit_order : is_second_bit_order s ≡ false
  pub encoded : is_character_not_encoded s ≡ false
  pub alignment : is_alignment_not_allowed s ≡ false
  pub pattern : is_pattern_malformed s ≡ false
  pub codes : are_codes_malformed s ≡ false
  pub truths : are_truths_malformed s ≡ false
  pub pad_single : is_pad_no_character s ≡ false
  pub nil : is_nil_not_allowed s ≡ false
  pub by_default : is_default_not_allowed s ≡ false
  pub unbounded : is_unbounded_not_allowed s ≡ false
  pub bounds : are_bounds_unfit s ≡ false
  pub tests : are_tests_together s ≡ false
  pub keyed : is_key_unfit s ≡ false
  pub initiated : is_initiator_missing s ≡ false
  pub calculated : is_calculation_not_allowed s ≡ false
  pub scheme : is_scheme_malformed s ≡ false

-- no rule of some is broken: neither the first one nor another
first-kept : (cause : SchemaCause) (at : Option Place) (rest : Option Breach)
    → option_map_or (λ place. Some (breach_of cause place)) at rest ≡ None → (at ≡ None) × (rest ≡ None)
first-kept cause None rest none = (refl, none)
first-kept cause (Some place) rest none = grind (arith, none)

-- a rule that is told at the component is not broken
itself-kept : (b : Bool) (place : Place) → (if b then Some place else None) ≡ None → b ≡ false
itself-kept false place none = refl
itself-kept true place none = grind (arith, none)

-- a component without a breach keeps each rule
pub keeps-all : (s : Judged) → first_breach rules s ≡ None → IsKept s
unfolding rules
keeps-all s none =
    let built_at = first-kept causes.OutsideSubset _ _ none in
    let once_at = first-kept causes.PropertyTwice _ _ built_at.1 in
    let given_at = first-kept causes.PropertyMissing _ _ once_at.1 in
    let carried_at = first-kept causes.PropertyNotCarried _ _ given_at.1 in
    let allowed_at = first-kept causes.ExpressionNotAllowed _ _ carried_at.1 in
    let literals_at = first-kept causes.LiteralMalformed _ _ allowed_at.1 in
    let delimiters_at = first-kept causes.EmptyDelimiter _ _ literals_at.1 in
    let typed_at = first-kept causes.TypeNotCarried _ _ delimiters_at.1 in
    let max_length_at = first-kept causes.MaxLengthMissing _ _ typed_at.1 in
    let length_kind_at = first-kept causes.LengthKind _ _ max_length_at.1 in
    let length_units_at = first-kept causes.LengthUnits _ _ length_kind_at.1 in
    let length_at = first-kept causes.ConstantLength _ _ length_units_at.1 in
    let prefix_type_at = first-kept causes.PrefixType _ _ length_at.1 in
    let prefix_length_at = first-kept causes.PrefixLength _ _ prefix_type_at.1 in
    let pattern_built_at = first-kept causes.PatternRefused _ _ prefix_length_at.1 in
    let orders_at = first-kept causes.OrdersApart _ _ pattern_built_at.1 in
    let bit_order_at = first-kept causes.SecondBitOrder _ _ orders_at.1 in
    let encoded_at = first-kept causes.EncodingNotAllowed _ _ bit_order_at.1 in
    let alignment_at = first-kept causes.Alignment _ _ encoded_at.1 in
    let pattern_at = first-kept causes.NumberPattern _ _ alignment_at.1 in
    let codes_at = first-kept causes.SignCodes _ _ pattern_at.1 in
    let truths_at = first-kept causes.BooleanRepresentations _ _ codes_at.1 in
    let pad_single_at = first-kept causes.PadCharacter _ _ truths_at.1 in
    let nil_at = first-kept causes.NilNotAllowed _ _ pad_single_at.1 in
    let by_default_at = first-kept causes.DefaultNotAValue _ _ nil_at.1 in
    let unbounded_at = first-kept causes.UnboundedElement _ _ by_default_at.1 in
    let bounds_at = first-kept causes.OccurrenceBounds _ _ unbounded_at.1 in
    let tests_at = first-kept causes.TestsTogether _ _ bounds_at.1 in
    let keyed_at = first-kept causes.BranchKey _ _ tests_at.1 in
    let initiated_at = first-kept causes.NoInitiator _ _ keyed_at.1 in
    let calculated_at = first-kept causes.CalculationNotAllowed _ _ initiated_at.1 in
    let scheme_at = first-kept causes.EscapeScheme _ _ calculated_at.1 in
    record {
      built = itself-kept _ s.place built_at.0;
      once = once_at.0;
      given = itself-kept _ s.place given_at.0;
      carried = itself-kept _ s.place carried_at.0;
      allowed = itself-kept _ s.place allowed_at.0;
      literals = itself-kept _ s.place literals_at.0;
      delimiters = itself-kept _ s.place delimiters_at.0;
      typed = itself-kept _ s.place typed_at.0;
      max_length = itself-kept _ s.place max_length_at.0;
      length_kind = itself-kept _ s.place length_kind_at.0;
      length_units = itself-kept _ s.place length_units_at.0;
      length = itself-kept _ s.place length_at.0;
      prefix_type = itself-kept _ s.place prefix_type_at.0;
      prefix_length = itself-kept _ s.place prefix_length_at.0;
      pattern_built = itself-kept _ s.place pattern_built_at.0;
      orders = itself-kept _ s.place orders_at.0;
      bit_order = itself-kept _ s.place bit_order_at.0;
      encoded = itself-kept _ s.place encoded_at.0;
      alignment = itself-kept _ s.place alignment_at.0;
      pattern = itself-kept _ s.place pattern_at.0;
      codes = itself-kept _ s.place codes_at.0;
      truths = itself-kept _ s.place truths_at.0;
      pad_single = itself-kept _ s.place pad_single_at.0;
      nil = itself-kept _ s.place nil_at.0;
      by_default = itself-kept _ s.place by_default_at.0;
      unbounded = itself-kept _ s.place unbounded_at.0;
      bounds = itself-kept _ s.place bounds_at.0;
      tests = itself-kept _ s.place tests_at.0;
      keyed = itself-kept _ s.place keyed_at.0;
      initiated = itself-kept _ s.place initiated_at.0;
      calculated = itself-kept _ s.place calculated_at.0;
      scheme = itself-kept _ s.place scheme_at.0;
    }

-- where none of two holds, the first doesn't
pub first-of-two : (a b : Bool) → (a || b) ≡ false → a ≡ false
first-of-two a b none = grind (arith, none)

-- the literals of texts are some
pub literals-kept : (s : Judged) → IsKept s → (is_pad_malformed s || is_separator_malformed s || are_truth_texts_malformed s) ≡ false
literals-kept s kept =
    others (is_pad_malformed s) (is_separator_malformed s) (is_fill_malformed s) (are_truth_texts_malformed s) (is_nil_malformed s)
    (is_delimiter_malformed s || is_key_malformed s) kept.literals
  where
    others : (a b c d e f : Bool) → (a || b || c || d || e || f) ≡ false → (a || b || d) ≡ false
    others a b c d e f none = grind (arith, none)

-- the encoding has the characters of texts
pub encoded-kept : (s : Judged) → IsKept s → (is_pad_not_encoded s || is_separator_not_encoded s || are_truth_texts_not_encoded s) ≡ false
encoded-kept s kept =
    others (is_pad_not_encoded s) (is_separator_not_encoded s) (are_truth_texts_not_encoded s) (is_nil_not_encoded s) (is_delimiter_not_encoded s)
    (is_bytes_encoding_other s) kept.encoded
  where
    others : (a b c d e f : Bool) → (a || b || c || d || e || f) ≡ false → (a || b || c) ≡ false
    others a b c d e f none = grind (arith, none)

-- values but those of fill bytes are carried
abbrev pub AreValuesKept : Judged → Type 0
AreValuesKept s =
    (has_flaw flaws.NotCarried s || is_separator_other s || are_separators_unfit s || is_base_unfit s || is_prefix_type_missing s) ≡ false

pub values-kept : (s : Judged) → IsKept s → AreValuesKept s
values-kept s kept =
    first-of-two (has_flaw flaws.NotCarried s || is_separator_other s || are_separators_unfit s || is_base_unfit s || is_prefix_type_missing s) (is_fill_other s)
    (first-of-two
    (has_flaw flaws.NotCarried s || is_separator_other s || are_separators_unfit s || is_base_unfit s || is_prefix_type_missing s || is_fill_other s)
    (is_new_line_other s)
    (first-of-two
    (has_flaw flaws.NotCarried s || is_separator_other s || are_separators_unfit s || is_base_unfit s || is_prefix_type_missing s || is_fill_other s
    || is_new_line_other s)
    (is_scheme_unknown s)
    (first-of-two
    (has_flaw flaws.NotCarried s || is_separator_other s || are_separators_unfit s || is_base_unfit s || is_prefix_type_missing s || is_fill_other s
    || is_new_line_other s || is_scheme_unknown s)
    (are_tests_other s)
    (first-of-two
    (has_flaw flaws.NotCarried s || is_separator_other s || are_separators_unfit s || is_base_unfit s || is_prefix_type_missing s || is_fill_other s
    || is_new_line_other s || is_scheme_unknown s || are_tests_other s)
    s.group_is_unknown kept.carried))))

-- each property that applies is given
pub given-kept : (s : Judged) → IsKept s → has_flaw flaws.Missing s ≡ false
given-kept s kept = first-of-two (has_flaw flaws.Missing s) (is_test_text_missing s) kept.given

-- no property that applies has an expression where none may stand
pub expressions-kept : (s : Judged) → IsKept s → has_flaw flaws.Expression s ≡ false
expressions-kept s kept = first-of-two (has_flaw flaws.Expression s) (is_new_line_expression s) kept.allowed

-- where none of some holds, the second doesn't
pub second-fails : (a b c d e : Bool) → (a || b || c || d || e) ≡ false → b ≡ false
second-fails a b c d e none = grind (arith, none)
