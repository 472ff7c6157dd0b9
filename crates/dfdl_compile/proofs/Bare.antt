-- No component for unparsing has statements, fill, delimiters, a box or a length prefix.
use Rattle.std.proofs.Common.{◌≡◌, ℕ, ◌+◌, ◌-◌, ◌≤◌, Bool, true, false, List, [], length, nat_lt, ◌||◌, All, Option, None, Some, option_map, ap, sym, subst, ◌∙◌, refl, arith}
use Rattle.dfdl_documents.specs.Documents.{SchemaDocument}
use Rattle.dfdl_components.specs.declared.site.Site.{Site}
use Rattle.dfdl_components.specs.Sites.{IsSite, role_of}
use Rattle.dfdl_checks.specs.declared.expression_tests.CheckForm.{CheckForm}
use Rattle.dfdl_checks.specs.declared.measures.MeasureForm.{MeasureForm}
use Rattle.dfdl_checks.specs.declared.prefixes.PrefixForm.{PrefixForm}
use Rattle.dfdl_checks.specs.declared.delimiters.Separating.{Separating}
use Rattle.dfdl_checks.specs.declared.purpose.Purpose.{Purpose}
use Rattle.dfdl_checks.specs.declared.purpose.Purpose.TheVariants.{Unparsing}
use Rattle.dfdl_checks.specs.declared.subject.Kind.{Kind}
use Rattle.dfdl_checks.specs.declared.subject.Kind.TheVariants as kind
use Rattle.dfdl_chains.specs.Everywhere.{all_sites}
use Rattle.dfdl_chains.specs.Kinds.{kind_at}
use Rattle.dfdl_chains.specs.Parts.{is_component}
use Rattle.dfdl_breaches.specs.Judging.{built_checks_at, built_settings_at, built_tests_at, calculation_at, count_at, form_of_prefix, hidden_at, judgement_at, measure_at}
use Rattle.dfdl_breaches.specs.declared.judgement.Judgement.{Judgement}
use Rattle.dfdl_terms.specs.declared.statement.PatternTest.{PatternTest}
use Rattle.dfdl_terms.specs.declared.prefix.Measure.{Measure}
use Rattle.dfdl_terms.specs.declared.prefix.Prefix.{Prefix}
use Rattle.dfdl_rows.specs.Components.{Schema, IsBareComponent}
use Rattle.dfdl_rows.specs.Framing.{has_framing}
use Rattle.dfdl_rows.specs.Times.{question_of}
use Rattle.dfdl_rows.specs.declared.component.ContentBox.TheVariants.{Unbounded}
use Rattle.dfdl_rows.specs.declared.component.LeafLength.TheVariants.{Own}
use Rattle.dfdl_compile.specs.Components.{box_by, component_at, components_of, counted_by, dispatch_at, framing_of, hiding_by, leaf_length_by, measure_by, number_if, prefix_by, prefix_number, separator_number}
use Rattle.dfdl_chains.specs.declared.settings.Setter.{Setter}
use Rattle.dfdl_compile.specs.Statements.{count_number, first_statement, if_first, if_last, is_set_first, measure_number, opening_count}
use Rattle.dfdl_compile.specs.Delimiters.{separated_by}
use Rattle.dfdl_compile.proofs.Fitting.{by_key, all_within, by_calculation, calculation_or, each, measured, of_kind, often}
use Rattle.dfdl_compile.proofs.Hiding.{judgement_if, none_unparsed}
use Rattle.dfdl_compile.proofs.Calculating.{none_calculated}

-- neither a statement nor fill nor a delimiter nor a separator nor a box nor a length prefix is told of an element, nor an expression for its
-- length or the number of its occurrences, and it occurs once, which isn't tried
record IsBare (documents : List SchemaDocument) (first : ℕ) (own : Site) (told : Judgement) : Type 0 where
  unframed : has_framing (framing_of documents first own told) ≡ false
  unopened : (framing_of documents first own told).openings.count ≡ 0
  unconcluded : (framing_of documents first own told).behind.count ≡ 0
  unboxed : told.size ≡ None
  unprefixed : told.prefix ≡ None
  unmeasured : told.measure ≡ None
  uncounted : told.count ≡ None
  unseparated : told.markup.separator ≡ None
  once : told.occurs.least ≤ 1
  untried : told.occurs.further ≡ 0

-- no component has any of them for unparsing
module _ (refused : Site → Bool) (documents : List SchemaDocument)
    (none : (refused : Site → Bool) (documents : List SchemaDocument) (own : Site) → form_of_prefix Unparsing refused documents own ≡ None)
    (untested : (refused : Site → Bool) (documents : List SchemaDocument) (own : Site) → built_tests_at Unparsing refused documents own ≡ [])
    (unchecked : (refused : Site → Bool) (documents : List SchemaDocument) (own : Site) → built_checks_at Unparsing refused documents own ≡ [])
    (uncalculated : (refused : Site → Bool) (documents : List SchemaDocument) (own : Site) → calculation_at Unparsing refused documents own ≡ None)
    (unset : (documents : List SchemaDocument) (own : Site) → built_settings_at Unparsing documents own ≡ [])
    (unhidden : (documents : List SchemaDocument) (own : Site) → hidden_at Unparsing documents own ≡ None)
    (unmeasured : (refused : Site → Bool) (documents : List SchemaDocument) (own : Site) → measure_at Unparsing refused documents own ≡ None)
    (uncounted : (refused : Site → Bool) (documents : List SchemaDocument) (own : Site) → count_at Unparsing refused documents own ≡ None) where
  none_first : (b : Bool) (n : ℕ) → n ≡ 0 → if_first b n ≡ 0
  none_first true n is = is
  none_first false n is = refl

  none_last : (b : Bool) (n : ℕ) → n ≡ 0 → if_last b n ≡ 0
  none_last true n is = refl
  none_last false n is = is

  none_before : (own : Site) → length (built_tests_at Unparsing refused documents own) ≡ 0
  none_before own = ap (λ (ts : List PatternTest). length ts) (untested refused documents own)

  none_opened : (own : Site) (b : Bool) → if_first b (opening_count (built_settings_at Unparsing documents own)) ≡ 0
  none_opened own b = none_first b (opening_count (built_settings_at Unparsing documents own)) (ap opening_count (unset documents own))

  none_set : (own : Site) (b : Bool)
      → if_first b (length (built_settings_at Unparsing documents own) - opening_count (built_settings_at Unparsing documents own)) ≡ 0
  none_set own b =
      none_first b (length (built_settings_at Unparsing documents own) - opening_count (built_settings_at Unparsing documents own))
      (ap (λ (ss : List Setter). length ss - opening_count ss) (unset documents own))

  none_framed : (tests settings : ℕ) → tests ≡ 0 → settings ≡ 0
      → (nat_lt 0 tests || nat_lt 0 settings || false || false || false || false || false) ≡ false
  none_framed tests settings none unset =
      ap (λ (count : ℕ). nat_lt 0 count || nat_lt 0 settings || false || false || false || false || false) none
      ∙ ap (λ (count : ℕ). nat_lt 0 0 || nat_lt 0 count || false || false || false || false || false) unset

  none_behind : (own : Site) (b : Bool)
      → if_last b (length (built_settings_at Unparsing documents own)) + (length (built_checks_at Unparsing refused documents own) + 0) ≡ 0
  none_behind own b =
      let checks = ap (λ (cs : List CheckForm). length cs) (unchecked refused documents own) in
      let settings = none_last b (length (built_settings_at Unparsing documents own)) (ap (λ (ss : List Setter). length ss) (unset documents own)) in
      omega (arith, checks, settings)

  nothing_first : (b : Bool) → if_first b 0 ≡ 0
  nothing_first true = refl
  nothing_first false = refl

  nothing_behind : (b : Bool) → if_last b 0 + (0 + 0) ≡ 0
  nothing_behind true = refl
  nothing_behind false = refl

  bare_by : (first : ℕ) (own : Site) (b : Bool) → IsBare documents first own (judgement_if Unparsing refused documents own b)
  unfolding judgement_if
  bare_by first own true = record {
    unframed = none_framed (length (built_tests_at Unparsing refused documents own)) _ (none_before own) (none_set own (is_set_first (kind_at documents own)));
    unopened = none_opened own (is_set_first (kind_at documents own));
    unconcluded = none_behind own (is_set_first (kind_at documents own));
    unboxed = refl;
    unprefixed = none refused documents own;
    unmeasured = unmeasured refused documents own;
    uncounted = uncounted refused documents own;
    unseparated = refl;
    once = omega arith;
    untried = refl;
  }
  bare_by first own false = record {
    unframed = none_framed 0 _ refl (nothing_first (is_set_first (kind_at documents own)));
    unopened = nothing_first (is_set_first (kind_at documents own));
    unconcluded = nothing_behind (is_set_first (kind_at documents own));
    unboxed = refl;
    unprefixed = refl;
    unmeasured = refl;
    uncounted = refl;
    unseparated = refl;
    once = omega arith;
    untried = refl;
  }

  bare_judgement : (first : ℕ) (own : Site) → IsBare documents first own (judgement_at Unparsing refused documents own)
  unfolding judgement_at judgement_if
  bare_judgement first own = bare_by first own (is_component (role_of documents own))

  no_true : true ≡ false → ⊥
  no_true is = cc

  -- without fill and delimiters, and with a box or a prefix only where the judgement has one
  bare_component : (own : Site) → IsBareComponent (component_at Unparsing refused documents own)
  bare_component own =
      by_key Unparsing refused documents own IsBareComponent (dispatch_at Unparsing refused documents own)
      (hiding_by (judgement_at Unparsing refused documents own).hidden (calculation_or Unparsing refused documents own (judgement_at Unparsing refused documents own).calculation
      (of_kind Unparsing refused documents own (kind_at documents own))))
      (λ dispatch framing initiated other is bare. absurd (no_true bare.unchosen))
      (by_hidden (judgement_at Unparsing refused documents own).hidden (none_unparsed refused documents own (unhidden documents own)))
    where
      told : IsBare documents (first_statement Unparsing refused documents own) own (judgement_at Unparsing refused documents own)
      told = bare_judgement (first_statement Unparsing refused documents own) own

      by_prefix : (o : Option PrefixForm) → o ≡ None → option_map (prefix_by (prefix_number documents own)) o ≡ None
      by_prefix None is = refl
      by_prefix (Some form) is = absurd (cc)

      by_measure : (number : ℕ) (o : Option MeasureForm) → o ≡ None → option_map (measure_by number) o ≡ None
      by_measure number None is = refl
      by_measure number (Some form) is = absurd (cc)

      by_box : (size : Option ℕ) (o : Option Prefix) (m : Option Measure) → size ≡ None → o ≡ None → m ≡ None → box_by size o m ≡ Unbounded
      by_box None None None is none unmade = refl
      by_box (Some bits) o m is none unmade = absurd (cc)
      by_box None (Some prefix) m is none unmade = absurd (cc)
      by_box None None (Some measure) is none unmade = absurd (cc)

      by_length : (o : Option Prefix) (m : Option Measure) → o ≡ None → m ≡ None → leaf_length_by o m ≡ Own
      by_length None None none unmade = refl
      by_length (Some prefix) m none unmade = absurd (cc)
      by_length None (Some measure) none unmade = absurd (cc)

      by_count : (number : ℕ) (parsed : Bool) (o : Option (List ℕ)) → o ≡ None → question_of (counted_by parsed (number_if number o)) ≡ None
      by_count number true None is = refl
      by_count number false None is = refl
      by_count number parsed (Some text) is = absurd (cc)

      unprefixed : option_map (prefix_by (prefix_number documents own)) (judgement_at Unparsing refused documents own).prefix ≡ None
      unprefixed = by_prefix (judgement_at Unparsing refused documents own).prefix told.unprefixed

      no_measure : measured Unparsing refused documents own ≡ None
      no_measure = by_measure (measure_number (first_statement Unparsing refused documents own) (judgement_at Unparsing refused documents own))
          (judgement_at Unparsing refused documents own).measure told.unmeasured

      unboxed : box_by (judgement_at Unparsing refused documents own).size (option_map (prefix_by (prefix_number documents own)) (judgement_at Unparsing refused documents own).prefix)
          (measured Unparsing refused documents own) ≡ Unbounded
      unboxed = by_box (judgement_at Unparsing refused documents own).size (option_map (prefix_by (prefix_number documents own)) (judgement_at Unparsing refused documents own).prefix)
          (measured Unparsing refused documents own) told.unboxed unprefixed no_measure

      unsized : leaf_length_by (option_map (prefix_by (prefix_number documents own)) (judgement_at Unparsing refused documents own).prefix)
          (measured Unparsing refused documents own) ≡ Own
      unsized = by_length (option_map (prefix_by (prefix_number documents own)) (judgement_at Unparsing refused documents own).prefix)
          (measured Unparsing refused documents own) unprefixed no_measure

      untold : question_of (often Unparsing refused documents own) ≡ None
      untold = by_count (count_number (first_statement Unparsing refused documents own) (judgement_at Unparsing refused documents own))
          (judgement_at Unparsing refused documents own).is_parsed (judgement_at Unparsing refused documents own).count told.uncounted

      by_separator : (o : Option Separating) → o ≡ None → option_map (separated_by (separator_number documents own)) o ≡ None
      by_separator None is = refl
      by_separator (Some separator) is = absurd (cc)

      unseparated : option_map (separated_by (separator_number documents own)) (judgement_at Unparsing refused documents own).markup.separator ≡ None
      unseparated = by_separator (judgement_at Unparsing refused documents own).markup.separator told.unseparated

      by_kind : (k : Kind) → IsBareComponent (of_kind Unparsing refused documents own k)
      by_kind kind.ComplexElement = record { unframed = told.unframed; unopened = told.unopened; unconcluded = told.unconcluded; unboxed = unboxed; unmeasured = refl; unseparated = refl; unchosen = refl; unhidden = refl; uncalculated = refl; once = told.once; untried = told.untried; untold = untold }
      by_kind (kind.SimpleElement simple) = record { unframed = told.unframed; unopened = told.unopened; unconcluded = told.unconcluded; unboxed = refl; unmeasured = unsized; unseparated = refl; unchosen = refl; unhidden = refl; uncalculated = refl; once = told.once; untried = told.untried; untold = untold }
      by_kind kind.UncarriedElement = record { unframed = told.unframed; unopened = told.unopened; unconcluded = told.unconcluded; unboxed = refl; unmeasured = unsized; unseparated = refl; unchosen = refl; unhidden = refl; uncalculated = refl; once = told.once; untried = told.untried; untold = untold }
      by_kind (kind.CalculatedElement simple) = record { unframed = told.unframed; unopened = told.unopened; unconcluded = told.unconcluded; unboxed = refl; unmeasured = unsized; unseparated = refl; unchosen = refl; unhidden = refl; uncalculated = refl; once = told.once; untried = told.untried; untold = untold }
      by_kind kind.Sequence = record { unframed = told.unframed; unopened = told.unopened; unconcluded = told.unconcluded; unboxed = refl; unmeasured = refl; unseparated = unseparated; unchosen = refl; unhidden = refl; uncalculated = refl; once = omega arith; untried = refl; untold = refl }
      by_kind kind.HiddenSequence = record { unframed = told.unframed; unopened = told.unopened; unconcluded = told.unconcluded; unboxed = refl; unmeasured = refl; unseparated = unseparated; unchosen = refl; unhidden = refl; uncalculated = refl; once = omega arith; untried = refl; untold = refl }
      by_kind kind.Choice = record { unframed = told.unframed; unopened = told.unopened; unconcluded = told.unconcluded; unboxed = refl; unmeasured = refl; unseparated = unseparated; unchosen = refl; unhidden = refl; uncalculated = refl; once = omega arith; untried = refl; untold = refl }
      by_kind (kind.PrefixNumber simple) = record { unframed = told.unframed; unopened = told.unopened; unconcluded = told.unconcluded; unboxed = refl; unmeasured = refl; unseparated = unseparated; unchosen = refl; unhidden = refl; uncalculated = refl; once = omega arith; untried = refl; untold = refl }

      by_hidden : (hidden : Option Site) → hidden ≡ None
          → IsBareComponent (hiding_by hidden (calculation_or Unparsing refused documents own (judgement_at Unparsing refused documents own).calculation
          (of_kind Unparsing refused documents own (kind_at documents own))))
      by_hidden None is =
          by_calculation Unparsing refused documents own IsBareComponent (judgement_at Unparsing refused documents own).calculation
          (of_kind Unparsing refused documents own (kind_at documents own)) (λ text told. absurd (none_calculated refused documents own text (uncalculated refused documents own) told))
          (by_kind (kind_at documents own))
      by_hidden (Some content) is = absurd (cc)

  pub bare_components : (purpose : Purpose) (schema : Schema) → purpose ≡ Unparsing → schema ≡ components_of purpose refused documents → All IsBareComponent schema.components
  unfolding components_of
  bare_components purpose schema unparsing schema_is =
      subst (λ (s : Schema). All IsBareComponent s.components) (sym (schema_is ∙ ap (λ (q : Purpose). components_of q refused documents) unparsing))
      (each (IsSite documents) IsBareComponent (component_at Unparsing refused documents) (λ own within. bare_component own) (all_sites documents) (all_within documents))
