-- What components name by numbers is there: primitives, lists of literals and statements.
use Rattle.std.proofs.Common.{◌≡◌, ℕ, suc, ◌+◌, ◌<◌, ◌≤◌, Bool, true, false, if◌then◌else◌, ◌&&◌, List, [], ◌∷◌, ◌++◌, length, length-append, get_or, All, Option, None, Some, option_map, ap, sym, subst, ◌∙◌, arith}
use Rattle.std.proofs.lemmas.List.{length-map}
use Rattle.std.proofs.lemmas.List.Sums.{sum_by_more_le}
use Rattle.dfdl_documents.specs.Documents.{SchemaDocument}
use Rattle.dfdl_components.specs.declared.site.Site.{Site}
use Rattle.dfdl_components.specs.Sites.{IsSite}
use Rattle.dfdl_components.specs.Recursion.{count_of, number_of}
use Rattle.dfdl_checks.specs.declared.measures.MeasureForm.{MeasureForm}
use Rattle.dfdl_checks.specs.declared.prefixes.PrefixForm.{PrefixForm}
use Rattle.dfdl_checks.specs.declared.tried.OtherRepresentations.{OtherRepresentations}
use Rattle.dfdl_checks.specs.declared.delimiters.Delimiting.{Delimiting}
use Rattle.dfdl_checks.specs.declared.delimiters.Separating.{Separating}
use Rattle.dfdl_checks.specs.declared.purpose.Purpose.{Purpose}
use Rattle.dfdl_checks.specs.declared.purpose.Purpose.TheVariants.{Parsing, Unparsing}
use Rattle.dfdl_checks.specs.declared.subject.Kind.{Kind}
use Rattle.dfdl_checks.specs.declared.subject.Kind.TheVariants as kind
use Rattle.dfdl_chains.specs.Everywhere.{all_sites, for_each}
use Rattle.dfdl_chains.specs.Kinds.{kind_at}
use Rattle.dfdl_chains.proofs.Numbering.{number_below, length_all}
use Rattle.dfdl_breaches.specs.Judging.{judgement_at, no_judgement}
use Rattle.dfdl_breaches.specs.declared.judgement.Judgement.{Judgement}
use Rattle.dfdl_breaches.proofs.Numbering.{value-at}
use Rattle.dfdl_terms.specs.declared.delimiters.Delimiters.{Delimiters}
use Rattle.dfdl_terms.specs.declared.framing.Framing.{Framing}
use Rattle.dfdl_terms.specs.declared.prefix.Measure.{Measure}
use Rattle.dfdl_terms.specs.declared.prefix.Prefix.{Prefix}
use Rattle.dfdl_terms.specs.Rows.{AreWithin, AreStatements, IsWithin}
use Rattle.dfdl_terms.specs.declared.row.Primitive.{Primitive}
use Rattle.dfdl_rows.specs.Components.{HasKeyQuestion, Schema, HasDelimiters, HasList, HasPrimitive, HasBoxPrimitive, HasBoxQuestion, HasLeafQuestion, HasPrefixPrimitive, HasSeparators, HasStatements}
use Rattle.dfdl_rows.specs.declared.component.BranchKey.{BranchKey}
use Rattle.dfdl_rows.specs.declared.component.Dispatch.{Dispatch}
use Rattle.dfdl_rows.specs.Times.{question_of}
use Rattle.dfdl_rows.specs.declared.component.Separated.{Separated}
use Rattle.dfdl_compile.specs.Empties.{is_framed_alike, reads_as_normal}
use Rattle.dfdl_compile.specs.Components.{box_by, branch_keys, choice_by, component_at, dispatch_at, dispatch_with, keys_at, parts_by, components_of, counted_by, delimiters_of, empty_number, framing_of, initiator_list_at, leaf_length_by, measure_by, nil_number, number_if, prefix_by, prefix_number, primitives_of, separator_list_at, separator_number, terminator_list_at, terminator_number, tried_by, tried_number}
use Rattle.dfdl_compile.specs.Statements.{before_by, behind_by, calculation_number, count_by, count_if, count_number, counted, first_statement, is_set_first, judgements_of, key_number, measure_number, noted_of, opening_count, openings_by, settings_by}
use Rattle.dfdl_chains.specs.declared.settings.Setter.{Setter}
use Rattle.dfdl_compile.specs.Delimiters.{delimiter_by, separated_by}
use Rattle.dfdl_compile.proofs.Fitting.{all_within, by_component, each, measured, of_kind, often}
use Rattle.dfdl_compile.proofs.Noted.{length_noted}
use Rattle.dfdl_compile.proofs.Taken.{count_primitives, length_primitives, length_lists}

module _ (purpose : Purpose) (refused : Site → Bool) (documents : List SchemaDocument) where
  abbrev count : ℕ
  count = count_primitives documents

  has_number : (own : Site) → IsSite documents own → HasPrimitive count (component_at purpose refused documents own)
  has_number own within =
      by_component purpose refused documents own (HasPrimitive count) tt (λ text told. tt) (λ dispatch framing initiated other is holds. tt) (by_kind (kind_at documents own))
    where
      own_below : number_of documents own < count
      own_below = let below = number_below documents own within in omega (arith, below)

      prefix_below : prefix_number documents own < count
      prefix_below = let below = number_below documents own within in omega (arith, below)

      nil_below : nil_number documents own < count
      nil_below = let below = number_below documents own within in omega (arith, below)

      empty_below : empty_number documents own < count
      empty_below = let below = number_below documents own within in omega (arith, below)

      by_number : (number : ℕ) → number < count → (o : Option Primitive) → IsWithin count (number_if number o)
      by_number number below None = tt
      by_number number below (Some p) = below

      tried_below : tried_number documents own < count
      tried_below = let below = number_below documents own within in omega (arith, below)

      by_needed : (left : Bool) (number : ℕ) → number < count → (o : Option Primitive) → IsWithin count (if left then None else number_if number o)
      by_needed true number below o = tt
      by_needed false number below o = by_number number below o

      by_others : (others : OtherRepresentations)
          → AreWithin count (tried_by (is_framed_alike (judgement_at purpose refused documents own)) (nil_number documents own) (empty_number documents own) (tried_number documents own) others)
      by_others others = (
        by_number (nil_number documents own) nil_below others.nil,
        by_needed (reads_as_normal others.required && is_framed_alike (judgement_at purpose refused documents own)) (empty_number documents own) empty_below
            others.required.empty,
        by_needed (reads_as_normal others.where_tried && is_framed_alike (judgement_at purpose refused documents own)) (tried_number documents own) tried_below
            others.where_tried.empty,
      )

      by_prefix : (o : Option PrefixForm) (m : Option Measure)
          → HasPrefixPrimitive count (leaf_length_by (option_map (prefix_by (prefix_number documents own)) o) m)
      by_prefix None None = tt
      by_prefix None (Some measure) = tt
      by_prefix (Some form) m = prefix_below

      by_box : (size : Option ℕ) (o : Option PrefixForm) (m : Option Measure)
          → HasBoxPrimitive count (box_by size (option_map (prefix_by (prefix_number documents own)) o) m)
      by_box (Some bits) o m = tt
      by_box None None None = tt
      by_box None None (Some measure) = tt
      by_box None (Some form) m = prefix_below

      by_choice : (q : Purpose) (framing : Framing) (own : Option Separated) (initiated : Bool) → HasPrimitive count (choice_by q framing own initiated)
      by_choice Parsing framing own initiated = tt
      by_choice Unparsing framing own initiated = tt

      by_kind : (k : Kind) → HasPrimitive count (of_kind purpose refused documents own k)
      by_kind kind.ComplexElement = by_box (judgement_at purpose refused documents own).size (judgement_at purpose refused documents own).prefix
          (measured purpose refused documents own)
      by_kind (kind.SimpleElement simple) = (own_below, by_prefix (judgement_at purpose refused documents own).prefix (measured purpose refused documents own), by_others (judgement_at purpose refused documents own).others)
      by_kind kind.UncarriedElement = (own_below, by_prefix (judgement_at purpose refused documents own).prefix (measured purpose refused documents own), by_others (judgement_at purpose refused documents own).others)
      by_kind (kind.CalculatedElement simple) = (own_below, by_prefix (judgement_at purpose refused documents own).prefix (measured purpose refused documents own), by_others (judgement_at purpose refused documents own).others)
      by_kind kind.Sequence = tt
      by_kind kind.HiddenSequence = tt
      by_kind kind.Choice = by_choice purpose (framing_of documents (first_statement purpose refused documents own) own (judgement_at purpose refused documents own))
          (option_map (separated_by (separator_number documents own)) (judgement_at purpose refused documents own).markup.separator)
          (judgement_at purpose refused documents own).initiates
      by_kind (kind.PrefixNumber simple) = tt

  -- the primitives of each component are in the table
  pub have : (schema : Schema) (tables : List Primitive) → schema ≡ components_of purpose refused documents
      → tables ≡ primitives_of purpose refused documents → All (HasPrimitive (length tables)) schema.components
  unfolding components_of
  have schema tables schema_is tables_are =
      subst (λ (n : ℕ). All (HasPrimitive n) schema.components)
      (sym (ap (λ (ps : List Primitive). length ps) tables_are ∙ length_primitives purpose refused documents))
      (subst (λ (s : Schema). All (HasPrimitive count) s.components) (sym schema_is)
      (each (IsSite documents) (HasPrimitive count) (component_at purpose refused documents) has_number (all_sites documents) (all_within documents)))

  -- the lists of its delimiters are some of three for each element
  abbrev count_lists : ℕ
  count_lists = count_of documents + (count_of documents + count_of documents)

  has_lists : (own : Site) → IsSite documents own → HasDelimiters count_lists (component_at purpose refused documents own)
  has_lists own within =
      by_component purpose refused documents own (HasDelimiters count_lists) (tt, tt, tt) (λ text told. (initiated, terminated, tt))
      (λ dispatch framing initiated other is holds. holds) (by_kind (kind_at documents own))
    where
      by_list : (number : ℕ) → number < count_lists → (o : Option Delimiting) → HasList count_lists (option_map (delimiter_by number) o)
      by_list number below None = tt
      by_list number below (Some delimiter) = below

      by_separator : (number : ℕ) → number < count_lists → (o : Option Separating) → HasSeparators count_lists (option_map (separated_by number) o)
      by_separator number below None = tt
      by_separator number below (Some separator) = below

      initiated : HasList count_lists (framing_of documents (first_statement purpose refused documents own) own (judgement_at purpose refused documents own)).initiator
      initiated =
          let below = number_below documents own within in
          by_list (number_of documents own) (omega (arith, below)) (judgement_at purpose refused documents own).markup.initiator

      terminated : HasList count_lists (framing_of documents (first_statement purpose refused documents own) own (judgement_at purpose refused documents own)).terminator
      terminated =
          let below = number_below documents own within in
          by_list (terminator_number documents own) (omega (arith, below)) (judgement_at purpose refused documents own).markup.terminator

      separated : HasSeparators count_lists (option_map (separated_by (separator_number documents own)) (judgement_at purpose refused documents own).markup.separator)
      separated =
          let below = number_below documents own within in
          by_separator (separator_number documents own) (omega (arith, below)) (judgement_at purpose refused documents own).markup.separator

      by_choice : (q : Purpose) → HasDelimiters count_lists (choice_by q (framing_of documents (first_statement purpose refused documents own) own (judgement_at purpose refused documents own))
          (option_map (separated_by (separator_number documents own)) (judgement_at purpose refused documents own).markup.separator)
          (judgement_at purpose refused documents own).initiates)
      by_choice Parsing = (initiated, terminated, tt)
      by_choice Unparsing = (initiated, terminated, separated)

      by_kind : (k : Kind) → HasDelimiters count_lists (of_kind purpose refused documents own k)
      by_kind kind.ComplexElement = (initiated, terminated, tt)
      by_kind (kind.SimpleElement simple) = (initiated, terminated, tt)
      by_kind kind.UncarriedElement = (initiated, terminated, tt)
      by_kind (kind.CalculatedElement simple) = (initiated, terminated, tt)
      by_kind kind.Sequence = (initiated, terminated, separated)
      by_kind kind.HiddenSequence = (initiated, terminated, separated)
      by_kind kind.Choice = by_choice purpose
      by_kind (kind.PrefixNumber simple) = (initiated, terminated, separated)

  -- there are three lists of delimiters for each element
  length_delimiters : length (delimiters_of purpose refused documents) ≡ count_lists
  unfolding delimiters_of
  length_delimiters =
      let initiators = length_lists documents (initiator_list_at purpose refused documents) in
      let terminators = length_lists documents (terminator_list_at purpose refused documents) in
      let separators = length_lists documents (separator_list_at purpose refused documents) in
      let behind = length-append (for_each documents (terminator_list_at purpose refused documents)) (for_each documents (separator_list_at purpose refused documents)) in
      let all = length-append (for_each documents (initiator_list_at purpose refused documents))
      (for_each documents (terminator_list_at purpose refused documents) ++ for_each documents (separator_list_at purpose refused documents)) in
      omega (arith, all, behind, initiators, terminators, separators)

  -- the lists of each component are in the table
  pub have_lists : (schema : Schema) (lists : List Delimiters) → schema ≡ components_of purpose refused documents
      → lists ≡ delimiters_of purpose refused documents → All (HasDelimiters (length lists)) schema.components
  unfolding components_of
  have_lists schema lists schema_is lists_are =
      subst (λ (n : ℕ). All (HasDelimiters n) schema.components)
      (sym (ap (λ (ds : List Delimiters). length ds) lists_are ∙ length_delimiters))
      (subst (λ (s : Schema). All (HasDelimiters count_lists) s.components) (sym schema_is)
      (each (IsSite documents) (HasDelimiters count_lists) (component_at purpose refused documents) has_lists
      (all_sites documents) (all_within documents)))

  -- the statements of an element are some of all
  pub counted_within : (own : Site) → IsSite documents own
      → first_statement purpose refused documents own + count_by (judgement_at purpose refused documents own) ≤ counted (judgements_of purpose refused documents)
  counted_within own within =
      let below : number_of documents own < length (judgements_of purpose refused documents)
      = let low = number_below documents own within in
      omega (arith, low, length-map (all_sites documents) (judgement_at purpose refused documents), length_all documents) in
      let fit = sum_by_more_le count_by (judgements_of purpose refused documents) (number_of documents own) no_judgement below in
      let same : get_or (judgements_of purpose refused documents) (number_of documents own) no_judgement ≡ judgement_at purpose refused documents own
      = value-at documents (judgement_at purpose refused documents) own no_judgement within in
      subst (λ (j : Judgement). first_statement purpose refused documents own + count_by j ≤ counted (judgements_of purpose refused documents)) same fit

  -- how many there are
  abbrev count_statements : ℕ
  count_statements = counted (judgements_of purpose refused documents)

  before_within : (first : ℕ) (told : Judgement) → first + count_by told ≤ count_statements → AreStatements count_statements (before_by first told)
  before_within first told fit = omega (arith, fit)

  -- no more open instances than set variables
  opening_few : (setters : List Setter) → opening_count setters ≤ length setters
  opening_few [] = omega arith
  opening_few (setter ∷ setters) = by setter.opens (opening_few setters)
    where
      by : (opens : Bool) → opening_count setters ≤ length setters → (if opens then suc (opening_count setters) else opening_count setters) ≤ suc (length setters)
      by true few = omega (arith, few)
      by false few = omega (arith, few)

  openings_within : (first : ℕ) (is_first : Bool) (told : Judgement) → first + count_by told ≤ count_statements
      → AreStatements count_statements (openings_by is_first first told)
  openings_within first true told fit = let few = opening_few told.settings in omega (arith, fit, few)
  openings_within first false told fit = omega (arith, fit)

  settings_within : (first : ℕ) (is_first : Bool) (told : Judgement) → first + count_by told ≤ count_statements
      → AreStatements count_statements (settings_by is_first first told)
  settings_within first true told fit = let few = opening_few told.settings in omega (arith, fit, few)
  settings_within first false told fit = let few = opening_few told.settings in omega (arith, fit, few)

  behind_within : (first : ℕ) (is_first : Bool) (told : Judgement) → first + count_by told ≤ count_statements
      → AreStatements count_statements (behind_by is_first first told)
  behind_within first true told fit = omega (arith, fit)
  behind_within first false told fit = omega (arith, fit)

  -- so is the question of a length, where there is one
  box_question : (number : ℕ) (size : Option ℕ) (prefix : Option Prefix) (o : Option MeasureForm) → number + count_if o ≤ count_statements
      → HasBoxQuestion count_statements (box_by size prefix (option_map (measure_by number) o))
  box_question number (Some bits) prefix o fit = tt
  box_question number None (Some prefix) o fit = tt
  box_question number None None None fit = tt
  box_question number None None (Some form) fit = omega (arith, fit)

  leaf_question : (number : ℕ) (prefix : Option Prefix) (o : Option MeasureForm) → number + count_if o ≤ count_statements
      → HasLeafQuestion count_statements (leaf_length_by prefix (option_map (measure_by number) o))
  leaf_question number (Some prefix) o fit = tt
  leaf_question number None None fit = tt
  leaf_question number None (Some form) fit = omega (arith, fit)

  -- so is that of a number of occurrences
  count_question : (number : ℕ) (parsed : Bool) (o : Option (List ℕ)) → number + count_if o ≤ count_statements
      → IsWithin count_statements (question_of (counted_by parsed (number_if number o)))
  count_question number parsed (Some text) fit = omega (arith, fit)
  count_question number true None fit = tt
  count_question number false None fit = tt

  -- the number of the question that tells a key, if there is one
  question_by : Option Dispatch → ℕ
  question_by None = 0
  question_by (Some dispatch) = dispatch.question

  -- so is that of a key
  question_within : (keys : List BranchKey) (number : ℕ) (o : Option (List ℕ)) (dispatch : Dispatch) → number + count_if o ≤ count_statements
      → option_map (dispatch_with keys) (number_if number o) ≡ Some dispatch → HasKeyQuestion count_statements (Some dispatch)
  unfolding question_by
  question_within keys number None dispatch fit is = absurd (cc)
  question_within keys number (Some text) dispatch fit is =
      let same : number ≡ dispatch.question = ap question_by is in
      omega (arith, fit, same)

  has_statements : (own : Site) → IsSite documents own → HasStatements count_statements (component_at purpose refused documents own)
  has_statements own within =
      by_component purpose refused documents own (HasStatements count_statements) ((omega arith, omega arith, omega arith, omega arith), tt, tt)
      (λ text told. ((before, openings, settings, behind), calculation text told, tt))
      (λ dispatch framing initiated other is holds. (holds.0, holds.1, key_question dispatch is)) (by_kind (kind_at documents own))
    where
      before : AreStatements count_statements (framing_of documents (first_statement purpose refused documents own) own (judgement_at purpose refused documents own)).before
      before = before_within (first_statement purpose refused documents own) (judgement_at purpose refused documents own) (counted_within own within)

      openings : AreStatements count_statements (framing_of documents (first_statement purpose refused documents own) own (judgement_at purpose refused documents own)).openings
      openings = openings_within (first_statement purpose refused documents own) (is_set_first (kind_at documents own)) (judgement_at purpose refused documents own) (counted_within own within)

      settings : AreStatements count_statements (framing_of documents (first_statement purpose refused documents own) own (judgement_at purpose refused documents own)).settings
      settings = settings_within (first_statement purpose refused documents own) (is_set_first (kind_at documents own)) (judgement_at purpose refused documents own) (counted_within own within)

      behind : AreStatements count_statements (framing_of documents (first_statement purpose refused documents own) own (judgement_at purpose refused documents own)).behind
      behind = behind_within (first_statement purpose refused documents own) (is_set_first (kind_at documents own)) (judgement_at purpose refused documents own) (counted_within own within)

      calculation : (text : List ℕ) → (judgement_at purpose refused documents own).calculation ≡ Some text
          → calculation_number (first_statement purpose refused documents own) (judgement_at purpose refused documents own) < count_statements
      calculation text told =
          let one : count_if (judgement_at purpose refused documents own).calculation ≡ 1 = ap count_if told in
          omega (arith, one, counted_within own within)

      prefix : Option Prefix
      prefix = option_map (prefix_by (prefix_number documents own)) (judgement_at purpose refused documents own).prefix

      measure_fits : measure_number (first_statement purpose refused documents own) (judgement_at purpose refused documents own)
          + count_if (judgement_at purpose refused documents own).measure ≤ count_statements
      measure_fits = omega (arith, counted_within own within)

      boxed : HasBoxQuestion count_statements (box_by (judgement_at purpose refused documents own).size prefix (measured purpose refused documents own))
      boxed = box_question (measure_number (first_statement purpose refused documents own) (judgement_at purpose refused documents own))
          (judgement_at purpose refused documents own).size prefix (judgement_at purpose refused documents own).measure measure_fits

      sized : HasLeafQuestion count_statements (leaf_length_by prefix (measured purpose refused documents own))
      sized = leaf_question (measure_number (first_statement purpose refused documents own) (judgement_at purpose refused documents own))
          prefix (judgement_at purpose refused documents own).measure measure_fits

      told_often : IsWithin count_statements (question_of (often purpose refused documents own))
      told_often = count_question (count_number (first_statement purpose refused documents own) (judgement_at purpose refused documents own))
          (judgement_at purpose refused documents own).is_parsed (judgement_at purpose refused documents own).count (omega (arith, counted_within own within))

      key_question : (dispatch : Dispatch) → dispatch_at purpose refused documents own ≡ Some dispatch → HasKeyQuestion count_statements (Some dispatch)
      key_question dispatch is = question_within
          (branch_keys (keys_at purpose refused documents) 0 (parts_by documents own (judgement_at purpose refused documents own).hidden))
          (key_number (first_statement purpose refused documents own) (judgement_at purpose refused documents own))
          (judgement_at purpose refused documents own).key dispatch (omega (arith, counted_within own within)) is

      by_choice : (q : Purpose) → HasStatements count_statements
          (choice_by q (framing_of documents (first_statement purpose refused documents own) own (judgement_at purpose refused documents own))
          (option_map (separated_by (separator_number documents own)) (judgement_at purpose refused documents own).markup.separator)
          (judgement_at purpose refused documents own).initiates)
      by_choice Parsing = ((before, openings, settings, behind), tt, tt)
      by_choice Unparsing = ((before, openings, settings, behind), tt, tt)

      by_kind : (k : Kind) → HasStatements count_statements (of_kind purpose refused documents own k)
      by_kind kind.ComplexElement = ((before, openings, settings, behind), tt, (boxed, told_often))
      by_kind (kind.SimpleElement simple) = ((before, openings, settings, behind), tt, (sized, told_often))
      by_kind kind.UncarriedElement = ((before, openings, settings, behind), tt, (sized, told_often))
      by_kind (kind.CalculatedElement simple) = ((before, openings, settings, behind), tt, (sized, told_often))
      by_kind kind.Sequence = ((before, openings, settings, behind), tt, tt)
      by_kind kind.HiddenSequence = ((before, openings, settings, behind), tt, tt)
      by_kind kind.Choice = by_choice purpose
      by_kind (kind.PrefixNumber simple) = ((before, openings, settings, behind), tt, tt)

  -- the statements of each component are some of those that are noted
  pub have_statements : (schema : Schema) (count : ℕ) → schema ≡ components_of purpose refused documents
      → count ≡ length (noted_of purpose refused documents) → All (HasStatements count) schema.components
  unfolding components_of
  have_statements schema count schema_is count_is =
      subst (λ (n : ℕ). All (HasStatements n) schema.components) (sym (count_is ∙ length_noted purpose refused documents))
      (subst (λ (s : Schema). All (HasStatements count_statements) s.components) (sym schema_is)
      (each (IsSite documents) (HasStatements count_statements) (component_at purpose refused documents) has_statements
      (all_sites documents) (all_within documents)))
