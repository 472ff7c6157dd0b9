-- The statements of the documents as they are written.
use Rattle.std.proofs.Common.{◌≡◌, ℕ, ◌+◌, ◌<◌, List, [], ◌∷◌, ◌++◌, append_assoc, length, length-append, map, take, get_or, slice_get, All, Option, Some, None, option_map, ap, sym, subst, ◌∙◌, refl, arith}
use Rattle.std.specs.List.{flat_map}
use Rattle.std.proofs.lemmas.List.{length-map, take-map}
use Rattle.std.proofs.lemmas.List.Concat.{get_or-flat_map}
use Rattle.std.proofs.lemmas.List.Folds.{length-flat_map-take}
use Rattle.std.proofs.lemmas.List.Sums.{sum_by-cons}
use Rattle.std.proofs.lemmas.Option.{slice_get-get_or}
use Rattle.std.proofs.Math.Seq.{get_or-append_seam}
use Rattle.dfdl_documents.specs.Documents.{SchemaDocument}
use Rattle.dfdl_components.specs.declared.site.Site.{Site}
use Rattle.dfdl_components.specs.Sites.{IsSite, role_of}
use Rattle.dfdl_components.specs.Recursion.{number_of}
use Rattle.dfdl_chains.proofs.Numbering.{length_all, number_below}
use Rattle.dfdl_breaches.proofs.Numbering.{at-number}
use Rattle.std.proofs.Common.{Bool, true, false}
use Rattle.std.proofs.lemmas.List.Elements.{All-nil}
use Rattle.dfdl_checks.specs.declared.measures.MeasureForm.{MeasureForm}
use Rattle.dfdl_checks.specs.declared.purpose.Purpose.{Purpose}
use Rattle.dfdl_chains.specs.Everywhere.{all_sites, for_each}
use Rattle.dfdl_chains.specs.Parts.{is_component}
use Rattle.dfdl_chains.specs.Settings.{IsSetterOf}
use Rattle.dfdl_breaches.specs.Judging.{IsCheckOf, built_checks_at, built_settings_at, judgement_at}
use Rattle.dfdl_breaches.specs.Elements.{place_of}
use Rattle.dfdl_breaches.specs.declared.judgement.Judgement.{Judgement}
use Rattle.dfdl_statements.specs.declared.written.Asked.TheVariants as asked
use Rattle.dfdl_written.specs.Noting.{length_text, noted_by, noted_calculation, noted_check, noted_each, noted_expressions, noted_from, noted_if, noted_parts, noted_question, noted_questions, noted_setting, noted_test, stated_by}
use Rattle.dfdl_written.specs.declared.noted.Noted.{Noted}
use Rattle.dfdl_compile.specs.Shown.{IsStatedWithin}
use Rattle.dfdl_compile.specs.Statements.{calculation_number, count_by, count_if, count_others, counted, first_statement, judgements_of, noted_at, noted_of}
use Rattle.dfdl_compile.proofs.Fitting.{all_within, each}
use Rattle.dfdl_compile.proofs.Hiding.{judgement_if}

module _ (purpose : Purpose) (refused : Site → Bool) (documents : List SchemaDocument) where
  -- those of some elements
  noted_all : (sites : List Site) → noted_each documents sites (map stated_by (map (judgement_at purpose refused documents) sites))
      ≡ flat_map (noted_at purpose refused documents) sites
  noted_all [] = refl
  noted_all (own ∷ sites) = ap (λ (others : List Noted). noted_from documents own (stated_by (judgement_at purpose refused documents own)) ++ others) (noted_all sites)

  -- those of all
  pub noted_are : (judgements : List Judgement) (noted : List Noted) → judgements ≡ for_each documents (judgement_at purpose refused documents)
      → noted ≡ noted_each documents (all_sites documents) (map stated_by judgements) → noted ≡ noted_of purpose refused documents
  unfolding noted_of
  noted_are judgements noted told is =
      is ∙ (ap (λ (js : List Judgement). noted_each documents (all_sites documents) (map stated_by js)) told ∙ noted_all (all_sites documents))

  -- how many those of an element are
  length_parts : (own : Site) (told : Judgement)
      → length (noted_parts documents (place_of documents own) own told.tests told.settings told.checks)
      ≡ length told.tests + (length told.settings + length told.checks)
  length_parts own told =
      let tests = length-map told.tests (noted_test (place_of documents own) own) in
      let settings = length-map told.settings (noted_setting documents (place_of documents own)) in
      let checks = length-map told.checks (noted_check (place_of documents own)) in
      let behind = length-append (map (noted_setting documents (place_of documents own)) told.settings) (map (noted_check (place_of documents own)) told.checks) in
      let all = length-append (map (noted_test (place_of documents own) own) told.tests)
      (map (noted_setting documents (place_of documents own)) told.settings ++ map (noted_check (place_of documents own)) told.checks) in
      omega (arith, all, behind, tests, settings, checks)

  length_if : (noted : List ℕ → Noted) (o : Option (List ℕ)) → length (noted_if noted o) ≡ count_if o
  length_if noted None = refl
  length_if noted (Some text) = refl

  count_measured : (o : Option MeasureForm) → count_if (option_map length_text o) ≡ count_if o
  count_measured None = refl
  count_measured (Some form) = refl

  length_expressions : (own : Site) (told : Judgement)
      → length (noted_expressions documents (place_of documents own) own told.output told.calculation told.measure told.count told.key)
      ≡ count_if told.output + (count_if told.calculation + (count_if told.measure + (count_if told.count + count_if told.key)))
  length_expressions own told =
      let outputs : List Noted = noted_if (noted_calculation documents true (place_of documents own) own) told.output in
      let calculations : List Noted = noted_if (noted_calculation documents false (place_of documents own) own) told.calculation in
      let lengths : List Noted = noted_if (noted_question documents (place_of documents own) own asked.Length) (option_map length_text told.measure) in
      let counts : List Noted = noted_if (noted_question documents (place_of documents own) own asked.Count) told.count in
      let written = length_if (noted_calculation documents true (place_of documents own) own) told.output in
      let calculated = length_if (noted_calculation documents false (place_of documents own) own) told.calculation in
      let measured = length_if (noted_question documents (place_of documents own) own asked.Length) (option_map length_text told.measure)
      ∙ count_measured told.measure in
      let counted = length_if (noted_question documents (place_of documents own) own asked.Count) told.count in
      let keys : List Noted = noted_if (noted_question documents (place_of documents own) own asked.Key) told.key in
      let keyed = length_if (noted_question documents (place_of documents own) own asked.Key) told.key in
      let behind = length-append counts keys ∙ (λ i. counted i + keyed i) in
      let all = length-append calculations (lengths ++ (counts ++ keys))
      ∙ ((λ i. calculated i + length-append lengths (counts ++ keys) i) ∙ (λ i. count_if told.calculation + (measured i + behind i))) in
      length-append outputs (calculations ++ (lengths ++ (counts ++ keys))) ∙ (λ i. written i + all i)

  length_by : (own : Site) (told : Judgement) → length (noted_by documents own told) ≡ count_by told
  length_by own told =
      omega (
        arith,
        length-append (noted_parts documents (place_of documents own) own told.tests told.settings told.checks)
            (noted_expressions documents (place_of documents own) own told.output told.calculation told.measure told.count told.key),
        length_parts own told,
        length_expressions own told,
      )

  length_each : (sites : List Site) → length (flat_map (noted_at purpose refused documents) sites) ≡ counted (map (judgement_at purpose refused documents) sites)
  length_each [] = refl
  length_each (own ∷ sites) =
      let first = length_by own (judgement_at purpose refused documents own) in
      let others = length_each sites in
      let both = length-append (noted_at purpose refused documents own) (flat_map (noted_at purpose refused documents) sites) in
      both ∙ ((λ i. first i + others i) ∙ sym (sum_by-cons count_by (judgement_at purpose refused documents own) (map (judgement_at purpose refused documents) sites)))

  pub length_noted : length (noted_of purpose refused documents) ≡ counted (judgements_of purpose refused documents)
  unfolding noted_of
  length_noted = length_each (all_sites documents)

  -- the calculation of an element's value stands at its number
  last_by : (own : Site) (told : Judgement) (text : List ℕ) (d : Noted) → told.calculation ≡ Some text
      → get_or (noted_by documents own told) (count_others told) d ≡ noted_calculation documents false (place_of documents own) own text
  last_by own told text d is =
      let parts : List Noted = noted_parts documents (place_of documents own) own told.tests told.settings told.checks in
      let outputs : List Noted = noted_if (noted_calculation documents true (place_of documents own) own) told.output in
      let calculated : Noted = noted_calculation documents false (place_of documents own) own text in
      let questions : List Noted = noted_questions documents (place_of documents own) own told.measure told.count told.key in
      let many : count_others told ≡ length (parts ++ outputs) = omega (
        arith,
        length-append parts outputs,
        length_parts own told,
        length_if (noted_calculation documents true (place_of documents own) own) told.output,
      ) in
      ap (λ (o : Option (List ℕ)).
      get_or (parts ++ (outputs ++ (noted_if (noted_calculation documents false (place_of documents own) own) o ++ questions))) (count_others told) d) is
      ∙ (ap (λ (xs : List Noted). get_or xs (count_others told) d) (sym (append_assoc parts outputs (calculated ∷ questions)))
      ∙ (ap (λ (n : ℕ). get_or ((parts ++ outputs) ++ calculated ∷ questions) n d) many ∙ get_or-append_seam (parts ++ outputs) calculated questions d))

  before_is : (own : Site) → length (flat_map (noted_at purpose refused documents) (take (number_of documents own) (all_sites documents)))
      ≡ first_statement purpose refused documents own
  before_is own =
      length_each (take (number_of documents own) (all_sites documents))
      ∙ ap counted (sym (take-map (judgement_at purpose refused documents) (number_of documents own) (all_sites documents)))

  pub noted_there : (own : Site) (text : List ℕ) → IsSite documents own → (judgement_at purpose refused documents own).calculation ≡ Some text
      → slice_get (noted_of purpose refused documents) (calculation_number (first_statement purpose refused documents own) (judgement_at purpose refused documents own))
      ≡ Some (noted_calculation documents false (place_of documents own) own text)
  unfolding noted_of
  noted_there own text within is =
      let told : Judgement = judgement_at purpose refused documents own in
      let d : Noted = noted_calculation documents false (place_of documents own) own text in
      let low : number_of documents own < length (all_sites documents) = omega (arith, number_below documents own within, length_all documents) in
      let here : get_or (all_sites documents) (number_of documents own) own ≡ own = at-number documents own own within in
      let one : count_if told.calculation ≡ 1 = ap count_if is in
      let few : count_others told < length (noted_at purpose refused documents own) = omega (arith, length_by own told, one) in
      let short : count_others told < length (noted_at purpose refused documents (get_or (all_sites documents) (number_of documents own) own))
      = subst (λ (s : Site). count_others told < length (noted_at purpose refused documents s)) (sym here) few in
      let fit = length-flat_map-take (noted_at purpose refused documents) (all_sites documents) (number_of documents own) own low in
      let inside : calculation_number (first_statement purpose refused documents own) told < length (flat_map (noted_at purpose refused documents) (all_sites documents))
      = omega (arith, fit, short, before_is own) in
      slice_get-get_or (flat_map (noted_at purpose refused documents) (all_sites documents))
      (calculation_number (first_statement purpose refused documents own) told) d inside
      ∙ ap Some (ap (λ (n : ℕ). get_or (flat_map (noted_at purpose refused documents) (all_sites documents)) (n + count_others told) d) (sym (before_is own))
      ∙ (get_or-flat_map (noted_at purpose refused documents) (all_sites documents) (number_of documents own) (count_others told) own d low short
      ∙ (ap (λ (s : Site). get_or (noted_at purpose refused documents s) (count_others told) d) here ∙ last_by own told text d is)))

  -- what elements state stands at elements of the documents
  module _ (checked : (own : Site) → IsSite documents own → All (IsCheckOf documents) (built_checks_at purpose refused documents own))
      (set : (own : Site) → IsSite documents own → All (IsSetterOf documents) (built_settings_at purpose documents own)) where
    stated_if : (own : Site) → IsSite documents own → (b : Bool) → IsStatedWithin documents (judgement_if purpose refused documents own b)
    unfolding judgement_if
    stated_if own within true = record { settings = set own within; checks = checked own within }
    stated_if own within false = record { settings = All-nil (IsSetterOf documents); checks = All-nil (IsCheckOf documents) }

    stated_within : (own : Site) → IsSite documents own → IsStatedWithin documents (judgement_at purpose refused documents own)
    unfolding judgement_at judgement_if
    stated_within own within = stated_if own within (is_component (role_of documents own))

    pub all_stated : (judgements : List Judgement) → judgements ≡ for_each documents (judgement_at purpose refused documents)
        → All (IsStatedWithin documents) judgements
    all_stated judgements told =
        subst (λ (js : List Judgement). All (IsStatedWithin documents) js) (sym told)
        (each (IsSite documents) (IsStatedWithin documents) (judgement_at purpose refused documents) stated_within (all_sites documents) (all_within documents))
