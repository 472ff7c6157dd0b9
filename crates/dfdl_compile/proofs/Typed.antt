-- Each simple element is read by a primitive of its type, or its value is calculated by a statement of its type.
use Rattle.std.proofs.Common.{◌≡◌, ℕ, ◌<◌, Bool, false, List, ◌++◌, length, length-append, map, slice_get, get_or, Option, None, Some, option_map, ap, sym, subst, ◌∙◌, arith}
use Rattle.std.proofs.lemmas.List.{length-map, get_or_append_left}
use Rattle.std.proofs.lemmas.Option.{slice_get-map, slice_get-get_or, slice_get_within}
use Rattle.dfdl_forms.specs.declared.simple.Simple.{Simple}
use Rattle.dfdl_documents.specs.Documents.{SchemaDocument}
use Rattle.dfdl_components.specs.declared.site.Site.{Site}
use Rattle.dfdl_components.specs.Globals.{site}
use Rattle.dfdl_components.specs.Sites.{IsSite}
use Rattle.dfdl_components.specs.Recursion.{number_of}
use Rattle.dfdl_checks.specs.Numbers.{type_of}
use Rattle.dfdl_checks.specs.declared.purpose.Purpose.{Purpose}
use Rattle.dfdl_checks.specs.declared.purpose.Purpose.TheVariants.{Parsing, Unparsing}
use Rattle.dfdl_checks.specs.declared.subject.Kind.{Kind}
use Rattle.dfdl_checks.specs.declared.subject.Kind.TheVariants as kind
use Rattle.dfdl_chains.specs.Everywhere.{all_sites, for_each}
use Rattle.dfdl_chains.specs.Kinds.{kind_at}
use Rattle.dfdl_chains.proofs.Numbering.{number_below}
use Rattle.dfdl_breaches.specs.Judging.{judgement_at}
use Rattle.dfdl_breaches.proofs.Numbering.{value-at}
use Rattle.dfdl_terms.specs.Leaves.{ReadsBy, leaf, prefixed, measured, grouped, scoped, calculated}
use Rattle.dfdl_terms.specs.declared.framing.Framing.{Framing}
use Rattle.dfdl_terms.specs.declared.occurs.Occurs.{Occurs}
use Rattle.dfdl_terms.specs.declared.representations.Representations.{Representations}
use Rattle.dfdl_terms.specs.Rows.{Table}
use Rattle.dfdl_terms.specs.declared.row.Primitive.{Primitive}
use Rattle.dfdl_terms.specs.declared.row.Row.{Row}
use Rattle.dfdl_terms.specs.declared.row.Row.TheVariants.{Leaf, Elem, Group, Skip, Align, Initiator, Terminator, Separator, Scope, Boxed, PrefixedLeaf, PrefixedBox, MeasuredLeaf, MeasuredBox, Repeat, Counted as CountedRow, Optional, Choice, Dispatch, Statement, Concluded, Hidden, Spanned, Instance, Separated as SeparatedRow}
use Rattle.dfdl_rows.specs.declared.component.Counted.{Counted}
use Rattle.dfdl_rows.specs.declared.component.LeafLength.{LeafLength}
use Rattle.dfdl_rows.specs.declared.component.Separated.{Separated}
use Rattle.dfdl_rows.specs.Leaves.{HaveLeaves, HaveBareLeaves, IsAmong, IsCalculated, IsLeafOf}
use Rattle.dfdl_rows.specs.declared.component.Component.{Component}
use Rattle.dfdl_rows.specs.declared.component.Component.TheVariants.{SimpleElement, CalculatedElement}
use Rattle.dfdl_compile.specs.Components.{choice_by, component_at, components_of, empty_primitive_at, framing_of, nil_primitive_at, prefix_primitive_at, primitive_at, primitives_of, separator_number, tried_primitive_at}
use Rattle.dfdl_compile.specs.Statements.{first_statement, noted_of, calculation_number}
use Rattle.dfdl_compile.specs.Delimiters.{separated_by}
use Rattle.dfdl_compile.specs.Primitives.{CalculatesType, HasTypedLeaves, HasBareTypedLeaves, IsLeafOfType, IsOfType, a_byte}
use Rattle.dfdl_compile.proofs.Fitting.{all_within, by_component, of_kind}
use Rattle.std.specs.List.{AllZip}
use Rattle.dfdl_written.specs.Noting.{calculated_type}
use Rattle.dfdl_statements.specs.declared.written.Source.TheVariants as source
use Rattle.dfdl_compile.proofs.Noted.{noted_there}
use Rattle.dfdl_compile.proofs.Written.{IsNotedCalculation, calculates}
use Rattle.dfdl_compile.specs.Shown.{IsAsWritten}
use Rattle.dfdl_compile.proofs.Taken.{length_each}

module _ (purpose : Purpose) (refused : Site → Bool) (documents : List SchemaDocument) where
  -- a component that is a simple element has the type of its primitive, and the primitive's number
  typed_component : (own : Site) (name : List ℕ) (simple : Simple) (prim : ℕ) (framing : Framing) (own_length : LeafLength) (tried : Representations) (scanned : Bool) (occurs : Occurs) (often : Counted)
      → component_at purpose refused documents own ≡ SimpleElement name simple prim framing own_length tried scanned occurs often
      → (type_of (primitive_at purpose refused documents own) ≡ simple) × (number_of documents own ≡ prim)
  typed_component own name simple prim framing own_length tried scanned occurs often =
      by_component purpose refused documents own
      (λ (c : Component). c ≡ SimpleElement name simple prim framing own_length tried scanned occurs often
      → (type_of (primitive_at purpose refused documents own) ≡ simple) × (number_of documents own ≡ prim))
      (λ is. absurd (cc)) (λ text told is. absurd (cc)) (λ dispatch framed initiated other keyed holds is. absurd (cc)) (by_kind (kind_at documents own))
    where
      no_choice : (q : Purpose) (f : Framing) (separated : Option Separated) (initiated : Bool)
          → choice_by q f separated initiated ≡ SimpleElement name simple prim framing own_length tried scanned occurs often → ⊥
      no_choice Parsing f separated initiated is = absurd (cc)
      no_choice Unparsing f separated initiated is = absurd (cc)

      by_kind : (k : Kind) → of_kind purpose refused documents own k ≡ SimpleElement name simple prim framing own_length tried scanned occurs often
          → (type_of (primitive_at purpose refused documents own) ≡ simple) × (number_of documents own ≡ prim)
      by_kind kind.ComplexElement is = absurd (cc)
      by_kind (kind.SimpleElement other) is = (cc, cc)
      by_kind kind.UncarriedElement is = (cc, cc)
      by_kind (kind.CalculatedElement other) is = (cc, cc)
      by_kind kind.Sequence is = absurd (cc)
      by_kind kind.HiddenSequence is = absurd (cc)
      by_kind kind.Choice is = absurd (no_choice purpose (framing_of documents (first_statement purpose refused documents own) own (judgement_at purpose refused documents own))
          (option_map (separated_by (separator_number documents own)) (judgement_at purpose refused documents own).markup.separator)
          (judgement_at purpose refused documents own).initiates is)
      by_kind (kind.PrefixNumber other) is = absurd (cc)

  -- the primitive of an element stands at the element's number
  there : (own : Site) → IsSite documents own
      → slice_get (primitives_of purpose refused documents) (number_of documents own) ≡ Some (primitive_at purpose refused documents own)
  unfolding primitives_of
  there own within =
      let below = number_below documents own within in
      let long = length_each documents (primitive_at purpose refused documents) in
      let all = length-append (for_each documents (primitive_at purpose refused documents)) behind in
      slice_get-get_or (for_each documents (primitive_at purpose refused documents) ++ behind) (number_of documents own) a_byte (omega (arith, below, long, all))
      ∙ (ap Some (get_or_append_left (for_each documents (primitive_at purpose refused documents)) behind a_byte (number_of documents own) (omega (arith, below, long)))
      ∙ ap Some (value-at documents (primitive_at purpose refused documents) own a_byte within))
    where
      behind : List Primitive
      behind = for_each documents (prefix_primitive_at purpose refused documents)
          ++ (for_each documents (nil_primitive_at purpose refused documents)
          ++ (for_each documents (empty_primitive_at purpose refused documents) ++ for_each documents (tried_primitive_at purpose refused documents)))

  -- the leaf of a simple element among the components has the element's type
  among_typed : (simple : Simple) (prim : ℕ) → IsAmong (map (component_at purpose refused documents) (all_sites documents)) simple prim
      → IsOfType simple (slice_get (primitives_of purpose refused documents) prim)
  among_typed simple prim (number, name, framing, own_length, tried, scanned, occurs, often, is) =
      let less : number < length (all_sites documents) = omega (
        arith,
        slice_get_within (map (component_at purpose refused documents) (all_sites documents)) number (SimpleElement name simple prim framing own_length tried scanned occurs often) is,
        length-map (all_sites documents) (component_at purpose refused documents),
      ) in
      let own : Site = get_or (all_sites documents) number (site 0 0) in
      let found : Some (component_at purpose refused documents own) ≡ Some (SimpleElement name simple prim framing own_length tried scanned occurs often) =
      sym (slice_get-map (component_at purpose refused documents) (all_sites documents) number
      ∙ ap (option_map (component_at purpose refused documents)) (slice_get-get_or (all_sites documents) number (site 0 0) less)) ∙ is in
      let same : component_at purpose refused documents own ≡ SimpleElement name simple prim framing own_length tried scanned occurs often = cc in
      let both = typed_component own name simple prim framing own_length tried scanned occurs often same in
      subst (λ (n : ℕ). IsOfType simple (slice_get (primitives_of purpose refused documents) n)) both.1
      (subst (λ (o : Option Primitive). IsOfType simple o) (sym (there own (all_within documents number (site 0 0) less))) both.0)

  leaf_typed : (simple : Simple) (o : Option Row) → IsLeafOf (map (component_at purpose refused documents) (all_sites documents)) simple o
      → IsLeafOfType (primitives_of purpose refused documents) simple o
  leaf_typed simple (Some (Leaf prim)) one = among_typed simple prim one
  leaf_typed simple (Some (Elem name other tried behind body)) one = absurd one
  leaf_typed simple (Some (Group children)) one = absurd one
  leaf_typed simple (Some (Skip bits)) one = absurd one
  leaf_typed simple (Some (Align bits)) one = absurd one
  leaf_typed simple (Some (Initiator delimiter)) one = absurd one
  leaf_typed simple (Some (Terminator delimiter separators)) one = absurd one
  leaf_typed simple (Some Separator) one = absurd one
  leaf_typed simple (Some (Scope list inside)) one = absurd one
  leaf_typed simple (Some (Boxed bits inside)) one = absurd one
  leaf_typed simple (Some (PrefixedLeaf prefix prim)) one = absurd one
  leaf_typed simple (Some (PrefixedBox prefix inside)) one = absurd one
  leaf_typed simple (Some (MeasuredLeaf measure prim)) one = absurd one
  leaf_typed simple (Some (MeasuredBox measure inside)) one = absurd one
  leaf_typed simple (Some (Repeat count inside)) one = absurd one
  leaf_typed simple (Some (CountedRow question inside)) one = absurd one
  leaf_typed simple (Some (Optional most item initiated inside)) one = absurd one
  leaf_typed simple (Some (Choice branches initiated)) one = absurd one
  leaf_typed simple (Some (Dispatch question keys)) one = absurd one
  leaf_typed simple (Some (Statement statement)) one = absurd one
  leaf_typed simple (Some (Concluded behind inside)) one = absurd one
  leaf_typed simple (Some (Hidden inside)) one = absurd one
  leaf_typed simple (Some (Spanned inside)) one = absurd one
  leaf_typed simple (Some (Instance statement inside)) one = absurd one
  leaf_typed simple (Some (SeparatedRow policy position initiated slots)) one = absurd one
  leaf_typed simple None one = absurd one

  -- an element of the documents whose value is calculated by the statement of this number, and is of this type
  record IsCalculatedAt (own : Site) (simple : Simple) (statement : ℕ) : Type 0 where
    text : List ℕ
    told : (judgement_at purpose refused documents own).calculation ≡ Some text
    typed : calculated_type documents own ≡ simple
    numbered : calculation_number (first_statement purpose refused documents own) (judgement_at purpose refused documents own) ≡ statement

  calculated_component : (own : Site) (name : List ℕ) (simple : Simple) (statement : ℕ) (framing : Framing)
      → component_at purpose refused documents own ≡ CalculatedElement name simple statement framing → IsCalculatedAt own simple statement
  calculated_component own name simple statement framing =
      by_component purpose refused documents own
      (λ (c : Component). c ≡ CalculatedElement name simple statement framing → IsCalculatedAt own simple statement)
      (λ is. absurd (cc)) (λ text told is. record { text = text; told = told; typed = cc; numbered = cc })
      (λ dispatch framed initiated other keyed holds is. absurd (cc)) (by_kind (kind_at documents own))
    where
      no_choice : (q : Purpose) (f : Framing) (separated : Option Separated) (initiated : Bool)
          → choice_by q f separated initiated ≡ CalculatedElement name simple statement framing → ⊥
      no_choice Parsing f separated initiated is = cc
      no_choice Unparsing f separated initiated is = cc

      by_kind : (k : Kind) → of_kind purpose refused documents own k ≡ CalculatedElement name simple statement framing → IsCalculatedAt own simple statement
      by_kind kind.ComplexElement is = absurd (cc)
      by_kind (kind.SimpleElement other) is = absurd (cc)
      by_kind kind.UncarriedElement is = absurd (cc)
      by_kind (kind.CalculatedElement other) is = absurd (cc)
      by_kind kind.Sequence is = absurd (cc)
      by_kind kind.HiddenSequence is = absurd (cc)
      by_kind kind.Choice is = absurd (no_choice purpose (framing_of documents (first_statement purpose refused documents own) own (judgement_at purpose refused documents own))
          (option_map (separated_by (separator_number documents own)) (judgement_at purpose refused documents own).markup.separator)
          (judgement_at purpose refused documents own).initiates is)
      by_kind (kind.PrefixNumber other) is = absurd (cc)

  -- the statement of a calculated value among the components is written as a calculation of the element's type
  among_calculated : (simple : Simple) (statement : ℕ) → IsCalculated (map (component_at purpose refused documents) (all_sites documents)) simple statement
      → IsNotedCalculation simple (slice_get (noted_of purpose refused documents) statement)
  among_calculated simple statement (number, name, framing, is) =
      let less : number < length (all_sites documents) = omega (
        arith,
        slice_get_within (map (component_at purpose refused documents) (all_sites documents)) number (CalculatedElement name simple statement framing) is,
        length-map (all_sites documents) (component_at purpose refused documents),
      ) in
      let own : Site = get_or (all_sites documents) number (site 0 0) in
      let found : Some (component_at purpose refused documents own) ≡ Some (CalculatedElement name simple statement framing) =
      sym (slice_get-map (component_at purpose refused documents) (all_sites documents) number
      ∙ ap (option_map (component_at purpose refused documents)) (slice_get-get_or (all_sites documents) number (site 0 0) less)) ∙ is in
      let same : component_at purpose refused documents own ≡ CalculatedElement name simple statement framing = cc in
      let at : IsCalculatedAt own simple statement = calculated_component own name simple statement framing same in
      let noted = noted_there purpose refused documents own at.text (all_within documents number (site 0 0) less) at.told in
      subst (λ (n : ℕ). IsNotedCalculation simple (slice_get (noted_of purpose refused documents) n)) at.numbered
      (subst (IsNotedCalculation simple) (sym noted) (at.text, ap (λ (k : Simple). source.Calculation k at.text false) at.typed))

  -- what the body of a simple element reads or calculates has the element's type
  reads_typed : (t : Table) (simple : Simple) → AllZip IsAsWritten (noted_of purpose refused documents) t.statements → (id : ℕ)
      → ReadsBy t.rows (IsAmong (map (component_at purpose refused documents) (all_sites documents)) simple)
      (IsCalculated (map (component_at purpose refused documents) (all_sites documents)) simple) id
      → ReadsBy t.rows (λ prim. IsOfType simple (slice_get (primitives_of purpose refused documents) prim))
      (λ number. CalculatesType simple (slice_get t.statements number)) id
  reads_typed t simple made id (leaf _ prim is among) = leaf id prim is (among_typed simple prim among)
  reads_typed t simple made id (prefixed _ prim prefix is among) = prefixed id prim prefix is (among_typed simple prim among)
  reads_typed t simple made id (measured _ prim measure is among) = measured id prim measure is (among_typed simple prim among)
  reads_typed t simple made id (grouped _ at child children is there reads) = grouped id at child children is there (reads_typed t simple made child reads)
  reads_typed t simple made id (scoped _ list body is reads) = scoped id list body is (reads_typed t simple made body reads)
  reads_typed t simple made id (calculated _ number is one) =
      calculated id number is (calculates simple (noted_of purpose refused documents) t.statements number made (among_calculated simple number one))

  -- each simple element is read by a primitive of its type, or its value is calculated by a statement of its type
  pub leaves_typed : (t : Table) (made : List Row) → t.rows ≡ made → t.primitives ≡ primitives_of purpose refused documents
      → AllZip IsAsWritten (noted_of purpose refused documents) t.statements
      → HaveLeaves (components_of purpose refused documents).components made → HasTypedLeaves t
  unfolding components_of
  leaves_typed t made rows_are primitives_are written leaves row name simple tried behind body is =
      subst (λ (ps : List Primitive). ReadsBy t.rows (λ prim. IsOfType simple (slice_get ps prim)) (λ number. CalculatesType simple (slice_get t.statements number)) body)
      (sym primitives_are)
      (reads_typed t simple written body
      (subst (λ (rs : List Row). ReadsBy rs (IsAmong (components_of purpose refused documents).components simple)
      (IsCalculated (components_of purpose refused documents).components simple) body) (sym rows_are)
      (leaves row name simple tried behind body
      (subst (λ (rs : List Row). slice_get rs row ≡ Some (Elem name (Some simple) tried behind body)) rows_are is))))

  -- the same, where each is read by a leaf
  pub bare_typed : (t : Table) (made : List Row) → t.rows ≡ made → t.primitives ≡ primitives_of purpose refused documents
      → HaveBareLeaves (components_of purpose refused documents).components made → HasBareTypedLeaves t
  unfolding components_of
  bare_typed t made rows_are primitives_are leaves row name simple tried behind body is =
      subst (λ (ps : List Primitive). IsLeafOfType ps simple (slice_get t.rows body)) (sym primitives_are)
      (leaf_typed simple (slice_get t.rows body)
      (subst (λ (rs : List Row). IsLeafOf (components_of purpose refused documents).components simple (slice_get rs body)) (sym rows_are)
      (leaves row name simple tried behind body
      (subst (λ (rs : List Row). slice_get rs row ≡ Some (Elem name (Some simple) tried behind body)) rows_are is))))
