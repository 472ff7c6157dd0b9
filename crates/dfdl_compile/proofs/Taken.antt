-- The primitives that rows name, and the lists of literals: those of the documents.
use Rattle.std.proofs.Common.{◌≡◌, ℕ, ◌+◌, Bool, true, false, List, ◌++◌, length, length-append, map, All, Option, None, Some, unwrap_or, ap, sym, subst, ◌∙◌, refl, arith}
use Rattle.std.proofs.lemmas.List.{length-map}
use Rattle.std.proofs.lemmas.List.Elements.{All-append}
use Rattle.dfdl_forms.specs.Types.{form_of}
use Rattle.dfdl_forms.specs.declared.simple.Form.{Form}
use Rattle.dfdl_forms.specs.declared.simple.Form.TheVariants as forms
use Rattle.dfdl_forms.specs.declared.simple.Simple.{Simple}
use Rattle.dfdl_documents.specs.Documents.{SchemaDocument}
use Rattle.dfdl_components.specs.declared.site.Site.{Site}
use Rattle.dfdl_components.specs.Sites.{IsSite, role_of}
use Rattle.dfdl_components.specs.Recursion.{count_of}
use Rattle.dfdl_checks.specs.Forms.{IsWhole}
use Rattle.dfdl_checks.specs.Representations.{no_representations}
use Rattle.dfdl_checks.specs.declared.prefixes.PrefixForm.{PrefixForm}
use Rattle.dfdl_checks.specs.declared.tried.OtherRepresentations.{OtherRepresentations}
use Rattle.dfdl_checks.specs.declared.purpose.Purpose.{Purpose}
use Rattle.dfdl_checks.specs.declared.purpose.Purpose.TheVariants.{Unparsing}
use Rattle.dfdl_chains.specs.Everywhere.{all_sites, for_each}
use Rattle.dfdl_chains.specs.Parts.{is_component}
use Rattle.dfdl_chains.proofs.Numbering.{length_all}
use Rattle.dfdl_breaches.specs.Judging.{primitive_at as judged, form_of_prefix, judgement_at, others_at, simple_at}
use Rattle.dfdl_breaches.specs.declared.judgement.Judgement.{Judgement}
use Rattle.dfdl_terms.specs.declared.delimiters.Delimiters.{Delimiters}
use Rattle.dfdl_terms.specs.Rows.{IsPrimitive}
use Rattle.dfdl_terms.specs.declared.row.Primitive.{Primitive}
use Rattle.dfdl_compile.specs.Components.{delimiters_of, empty_primitive_at, nil_primitive_at, prefix_primitive_at, primitive_at, primitives_of, tried_primitive_at}
use Rattle.dfdl_compile.specs.Delimiters.{initiator_list_by, separator_list_by, terminator_list_by}
use Rattle.dfdl_compile.specs.Primitives.{HasWrittenText, a_byte, empty_primitive_by, nil_primitive_by, one_of_form, stand_in, prefix_primitive_by, primitive_by, primitive_if, tried_primitive_by}
use Rattle.dfdl_compile.proofs.Fitting.{all_within, each, twice}
use Rattle.dfdl_compile.proofs.Hiding.{judgement_if}

-- what holds of a byte, of each primitive that is judged, of that of each prefix, and of those of each nil and each empty
-- representation, of required and of tried occurrences, holds of those of an element
module _ (P : Primitive → Type 0) (byte : P a_byte) (purpose : Purpose) (refused : Site → Bool) (documents : List SchemaDocument)
    (stands : (own : Site) → P (stand_in (simple_at purpose refused documents own))) where
  by_own : (own : Site) (o : Option Primitive) → ((p : Primitive) → o ≡ Some p → P p) → P (unwrap_or o (stand_in (simple_at purpose refused documents own)))
  by_own own None holds = stands own
  by_own own (Some p) holds = holds p refl

  by_some : (o : Option Primitive) → ((p : Primitive) → o ≡ Some p → P p) → P (unwrap_or o a_byte)
  by_some None holds = byte
  by_some (Some p) holds = holds p refl

  by_prefix : (o : Option PrefixForm) → ((f : PrefixForm) → o ≡ Some f → P f.primitive) → P (primitive_if o)
  by_prefix None holds = byte
  by_prefix (Some f) holds = holds f refl

  by_component : (own : Site) (b : Bool) → ((p : Primitive) → judged purpose refused documents own ≡ Some p → P p) → P (primitive_by (judgement_if purpose refused documents own b))
  unfolding judgement_if
  by_component own true holds = by_own own (judged purpose refused documents own) holds
  by_component own false holds = byte

  by_prefixed : (own : Site) (b : Bool) → ((f : PrefixForm) → form_of_prefix purpose refused documents own ≡ Some f → P f.primitive)
      → P (prefix_primitive_by (judgement_if purpose refused documents own b))
  unfolding judgement_if
  by_prefixed own true holds = by_prefix (form_of_prefix purpose refused documents own) holds
  by_prefixed own false holds = byte

  by_nil : (own : Site) (b : Bool) → ((p : Primitive) → (others_at purpose refused documents own).nil ≡ Some p → P p)
      → P (nil_primitive_by (judgement_if purpose refused documents own b))
  unfolding judgement_if
  by_nil own true holds = by_some (others_at purpose refused documents own).nil holds
  by_nil own false holds = byte

  by_empty : (own : Site) (b : Bool) → ((p : Primitive) → (others_at purpose refused documents own).required.empty ≡ Some p → P p)
      → P (empty_primitive_by (judgement_if purpose refused documents own b))
  unfolding judgement_if
  by_empty own true holds = by_some (others_at purpose refused documents own).required.empty holds
  by_empty own false holds = byte

  by_tried : (own : Site) (b : Bool) → ((p : Primitive) → (others_at purpose refused documents own).where_tried.empty ≡ Some p → P p)
      → P (tried_primitive_by (judgement_if purpose refused documents own b))
  unfolding judgement_if
  by_tried own true holds = by_some (others_at purpose refused documents own).where_tried.empty holds
  by_tried own false holds = byte

  holds_at : (own : Site) → ((p : Primitive) → judged purpose refused documents own ≡ Some p → P p) → P (primitive_at purpose refused documents own)
  unfolding judgement_at judgement_if
  holds_at own holds = by_component own (is_component (role_of documents own)) holds

  prefix_holds_at : (own : Site) → ((f : PrefixForm) → form_of_prefix purpose refused documents own ≡ Some f → P f.primitive)
      → P (prefix_primitive_at purpose refused documents own)
  unfolding judgement_at judgement_if
  prefix_holds_at own holds = by_prefixed own (is_component (role_of documents own)) holds

  nil_holds_at : (own : Site) → ((p : Primitive) → (others_at purpose refused documents own).nil ≡ Some p → P p) → P (nil_primitive_at purpose refused documents own)
  unfolding judgement_at judgement_if
  nil_holds_at own holds = by_nil own (is_component (role_of documents own)) holds

  empty_holds_at : (own : Site) → ((p : Primitive) → (others_at purpose refused documents own).required.empty ≡ Some p → P p)
      → P (empty_primitive_at purpose refused documents own)
  unfolding judgement_at judgement_if
  empty_holds_at own holds = by_empty own (is_component (role_of documents own)) holds

  tried_holds_at : (own : Site) → ((p : Primitive) → (others_at purpose refused documents own).where_tried.empty ≡ Some p → P p)
      → P (tried_primitive_at purpose refused documents own)
  unfolding judgement_at judgement_if
  tried_holds_at own holds = by_tried own (is_component (role_of documents own)) holds

  holds_of_each : (f : Site → Primitive) → ((own : Site) → P (f own)) → All P (for_each documents f)
  holds_of_each f holds = each (IsSite documents) P f (λ own within. holds own) (all_sites documents) (all_within documents)

  holds_of : ((own : Site) (p : Primitive) → judged purpose refused documents own ≡ Some p → P p)
      → ((own : Site) (f : PrefixForm) → form_of_prefix purpose refused documents own ≡ Some f → P f.primitive)
      → ((own : Site) (p : Primitive) → (others_at purpose refused documents own).nil ≡ Some p → P p)
      → ((own : Site) (p : Primitive) → (others_at purpose refused documents own).required.empty ≡ Some p → P p)
      → ((own : Site) (p : Primitive) → (others_at purpose refused documents own).where_tried.empty ≡ Some p → P p)
      → (tables : List Primitive) → tables ≡ primitives_of purpose refused documents → All P tables
  unfolding primitives_of
  holds_of holds prefixes nils empties tried tables are = subst (λ (ps : List Primitive). All P ps) (sym are)
      (All-append P (for_each documents (primitive_at purpose refused documents))
      (for_each documents (prefix_primitive_at purpose refused documents)
      ++ (for_each documents (nil_primitive_at purpose refused documents)
      ++ (for_each documents (empty_primitive_at purpose refused documents) ++ for_each documents (tried_primitive_at purpose refused documents))))
      (holds_of_each (primitive_at purpose refused documents) (λ own. holds_at own (holds own)))
      (All-append P (for_each documents (prefix_primitive_at purpose refused documents))
      (for_each documents (nil_primitive_at purpose refused documents)
      ++ (for_each documents (empty_primitive_at purpose refused documents) ++ for_each documents (tried_primitive_at purpose refused documents)))
      (holds_of_each (prefix_primitive_at purpose refused documents) (λ own. prefix_holds_at own (prefixes own)))
      (All-append P (for_each documents (nil_primitive_at purpose refused documents))
      (for_each documents (empty_primitive_at purpose refused documents) ++ for_each documents (tried_primitive_at purpose refused documents))
      (holds_of_each (nil_primitive_at purpose refused documents) (λ own. nil_holds_at own (nils own)))
      (All-append P (for_each documents (empty_primitive_at purpose refused documents)) (for_each documents (tried_primitive_at purpose refused documents))
      (holds_of_each (empty_primitive_at purpose refused documents) (λ own. empty_holds_at own (empties own)))
      (holds_of_each (tried_primitive_at purpose refused documents) (λ own. tried_holds_at own (tried own)))))))

-- the table is that of the documents
pub tables_are : (purpose : Purpose) (refused : Site → Bool) (documents : List SchemaDocument) (judgements : List Judgement) (tables : List Primitive)
    → judgements ≡ for_each documents (judgement_at purpose refused documents)
    → tables ≡ map primitive_by judgements
    ++ (map prefix_primitive_by judgements
    ++ (map nil_primitive_by judgements ++ (map empty_primitive_by judgements ++ map tried_primitive_by judgements)))
    → tables ≡ primitives_of purpose refused documents
unfolding primitives_of
tables_are purpose refused documents judgements tables told are =
    are ∙ (λ i. own i ++ (prefixes i ++ (nils i ++ (empties i ++ tried i))))
  where
    at_each : (f : Judgement → Primitive) → map f judgements ≡ for_each documents (λ (s : Site). f (judgement_at purpose refused documents s))
    at_each f = ap (map f) told ∙ twice f (judgement_at purpose refused documents) (all_sites documents)

    own : map primitive_by judgements ≡ for_each documents (primitive_at purpose refused documents)
    own = at_each primitive_by

    prefixes : map prefix_primitive_by judgements ≡ for_each documents (prefix_primitive_at purpose refused documents)
    prefixes = at_each prefix_primitive_by

    nils : map nil_primitive_by judgements ≡ for_each documents (nil_primitive_at purpose refused documents)
    nils = at_each nil_primitive_by

    empties : map empty_primitive_by judgements ≡ for_each documents (empty_primitive_at purpose refused documents)
    empties = at_each empty_primitive_by

    tried : map tried_primitive_by judgements ≡ for_each documents (tried_primitive_at purpose refused documents)
    tried = at_each tried_primitive_by

-- so are the lists of delimiters
pub lists_are : (purpose : Purpose) (refused : Site → Bool) (documents : List SchemaDocument) (judgements : List Judgement) (lists : List Delimiters)
    → judgements ≡ for_each documents (judgement_at purpose refused documents)
    → lists ≡ map initiator_list_by judgements ++ (map terminator_list_by judgements ++ map separator_list_by judgements)
    → lists ≡ delimiters_of purpose refused documents
unfolding delimiters_of
lists_are purpose refused documents judgements lists told are = are ∙ (λ i. at_each initiator_list_by i ++ (at_each terminator_list_by i ++ at_each separator_list_by i))
  where
    at_each : (f : Judgement → Delimiters) → map f judgements ≡ for_each documents (λ (s : Site). f (judgement_at purpose refused documents s))
    at_each f = ap (map f) told ∙ twice f (judgement_at purpose refused documents) (all_sites documents)

-- it keeps the bounds of its type, if its text is one of characters
abbrev IsBoundedIf : Primitive → Type 0
IsBoundedIf p = HasWrittenText p → IsPrimitive p

byte_bounded : IsPrimitive a_byte
byte_bounded = record { some = omega arith; few = omega arith; short = omega arith; places = omega arith }

form_bounded : (f : Form) → IsPrimitive (one_of_form f)
form_bounded (forms.Signed bits) = byte_bounded
form_bounded (forms.Unsigned bits) = byte_bounded
form_bounded forms.Fixed = byte_bounded
form_bounded forms.Characters = record { size = omega arith; content = tt }
form_bounded forms.Truths = (omega arith, omega arith)
form_bounded forms.Octets = omega arith

stand_in_bounded : (o : Option Simple) → IsPrimitive (stand_in o)
stand_in_bounded None = byte_bounded
stand_in_bounded (Some simple) = form_bounded (form_of simple)

-- each keeps the bounds of its type
pub bounded : (purpose : Purpose) (refused : Site → Bool) (documents : List SchemaDocument)
    → ((purpose : Purpose) (refused : Site → Bool) (documents : List SchemaDocument) (own : Site) (p : Primitive) → judged purpose refused documents own ≡ Some p → IsPrimitive p)
    → ((purpose : Purpose) (refused : Site → Bool) (documents : List SchemaDocument) (own : Site) (f : PrefixForm) → form_of_prefix purpose refused documents own ≡ Some f
    → IsPrimitive f.primitive)
    → ((purpose : Purpose) (refused : Site → Bool) (documents : List SchemaDocument) (own : Site) (p : Primitive) → (others_at purpose refused documents own).nil ≡ Some p → IsPrimitive p)
    → ((purpose : Purpose) (refused : Site → Bool) (documents : List SchemaDocument) (own : Site) (p : Primitive) → (others_at purpose refused documents own).required.empty ≡ Some p
    → HasWrittenText p → IsPrimitive p)
    → ((purpose : Purpose) (refused : Site → Bool) (documents : List SchemaDocument) (own : Site) (p : Primitive) → (others_at purpose refused documents own).where_tried.empty ≡ Some p
    → HasWrittenText p → IsPrimitive p)
    → (tables : List Primitive) → tables ≡ primitives_of purpose refused documents → All HasWrittenText tables → All IsPrimitive tables
bounded purpose refused documents law prefixes nils empties tried tables are written =
    let each_if : All IsBoundedIf tables = holds_of IsBoundedIf
    (λ text. byte_bounded)
    purpose refused documents (λ own text. stand_in_bounded (simple_at purpose refused documents own))
    (λ own p is text. law purpose refused documents own p is) (λ own f is text. prefixes purpose refused documents own f is)
    (λ own p is text. nils purpose refused documents own p is) (empties purpose refused documents) (tried purpose refused documents) tables are in
    λ k d less. each_if k d less (written k d less)

-- each for unparsing is a whole unsigned integer
pub wholes : (purpose : Purpose) (refused : Site → Bool) (documents : List SchemaDocument) → purpose ≡ Unparsing
    → ((refused : Site → Bool) (documents : List SchemaDocument) (own : Site) (p : Primitive) → judged Unparsing refused documents own ≡ Some p → IsWhole p)
    → ((refused : Site → Bool) (documents : List SchemaDocument) (own : Site) → form_of_prefix Unparsing refused documents own ≡ None)
    → ((refused : Site → Bool) (documents : List SchemaDocument) (own : Site) → others_at Unparsing refused documents own ≡ no_representations)
    → (tables : List Primitive) → tables ≡ primitives_of purpose refused documents → All IsWhole tables
wholes purpose refused documents unparsing law none normal tables are =
    holds_of IsWhole (record { bits = refl; kind = refl; bits_by = refl; point = refl }) Unparsing refused documents (λ own. record { bits = refl; kind = refl; bits_by = refl; point = refl }) (law refused documents)
    (λ own f is. absurd (no_form (none refused documents own) is))
    (λ own p is. absurd (no_form (ap (λ (o : OtherRepresentations). o.nil) (normal refused documents own)) is))
    (λ own p is. absurd (no_form (ap (λ (o : OtherRepresentations). o.required.empty) (normal refused documents own)) is))
    (λ own p is. absurd (no_form (ap (λ (o : OtherRepresentations). o.where_tried.empty) (normal refused documents own)) is)) tables
    (are ∙ ap (λ (q : Purpose). primitives_of q refused documents) unparsing)
  where
    no_form : {X : Type 0} {o : Option X} {x : X} → o ≡ None → o ≡ Some x → ⊥
    no_form is other = cc

-- there are as many primitives of one kind as elements
pub length_each : (documents : List SchemaDocument) (f : Site → Primitive) → length (for_each documents f) ≡ count_of documents
length_each documents f = length-map (all_sites documents) f ∙ length_all documents

-- the same of lists of delimiters
pub length_lists : (documents : List SchemaDocument) (f : Site → Delimiters) → length (for_each documents f) ≡ count_of documents
length_lists documents f = length-map (all_sites documents) f ∙ length_all documents

-- how many primitives there are
abbrev pub count_primitives : List SchemaDocument → ℕ
count_primitives documents = count_of documents + (count_of documents + (count_of documents + (count_of documents + count_of documents)))

-- there are five times as many primitives as elements
pub length_primitives : (purpose : Purpose) (refused : Site → Bool) (documents : List SchemaDocument) → length (primitives_of purpose refused documents) ≡ count_primitives documents
unfolding primitives_of
length_primitives purpose refused documents =
    let own = length_each documents (primitive_at purpose refused documents) in
    let prefixes = length_each documents (prefix_primitive_at purpose refused documents) in
    let nils = length_each documents (nil_primitive_at purpose refused documents) in
    let empties = length_each documents (empty_primitive_at purpose refused documents) in
    let tried = length_each documents (tried_primitive_at purpose refused documents) in
    let both = length-append (for_each documents (empty_primitive_at purpose refused documents)) (for_each documents (tried_primitive_at purpose refused documents)) in
    let last = length-append (for_each documents (nil_primitive_at purpose refused documents))
    (for_each documents (empty_primitive_at purpose refused documents) ++ for_each documents (tried_primitive_at purpose refused documents)) in
    let behind = length-append (for_each documents (prefix_primitive_at purpose refused documents))
    (for_each documents (nil_primitive_at purpose refused documents)
    ++ (for_each documents (empty_primitive_at purpose refused documents) ++ for_each documents (tried_primitive_at purpose refused documents))) in
    let all = length-append (for_each documents (primitive_at purpose refused documents))
    (for_each documents (prefix_primitive_at purpose refused documents)
    ++ (for_each documents (nil_primitive_at purpose refused documents)
    ++ (for_each documents (empty_primitive_at purpose refused documents) ++ for_each documents (tried_primitive_at purpose refused documents)))) in
    omega (arith, all, behind, last, both, own, prefixes, nils, empties, tried)
