-- The types of length prefixes, by their names.
use Rattle.std.proofs.Common.{◌≡◌, refl, sym, ap, ◌∙◌, ℕ, List, map, Bool, true, false, if◌then◌else◌, Option, Some, None, option_and_then, codes}
use Rattle.std.proofs.lemmas.Simd.{map-map}
use Rattle.dfdl_documents.specs.Documents.{SchemaDocument}
use Rattle.dfdl_forms.specs.declared.simple.Simple.{Simple}
use Rattle.dfdl_report.specs.declared.place.Place.{Place}
use Rattle.dfdl_components.specs.declared.site.Site.{Site}
use Rattle.dfdl_escape_schemes.specs.declared.named.NamedScheme.{NamedScheme}
use Rattle.dfdl_scope.specs.Expressions.{is_expression, literal}
use Rattle.dfdl_scope.specs.Scoping.{Element, Told, Value, Absent, Twice, told}
use Rattle.dfdl_checks.specs.Judged.{PrefixJudged}
use Rattle.dfdl_checks.specs.Subjects.{is_word}
use Rattle.dfdl_chains.specs.Chains.{chain_sites}
use Rattle.dfdl_references.specs.Writers.{by_default_writer, writer_of}
use Rattle.dfdl_breaches.specs.Elements.{element_at, place_of}
use Rattle.dfdl_breaches.specs.Prefixes.{built_in_chain, built_in_type, by_default_alone, defined_type, judged_told, judged_written, prefix_at}
use Rattle.dfdl_breaches.specs.PrefixesShown.{name_in, type_told}
use Rattle.dfdl_breaches.specs.Roots.{chain_at}
use Rattle.dfdl_breaches.specs.Schemes.{scheme_told}
use Rattle.dfdl_breaches.proofs.Keeping.{same_place}
use Rattle.dfdl_breaches.proofs.NamedSchemes.{of_chain}

-- the type of a name that may be lacking, where its property is written
abbrev judged_by : List SchemaDocument → Site → Option (List ℕ) → Option PrefixJudged
judged_by documents own text =
    option_and_then (λ (t : List ℕ). option_and_then (judged_written documents own t) (writer_of documents (chain_sites documents own) (codes "prefixLengthType"))) text

-- the type that is told is that of the name
told_by_name : (documents : List SchemaDocument) (own : Site) (types : Told) → judged_told documents own types ≡ judged_by documents own (name_in types)
told_by_name documents own Absent = refl
told_by_name documents own (Twice place) = refl
told_by_name documents own (Value written) = by_kind (is_expression written)
  where
    by_kind : (e : Bool)
        → (if e then None else option_and_then (judged_written documents own (literal written)) (writer_of documents (chain_sites documents own) (codes "prefixLengthType")))
        ≡ judged_by documents own (if e then None else Some (literal written))
    by_kind true = refl
    by_kind false = refl

-- the type of a component's prefix is that of the name which its chain tells
by_name : (documents : List SchemaDocument) (own : Site) → prefix_at documents own ≡ judged_by documents own (type_told (chain_at documents own))
unfolding prefix_at
by_name documents own =
    by_word (is_word (codes "prefixed") (told (chain_at documents own) (codes "lengthKind"))) (told (chain_at documents own) (codes "prefixLengthType"))
  where
    by_word : (prefixed : Bool) (types : Told)
        → (if prefixed then judged_told documents own types else None) ≡ judged_by documents own (if prefixed then name_in types else None)
    by_word true types = told_by_name documents own types
    by_word false types = refl

-- no name is told
pub none_told : (documents : List SchemaDocument) (own : Site) (chain : List Element) → chain ≡ chain_at documents own → None ≡ type_told chain
    → None ≡ prefix_at documents own
none_told documents own chain is none =
    ap (judged_by documents own) (none ∙ ap type_told is) ∙ sym (by_name documents own)

-- a name is told, and this is where it is written
pub name_told : (documents : List SchemaDocument) (own : Site) (sites : List Site) (chain : List Element) (text : List ℕ) (writer : Option Site)
    → sites ≡ chain_sites documents own → chain ≡ chain_at documents own → Some text ≡ type_told chain
    → writer ≡ writer_of documents sites (codes "prefixLengthType") → option_and_then (judged_written documents own text) writer ≡ prefix_at documents own
name_told documents own sites chain text writer at is told written =
    ap (option_and_then (judged_written documents own text)) (written ∙ ap (λ (xs : List Site). writer_of documents xs (codes "prefixLengthType")) at)
    ∙ (ap (judged_by documents own) (told ∙ ap type_told is) ∙ sym (by_name documents own))

-- the type of a prefix by its parts
abbrev prefix_judged : Option Simple → Place → List Element → NamedScheme → PrefixJudged
prefix_judged simple place chain scheme = record { simple = simple; place = place; chain = chain; scheme = scheme }

-- a type that a document defines
pub defined : (documents : List SchemaDocument) (type : Site) (simple : Option Simple) (sites : List Site) (place : Place) (chain : List Element)
    (scheme : NamedScheme) → place.document ≡ (place_of documents type).document → place.at ≡ (place_of documents type).at
    → chain ≡ map (element_at documents) sites → scheme ≡ scheme_told documents (writer_of documents sites (codes "escapeSchemeRef")) chain
    → prefix_judged simple place chain scheme ≡ defined_type documents type simple sites
defined documents type simple sites place chain scheme document at made named = λ i. record {
  simple = simple;
  place = same_place place (place_of documents type).document (place_of documents type).at document at i;
  chain = made i;
  scheme = of_chain documents sites chain scheme named made i;
}

-- a type that no document defines
pub built_in : (documents : List SchemaDocument) (own : Site) (simple : Option Simple) (sites : List Site) (place : Place) (chain : List Element)
    (scheme : NamedScheme) → place.document ≡ (place_of documents own).document → place.at ≡ (place_of documents own).at
    → sites ≡ chain_sites documents own → chain ≡ map (λ (s : Site). by_default_alone (element_at documents s)) sites
    → scheme ≡ scheme_told documents (by_default_writer documents sites (codes "escapeSchemeRef")) chain
    → prefix_judged simple place chain scheme ≡ built_in_type documents own simple
built_in documents own simple sites place chain scheme document at sited made named = λ i. record {
  simple = simple;
  place = same_place place (place_of documents own).document (place_of documents own).at document at i;
  chain = same i;
  scheme =
      (named
      ∙ (ap (λ (xs : List Site). scheme_told documents (by_default_writer documents xs (codes "escapeSchemeRef")) chain) sited
      ∙ ap (scheme_told documents (by_default_writer documents (chain_sites documents own) (codes "escapeSchemeRef"))) same)) i;
}
  where
    same : chain ≡ built_in_chain documents own
    same =
        made
        ∙ (ap (map (λ (s : Site). by_default_alone (element_at documents s))) sited
        ∙ sym (map-map by_default_alone (element_at documents) (chain_sites documents own)))
