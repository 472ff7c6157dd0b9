-- The type of a component's length prefix, as the rules see it ('Lengths', on prefixLengthType, and 'Property Scoping and DFDL
-- Schema Checking').
use Rattle.std.specs.Prelude.{ℕ, List, [], ◌∷◌, map, Bool, false, Option, None, option_and_then, option_map, codes, if◌then◌else◌}
use Rattle.dfdl_documents.specs.Documents.{SchemaDocument}
use Rattle.dfdl_components.specs.declared.site.Site.{Site}
use Rattle.dfdl_scope.specs.Expressions.{is_expression, literal}
use Rattle.dfdl_scope.specs.Scoping.{Element, Told, Value, Absent, Twice, nothing, told}
use Rattle.dfdl_checks.specs.Judged.{PrefixJudged}
use Rattle.dfdl_checks.specs.Subjects.{is_word}
use Rattle.dfdl_chains.specs.Chains.{chain_sites}
use Rattle.dfdl_chains.specs.Prefixes.{NamedType, prefix_type}
use Rattle.dfdl_forms.specs.declared.simple.Simple.{Simple}
use Rattle.dfdl_references.specs.Writers.{by_default_writer, writer_of}
use Rattle.dfdl_breaches.specs.Elements.{element_at, place_of}
use Rattle.dfdl_breaches.specs.Roots.{chain_at}
use Rattle.dfdl_breaches.specs.Schemes.{scheme_of, scheme_told}

-- no property is given twice
abbrev pub never : List ℕ → Bool
never name = false

-- an element of a chain that gives by its document's default format alone
abbrev pub by_default_alone : Element → Element
by_default_alone element = record {
  place = element.place;
  own = nothing;
  is_twice = never;
  format = nothing;
  by_default = element.by_default;
}

-- The chain of a simple type of XML Schema's, which no document defines: the default formats of the documents of the component's
-- chain (profile).
abbrev pub built_in_chain : List SchemaDocument → Site → List Element
built_in_chain documents own = map by_default_alone (chain_at documents own)

-- a type of XML Schema's as that of a component's prefix: it stands where the component does
abbrev pub built_in_type : List SchemaDocument → Site → Option Simple → PrefixJudged
built_in_type documents own simple = record {
  simple = simple;
  place = place_of documents own;
  chain = built_in_chain documents own;
  scheme = scheme_told documents (by_default_writer documents (chain_sites documents own) (codes "escapeSchemeRef")) (built_in_chain documents own);
}

-- a type that comes of these simple types as that of a component's prefix: it stands where the first of them does
abbrev pub defined_type : List SchemaDocument → Site → Option Simple → List Site → PrefixJudged
defined_type documents type simple sites = record {
  simple = simple;
  place = place_of documents type;
  chain = map (element_at documents) sites;
  scheme = scheme_of documents sites;
}

-- the type of a component's prefix, where it comes of these simple types
abbrev pub judged_type : List SchemaDocument → Site → NamedType → List Site → PrefixJudged
judged_type documents own named [] = built_in_type documents own named.simple
judged_type documents own named (type ∷ bases) = defined_type documents type named.simple (type ∷ bases)

-- the same
abbrev pub judged_named : List SchemaDocument → Site → NamedType → PrefixJudged
judged_named documents own named = judged_type documents own named named.sites

-- the type that a text names which is written at an element, as that of a component's prefix
abbrev pub judged_written : List SchemaDocument → Site → List ℕ → Site → Option PrefixJudged
judged_written documents own text writer = option_map (judged_named documents own) (prefix_type documents writer text)

-- the type that is told as that of a component's prefix, by no expression: its name is one where it is written
abbrev pub judged_told : List SchemaDocument → Site → Told → Option PrefixJudged
judged_told documents own (Value written) =
    if is_expression written then None
    else option_and_then (judged_written documents own (literal written)) (writer_of documents (chain_sites documents own) (codes "prefixLengthType"))
judged_told documents own Absent = None
judged_told documents own (Twice place) = None

-- the type of a component's prefix, where its length is prefixed
unfoldable pub prefix_at : List SchemaDocument → Site → Option PrefixJudged
prefix_at documents own =
    if is_word (codes "prefixed") (told (chain_at documents own) (codes "lengthKind"))
    then judged_told documents own (told (chain_at documents own) (codes "prefixLengthType"))
    else None
