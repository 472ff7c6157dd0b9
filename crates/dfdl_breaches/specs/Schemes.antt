-- The escape schemes that components name, as the rules see them ('Simple Types', on escapeSchemeRef, and 'Property Scoping and
-- DFDL Schema Checking').
use Rattle.std.specs.Prelude.{ℕ, List, map, Option, None, Some, codes, if◌then◌else◌}
use Rattle.dfdl_documents.specs.Documents.{SchemaDocument}
use Rattle.dfdl_components.specs.declared.site.Site.{Site}
use Rattle.dfdl_escape_schemes.specs.declared.named.NamedScheme.{NamedScheme}
use Rattle.dfdl_escape_schemes.specs.declared.named.NamedScheme.TheVariants.{NoName}
use Rattle.dfdl_scope.specs.Expressions.{is_expression, literal}
use Rattle.dfdl_scope.specs.Scoping.{Element, Told, Value, Absent, Twice, told}
use Rattle.dfdl_checks.specs.Values.{is_empty}
use Rattle.dfdl_chains.specs.Chains.{chain_sites}
use Rattle.dfdl_references.specs.Schemes.{named_scheme}
use Rattle.dfdl_references.specs.Writers.{writer_of}
use Rattle.dfdl_breaches.specs.Elements.{element_at}

-- a text, where it isn't empty
abbrev pub text_or_none : List ℕ → Option (List ℕ)
text_or_none text = if is_empty text then None else Some text

-- the name of a scheme that is told, by no expression; an empty text is none
abbrev pub scheme_name : Told → Option (List ℕ)
scheme_name (Value written) = if is_expression written then None else text_or_none (literal written)
scheme_name Absent = None
scheme_name (Twice place) = None

-- the scheme of a name, which is one where it is written
abbrev pub scheme_written : List SchemaDocument → List ℕ → Option Site → NamedScheme
scheme_written documents text None = NoName
scheme_written documents text (Some writer) = named_scheme documents writer text

-- the scheme of a name that may be lacking
abbrev pub scheme_by_name : List SchemaDocument → Option Site → Option (List ℕ) → NamedScheme
scheme_by_name documents writer None = NoName
scheme_by_name documents writer (Some text) = scheme_written documents text writer

-- the scheme that a chain names, where its property is written at this element
abbrev pub scheme_told : List SchemaDocument → Option Site → List Element → NamedScheme
scheme_told documents writer chain = scheme_by_name documents writer (scheme_name (told chain (codes "escapeSchemeRef")))

-- the scheme that the chain of these elements names
unfoldable pub scheme_of : List SchemaDocument → List Site → NamedScheme
scheme_of documents sites = scheme_told documents (writer_of documents sites (codes "escapeSchemeRef")) (map (element_at documents) sites)

-- the scheme that a component names
abbrev pub scheme_at : List SchemaDocument → Site → NamedScheme
scheme_at documents own = scheme_of documents (chain_sites documents own)
