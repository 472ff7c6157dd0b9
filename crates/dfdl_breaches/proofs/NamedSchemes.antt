-- The escape schemes that chains name.
use Rattle.std.proofs.Common.{◌≡◌, ap, subst, ◌∙◌, ℕ, List, map, Option, None, Some, Result, IfOk, codes}
use Rattle.dfdl_documents.specs.Documents.{SchemaDocument}
use Rattle.dfdl_components.specs.declared.site.Site.{Site}
use Rattle.dfdl_escape_schemes.specs.declared.named.NamedScheme.{NamedScheme}
use Rattle.dfdl_escape_schemes.specs.declared.named.NamedScheme.TheVariants.{NoName}
use Rattle.dfdl_scope.specs.Scoping.{Element, told}
use Rattle.dfdl_references.specs.Writers.{writer_of}
use Rattle.dfdl_breaches.specs.Elements.{element_at}
use Rattle.dfdl_breaches.specs.Schemes.{scheme_by_name, scheme_name, scheme_of, scheme_told, scheme_written}

-- what a chain of these elements names
pub of_chain : (documents : List SchemaDocument) (sites : List Site) (chain : List Element) (scheme : NamedScheme)
    → scheme ≡ scheme_told documents (writer_of documents sites (codes "escapeSchemeRef")) chain → chain ≡ map (element_at documents) sites
    → scheme ≡ scheme_of documents sites
unfolding scheme_of
of_chain documents sites chain scheme told is = told ∙ ap (scheme_told documents (writer_of documents sites (codes "escapeSchemeRef"))) is

module _ (documents : List SchemaDocument) (writer : Option Site) where
  -- where no name is told there is no scheme
  pub of_no_name : (chain : List Element) → None ≡ scheme_name (told chain (codes "escapeSchemeRef")) → NoName ≡ scheme_told documents writer chain
  of_no_name chain none = ap (scheme_by_name documents writer) none

  -- the scheme of the name that is told
  pub of_name : {E : Type 0} (found : Option Site) (chain : List Element) (text : List ℕ) (result : Result NamedScheme E)
      → Some text ≡ scheme_name (told chain (codes "escapeSchemeRef")) → found ≡ writer
      → IfOk result (λ scheme. scheme ≡ scheme_written documents text found) → IfOk result (λ scheme. scheme ≡ scheme_told documents writer chain)
  of_name found chain text result name is written =
      subst (λ (s : NamedScheme). IfOk result (λ (scheme : NamedScheme). scheme ≡ s))
      (ap (scheme_written documents text) is ∙ ap (scheme_by_name documents writer) name) written
