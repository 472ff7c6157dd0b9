-- The list of variables grows by what each element defines.
use Rattle.std.proofs.Common.{◌≡◌, ℕ, suc, ◌+◌, List, ◌++◌, length, ap, sym, ◌∙◌, arith}
use Rattle.std.specs.List.{flat_map}
use Rattle.std.proofs.lemmas.List.{flat_map_more}
use Rattle.std.proofs.lemmas.List.Concat.{flat_map-append}
use Rattle.dfdl_documents.specs.Documents.{SchemaDocument}
use Rattle.dfdl_components.specs.Sites.{nodes_of}
use Rattle.dfdl_components.specs.Globals.{site}
use Rattle.dfdl_chains.specs.Everywhere.{sites_in, sites_before}
use Rattle.dfdl_variables.specs.declared.variable.Declared.{Declared}
use Rattle.dfdl_variables.specs.Variables.{declared_if}

-- one element more of a document
pub one_element_more : (documents : List SchemaDocument) (d n : ℕ) (old held new : List Declared)
    → held ≡ old ++ flat_map (declared_if documents) (sites_in d n)
    → new ≡ held ++ declared_if documents (site d n)
    → new ≡ old ++ flat_map (declared_if documents) (sites_in d (n + 1))
one_element_more documents d n old held new before added =
    let same : n + 1 ≡ suc n = omega arith in
    added
    ∙ (ap (λ (s : List Declared). s ++ declared_if documents (site d n)) before
    ∙ (flat_map_more (declared_if documents) old (sites_in d n) (site d n)
    ∙ ap (λ (k : ℕ). old ++ flat_map (declared_if documents) (sites_in d k)) (sym same)))

-- one document more
pub one_document_more : (documents : List SchemaDocument) (d : ℕ) (held new : List Declared)
    → held ≡ flat_map (declared_if documents) (sites_before documents d)
    → new ≡ held ++ flat_map (declared_if documents) (sites_in d (length (nodes_of documents d)))
    → new ≡ flat_map (declared_if documents) (sites_before documents (d + 1))
one_document_more documents d held new before added =
    let same : d + 1 ≡ suc d = omega arith in
    added
    ∙ (ap (λ (s : List Declared). s ++ flat_map (declared_if documents) (sites_in d (length (nodes_of documents d)))) before
    ∙ (sym (flat_map-append (declared_if documents) (sites_before documents d) (sites_in d (length (nodes_of documents d))))
    ∙ ap (λ (k : ℕ). flat_map (declared_if documents) (sites_before documents k)) (sym same)))
