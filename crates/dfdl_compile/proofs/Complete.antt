-- A schema with its terms, its components and its writings.
use Rattle.std.proofs.Common.{◌≡◌, ℕ, List, map, length, Bool, Result, Ok, Err, IfOk, IfErr, ap, sym, subst, ◌∙◌, arith}
use Rattle.std.proofs.lemmas.List.{length-map}
use Rattle.dfdl_documents.specs.Documents.{SchemaDocument}
use Rattle.dfdl_components.specs.declared.site.Site.{Site}
use Rattle.dfdl_components.specs.Recursion.{number_of}
use Rattle.dfdl_components.specs.Sites.{IsSite}
use Rattle.dfdl_terms.specs.Rows.{Table}
use Rattle.dfdl_terms.specs.declared.writing.Writing.{Writing}
use Rattle.dfdl_checks.specs.declared.purpose.Purpose.{Purpose}
use Rattle.dfdl_chains.specs.Everywhere.{all_sites, for_each}
use Rattle.dfdl_chains.proofs.Numbering.{length_all, number_below}
use Rattle.dfdl_breaches.specs.Judging.{judgement_at}
use Rattle.dfdl_breaches.specs.declared.judgement.Judgement.{Judgement}
use Rattle.dfdl_rows.specs.Components.{Schema}
use Rattle.dfdl_compile.specs.Components.{component_at, components_of}
use Rattle.dfdl_compile.specs.Whole.{IsOfOne, writing_at, writing_by, writings_of}
use Rattle.dfdl_compile.specs.WholeShown.{terms_of}
use Rattle.dfdl_compile.specs.declared.fault.CompileFault.{CompileFault}
use Rattle.dfdl_compile.specs.declared.whole.CompiledSchema.{CompiledSchema}
use Rattle.dfdl_compile.proofs.Fitting.{twice}

-- what holds of the terms holds of those of the schema
pub holds : (P : Table → Type 0) (r : Result CompiledSchema CompileFault) (terms : Result Table CompileFault) → terms_of r ≡ terms → IfOk terms P
    → IfOk r (λ whole. P whole.terms)
holds P (Ok whole) terms is known = subst (λ (t : Result Table CompileFault). IfOk t P) (sym is) known
holds P (Err e) terms is known = tt

-- what holds of the fault holds of that of the schema
pub fails : (P : CompileFault → Type 0) (r : Result CompiledSchema CompileFault) (terms : Result Table CompileFault) → terms_of r ≡ terms → IfErr terms P
    → IfErr r P
fails P (Ok whole) terms is known = tt
fails P (Err e) terms is known = subst (λ (t : Result Table CompileFault). IfErr t P) (sym is) known

-- what holds of a part holds of that of the schema
pub parted : {X : Type 0} (P : X → Type 0) (part : CompiledSchema → X) (x : X) (r : Result CompiledSchema CompileFault) → IfOk r (λ whole. part whole ≡ x)
    → P x → IfOk r (λ whole. P (part whole))
parted P part x (Ok whole) is known = subst P (sym is) known
parted P part x (Err e) is known = tt

module _ (purpose : Purpose) (refused : Site → Bool) (documents : List SchemaDocument) where
  -- how the elements are written is how the components of the documents are
  pub writings_are : (judgements : List Judgement) → judgements ≡ for_each documents (judgement_at purpose refused documents)
      → map writing_by judgements ≡ writings_of purpose refused documents
  writings_are judgements told = ap (map writing_by) told ∙ twice writing_by (judgement_at purpose refused documents) (all_sites documents)

  -- there are as many components as elements
  length_components : length (components_of purpose refused documents).components ≡ length (all_sites documents)
  unfolding components_of
  length_components = length-map (all_sites documents) (component_at purpose refused documents)

  module _ (root : Site) (within : IsSite documents root) (components : Schema) (number : ℕ) (writings : List Writing) where
    pub of_one : (r : Result CompiledSchema CompileFault) → IfOk r (λ whole. whole.components ≡ components) → IfOk r (λ whole. whole.root ≡ number)
        → IfOk r (λ whole. whole.writings.items ≡ writings) → components ≡ components_of purpose refused documents → number ≡ number_of documents root
        → writings ≡ writings_of purpose refused documents → IfOk r IsOfOne
    of_one (Err e) has_components has_root has_writings components_are number_is writings_are = tt
    of_one (Ok whole) has_components has_root has_writings components_are number_is writings_are =
        let all = ap (λ (s : Schema). length s.components) (has_components ∙ components_are) ∙ length_components in
        record {
          writings = ap (λ (ws : List Writing). length ws) (has_writings ∙ writings_are) ∙ (length-map (all_sites documents) (writing_at purpose refused documents) ∙ sym all);
          root = omega (arith, has_root, number_is, number_below documents root within, length_all documents, all);
        }
