-- What a named type comes of is within the documents.
use Rattle.std.proofs.Common.{◌≡◌, ℕ, List, All, Option, Some, None, option_map, IfSome, sym, subst}
use Rattle.dfdl_documents.specs.Documents.{SchemaDocument}
use Rattle.dfdl_components.specs.declared.kind.ComponentKind.TheVariants as kind
use Rattle.dfdl_components.specs.declared.named.Named.{Named}
use Rattle.dfdl_components.specs.declared.site.Site.{Site}
use Rattle.dfdl_components.specs.Naming.{resolved}
use Rattle.dfdl_components.specs.Sites.{IsSite}
use Rattle.dfdl_chains.specs.declared.typed.Typed.{Typed}
use Rattle.dfdl_chains.specs.Derivation as derivation
use Rattle.dfdl_chains.specs.Shown.{IsTypeOf}
use Rattle.dfdl_chains.proofs.Within.{derived_within, type_named_within}

-- the type that a text names
pub written_within : (documents : List SchemaDocument) (own : Site) (text : List ℕ) (found : Option Typed)
    → found ≡ option_map (λ (named : Named). derivation.typed_by text (Some named)) (resolved documents own kind.Type text) → IfSome found (IsTypeOf documents)
written_within documents own text found is =
    subst (λ (o : Option Typed). IfSome o (IsTypeOf documents)) (sym is) (by_name (resolved documents own kind.Type text) (type_named_within documents own (Some text)))
  where
    by_name : (o : Option Named) → IsTypeOf documents (derivation.typed_by text o)
        → IfSome (option_map (λ (named : Named). derivation.typed_by text (Some named)) o) (IsTypeOf documents)
    by_name None within = tt
    by_name (Some named) within = within

-- the simple types that a type comes of
pub sites_within : (documents : List SchemaDocument) (n : ℕ) (typed : Typed) (sites : List Site) → IsTypeOf documents typed
    → sites ≡ derivation.derived_within n documents typed → All (IsSite documents) sites
sites_within documents n typed sites within is = subst (All (IsSite documents)) (sym is) (derived_within documents n typed within)
