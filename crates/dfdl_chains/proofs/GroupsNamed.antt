-- The groups that texts name are those of the documents.
use Rattle.std.proofs.Common.{◌≡◌, ℕ, List, Option, Some, None, IfSome, refl, subst}
use Rattle.std.specs.Option.{option_and_then}
use Rattle.dfdl_documents.specs.Documents.{SchemaDocument}
use Rattle.dfdl_components.specs.declared.kind.ComponentKind.TheVariants as kind
use Rattle.dfdl_components.specs.declared.site.Site.{Site}
use Rattle.dfdl_components.specs.Naming.{resolved}
use Rattle.dfdl_components.specs.Sites.{IsSite}
use Rattle.dfdl_chains.specs.Declarations.{component_of, part_inside}
use Rattle.dfdl_chains.specs.Hidden.{group_named}
use Rattle.dfdl_chains.proofs.Within.{named_group_within, inside_is_within}

-- what may be found is an element of the documents
some_within : (documents : List SchemaDocument) (o : Option Site) (own : Site) → IfSome o (IsSite documents) → o ≡ Some own → IsSite documents own
some_within documents None own within is = absurd (cc)
some_within documents (Some found) own within is = subst (IsSite documents) (same found own is) within
  where
    same : (a b : Site) → Some a ≡ Some b → a ≡ b
    same a b one = cc

pub named_within : (documents : List SchemaDocument) (text : List ℕ) (writer own : Site) → group_named documents text writer ≡ Some own → IsSite documents own
named_within documents text writer own is =
    by (component_of (resolved documents writer kind.Group text)) (named_group_within documents writer text _ refl) is
  where
    by : (o : Option Site) → IfSome o (IsSite documents) → option_and_then (part_inside documents) o ≡ Some own → IsSite documents own
    by None within none = absurd (cc)
    by (Some group) within found = some_within documents (part_inside documents group) own (inside_is_within documents group within) found
