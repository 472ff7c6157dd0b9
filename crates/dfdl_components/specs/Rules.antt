-- THE rules that a schema's documents keep, and which broken one is told ('DFDL Schema Component
-- Model').
use Rattle.std.specs.Prelude.{◌≡◌, ℕ, Bool, List, [], ◌∷◌, Option, Some, None, if◌then◌else◌}
use Rattle.dfdl_markup.specs.Trees.{Node}
use Rattle.dfdl_report.specs.declared.cause.SchemaCause.{SchemaCause}
use Rattle.dfdl_report.specs.declared.cause.SchemaCause.TheVariants as cause
use Rattle.dfdl_constructs.specs.OutsideSubset.{is_outside_subset}
use Rattle.dfdl_constructs.specs.ValuesAllowed.{is_value_not_allowed}
use Rattle.dfdl_constructs.specs.UnknownAnnotations.{is_unknown_annotation}
use Rattle.dfdl_documents.specs.Documents.{SchemaDocument}
use Rattle.dfdl_components.specs.declared.site.Site.{Site}
use Rattle.dfdl_components.specs.Sites.{nodes_of, IsSite, StandsBefore}
use Rattle.dfdl_components.specs.Globals.{is_global_twice}
use Rattle.dfdl_components.specs.Naming.{is_name_not_found}
use Rattle.dfdl_components.specs.Recursion.{is_recursive}

-- a rule: its cause, and the elements that break it
pub record Rule : Type 0 where
  pub cause : SchemaCause
  pub breaks : Site → Bool

-- a rule on the elements of each document alone
abbrev pub in_document : List SchemaDocument → (List Node → ℕ → Bool) → Site → Bool
in_document documents test own = test (nodes_of documents own.document) own.element

-- THE table of rules, in the order of their numbers
unfoldable pub loading_rules : List SchemaDocument → List Rule
loading_rules documents =
    record { cause = cause.NameNotFound; breaks = is_name_not_found documents }
    ∷ record { cause = cause.GlobalTwice; breaks = is_global_twice documents }
    ∷ record { cause = cause.OutsideSubset; breaks = in_document documents is_outside_subset }
    ∷ record { cause = cause.ValueNotAllowed; breaks = in_document documents is_value_not_allowed }
    ∷ record { cause = cause.Recursive; breaks = is_recursive documents }
    ∷ record { cause = cause.UnknownAnnotation; breaks = in_document documents is_unknown_annotation }
    ∷ []

-- the first of the rules that an element breaks
abbrev pub first_at : List Rule → Site → Option SchemaCause
first_at [] own = None
first_at (rule ∷ rules) own = if rule.breaks own then Some rule.cause else first_at rules own

-- an element breaks a rule, this one first, and no element before it breaks any
pub record IsFirst (rules : List Rule) (documents : List SchemaDocument) (own : Site) (cause : SchemaCause) : Type 0 where
  pub within : IsSite documents own
  pub broken : first_at rules own ≡ Some cause
  pub before : (other : Site) → IsSite documents other → StandsBefore other own → first_at rules other ≡ None

-- no element breaks a rule
abbrev pub AllKeep : List Rule → List SchemaDocument → Type 0
AllKeep rules documents = (own : Site) → IsSite documents own → first_at rules own ≡ None
