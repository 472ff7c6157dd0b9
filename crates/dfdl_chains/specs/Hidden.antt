-- The group that a text names ('Sequence Groups', on hiddenGroupRef).
use Rattle.std.specs.Prelude.{ℕ, List, Option}
use Rattle.std.specs.Option.{option_and_then}
use Rattle.dfdl_documents.specs.Documents.{SchemaDocument}
use Rattle.dfdl_components.specs.declared.kind.ComponentKind.TheVariants as kind
use Rattle.dfdl_components.specs.declared.site.Site.{Site}
use Rattle.dfdl_components.specs.Naming.{resolved}
use Rattle.dfdl_chains.specs.Declarations.{component_of, part_inside}

-- the sequence or choice of the group that a text names which is written at an element, if it names one
abbrev pub group_named : List SchemaDocument → List ℕ → Site → Option Site
group_named documents text writer = option_and_then (part_inside documents) (component_of (resolved documents writer kind.Group text))
