-- A schema with all that parsing and unparsing ask of it: its terms, the components that these come from, how each component is written
-- beside what its rows say, and its root ('DFDL Schema Component Model', 'DFDL Data Syntax Grammar').
use Rattle.std.specs.Prelude.{◌≡◌, ℕ, ◌<◌, List, length, Bool, Option, Some, option_map, Ok}
use Rattle.dfdl_documents.specs.Documents.{SchemaDocument}
use Rattle.dfdl_components.specs.Recursion.{number_of}
use Rattle.dfdl_components.specs.declared.site.Site.{Site}
use Rattle.dfdl_terms.specs.declared.writing.Writing.{Writing}
use Rattle.dfdl_checks.specs.declared.purpose.Purpose.{Purpose}
use Rattle.dfdl_chains.specs.Everywhere.{for_each}
use Rattle.dfdl_breaches.specs.Builds.{AreAllBuilt, PatternsSeen}
use Rattle.dfdl_breaches.specs.Judging.{judgement_at}
use Rattle.dfdl_breaches.specs.Roots.{root_of}
use Rattle.dfdl_breaches.specs.declared.judgement.Judgement.{Judgement}
use Rattle.dfdl_compile.specs.Components.{components_of}
use Rattle.dfdl_compile.specs.Settling.{CompilesTo, Free}
use Rattle.dfdl_compile.specs.declared.whole.CompiledSchema.{CompiledSchema}

-- how an element of which this is told is written
abbrev pub writing_by : Judgement → Writing
writing_by judgement = judgement.writing

-- how an element of the documents is written, by the properties of its component
abbrev pub writing_at : Purpose → (Site → Bool) → List SchemaDocument → Site → Writing
writing_at purpose refused documents own = writing_by (judgement_at purpose refused documents own)

-- how each of them is
abbrev pub writings_of : Purpose → (Site → Bool) → List SchemaDocument → List Writing
writings_of purpose refused documents = for_each documents (writing_at purpose refused documents)

-- the number of the root's component, if there is a root
abbrev pub root_number : List SchemaDocument → Option ℕ
root_number documents = option_map (number_of documents) (root_of documents)

-- The patterns of all elements of the documents were built, and by those that were refused, and by some maps, the documents come to these terms
-- for a purpose; the components are those that the same documents have by the same patterns, each with how it is written, and the root is theirs.
pub record IsCompiled (purpose : Purpose) (documents : List SchemaDocument) (depth rows : ℕ) (before after : PatternsSeen) (whole : CompiledSchema)
    : Type 0 where
  pub free : Free
  pub built : AreAllBuilt purpose free.refused documents before after
  pub terms : CompilesTo purpose free documents depth rows (Ok whole.terms)
  pub components : whole.components ≡ components_of purpose free.refused documents
  pub root : root_number documents ≡ Some whole.root
  pub writings : whole.writings.items ≡ writings_of purpose free.refused documents

-- each component has its writing, and the root is one of them
pub record IsOfOne (whole : CompiledSchema) : Type 0 where
  pub writings : length whole.writings.items ≡ length whole.components.components
  pub root : whole.root < length whole.components.components
