-- Mirror for the prover: the components of a schema while they are gathered.
use Rattle.std.specs.Prelude.{◌≡◌, ◌-◌, Bool, List, IfSome, length, map, slice_get}
use Rattle.dfdl_terms.specs.Rows.{IsElementRow}
use Rattle.dfdl_terms.specs.declared.row.Row.{Row}
use Rattle.dfdl_documents.specs.Documents.{SchemaDocument}
use Rattle.dfdl_components.specs.declared.site.Site.{Site}
use Rattle.dfdl_components.specs.Sites.{IsSite}
use Rattle.dfdl_breaches.specs.declared.judgement.Judgement.{Judgement}
use Rattle.dfdl_chains.specs.Everywhere.{all_sites}
use Rattle.dfdl_compile.specs.Components.{components_of}
use Rattle.dfdl_compile.specs.Compiled.{Told}
use Rattle.dfdl_compile.specs.declared.compiling.Gathered.{Gathered}
use Rattle.dfdl_compile.specs.declared.compiling.ToldLists.{ToldLists}
use Rattle.dfdl_variables.specs.declared.variable.Declared.{Declared}
use Rattle.dfdl_written.specs.Noting.{StatesWithin, stated_by}
use Rattle.dfdl_written.specs.Variables.{definition_of}
use Rattle.dfdl_written.specs.declared.noted.Noted.{Noted}
use Rattle.dfdl_statements.specs.Making.{IsOfSource}
use Rattle.dfdl_terms.specs.declared.statement.Statement.{Statement}

-- the sequence or choice that an element hides of which this is told is an element of the documents
abbrev pub HidesElement : List SchemaDocument → Judgement → Type 0
HidesElement documents judgement = IfSome judgement.hidden (IsSite documents)

-- these are the components of the documents, and the elements that they are
pub record AreGathered (refused : Site → Bool) (documents : List SchemaDocument) (gathered : Gathered) : Type 0 where
  pub sites : gathered.sites.items ≡ all_sites documents
  pub uses : gathered.uses ≡ (components_of gathered.purpose refused documents).uses
  pub components : gathered.components.items ≡ (components_of gathered.purpose refused documents).components
  pub refusals : gathered.refusals.items ≡ (components_of gathered.purpose refused documents).refusals
  pub places : gathered.places.items ≡ (components_of gathered.purpose refused documents).places

-- what an element states of which this is told is written at elements of the documents
abbrev pub IsStatedWithin : List SchemaDocument → Judgement → Type 0
IsStatedWithin documents judgement = StatesWithin documents (stated_by judgement)

-- what the documents say of all rows, with these variables
abbrev pub told_shown : ToldLists → List Declared → Told
told_shown told variables = record {
  primitives = told.primitives.items;
  delimiters = told.delimiters.items;
  noted = told.noted.items;
  variables = map definition_of variables;
}

-- the last of rows is an element
abbrev pub EndsWithElement : List Row → Type 0
EndsWithElement rows = IsElementRow (slice_get rows (length rows - 1))

-- a statement is one of what is written so
abbrev pub IsAsWritten : Noted → Statement → Type 0
IsAsWritten noted statement = IsOfSource noted.source statement
