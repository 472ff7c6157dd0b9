-- The schema of a run: its documents, the limits on them, and what they have to be.
use Rattle.std.specs.Prelude.{ℕ, List, Ok, Err}
use Rattle.dfdl_report.specs.declared.cause.SchemaCause.{SchemaCause}
use Rattle.dfdl_report.specs.declared.cause.LimitCause.{LimitCause}
use Rattle.dfdl_report.specs.declared.place.Place.{Place}
use Rattle.dfdl_edge.specs.Files.{FilesSeen}
use Rattle.dfdl_documents.specs.Documents.{SchemaDocument}
use Rattle.dfdl_documents.specs.Loading.{AreLoaded, document_at}
use Rattle.dfdl_documents.specs.Faults.{Request, request}
use Rattle.dfdl_documents.specs.declared.fault.DocumentsFault.{DocumentsFault}
use Rattle.dfdl_documents.specs.declared.fault.DocumentsFault.TheVariants as fault
use Rattle.dfdl_components.specs.declared.fault.SchemaFault.{SchemaFault}
use Rattle.dfdl_components.specs.declared.fault.SchemaFault.TheVariants as schema
use Rattle.dfdl_components.specs.Rules.{AllKeep, loading_rules}
use Rattle.dfdl_components.specs.Faults.{IsRefused}
use Rattle.dfdl_terms.specs.Rows.{Table}
use Rattle.dfdl_checks.specs.declared.purpose.Purpose.{Purpose}
use Rattle.dfdl_checks.specs.declared.purpose.Purpose.TheVariants.{Parsing, Unparsing}
use Rattle.dfdl_run.specs.declared.command.Verb.{Verb}
use Rattle.dfdl_run.specs.declared.command.Verb.TheVariants.{Parse, Unparse}
use Rattle.dfdl_compile.specs.Compiled.{Refused as Refuses, Limit as Passes}
use Rattle.dfdl_compile.specs.Settling.{CompilesTo, Free}
use Rattle.dfdl_run.specs.declared.stop.Stop.{Stop}
use Rattle.dfdl_run.specs.declared.stop.Stop.TheVariants.{FilesFailed, NoDocument, Refused, Limit, OutOfMemory}

-- the most bytes of a schema document
abbrev pub most_schema : ℕ
most_schema = 4194304

-- the most documents of a schema
abbrev pub most_schemas : ℕ
most_schemas = 64

-- the most elements that are nested in one another
abbrev pub most_depth : ℕ
most_depth = 60

-- the most rows of a schema
abbrev pub most_rows : ℕ
most_rows = 65535

-- how the documents of the schema of this name are asked for
abbrev pub asked : List ℕ → Request
asked name = request most_schema most_schemas name

-- these are the documents of the schema of this name
abbrev pub AreDocuments : FilesSeen → List ℕ → List SchemaDocument → Type 0
AreDocuments files name documents = AreLoaded files most_schema most_schemas name documents

-- what stops a run whose documents are not all loaded
abbrev pub stop_of : DocumentsFault → Stop
stop_of (fault.Files name) = FilesFailed name
stop_of (fault.Document cause place name) = NoDocument cause name place.at
stop_of (fault.Limit cause quantity) = Limit cause quantity
stop_of fault.OutOfMemory = OutOfMemory

-- what stops a run whose schema is not loaded
abbrev pub schema_stop : SchemaFault → Stop
schema_stop (schema.Files name) = FilesFailed name
schema_stop (schema.Doc cause place name) = NoDocument cause name place.at
schema_stop (schema.Schema cause place name) = Refused cause name place.at
schema_stop (schema.Limit cause quantity) = Limit cause quantity
schema_stop schema.OutOfMemory = OutOfMemory

-- what a verb makes the rows of a schema for
abbrev pub purpose_of : Verb → Purpose
purpose_of Parse = Parsing
purpose_of Unparse = Unparsing

-- the documents are a schema of these rows, where the patterns of these elements are refused: they keep all rules, and their
-- components come to the rows
pub record IsSchemaOf (verb : Verb) (free : Free) (documents : List SchemaDocument) (table : Table) : Type 0 where
  pub keeps : AllKeep (loading_rules documents) documents
  pub compiled_is : CompilesTo (purpose_of verb) free documents most_depth most_rows (Ok table)

-- Why documents are no schema, with the name of a document and a byte of it.
pub data IsNoSchema (verb : Verb) (free : Free) (documents : List SchemaDocument) : SchemaCause → List ℕ → ℕ → Type 0 where
  -- an element that begins there breaks a rule of loading, the first one that does
  breaks : (cause : SchemaCause) (place : Place) (name : List ℕ) → IsRefused documents cause place name
      → IsNoSchema verb free documents cause name place.at
  -- they keep all of these, and a component that begins there is refused
  refuses : (cause : SchemaCause) (place : Place) → AllKeep (loading_rules documents) documents
      → CompilesTo (purpose_of verb) free documents most_depth most_rows (Err (Refuses cause place))
      → IsNoSchema verb free documents cause (document_at documents place.document).name place.at

-- Which limit on components documents pass that keep all rules of loading.
pub record IsPast (verb : Verb) (free : Free) (documents : List SchemaDocument) (cause : LimitCause) (quantity : ℕ) : Type 0 where
  pub keeps : AllKeep (loading_rules documents) documents
  pub compiled_is : CompilesTo (purpose_of verb) free documents most_depth most_rows (Err (Passes cause quantity))
