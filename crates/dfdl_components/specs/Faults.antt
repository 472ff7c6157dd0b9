-- What loading a schema comes to: its documents, which keep all rules, or what ends it.
use Rattle.std.specs.Prelude.{◌≡◌, ℕ, List, length, Result, Ok, Err}
use Rattle.dfdl_edge.specs.Files.{FilesSeen}
use Rattle.dfdl_report.specs.declared.cause.SchemaCause.{SchemaCause}
use Rattle.dfdl_report.specs.declared.place.Place.{Place}
use Rattle.dfdl_markup.specs.Trees.{node_at}
use Rattle.dfdl_documents.specs.declared.fault.DocumentsFault.TheVariants as documents
use Rattle.dfdl_documents.specs.Documents.{SchemaDocument}
use Rattle.dfdl_documents.specs.Loading.{AreLoaded, after_loads, document_at}
use Rattle.dfdl_documents.specs.Faults.{Request, EndsBy}
use Rattle.dfdl_components.specs.declared.fault.SchemaFault.{SchemaFault}
use Rattle.dfdl_components.specs.declared.fault.SchemaFault.TheVariants as fault
use Rattle.dfdl_components.specs.declared.site.Site.{Site}
use Rattle.dfdl_components.specs.Sites.{nodes_of}
use Rattle.dfdl_components.specs.Rules.{loading_rules, IsFirst, AllKeep}

-- the documents break a rule with this cause, first at the element that begins at this place, in the
-- document of this name
pub record IsRefused (documents : List SchemaDocument) (cause : SchemaCause) (place : Place) (name : List ℕ) : Type 0 where
  pub own : Site
  pub first : IsFirst (loading_rules documents) documents own cause
  pub document : place.document ≡ own.document
  pub at : place.at ≡ (node_at (nodes_of documents own.document) own.element).at
  pub named : name ≡ (document_at documents own.document).name

-- the documents that are loaded break a rule
pub record IsRefusedLoading (before after : FilesSeen) (asked : Request) (cause : SchemaCause) (place : Place) (name : List ℕ) : Type 0 where
  pub documents : List SchemaDocument
  pub loaded : AreLoaded before asked.most asked.schemas asked.first documents
  pub seen : after ≡ after_loads (length documents) before
  pub refused : IsRefused documents cause place name

-- the loading of a schema ends by this fault
abbrev pub SchemaEndsBy : FilesSeen → FilesSeen → Request → SchemaFault → Type 0
SchemaEndsBy before after asked (fault.Files name) = EndsBy before after asked (documents.Files name)
SchemaEndsBy before after asked (fault.Doc cause place name) = EndsBy before after asked (documents.Document cause place name)
SchemaEndsBy before after asked (fault.Schema cause place name) = IsRefusedLoading before after asked cause place name
SchemaEndsBy before after asked (fault.Limit cause quantity) = EndsBy before after asked (documents.Limit cause quantity)
SchemaEndsBy before after asked fault.OutOfMemory = Unit {0}

-- a schema that is loaded
pub record IsLoadedSchema (before after : FilesSeen) (asked : Request) (documents : List SchemaDocument) : Type 0 where
  pub loaded : AreLoaded before asked.most asked.schemas asked.first documents
  pub seen : after ≡ after_loads (length documents) before
  pub keeps : AllKeep (loading_rules documents) documents

-- what the check of documents that are loaded answers
abbrev pub IsCheckFault : List SchemaDocument → SchemaFault → Type 0
IsCheckFault documents (fault.Schema cause place name) = IsRefused documents cause place name
IsCheckFault documents fault.OutOfMemory = Unit {0}
IsCheckFault documents _ = ⊥

-- the property holds, unless the answer is that a file was not loaded
abbrev pub UnlessFiles : {T : Type 0} → Result T SchemaFault → Type 0 → Type 0
UnlessFiles (Ok schema) P = P
UnlessFiles (Err (fault.Files name)) P = Unit {0}
UnlessFiles (Err (fault.Doc cause place name)) P = P
UnlessFiles (Err (fault.Schema cause place name)) P = P
UnlessFiles (Err (fault.Limit cause quantity)) P = P
UnlessFiles (Err fault.OutOfMemory) P = P
