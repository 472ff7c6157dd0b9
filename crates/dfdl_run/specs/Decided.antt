-- What a run has found out before it writes anything.
use Rattle.std.specs.Prelude.{◌≡◌, ◌⊎◌, ℕ, ◌+◌, ◌≤◌, List, length, IfSome, Ok, Err}
use Rattle.dfdl_fronts.specs.Fronts.{IsPlace}
use Rattle.dfdl_edge.specs.Faults.{Rose}
use Rattle.dfdl_edge.specs.Files.{FilesSeen}
use Rattle.dfdl_edge.specs.Source.{SourceSeen}
use Rattle.dfdl_edge.specs.Told.{IsLonger}
use Rattle.dfdl_edge.specs.Whole.{IsUsedUp}
use Rattle.dfdl_report.specs.declared.cause.SchemaCause.{SchemaCause}
use Rattle.dfdl_report.specs.declared.cause.LimitCause.{LimitCause}
use Rattle.dfdl_report.specs.declared.cause.LimitCause.TheVariants.{Input}
use Rattle.dfdl_report.specs.declared.cause.DocCause.{DocCause}
use Rattle.dfdl_report.specs.declared.place.Place.{Place}
use Rattle.dfdl_documents.specs.Documents.{SchemaDocument}
use Rattle.dfdl_documents.specs.Loading.{IsCounted, after_loads}
use Rattle.dfdl_documents.specs.Faults.{IsFailed, IsLimit, IsNoDocument}
use Rattle.dfdl_components.specs.Rules.{AllKeep, loading_rules}
use Rattle.dfdl_compile.specs.Settling.{Free}
use Rattle.dfdl_breaches.specs.Builds.{AreAllBuilt, AreBuiltInPart, PatternsSeen}
use Rattle.dfdl_terms.specs.Rows.{Table}
use Rattle.dfdl_run.specs.declared.stop.Stop.{Stop}
use Rattle.dfdl_run.specs.declared.stop.Stop.TheVariants.{Usage, FilesFailed, NoDocument, Refused}
use Rattle.dfdl_run.specs.declared.stop.Stop.TheVariants.{SourceFailed}
use Rattle.dfdl_run.specs.declared.stop.Stop.TheVariants.{Limit, OutOfMemory}
use Rattle.dfdl_run.specs.declared.command.Verb.{Verb}
use Rattle.dfdl_run.specs.Answer.{End}
use Rattle.dfdl_run.specs.Command.{Order, Orders, IsCommand}
use Rattle.dfdl_run.specs.Expects.{most_input}
use Rattle.dfdl_run.specs.Meaning.{end_of}
use Rattle.dfdl_run.specs.Outside.{Inputs}
use Rattle.dfdl_run.specs.Schemas.{AreDocuments, IsNoSchema, IsPast, IsSchemaOf, asked, most_schemas, purpose_of}

-- all documents of the schema were loaded, each by one load that did not fail
pub record AreLoadedOnce (before after : FilesSeen) (name : List ℕ) (documents : List SchemaDocument)
    : Type 0 where
  pub are : AreDocuments before name documents
  pub seen : after ≡ after_loads (length documents) before

-- the documents are loaded, the patterns of their elements built, of which these are refused, and they are a schema of these rows
pub record IsDescribed (verb : Verb) (free : Free) (before after : FilesSeen) (seen now : PatternsSeen) (name : List ℕ)
    (table : Table) : Type 0 where
  pub documents : List SchemaDocument
  pub loaded : AreLoadedOnce before after name documents
  pub built : AreAllBuilt (purpose_of verb) free.refused documents seen now
  pub schema : IsSchemaOf verb free documents table

-- the documents are loaded, and refused as a schema at this byte of the document of this name; where they keep the rules of loading the
-- patterns of their elements were built, of which these are refused, else none was
pub record IsRefusedSchema (verb : Verb) (free : Free) (before after : FilesSeen) (seen now : PatternsSeen) (name : List ℕ)
    (cause : SchemaCause) (document : List ℕ) (at : ℕ) : Type 0 where
  pub documents : List SchemaDocument
  pub loaded : AreLoadedOnce before after name documents
  pub built : AllKeep (loading_rules documents) documents → AreAllBuilt (purpose_of verb) free.refused documents seen now
  pub unbuilt : (AllKeep (loading_rules documents) documents → ⊥) → now ≡ seen
  pub refusal : IsNoSchema verb free documents cause document at

-- the documents are loaded, the patterns of their elements built, of which these are refused, and their components pass a limit
pub record IsPastLimit (verb : Verb) (free : Free) (before after : FilesSeen) (seen now : PatternsSeen) (name : List ℕ)
    (cause : LimitCause) (quantity : ℕ) : Type 0 where
  pub documents : List SchemaDocument
  pub loaded : AreLoadedOnce before after name documents
  pub built : AreAllBuilt (purpose_of verb) free.refused documents seen now
  pub past : IsPast verb free documents cause quantity

-- the documents are loaded, and the patterns of some of their elements built
pub record AreBuiltOnce (verb : Verb) (before after : FilesSeen) (seen now : PatternsSeen) (name : List ℕ) : Type 0 where
  pub documents : List SchemaDocument
  pub loaded : AreLoadedOnce before after name documents
  pub built : AreBuiltInPart (purpose_of verb) documents seen now

-- the file of this name, the next one to be loaded, is no document from this byte on
pub record IsUnreadable (before after : FilesSeen) (name : List ℕ) (cause : DocCause)
    (document : List ℕ) (at : ℕ) : Type 0 where
  pub place : Place
  pub place_is : place.at ≡ at
  pub refused : IsNoDocument before after (asked name) cause place document

-- there is no schema, for what stops the run
abbrev pub IsLoadFault : Verb → Free → FilesSeen → FilesSeen → PatternsSeen → PatternsSeen → List ℕ → Stop → Type 0
IsLoadFault verb free before after seen now name (FilesFailed failed) = IsFailed before after (asked name) failed × (now ≡ seen)
IsLoadFault verb free before after seen now name OutOfMemory =
    (after.faults ≡ before.faults) × ((now ≡ seen) ⊎ AreBuiltOnce verb before after seen now name)
IsLoadFault verb free before after seen now name (Limit cause quantity) =
    (IsLimit before after (asked name) cause quantity × (now ≡ seen))
    ⊎ IsPastLimit verb free before after seen now name cause quantity
IsLoadFault verb free before after seen now name (NoDocument cause document at) =
    IsUnreadable before after name cause document at × (now ≡ seen)
IsLoadFault verb free before after seen now name (Refused cause document at) =
    IsRefusedSchema verb free before after seen now name cause document at
IsLoadFault verb free before after seen now name (Usage word) = ⊥
IsLoadFault verb free before after seen now name SourceFailed = ⊥

-- files were loaded, no more than a schema may have documents
abbrev pub AreFewLoads : FilesSeen → FilesSeen → Type 0
AreFewLoads before after = IsCounted most_schemas before.loads after.loads

-- the bytes fit their limit and come to this end
pub record IsMeant (verb : Verb) (table : Table) (end : End) (bytes : List ℕ) : Type 0 where
  pub fits : length bytes ≤ most_input
  pub end_is : end ≡ end_of verb table bytes

-- the source was read to its end, with no fault, and its bytes come to this end
pub record IsAnswered (verb : Verb) (table : Table) (before after : SourceSeen) (end : End) : Type 0 where
  pub meant : IfSome before.left (IsMeant verb table end)
  pub used_up : IsUsedUp before.left after.left
  pub still : after.faults ≡ before.faults

-- the source gives more bytes than this limit, and no read failed
pub record IsTooLong (before after : SourceSeen) (cause : LimitCause) (quantity : ℕ) : Type 0 where
  pub cause_is : cause ≡ Input
  pub quantity_is : quantity ≡ most_input
  pub long : IsLonger before.left most_input
  pub still : after.faults ≡ before.faults

-- what the reading of the source and its meaning came to
abbrev pub IsReadEnd : Verb → Table → SourceSeen → SourceSeen → End → Type 0
IsReadEnd verb table before after (Ok answer) = IsAnswered verb table before after (Ok answer)
IsReadEnd verb table before after (Err SourceFailed) = Rose before.faults after.faults
IsReadEnd verb table before after (Err OutOfMemory) = after.faults ≡ before.faults
IsReadEnd verb table before after (Err (Limit cause quantity)) =
    IsTooLong before after cause quantity ⊎ IsAnswered verb table before after (Err (Limit cause quantity))
IsReadEnd verb table before after (Err (Usage word)) = ⊥
IsReadEnd verb table before after (Err (FilesFailed name)) = ⊥
IsReadEnd verb table before after (Err (NoDocument cause document at)) = ⊥
IsReadEnd verb table before after (Err (Refused cause document at)) = ⊥

-- What was decided, by the stage at which it was, where the patterns of lengths of these elements are refused. Where the words decide,
-- nothing is loaded; else the documents of the schema are, and then the patterns of their elements are built. Only where the data decides
-- is the source touched.
pub data Decided (words : List (List ℕ)) (free : Free) (before after : Inputs) (end : End) : Type 0 where
  by_words : (at : ℕ) → IsPlace IsCommand words at → end ≡ Err (Usage (at + 1)) → after ≡ before
      → Decided words free before after end
  by_schema : (order : Order) (stop : Stop) → Orders words order → end ≡ Err stop
      → IsLoadFault order.verb free before.files after.files before.patterns after.patterns order.schema stop
      → AreFewLoads before.files after.files
      → after.source ≡ before.source → Decided words free before after end
  by_data : (order : Order) (table : Table) → Orders words order
      → IsDescribed order.verb free before.files after.files before.patterns after.patterns order.schema table
      → IsReadEnd order.verb table before.source after.source end
      → Decided words free before after end
