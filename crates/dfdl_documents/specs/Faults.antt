-- What ends the loading of documents before all are loaded.
use Rattle.std.specs.Prelude.{◌≡◌, ℕ, suc, ◌<◌, ◌≤◌, IsTrue, IfSome, List, length, Some, Result, Ok, Err}
use Rattle.dfdl_edge.specs.Faults.{Rose}
use Rattle.dfdl_edge.specs.Files.{FilesSeen}
use Rattle.dfdl_edge.specs.Told.{IsLonger, IsNowLast}
use Rattle.dfdl_report.specs.declared.cause.DocCause.{DocCause}
use Rattle.dfdl_report.specs.declared.cause.LimitCause.{LimitCause}
use Rattle.dfdl_report.specs.declared.cause.LimitCause.TheVariants.{Schema, Schemas}
use Rattle.dfdl_report.specs.declared.place.Place.{Place}
use Rattle.dfdl_report.specs.Causes.{document_number}
use Rattle.dfdl_markup.specs.Documents.{IsRefusedBy}
use Rattle.dfdl_documents.specs.declared.fault.DocumentsFault.{DocumentsFault}
use Rattle.dfdl_documents.specs.declared.fault.DocumentsFault.TheVariants as fault
use Rattle.dfdl_documents.specs.Documents.{SchemaDocument}
use Rattle.dfdl_documents.specs.Loading.{IsLoading, next_name, more_loads, after_loads}

-- how documents are asked for: the most bytes of one, the most documents, and the name of the first
pub record Request : Type 0 where
  pub most : ℕ
  pub schemas : ℕ
  pub first : List ℕ

abbrev pub request : ℕ → ℕ → List ℕ → Request
request most schemas first = record { most = most; schemas = schemas; first = first }

-- these documents are loaded, and the file of this name is the next one
pub record IsNext (files : FilesSeen) (asked : Request) (documents : List SchemaDocument)
    (name : List ℕ) : Type 0 where
  pub loading : IsLoading files asked.most asked.first documents
  pub next : next_name asked.first documents ≡ Some name
  pub room : length documents < asked.schemas

-- the load of the file of this name failed, and it is now the one last failed
pub record IsFailed (before after : FilesSeen) (asked : Request) (name : List ℕ) : Type 0 where
  pub documents : List SchemaDocument
  pub next : IsNext before asked documents name
  pub rose : Rose before.faults after.faults
  pub last : IsNowLast before.last_failed name after.last_failed
  pub loads : after.loads ≡ more_loads (suc (length documents)) before.loads

-- the next file is longer than is allowed
pub record IsTooLong (before after : FilesSeen) (asked : Request) : Type 0 where
  pub documents : List SchemaDocument
  pub name : List ℕ
  pub next : IsNext before asked documents name
  pub there : IsTrue (before.is_missing name) → ⊥
  pub longer : IsLonger (before.content name) asked.most
  pub seen : after ≡ after_loads (suc (length documents)) before

-- the bytes are not too long, and no document from this byte on
pub record IsWithinRefused (most at : ℕ) (cause : DocCause) (bytes : List ℕ) : Type 0 where
  pub fits : length bytes ≤ most
  pub refused : IsRefusedBy bytes at (document_number cause)

-- the file of this name, the next one, is no document
pub record IsNoDocument (before after : FilesSeen) (asked : Request) (cause : DocCause)
    (place : Place) (name : List ℕ) : Type 0 where
  pub documents : List SchemaDocument
  pub next : IsNext before asked documents name
  pub there : IsTrue (before.is_missing name) → ⊥
  pub number : place.document ≡ length documents
  pub refused : IfSome (before.content name) (IsWithinRefused asked.most place.at cause)
  pub seen : after ≡ after_loads (suc (length documents)) before

-- as many documents as are allowed are loaded, and one more is named
pub record AreTooMany (before after : FilesSeen) (asked : Request) : Type 0 where
  pub documents : List SchemaDocument
  pub name : List ℕ
  pub loading : IsLoading before asked.most asked.first documents
  pub next : next_name asked.first documents ≡ Some name
  pub full : length documents ≡ asked.schemas
  pub seen : after ≡ after_loads (length documents) before

-- this limit is reached, with this number
abbrev pub IsLimit : FilesSeen → FilesSeen → Request → LimitCause → ℕ → Type 0
IsLimit before after asked Schema quantity =
    (quantity ≡ asked.most) × IsTooLong before after asked
IsLimit before after asked Schemas quantity =
    (quantity ≡ asked.schemas) × AreTooMany before after asked
IsLimit before after asked _ quantity = ⊥

-- the loading ends by this fault
abbrev pub EndsBy : FilesSeen → FilesSeen → Request → DocumentsFault → Type 0
EndsBy before after asked (fault.Files name) = IsFailed before after asked name
EndsBy before after asked (fault.Document cause place name) =
    IsNoDocument before after asked cause place name
EndsBy before after asked (fault.Limit cause quantity) =
    IsLimit before after asked cause quantity
EndsBy before after asked fault.OutOfMemory = Unit {0}

-- the property holds, unless the answer is that a file was not loaded
abbrev pub UnlessFiles : {T : Type 0} → Result T DocumentsFault → Type 0 → Type 0
UnlessFiles (Ok documents) P = P
UnlessFiles (Err (fault.Files name)) P = Unit {0}
UnlessFiles (Err (fault.Document cause place name)) P = P
UnlessFiles (Err (fault.Limit cause quantity)) P = P
UnlessFiles (Err fault.OutOfMemory) P = P
