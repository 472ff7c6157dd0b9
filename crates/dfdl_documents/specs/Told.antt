-- What ends the loading of documents where it is told what their files are.
use Rattle.std.specs.Prelude.{◌≡◌, ℕ, ◌<◌, ◌≤◌, IsTrue, IsSome, List, length, All, Some}
use Rattle.dfdl_edge.specs.Files.{FilesSeen}
use Rattle.dfdl_report.specs.declared.cause.DocCause.{DocCause}
use Rattle.dfdl_report.specs.declared.cause.LimitCause.{LimitCause}
use Rattle.dfdl_report.specs.declared.cause.LimitCause.TheVariants.{Schema, Schemas}
use Rattle.dfdl_report.specs.declared.place.Place.{Place}
use Rattle.dfdl_report.specs.Causes.{document_number}
use Rattle.dfdl_markup.specs.Documents.{IsRefusedBy}
use Rattle.dfdl_documents.specs.declared.fault.DocumentsFault.{DocumentsFault}
use Rattle.dfdl_documents.specs.declared.fault.DocumentsFault.TheVariants as fault
use Rattle.dfdl_documents.specs.Documents.{SchemaDocument}
use Rattle.dfdl_documents.specs.Loading.{IsLoading, next_name}
use Rattle.dfdl_documents.specs.Faults.{Request, IsNext}

-- it is told what the files of these documents are
abbrev pub AreTold : FilesSeen → List SchemaDocument → Type 0
AreTold files documents = All (λ (d : SchemaDocument). IsSome (files.content d.name)) documents

-- it is told that there is no file of this name, the next one
pub record IsMissing (files : FilesSeen) (asked : Request) (name : List ℕ) : Type 0 where
  pub documents : List SchemaDocument
  pub told : AreTold files documents
  pub next : IsNext files asked documents name
  pub missing : IsTrue (files.is_missing name)

-- it is told that the next file is longer than is allowed
pub record IsToldTooLong (files : FilesSeen) (asked : Request) : Type 0 where
  pub documents : List SchemaDocument
  pub name : List ℕ
  pub bytes : List ℕ
  pub told : AreTold files documents
  pub next : IsNext files asked documents name
  pub content : files.content name ≡ Some bytes
  pub longer : asked.most < length bytes

-- it is told that the file of this name, the next one, is no document
pub record IsToldRefused (files : FilesSeen) (asked : Request) (cause : DocCause) (place : Place)
    (name : List ℕ) : Type 0 where
  pub documents : List SchemaDocument
  pub bytes : List ℕ
  pub told : AreTold files documents
  pub next : IsNext files asked documents name
  pub content : files.content name ≡ Some bytes
  pub fits : length bytes ≤ asked.most
  pub number : place.document ≡ length documents
  pub refused : IsRefusedBy bytes place.at (document_number cause)

-- it is told of as many documents as are allowed, and one more is named
pub record AreToldTooMany (files : FilesSeen) (asked : Request) : Type 0 where
  pub documents : List SchemaDocument
  pub name : List ℕ
  pub told : AreTold files documents
  pub loading : IsLoading files asked.most asked.first documents
  pub next : next_name asked.first documents ≡ Some name
  pub full : length documents ≡ asked.schemas

-- this limit is due, with this number
abbrev pub IsLimitDue : FilesSeen → Request → LimitCause → ℕ → Type 0
IsLimitDue files asked Schema quantity = (quantity ≡ asked.most) × IsToldTooLong files asked
IsLimitDue files asked Schemas quantity = (quantity ≡ asked.schemas) × AreToldTooMany files asked
IsLimitDue files asked _ quantity = ⊥

-- this fault is due, by what is told of the files
abbrev pub IsDue : FilesSeen → Request → DocumentsFault → Type 0
IsDue files asked (fault.Files name) = IsMissing files asked name
IsDue files asked (fault.Document cause place name) = IsToldRefused files asked cause place name
IsDue files asked (fault.Limit cause quantity) = IsLimitDue files asked cause quantity
IsDue files asked fault.OutOfMemory = ⊥

-- the fault isn't told by files: a load that failed, and want of memory
abbrev pub IsUntold : DocumentsFault → Type 0
IsUntold (fault.Files name) = Unit {0}
IsUntold (fault.Document cause place name) = ⊥
IsUntold (fault.Limit cause quantity) = ⊥
IsUntold fault.OutOfMemory = Unit {0}
