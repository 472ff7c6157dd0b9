-- Mirror for the prover: how loaded documents and lent texts are shown by clauses, and what the load
-- of one file comes to.
use Rattle.std.specs.Prelude.{◌≡◌, ℕ, List, map, IsTrue, IfSome}
use Rattle.std.specs.Borrow.{Bor}
use Rattle.dfdl_doc_tree.specs.declared.fault.DocFault.{DocFault}
use Rattle.dfdl_doc_tree.specs.declared.fault.DocFault.TheVariants as doc
use Rattle.dfdl_edge.specs.declared.loading.LoadFault.{LoadFault}
use Rattle.dfdl_edge.specs.declared.loading.LoadFault.TheVariants as load
use Rattle.dfdl_edge.specs.Faults.{Rose, one_more}
use Rattle.dfdl_edge.specs.Files.{FilesSeen}
use Rattle.dfdl_edge.specs.Told.{IsLonger, IsNowLast}
use Rattle.dfdl_report.specs.declared.cause.LimitCause.TheVariants.{Schema}
use Rattle.dfdl_documents.specs.declared.fault.DocumentsFault.{DocumentsFault}
use Rattle.dfdl_documents.specs.declared.fault.DocumentsFault.TheVariants as fault
use Rattle.dfdl_documents.specs.declared.documents.Loaded.{Loaded}
use Rattle.dfdl_documents.specs.declared.reference.DocumentReference.{DocumentReference}
use Rattle.dfdl_documents.specs.Documents.{SchemaDocument, Reference}
use Rattle.dfdl_documents.specs.Loading.{IsFile, after_loads}
use Rattle.dfdl_documents.specs.Faults.{IsWithinRefused}

-- a document
abbrev pub document_of : Loaded → SchemaDocument
document_of loaded = record { name = loaded.name; nodes = loaded.tree }

-- a reference
abbrev pub reference_shown : DocumentReference → Reference
reference_shown reference = record {
  kind = reference.kind;
  element = reference.element;
  name = reference.name;
}

-- the texts that are lent
abbrev pub texts : List (Bor (List ℕ)) → List (List ℕ)
texts lent = map (λ (text : Bor (List ℕ)). text.now) lent

-- what the fault of a file's load is told as
abbrev pub load_fault_of : List ℕ → ℕ → LoadFault → DocumentsFault
load_fault_of name most load.Failed = fault.Files name
load_fault_of name most (load.TooLarge size) = fault.Limit Schema most
load_fault_of name most load.OutOfMemory = fault.OutOfMemory

-- what the fault of the document of this name and number is told as
abbrev pub document_fault_of : List ℕ → ℕ → DocFault → DocumentsFault
document_fault_of name number (doc.Bad cause at) =
    fault.Document cause (record { document = number; at = at }) name
document_fault_of name number doc.OutOfMemory = fault.OutOfMemory

-- what one load is asked for: the name of the file, its greatest length, and the number of the
-- document
pub record Load : Type 0 where
  pub name : List ℕ
  pub most : ℕ
  pub number : ℕ

abbrev pub load_of : List ℕ → ℕ → ℕ → Load
load_of name most number = record { name = name; most = most; number = number }

-- the file is there and was loaded: nothing else than one load is seen
pub record IsSeenOnce (before after : FilesSeen) (name : List ℕ) : Type 0 where
  pub there : IsTrue (before.is_missing name) → ⊥
  pub seen : after ≡ after_loads 1 before

-- the load ends by this fault
abbrev pub LoadEndsBy : FilesSeen → FilesSeen → Load → DocumentsFault → Type 0
LoadEndsBy before after asked (fault.Files failed) =
    (failed ≡ asked.name) × Rose before.faults after.faults
    × IsNowLast before.last_failed asked.name after.last_failed
    × (after.loads ≡ one_more before.loads)
LoadEndsBy before after asked (fault.Document cause place refused) =
    (refused ≡ asked.name) × (place.document ≡ asked.number) × IsSeenOnce before after asked.name
    × IfSome (before.content asked.name) (IsWithinRefused asked.most place.at cause)
LoadEndsBy before after asked (fault.Limit cause quantity) =
    (cause ≡ Schema) × (quantity ≡ asked.most) × IsSeenOnce before after asked.name
    × IsLonger (before.content asked.name) asked.most
LoadEndsBy before after asked fault.OutOfMemory = Unit {0}

-- the load gives this document
pub record LoadGives (before after : FilesSeen) (asked : Load) (loaded : Loaded) : Type 0 where
  pub name : loaded.name ≡ asked.name
  pub file : IsFile before asked.most (document_of loaded)
  pub seen : after ≡ after_loads 1 before
