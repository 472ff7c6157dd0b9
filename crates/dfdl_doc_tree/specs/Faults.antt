-- What the answers of the reader are.
use Rattle.std.specs.Prelude.{◌≡◌, ℕ, List, Result, Ok, Err}
use Rattle.dfdl_report.specs.Causes.{document_number}
use Rattle.dfdl_report.specs.declared.cause.DocCause.{DocCause}
use Rattle.dfdl_markup.specs.Documents.{cause_number}
use Rattle.dfdl_doc_tree.specs.Shown.{rule_number}
use Rattle.dfdl_doc_tree.specs.declared.rule.Refusal.{Refusal}
use Rattle.dfdl_doc_tree.specs.declared.rule.Refusal.TheVariants as refusal
use Rattle.dfdl_doc_tree.specs.declared.fault.DocFault.{DocFault}
use Rattle.dfdl_doc_tree.specs.declared.fault.DocFault.TheVariants.{Bad, OutOfMemory}

-- the property holds of the cause and the place, if the fault has them
abbrev pub IfPlaced : DocFault → (DocCause → ℕ → Type 0) → Type 0
IfPlaced (Bad cause at) P = P cause at
IfPlaced OutOfMemory P = Unit {0}

-- the same of an answer
abbrev pub IfBad : {T : Type 0} → Result T DocFault → (DocCause → ℕ → Type 0) → Type 0
IfBad (Ok tree) P = Unit {0}
IfBad (Err fault) P = IfPlaced fault P

-- the fault is what a refusal at this place of the bytes is told as
abbrev pub IsFaultOf : List ℕ → ℕ → Refusal → DocFault → Type 0
IsFaultOf bytes at (refusal.Broken rule) (Bad cause place) =
    (place ≡ at) × (document_number cause ≡ cause_number bytes at (rule_number rule))
IsFaultOf bytes at (refusal.Broken rule) OutOfMemory = ⊥
IsFaultOf bytes at refusal.OutOfMemory fault = fault ≡ OutOfMemory
