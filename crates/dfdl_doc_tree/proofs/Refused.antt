-- What a run of the reader over bytes answers.
use Rattle.std.proofs.Common.{◌≡◌, ℕ, ◌+◌, ◌≤◌, Ok, Err, List, length, take, sym, subst, ◌∙◌, ap}
use Rattle.dfdl_layers.specs.Causes.{IsRefused}
use Rattle.std.proofs.lemmas.List.{take_all}
use Rattle.dfdl_layers.specs.Tellers.{run}
use Rattle.dfdl_layers.specs.Bytes.{Inside}
use Rattle.dfdl_report.specs.Causes.{document_number}
use Rattle.dfdl_markup.specs.Building.{Reader, read_start, read_step, nothing_built}
use Rattle.dfdl_markup.specs.Documents.{IsRefusedBy, KeepsRules}
use Rattle.dfdl_doc_tree.specs.ReaderShown.{Becomes}
use Rattle.dfdl_doc_tree.specs.Shown.{rule_number}
use Rattle.dfdl_doc_tree.specs.Faults.{IfPlaced, IsFaultOf}
use Rattle.dfdl_doc_tree.specs.declared.rule.Refusal.{Refusal}
use Rattle.dfdl_doc_tree.specs.declared.rule.Refusal.TheVariants as refusal
use Rattle.dfdl_doc_tree.specs.declared.rule.Rule.TheVariants.{End}
use Rattle.dfdl_doc_tree.specs.declared.fault.DocFault.{DocFault}
use Rattle.dfdl_doc_tree.specs.declared.fault.DocFault.TheVariants.{Bad, OutOfMemory}

-- the refusal of a step is one of the bytes
pub refused_step : (bytes : List ℕ) (at b : ℕ) (i t : Inside Reader) (refused : Refusal) (fault : DocFault)
    → ((rule : ℕ) → read_step i b ≡ Err rule → IsRefused KeepsRules 13 bytes at rule)
    → Becomes (read_step i b) (Err refused) t → IsFaultOf bytes at refused fault
    → IfPlaced fault (λ cause place. IsRefusedBy bytes place (document_number cause))
refused_step bytes at b i t (refusal.Broken rule) (Bad cause place) law step is =
    subst (λ p. IsRefusedBy bytes p (document_number cause)) (sym is.0)
    (record { rule = rule_number rule; refused = law (rule_number rule) step; told = is.1 })
refused_step bytes at b i t (refusal.Broken rule) OutOfMemory law step is = absurd is
refused_step bytes at b i t refusal.OutOfMemory (Bad cause place) law step is = absurd (cc)
refused_step bytes at b i t refusal.OutOfMemory OutOfMemory law step is = tt

-- and that of the end
pub refused_end : (bytes : List ℕ) (fault : DocFault) → IsRefused KeepsRules 13 bytes (length bytes) 13
    → IsFaultOf bytes (length bytes) (refusal.Broken End) fault
    → IfPlaced fault (λ cause place. IsRefusedBy bytes place (document_number cause))
refused_end bytes (Bad cause place) law is =
    subst (λ p. IsRefusedBy bytes p (document_number cause)) (sym is.0)
    (record { rule = 13; refused = law; told = is.1 })
refused_end bytes OutOfMemory law is = absurd is

-- nothing is counted at the start
pub counted_start : (i : Inside Reader) → i ≡ read_start → i.state.built.at + length i.read ≡ 0
unfolding nothing_built
counted_start i is = ap (λ (j : Inside Reader). j.state.built.at + length j.read) is

-- all bytes are read
pub all_read : (bytes : List ℕ) (at : ℕ) (i : Inside Reader) → length bytes ≤ at
    → run read_step read_start (take at bytes) ≡ Ok i → run read_step read_start bytes ≡ Ok i
all_read bytes at i over is = ap (run read_step read_start) (sym (take_all at bytes over)) ∙ is
