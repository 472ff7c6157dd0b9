-- What a run decides, from what its stages answer.
use Rattle.std.proofs.Common.{◌≡◌, ◌⊎◌, ℕ, ◌≤◌, List, length, Option, None, Some}
use Rattle.std.proofs.Common.{IfSome, Err, refl, sym, subst, inl, inr}
use Rattle.dfdl_edge.specs.Source.{SourceSeen}
use Rattle.dfdl_edge.specs.declared.whole.SourceFault.{SourceFault}
use Rattle.dfdl_edge.specs.declared.whole.SourceFault.TheVariants as kind
use Rattle.dfdl_edge.specs.Faults.{Rose}
use Rattle.dfdl_edge.specs.Told.{IsAll, IsLonger}
use Rattle.dfdl_edge.specs.Whole.{IsUsedUp}
use Rattle.dfdl_terms.specs.Rows.{Table}
use Rattle.dfdl_grammar.specs.declared.end.End.{End as DocumentEnd}
use Rattle.dfdl_grammar.specs.declared.end.End.TheVariants.{Done as IsDone, Failed as Fails, Stopped}
use Rattle.dfdl_grammar.specs.declared.end.Halt.TheVariants as halt
use Rattle.dfdl_grammar.specs.States.{State}
use Rattle.dfdl_grammar.specs.Documents.{document}
use Rattle.dfdl_run.specs.declared.stop.Stop.{Stop}
use Rattle.dfdl_run.specs.declared.stop.Stop.TheVariants.{OutOfMemory}
use Rattle.dfdl_run.specs.declared.command.Verb.{Verb}
use Rattle.dfdl_run.specs.declared.command.Verb.TheVariants.{Parse, Unparse}
use Rattle.dfdl_run.specs.Answer.{End}
use Rattle.dfdl_run.specs.Decided.{IsAnswered, IsMeant, IsReadEnd}
use Rattle.dfdl_run.specs.Expects.{most_input}
use Rattle.dfdl_run.specs.Meaning.{document_end, end_of, limits}
use Rattle.dfdl_run.specs.Sources.{source_stop}

-- what holds of these bytes, where they are all that is told
told : (P : List ℕ → Type 0) (file : Option (List ℕ)) (bytes : List ℕ) → IsAll file bytes → P bytes
    → IfSome file P
told P None bytes all here = tt
told P (Some content) bytes all here = subst P all here

-- bytes of the source that come to this end
meant_end : (input : Option (List ℕ)) (verb : Verb) (table : Table) (bytes : List ℕ) (end : End)
    → end ≡ end_of verb table bytes → IsAll input bytes → length bytes ≤ most_input
    → IfSome input (IsMeant verb table end)
meant_end input verb table bytes end is all fits =
    told (IsMeant verb table end) input bytes all (record { fits = fits; end_is = is })

-- the end of a document is what the source comes to
document_read : (verb : Verb) (table : Table) (before after : SourceSeen) (t : Table) (bits : ℕ) (e : DocumentEnd) (s : State)
    → IsAnswered verb table before after (document_end t bits e s)
    → IsReadEnd verb table before after (document_end t bits e s)
document_read verb table before after t bits IsDone s answered = answered
document_read verb table before after t bits (Fails cause bit) s answered = answered
document_read verb table before after t bits (Stopped (halt.Limit cause) quantity) s answered = inr answered
document_read verb table before after t bits (Stopped (halt.Variable cause) bit) s answered = answered

-- what bytes come to is what the source comes to
read : (verb : Verb) (table : Table) (before after : SourceSeen) (bytes : List ℕ)
    → IsAnswered verb table before after (end_of verb table bytes)
    → IsReadEnd verb table before after (end_of verb table bytes)
read Parse table before after bytes answered =
    let o = document limits table bytes in document_read Parse table before after table _ o.end o.state answered
read Unparse table before after bytes answered = answered

-- what the source comes to, where its bytes come to this end, or there was no memory for it
pub read_end : (verb : Verb) (table : Table) (before after : SourceSeen) (bytes : List ℕ) (end : End)
    → (end ≡ Err OutOfMemory) ⊎ (end ≡ end_of verb table bytes)
    → IsAll before.left bytes → length bytes ≤ most_input → IsUsedUp before.left after.left → after.faults ≡ before.faults
    → IsReadEnd verb table before after end
read_end verb table before after bytes end (inl is) all fits used still =
    subst (λ (e : End). IsReadEnd verb table before after e) (sym is) still
read_end verb table before after bytes end (inr is) all fits used still =
    subst (λ (e : End). IsReadEnd verb table before after e) (sym is)
    (read verb table before after bytes (record {
      meant = meant_end before.left verb table bytes (end_of verb table bytes) refl all fits;
      used_up = used;
      still = still;
    }))

-- what stops a run by a fault of the reading
fault_read : (verb : Verb) (table : Table) (before after : SourceSeen) (fault : SourceFault)
    → (fault ≡ kind.TooLarge → IsLonger before.left most_input) → (fault ≡ kind.Failed → Rose before.faults after.faults)
    → ((fault ≡ kind.Failed → ⊥) → after.faults ≡ before.faults) → IsReadEnd verb table before after (Err (source_stop fault))
fault_read verb table before after kind.Failed long rose still = rose refl
fault_read verb table before after kind.TooLarge long rose still =
    inl (record { cause_is = refl; quantity_is = refl; long = long refl; still = still (λ is. cc) })
fault_read verb table before after kind.OutOfMemory long rose still = still (λ is. cc)

pub fault_end : (verb : Verb) (table : Table) (before after : SourceSeen) (stop : Stop) (fault : SourceFault) → stop ≡ source_stop fault
    → (fault ≡ kind.TooLarge → IsLonger before.left most_input) → (fault ≡ kind.Failed → Rose before.faults after.faults)
    → ((fault ≡ kind.Failed → ⊥) → after.faults ≡ before.faults) → IsReadEnd verb table before after (Err stop)
fault_end verb table before after stop fault is long rose still =
    subst (λ (s : Stop). IsReadEnd verb table before after (Err s)) (sym is) (fault_read verb table before after fault long rose still)
