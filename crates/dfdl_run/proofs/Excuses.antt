-- Which statuses come before limits, and before what data comes to.
use Rattle.std.proofs.Common.{ℕ, ◌+◌, ◌*◌, nat_le, true, false, IsTrue, List, length, Err, refl}
use Rattle.dfdl_report.specs.declared.cause.LimitCause.{LimitCause}
use Rattle.dfdl_report.specs.declared.cause.LimitCause.TheVariants.{Input, Window, Nodes, Text, Depth, Cells, Held, Schema, Schemas, Rows}
use Rattle.dfdl_terms.specs.Rows.{Table}
use Rattle.dfdl_grammar.specs.declared.end.End.{End as DocumentEnd}
use Rattle.dfdl_grammar.specs.declared.end.End.TheVariants.{Done as IsDone, Failed as Fails, Stopped}
use Rattle.dfdl_grammar.specs.declared.end.Halt.TheVariants as halt
use Rattle.dfdl_grammar.specs.States.{State}
use Rattle.dfdl_grammar.specs.Documents.{document}
use Rattle.dfdl_run.proofs.Stopping.{StopsByData}
use Rattle.dfdl_run.proofs.Stops.{document-stops}
use Rattle.dfdl_run.specs.declared.command.Verb.{Verb}
use Rattle.dfdl_run.specs.declared.command.Verb.TheVariants.{Parse, Unparse}
use Rattle.dfdl_run.specs.declared.stop.Stop.TheVariants.{Limit}
use Rattle.dfdl_run.specs.Expects.{is_excused}
use Rattle.dfdl_run.specs.Answer.{End}
use Rattle.dfdl_run.specs.Meaning.{document_end, end_of, limits}

-- want of memory comes before each limit
pub limit_excused : (cause : LimitCause) (quantity : ℕ) → IsTrue (is_excused (Err (Limit cause quantity)) 9)
limit_excused Input quantity = refl
limit_excused Window quantity = refl
limit_excused Nodes quantity = refl
limit_excused Text quantity = refl
limit_excused Depth quantity = refl
limit_excused Schema quantity = refl
limit_excused Schemas quantity = refl
limit_excused Cells quantity = refl
limit_excused Held quantity = refl
limit_excused Rows quantity = refl

-- and so does a failed load
pub limit_files : (cause : LimitCause) (quantity : ℕ) → IsTrue (is_excused (Err (Limit cause quantity)) 7)
limit_files Input quantity = refl
limit_files Window quantity = refl
limit_files Nodes quantity = refl
limit_files Text quantity = refl
limit_files Depth quantity = refl
limit_files Schema quantity = refl
limit_files Schemas quantity = refl
limit_files Cells quantity = refl
limit_files Held quantity = refl
limit_files Rows quantity = refl

-- a failed read, a failed load and want of memory come before this end
pub record Excuses (e : End) : Type 0 where
  pub source : IsTrue (is_excused e 5)
  pub files : IsTrue (is_excused e 7)
  pub memory : IsTrue (is_excused e 9)

document_excused : (t : Table) (bits : ℕ) (e : DocumentEnd) (s : State) → StopsByData e → Excuses (document_end t bits e s)
document_excused t bits IsDone s stops = elim (nat_le (s.at + 8) bits) [
  | true ↦ record { source = refl; files = refl; memory = refl }
  | false ↦ record { source = refl; files = refl; memory = refl }
]
document_excused t bits (Fails cause bit) s stops = record { source = refl; files = refl; memory = refl }
document_excused t bits (Stopped (halt.Limit Window) quantity) s stops = record { source = refl; files = refl; memory = refl }
document_excused t bits (Stopped (halt.Limit Nodes) quantity) s stops = record { source = refl; files = refl; memory = refl }
document_excused t bits (Stopped (halt.Limit Text) quantity) s stops = record { source = refl; files = refl; memory = refl }
document_excused t bits (Stopped (halt.Limit cause) quantity) s stops = absurd stops
document_excused t bits (Stopped (halt.Variable cause) bit) s stops = record { source = refl; files = refl; memory = refl }

-- they come before what data comes to
pub end_excused : (verb : Verb) (t : Table) (bytes : List ℕ) → Excuses (end_of verb t bytes)
end_excused Parse t bytes =
    let o = document limits t bytes in document_excused t (8 * length bytes) o.end o.state (document-stops limits t bytes)
end_excused Unparse t bytes = record { source = refl; files = refl; memory = refl }
