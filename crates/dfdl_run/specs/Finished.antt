-- How a run ends that has decided on its end.
use Rattle.std.specs.Prelude.{◌≡◌, ℕ, IsTrue}
use Rattle.dfdl_edge.specs.Faults.{Rose}
use Rattle.dfdl_edge.specs.Sink.{AddsFront}
use Rattle.dfdl_report.specs.Lines.{memory_line, sink_line}
use Rattle.dfdl_run.specs.Answer.{End, written_of}
use Rattle.dfdl_run.specs.Expects.{Gives, Tells, is_excused}
use Rattle.dfdl_run.specs.Outside.{Outputs}

-- a failed write comes before this end: it is written to `out`
abbrev pub Writes : End → Type 0
Writes end = IsTrue (is_excused end 6)

-- What has come of an end: all of it, or `out` failed, or there was no memory for the note.
pub data Finished (end : End) (before after : Outputs) (status : ℕ) : Type 0 where
  all : Gives end before after status → after.out.faults ≡ before.out.faults
      → Finished end before after status
  no_sink : Writes end → status ≡ 6 → Rose before.out.faults after.out.faults
      → AddsFront before.out.taken (written_of end) after.out.taken
      → Tells sink_line before.notes after.notes
      → Finished end before after status
  no_memory : status ≡ 9 → after.out ≡ before.out → Tells memory_line before.notes after.notes
      → Finished end before after status
