-- One run, by what is seen of the outside before and after it, and by its exit status.
use Rattle.std.specs.Prelude.{◌≡◌, ◌⊎◌, ℕ, ◌||◌, ◌==◌, Bool, IsTrue, List, []}
use Rattle.dfdl_edge.specs.Faults.{Rose}
use Rattle.dfdl_edge.specs.Sink.{Adds}
use Rattle.dfdl_edge.specs.Whole.{IsUsedUp}
use Rattle.dfdl_documents.specs.Faults.{IsFailed}
use Rattle.dfdl_compile.specs.Settling.{Free}
use Rattle.dfdl_report.specs.Lines.{files_line, memory_line, sink_line, source_line, variable_line}
use Rattle.dfdl_report.specs.declared.cause.VariableCause.{VariableCause}
use Rattle.dfdl_run.specs.Answer.{End}
use Rattle.dfdl_run.specs.Command.{Order, Orders}
use Rattle.dfdl_run.specs.Decided.{AreFewLoads, Decided}
use Rattle.dfdl_run.specs.Expects.{Expects, IsAsExpected, Tells}
use Rattle.dfdl_run.specs.Finished.{Finished}
use Rattle.dfdl_run.specs.Outside.{Outside}
use Rattle.dfdl_run.specs.Schemas.{asked}

-- the statuses of runs whose data came to something
abbrev pub is_of_data : ℕ → Bool
is_of_data status = status == 0 || status == 1 || status == 3 || status == 11 || status == 12

-- the statuses of runs that words or files ended
abbrev pub is_before_schema : ℕ → Bool
is_before_schema status = status == 4 || status == 7

-- the file of a document of the command's schema is the one last failed, and the note names it
pub record NamesFile (words : List (List ℕ)) (before after : Outside) : Type 0 where
  pub order : Order
  pub orders : Orders words order
  pub name : List ℕ
  pub failed : IsFailed before.inputs.files after.inputs.files (asked order.schema) name
  pub told : Tells (files_line name) before.outputs.notes after.outputs.notes

-- a call on the source has failed in this run, and the note tells it
pub record SourceFails (before after : Outside) : Type 0 where
  pub rose : Rose before.inputs.source.faults after.inputs.source.faults
  pub told : Tells source_line before.outputs.notes after.outputs.notes

-- a call on `out` has failed in this run, and the note tells it
pub record SinkFails (before after : Outside) : Type 0 where
  pub rose : Rose before.outputs.out.faults after.outputs.out.faults
  pub told : Tells sink_line before.outputs.notes after.outputs.notes

-- a load has failed in this run, and the note names the file
pub record FilesFail (words : List (List ℕ)) (before after : Outside) : Type 0 where
  pub rose : Rose before.inputs.files.faults after.inputs.files.faults
  pub named : NamesFile words before after

-- a variable can't be set while the data are parsed: the source is used up, and the note tells where it is
pub record VariableFails (before after : Outside) : Type 0 where
  pub cause : VariableCause
  pub bit : ℕ
  pub path : List ℕ
  pub used_up : IsUsedUp before.inputs.source.left after.inputs.source.left
  pub told : Tells (variable_line cause bit path) before.outputs.notes after.outputs.notes

-- one run on these words that has ended with this status
pub record IsRun (words : List (List ℕ)) (before after : Outside) (status : ℕ) : Type 0 where
  -- what the documents alone don't fix: the elements of the schema whose patterns of lengths were refused in this run, and the maps by which
  -- its statements were settled
  pub free : Free
  -- told or not: an end was decided by the words, the schema or the data, and the run ended with it
  pub answered : (end : End) × Decided words free before.inputs after.inputs end
      × Finished end before.outputs after.outputs status
  -- where the outside tells its bytes: the run is as expected by these refusals and maps
  pub expected : (end : End) → Expects words free before.inputs end
      → IsAsExpected end before after status
  -- the faults of the outside and want of memory
  pub source_failed : status ≡ 5 → SourceFails before after
  pub sink_failed : status ≡ 6 → SinkFails before after
  pub files_failed : status ≡ 7 → FilesFail words before after
  pub out_of_memory : status ≡ 9 → Tells memory_line before.outputs.notes after.outputs.notes
  -- what the run leaves as it was: `out` at each status that has nothing written, the source where
  -- something before the data ended the run, the files where the words did, and what builds patterns
  -- where the words or a file did; and the source is used up where its data came to something, also where
  -- they set a variable that can't be set
  pub unwritten : (status ≡ 0 → ⊥) → (status ≡ 3 → ⊥) → (status ≡ 6 → ⊥) → (status ≡ 11 → ⊥)
      → Adds before.outputs.out.taken [] after.outputs.out.taken
  pub unread : IsTrue (is_before_schema status) → after.inputs.source ≡ before.inputs.source
  pub schema_refused : status ≡ 2 → (after.inputs.source ≡ before.inputs.source) ⊎ VariableFails before after
  pub unloaded : status ≡ 4 → after.inputs.files ≡ before.inputs.files
  pub unbuilt : IsTrue (is_before_schema status) → after.inputs.patterns ≡ before.inputs.patterns
  pub used_up : IsTrue (is_of_data status) → IsUsedUp before.inputs.source.left after.inputs.source.left
  -- each count of faults stands where the status is not that of its fault; want of memory for a
  -- note can hide a fault of the source or of the files
  pub out_still : (status ≡ 6 → ⊥) → after.outputs.out.faults ≡ before.outputs.out.faults
  pub source_still : (status ≡ 5 → ⊥) → (status ≡ 9 → ⊥)
      → after.inputs.source.faults ≡ before.inputs.source.faults
  pub files_still : (status ≡ 7 → ⊥) → (status ≡ 9 → ⊥)
      → after.inputs.files.faults ≡ before.inputs.files.faults
  -- no more files are loaded than a schema may have documents
  pub loads : AreFewLoads before.inputs.files after.inputs.files
