-- What a run comes to, as far as the outside tells its bytes.
use Rattle.std.specs.Prelude.{◌≡◌, ◌⊎◌, ◌↔◌, ℕ, ◌+◌, ◌<◌, ◌≤◌, ◌^◌, ◌||◌, ◌&&◌, ◌==◌, Bool, false}
use Rattle.std.specs.Prelude.{IsTrue, List, length, Some, Ok, Err}
use Rattle.dfdl_fronts.specs.Fronts.{IsPlace}
use Rattle.dfdl_edge.specs.Faults.{Rose}
use Rattle.dfdl_edge.specs.Sink.{Adds, AddsFront, SinkSeen}
use Rattle.dfdl_report.specs.declared.cause.SchemaCause.{SchemaCause}
use Rattle.dfdl_report.specs.declared.cause.LimitCause.{LimitCause}
use Rattle.dfdl_report.specs.declared.cause.LimitCause.TheVariants.{Input, Window, Nodes, Text}
use Rattle.dfdl_documents.specs.Documents.{SchemaDocument}
use Rattle.dfdl_documents.specs.Told.{AreTold, IsDue}
use Rattle.dfdl_documents.specs.declared.fault.DocumentsFault.{DocumentsFault}
use Rattle.dfdl_compile.specs.Settling.{Free}
use Rattle.dfdl_terms.specs.Rows.{Table}
use Rattle.dfdl_run.specs.declared.stop.Stop.TheVariants.{Usage, FilesFailed, NoDocument, Refused}
use Rattle.dfdl_run.specs.declared.stop.Stop.TheVariants.{SourceFailed}
use Rattle.dfdl_run.specs.declared.stop.Stop.TheVariants.{Limit, OutOfMemory}
use Rattle.dfdl_run.specs.Answer.{End, is_written, note_of, status_of, written_of}
use Rattle.dfdl_run.specs.Command.{Order, Orders, IsCommand}
use Rattle.dfdl_run.specs.Meaning.{end_of}
use Rattle.dfdl_run.specs.Outside.{Inputs, Outputs, Outside}
use Rattle.dfdl_run.specs.Schemas.{AreDocuments, IsNoSchema, IsPast, IsSchemaOf, asked, stop_of}

-- the most bytes of the source
abbrev pub most_input : ℕ
most_input = 2 ^ 30

-- The end of a run on these words, as far as the bytes of the files and of the source are told, where
-- the patterns of lengths of these elements are refused. The words count first, then the documents of the schema, then the schema, then the source, then the
-- infoset, then the meaning.
pub data Expects (words : List (List ℕ)) (free : Free) (told : Inputs) : End → Type 0 where
  -- the words are no command from word `at` on
  no_command : (at : ℕ) → IsPlace IsCommand words at → Expects words free told (Err (Usage (at + 1)))
  -- a document of the schema is not there, too long, none, or one too many
  no_documents : (order : Order) (fault : DocumentsFault) → Orders words order
      → IsDue told.files (asked order.schema) fault → Expects words free told (Err (stop_of fault))
  -- the documents are no schema
  no_schema : (order : Order) (documents : List SchemaDocument) (cause : SchemaCause)
      (document : List ℕ) (at : ℕ) → Orders words order
      → AreTold told.files documents → AreDocuments told.files order.schema documents
      → IsNoSchema order.verb free documents cause document at
      → Expects words free told (Err (Refused cause document at))
  -- the components of the documents pass a limit
  no_rows : (order : Order) (documents : List SchemaDocument) (cause : LimitCause) (quantity : ℕ)
      → Orders words order
      → AreTold told.files documents → AreDocuments told.files order.schema documents
      → IsPast order.verb free documents cause quantity
      → Expects words free told (Err (Limit cause quantity))
  -- the source gives a byte past the limit
  long_input : (order : Order) (documents : List SchemaDocument) (table : Table)
      (bytes : List ℕ) → Orders words order
      → AreTold told.files documents → AreDocuments told.files order.schema documents
      → IsSchemaOf order.verb free documents table
      → told.source.left ≡ Some bytes → most_input < length bytes
      → Expects words free told (Err (Limit Input most_input))
  -- the bytes are parsed or unparsed
  meant : (order : Order) (documents : List SchemaDocument) (table : Table) (bytes : List ℕ)
      → Orders words order
      → AreTold told.files documents → AreDocuments told.files order.schema documents
      → IsSchemaOf order.verb free documents table
      → told.source.left ≡ Some bytes → length bytes ≤ most_input
      → Expects words free told (end_of order.verb table bytes)

-- the statuses that can come in place of an end, since they come before it: those of the files, the
-- source and `out` where a call on them failed before, and that of want of memory
abbrev pub is_excused : End → ℕ → Bool
is_excused (Err (Usage word)) status = status == 9
is_excused (Err (FilesFailed name)) status = status == 7 || status == 9
is_excused (Err (Limit Input quantity)) status = status == 5 || status == 7 || status == 9
is_excused (Err (Limit Window quantity)) status = status == 5 || status == 7 || status == 9
is_excused (Err (Limit Nodes quantity)) status = status == 5 || status == 7 || status == 9
is_excused (Err (Limit Text quantity)) status = status == 5 || status == 7 || status == 9
is_excused (Err (Limit cause quantity)) status = status == 7 || status == 9
is_excused (Err (NoDocument cause document at)) status = status == 7 || status == 9
is_excused (Err (Refused cause document at)) status = status == 7 || status == 9
is_excused (Ok answer) status =
    status == 5 || status == 7 || status == 9 || (status == 6 && is_written answer)
is_excused (Err SourceFailed) status = false
is_excused (Err OutOfMemory) status = false

-- the line was told on the notes, or a front of it where a call on them failed
abbrev pub Tells : List ℕ → SinkSeen → SinkSeen → Type 0
Tells line before after =
    Adds before.taken line after.taken
    ⊎ (Rose before.faults after.faults × AddsFront before.taken line after.taken)

-- the run has ended so: its status, all that it writes to `out`, and its note
pub record Gives (end : End) (before after : Outputs) (status : ℕ) : Type 0 where
  pub status_is : status ≡ status_of end
  pub written : Adds before.out.taken (written_of end) after.out.taken
  pub told : Tells (note_of end) before.notes after.notes

-- no call on the files, the source and `out` has failed
pub record NoneFailed (before after : Outside) : Type 0 where
  pub files : Rose before.inputs.files.faults after.inputs.files.faults → ⊥
  pub source : Rose before.inputs.source.faults after.inputs.source.faults → ⊥
  pub out : Rose before.outputs.out.faults after.outputs.out.faults → ⊥

-- what holds of a run of which this end is expected
pub record IsAsExpected (end : End) (before after : Outside) (status : ℕ) : Type 0 where
  -- the run has ended so, or with a status that comes before it
  pub exact : IsTrue (is_excused end status) ⊎ Gives end before.outputs after.outputs status
  -- where no call has failed, that is want of memory
  pub complete : NoneFailed before after
      → (status ≡ 9) ⊎ Gives end before.outputs after.outputs status
  -- what is written is a front of what was to be written
  pub front : AddsFront before.outputs.out.taken (written_of end) after.outputs.out.taken
  -- a status that is not excused comes exactly where it is that of the end
  pub comes : (number : ℕ)
      → IsTrue (is_excused end status) ⊎ ((status ≡ number) ↔ (status_of end ≡ number))
