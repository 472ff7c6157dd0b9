-- How a run can end, with its exit status, what it writes to `out`, and its line on the notes.
use Rattle.std.specs.Prelude.{ℕ, List, [], Bool, true, false, Option, Some, None, Result, Ok, Err}
use Rattle.dfdl_report.specs.declared.cause.ParseCause.{ParseCause}
use Rattle.dfdl_report.specs.declared.status.Status.{Status}
use Rattle.dfdl_report.specs.declared.status.Status.TheVariants as status
use Rattle.dfdl_report.specs.Statuses.{status_number}
use Rattle.dfdl_report.specs.Lines.{document_line, fault_line, files_line, infoset_line, left_over_line, limit_line}
use Rattle.dfdl_report.specs.Lines.{memory_line}
use Rattle.dfdl_report.specs.Lines.{parse_line, schema_line, source_line, test_line, unparse_line, usage_line, variable_line}
use Rattle.dfdl_pieces.specs.Pieces.{joined}
use Rattle.dfdl_run.specs.declared.answer.Answer.{Answer}
use Rattle.dfdl_run.specs.declared.answer.Answer.TheVariants.{Done, LeftOver, Failed, Variable, Unparsed}
use Rattle.dfdl_run.specs.declared.answer.Answer.TheVariants.{NotUnparsed, NoInfoset}
use Rattle.dfdl_run.specs.declared.stop.Stop.{Stop}
use Rattle.dfdl_run.specs.declared.stop.Stop.TheVariants.{Usage, FilesFailed, NoDocument, Refused}
use Rattle.dfdl_run.specs.declared.stop.Stop.TheVariants.{SourceFailed}
use Rattle.dfdl_run.specs.declared.stop.Stop.TheVariants.{Limit, OutOfMemory}
use Rattle.dfdl_run.specs.Said.{fault_in}

-- the end of a run: what its data came to, or what stopped it before that
abbrev pub End : Type 0
End = Result Answer Stop

-- the status of what the data came to
abbrev pub answer_status : Answer → Status
answer_status (Done line) = status.Done
answer_status (LeftOver line bit) = status.LeftOver
answer_status (Failed cause bit path message) = status.ProcessingError
answer_status (Variable cause bit path) = status.SchemaRefused
answer_status (Unparsed pieces) = status.Done
answer_status (NotUnparsed pieces cause path) = status.UnparseError
answer_status (NoInfoset cause path) = status.InfosetRefused

-- the status of what stopped a run
abbrev pub stop_status : Stop → Status
stop_status (Usage word) = status.Usage
stop_status (FilesFailed name) = status.FilesFailed
stop_status (NoDocument cause document at) = status.SchemaRefused
stop_status (Refused cause document at) = status.SchemaRefused
stop_status SourceFailed = status.SourceFailed
stop_status (Limit cause quantity) = status.Limit
stop_status OutOfMemory = status.OutOfMemory

-- the exit status of an end
abbrev pub status_of : End → ℕ
status_of (Ok answer) = status_number (answer_status answer)
status_of (Err stop) = status_number (stop_status stop)

-- what is written to `out` of an answer
abbrev pub answer_bytes : Answer → List ℕ
answer_bytes (Done line) = line
answer_bytes (LeftOver line bit) = line
answer_bytes (Failed cause bit path message) = []
answer_bytes (Variable cause bit path) = []
answer_bytes (Unparsed pieces) = joined pieces
answer_bytes (NotUnparsed pieces cause path) = joined pieces
answer_bytes (NoInfoset cause path) = []

-- what is written to `out` at an end
abbrev pub written_of : End → List ℕ
written_of (Ok answer) = answer_bytes answer
written_of (Err stop) = []

-- whether the answer is one that is written to `out`
abbrev pub is_written : Answer → Bool
is_written (Done line) = true
is_written (LeftOver line bit) = true
is_written (Failed cause bit path message) = false
is_written (Variable cause bit path) = false
is_written (Unparsed pieces) = true
is_written (NotUnparsed pieces cause path) = true
is_written (NoInfoset cause path) = false

-- the line that tells a processing error, with what the schema says of it
abbrev pub said_note : ParseCause → ℕ → List ℕ → Option (List ℕ) → List ℕ
said_note cause bit path None = parse_line cause bit path
said_note cause bit path (Some message) = test_line cause bit path message

-- the same, or with the number of the reason for which an expression has no value
abbrev pub reasoned_note : Option ℕ → ParseCause → ℕ → List ℕ → Option (List ℕ) → List ℕ
reasoned_note None cause bit path message = said_note cause bit path message
reasoned_note (Some fault) cause bit path message = fault_line cause bit path fault

-- the line that tells a processing error
abbrev pub failed_note : ParseCause → ℕ → List ℕ → Option (List ℕ) → List ℕ
failed_note cause bit path message = reasoned_note (fault_in cause) cause bit path message

-- the line that tells an answer
abbrev pub answer_note : Answer → List ℕ
answer_note (Done line) = []
answer_note (LeftOver line bit) = left_over_line bit
answer_note (Failed cause bit path message) = failed_note cause bit path message
answer_note (Variable cause bit path) = variable_line cause bit path
answer_note (Unparsed pieces) = []
answer_note (NotUnparsed pieces cause path) = unparse_line cause path
answer_note (NoInfoset cause path) = infoset_line cause path

-- the line that tells what stopped a run
abbrev pub stop_note : Stop → List ℕ
stop_note (Usage word) = usage_line word
stop_note (FilesFailed name) = files_line name
stop_note (NoDocument cause document at) = document_line cause document at
stop_note (Refused cause document at) = schema_line cause document at
stop_note SourceFailed = source_line
stop_note (Limit cause quantity) = limit_line cause quantity
stop_note OutOfMemory = memory_line

-- the line on the notes of an end
abbrev pub note_of : End → List ℕ
note_of (Ok answer) = answer_note answer
note_of (Err stop) = stop_note stop
