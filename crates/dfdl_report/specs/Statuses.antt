-- The exit statuses.
use Rattle.std.specs.Prelude.{ℕ}
use Rattle.dfdl_report.specs.declared.status.Status.{Status}
use Rattle.dfdl_report.specs.declared.status.Status.TheVariants.{Done, ProcessingError, SchemaRefused, UnparseError, Usage, SourceFailed, SinkFailed, FilesFailed, Limit, OutOfMemory, LeftOver, InfosetRefused}

-- the number by which the system is told how a run ended
abbrev pub status_number : Status → ℕ
status_number Done = 0
status_number ProcessingError = 1
status_number SchemaRefused = 2
status_number UnparseError = 3
status_number Usage = 4
status_number SourceFailed = 5
status_number SinkFailed = 6
status_number FilesFailed = 7
status_number Limit = 8
status_number OutOfMemory = 9
status_number LeftOver = 11
status_number InfosetRefused = 12
