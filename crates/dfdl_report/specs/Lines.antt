-- The lines that the program tells on standard error, each ended by a line feed. A name or a path stands in its line as
-- it is, so a file name with a line feed in it makes two lines.
use Rattle.std.specs.Prelude.{ℕ, List, ◌++◌, codes, decimal}
use Rattle.dfdl_report.specs.declared.cause.ParseCause.{ParseCause}
use Rattle.dfdl_report.specs.declared.cause.VariableCause.{VariableCause}
use Rattle.dfdl_report.specs.declared.cause.UnparseCause.{UnparseCause}
use Rattle.dfdl_report.specs.declared.cause.SchemaCause.{SchemaCause}
use Rattle.dfdl_report.specs.declared.cause.DocCause.{DocCause}
use Rattle.dfdl_report.specs.declared.cause.InfosetCause.{InfosetCause}
use Rattle.dfdl_report.specs.declared.cause.LimitCause.{LimitCause}
use Rattle.dfdl_report.specs.Causes.{document_number, document_text}
use Rattle.dfdl_report.specs.Causes.{infoset_number, infoset_text, limit_number, parse_number, parse_text}
use Rattle.dfdl_report.specs.Causes.{schema_number, schema_text, unparse_number, unparse_text, variable_number, variable_text}

-- a text, and the end of its line
abbrev pub ended : List ℕ → List ℕ
ended text = text ++ codes "\n"

-- a processing error that began at this bit, in the element of this path
abbrev pub parse_line : ParseCause → ℕ → List ℕ → List ℕ
parse_line cause bit path =
    codes "error P" ++ (decimal (parse_number cause) ++ (codes " at bit " ++ (decimal bit ++ (codes " in "
    ++ (path ++ (codes ": " ++ ended (parse_text cause)))))))

-- a test that fails at this bit, in the element of this path, with what the schema says of it
abbrev pub test_line : ParseCause → ℕ → List ℕ → List ℕ → List ℕ
test_line cause bit path message =
    codes "error P" ++ (decimal (parse_number cause) ++ (codes " at bit " ++ (decimal bit ++ (codes " in "
    ++ (path ++ (codes ": " ++ (parse_text cause ++ (codes ": " ++ ended message))))))))

-- an expression at this bit, in the element of this path, that has no value for the reason of a number
abbrev pub fault_line : ParseCause → ℕ → List ℕ → ℕ → List ℕ
fault_line cause bit path fault =
    codes "error P" ++ (decimal (parse_number cause) ++ (codes " at bit " ++ (decimal bit ++ (codes " in "
    ++ (path ++ (codes ": " ++ (parse_text cause ++ (codes " (E" ++ (decimal fault ++ codes ")\n")))))))))

-- a variable that is set at this bit, in the element of this path, and can't be
abbrev pub variable_line : VariableCause → ℕ → List ℕ → List ℕ
variable_line cause bit path =
    codes "error V" ++ (decimal (variable_number cause) ++ (codes " at bit " ++ (decimal bit ++ (codes " in "
    ++ (path ++ (codes ": " ++ ended (variable_text cause)))))))

-- an unparse error in the element of this path
abbrev pub unparse_line : UnparseCause → List ℕ → List ℕ
unparse_line cause path =
    codes "error U" ++ (decimal (unparse_number cause) ++ (codes " in " ++ (path ++ (codes ": " ++ ended (unparse_text cause)))))

-- the same of an expression that has no value for the reason of a number
abbrev pub unparse_fault_line : UnparseCause → List ℕ → ℕ → List ℕ
unparse_fault_line cause path fault =
    codes "error U" ++ (decimal (unparse_number cause) ++ (codes " in " ++ (path ++ (codes ": " ++ (unparse_text cause
    ++ (codes " (E" ++ (decimal fault ++ codes ")\n")))))))

-- a refusal of a schema, at this byte of the document of this name
abbrev pub schema_line : SchemaCause → List ℕ → ℕ → List ℕ
schema_line cause document at =
    codes "error C" ++ (decimal (schema_number cause) ++ (codes " at " ++ (document ++ (codes ":" ++ (decimal at
    ++ (codes ": " ++ ended (schema_text cause)))))))

-- a refusal of the document of this name, at this byte
abbrev pub document_line : DocCause → List ℕ → ℕ → List ℕ
document_line cause document at =
    codes "error X" ++ (decimal (document_number cause) ++ (codes " at " ++ (document ++ (codes ":" ++ (decimal at
    ++ (codes ": " ++ ended (document_text cause)))))))

-- a refusal of an infoset in the element of this path
abbrev pub infoset_line : InfosetCause → List ℕ → List ℕ
infoset_line cause path =
    codes "error I" ++ (decimal (infoset_number cause) ++ (codes " in " ++ (path ++ (codes ": " ++ ended (infoset_text cause)))))

-- the words are no command; words are counted from 1
abbrev pub usage_line : ℕ → List ℕ
usage_line word = codes "usage: word " ++ ended (decimal word)

-- data is left from this bit on
abbrev pub left_over_line : ℕ → List ℕ
left_over_line bit = codes "left over data at bit " ++ ended (decimal bit)

-- a limit was reached
abbrev pub limit_line : LimitCause → ℕ → List ℕ
limit_line cause quantity =
    codes "limit L" ++ (decimal (limit_number cause) ++ (codes " of " ++ (decimal quantity ++ codes " reached\n")))

-- the file of this name was not loaded
abbrev pub files_line : List ℕ → List ℕ
files_line name = codes "files failed: " ++ ended name

-- a call on the source failed
abbrev pub source_line : List ℕ
source_line = codes "source failed\n"

-- a call on a sink failed
abbrev pub sink_line : List ℕ
sink_line = codes "sink failed\n"

-- memory was not to be had
abbrev pub memory_line : List ℕ
memory_line = codes "out of memory\n"
