-- Mirror for the prover: a fault of rows or of statements as one of a schema.
use Rattle.dfdl_rows.specs.declared.fault.RowsFault.{RowsFault}
use Rattle.dfdl_rows.specs.declared.fault.RowsFault.TheVariants as rows
use Rattle.dfdl_statements.specs.declared.fault.StatementFault.{StatementFault}
use Rattle.dfdl_statements.specs.declared.fault.StatementFault.TheVariants as statements
use Rattle.dfdl_compile.specs.declared.fault.CompileFault.{CompileFault}
use Rattle.dfdl_compile.specs.declared.fault.CompileFault.TheVariants as fault

-- the same reason
abbrev pub fault_of : RowsFault → CompileFault
fault_of (rows.Refused refusal) = fault.Refused refusal.cause refusal.place
fault_of (rows.Limit cause quantity) = fault.Limit cause quantity
fault_of rows.OutOfMemory = fault.OutOfMemory

-- the same of statements
abbrev pub statement_fault : StatementFault → CompileFault
statement_fault (statements.Refused refusal) = fault.Refused refusal.cause refusal.place
statement_fault statements.OutOfMemory = fault.OutOfMemory
