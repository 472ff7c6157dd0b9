-- Mirror for the prover: what is answered where something is made or refused.
use Rattle.std.specs.Prelude.{◌≡◌, Option, Some, None, Result, Ok, Err}
use Rattle.dfdl_value.specs.declared.read.ReadFault.{ReadFault}
use Rattle.dfdl_value.specs.declared.read.ReadFault.TheVariants as unreadable
use Rattle.dfdl_expression_text.specs.declared.fault.ExpressionFault.{ExpressionFault}
use Rattle.dfdl_expression_text.specs.declared.fault.ExpressionFault.TheVariants as text
use Rattle.dfdl_expression_types.specs.declared.fault.TypeFault.{TypeFault}
use Rattle.dfdl_expression_types.specs.declared.fault.TypeFault.TheVariants as type
use Rattle.dfdl_report.specs.declared.cause.SchemaCause.{SchemaCause}
use Rattle.dfdl_report.specs.declared.cause.SchemaCause.TheVariants.{ExpressionMalformed, ExpressionType, PathNowhere, VariableMalformed}
use Rattle.dfdl_statements.specs.declared.fault.Fault.{Fault}
use Rattle.dfdl_statements.specs.declared.fault.Fault.TheVariants.{Cause, OutOfMemory}

-- an answer is this one, or there was no memory
abbrev pub Gives : {X : Type 0} → Result X SchemaCause → Result X Fault → Type 0
Gives due (Ok x) = due ≡ Ok x
Gives due (Err (Cause cause)) = due ≡ Err cause
Gives due (Err OutOfMemory) = Unit {0}

-- the cause of a refusal
abbrev pub cause_in : {X : Type 0} → Result X SchemaCause → Option SchemaCause
cause_in (Ok x) = None
cause_in (Err cause) = Some cause

abbrev pub malformed : ExpressionFault → Fault
malformed (text.Malformed at) = Cause ExpressionMalformed
malformed text.OutOfMemory = OutOfMemory

abbrev pub unfit : TypeFault → Fault
unfit type.Types = Cause ExpressionType
unfit type.NoPath = Cause PathNowhere
unfit type.NoVariable = Cause VariableMalformed
unfit type.OutOfMemory = OutOfMemory

abbrev pub unread : ReadFault → Fault
unread unreadable.NotAValue = Cause VariableMalformed
unread unreadable.PastType = Cause VariableMalformed
unread unreadable.OutOfMemory = OutOfMemory
