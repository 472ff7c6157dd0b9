-- Mirror for the prover: what is answered where statements are made or refused.
use Rattle.std.specs.Prelude.{◌≡◌, List, ◌++◌, Option, Some, None, Result, Ok, Err, Vec}
use Rattle.dfdl_expression_types.specs.declared.statics.Place.{Place}
use Rattle.dfdl_report.specs.declared.cause.SchemaCause.{SchemaCause}
use Rattle.dfdl_terms.specs.declared.row.Row.{Row}
use Rattle.dfdl_terms.specs.declared.statement.Statement.{Statement}
use Rattle.dfdl_statements.specs.declared.fault.Refusal.{Refusal}
use Rattle.dfdl_statements.specs.declared.fault.StatementFault.{StatementFault}
use Rattle.dfdl_statements.specs.declared.fault.StatementFault.TheVariants.{Refused, OutOfMemory}
use Rattle.dfdl_statements.specs.declared.written.Written.{Written}
use Rattle.dfdl_statements.specs.Settled.{places, refused_at}

-- an answer is this one, or there was no memory
abbrev pub Settles : {Y : Type 0} → Result (List Statement) Refusal → Result (Vec Statement Y) StatementFault → Type 0
Settles due (Ok statements) = due ≡ Ok statements.items
Settles due (Err (Refused why)) = due ≡ Err why
Settles due (Err OutOfMemory) = Unit {0}

-- the same of one statement
abbrev pub SettlesOne : Written → Result Statement SchemaCause → Result Statement StatementFault → Type 0
SettlesOne written due (Ok statement) = due ≡ Ok statement
SettlesOne written due (Err (Refused why)) = (cause : SchemaCause) × (due ≡ Err cause) × (why ≡ refused_at written cause)
SettlesOne written due (Err OutOfMemory) = Unit {0}

-- an answer is the refusal, or where each statement stands
abbrev pub LooksAt : {Y : Type 0} → List Row → List Written → Option Refusal → Result (Vec (Option Place) Y) Refusal → Type 0
LooksAt rows written due (Ok all) = (due ≡ None) × (all.items ≡ places rows written)
LooksAt rows written due (Err why) = due ≡ Some why

-- statements, and behind them others, if these are made
abbrev pub put_before : List Statement → Result (List Statement) Refusal → Result (List Statement) Refusal
put_before statements (Ok others) = Ok (statements ++ others)
put_before statements (Err why) = Err why
