-- An instance of a variable that is opened for a component. What that comes to, for any law of rows.
use Rattle.std.proofs.Common.{ℕ, Bool, true, false, cond, nat_lt, List, Option, Some, None, Result, Ok, Err}
use Rattle.dfdl_value.specs.declared.value.Value.{Value}
use Rattle.dfdl_expressions.specs.declared.node.Node.{Node}
use Rattle.dfdl_expression_eval.specs.Meanings.{meaning}
use Rattle.dfdl_paths.specs.declared.place.Start.{Start}
use Rattle.dfdl_paths.specs.declared.place.Start.TheVariants.{Inside}
use Rattle.dfdl_vars.specs.Kept.{Kept}
use Rattle.dfdl_report.specs.declared.cause.ParseCause.{ParseCause}
use Rattle.dfdl_report.specs.declared.cause.ParseCause.TheVariants.{ExpressionFault}
use Rattle.dfdl_terms.specs.Rows.{Table}
use Rattle.dfdl_terms.specs.declared.statement.Opening.{Opening}
use Rattle.dfdl_grammar.specs.declared.end.End.{End}
use Rattle.dfdl_grammar.specs.declared.end.End.TheVariants.{Failed}
use Rattle.dfdl_grammar.specs.States.{State}
use Rattle.dfdl_grammar.specs.Outcomes.{Outcome}
use Rattle.dfdl_grammar.specs.Statements.{around_at}
use Rattle.dfdl_grammar.specs.Instances.{opened_by, opened_with, start_read, start_told, with_instance}
use Rattle.dfdl_grammar.proofs.Ways.{GoesOn, goes_same, left_goes}

-- What holds of each failure there, of the component without an instance, and of the component with one, whatever is read of the variables before.
module _ (P : End → State → Type 0) (s : State)
    (fails : (cause : ParseCause) (kept : Kept) → GoesOn s.variables kept → P (Failed cause s.at) (record s { variables = kept }))
    (body : State → Outcome)
    (plain : (kept : Kept) → GoesOn s.variables kept → (let o : Outcome = body (record s { variables = kept }) in P o.end o.state))
    (opens : (number : ℕ) (start : Option Value) (kept : Kept) → GoesOn s.variables kept
    → (let o : Outcome = with_instance number start body (record s { variables = kept }) in P o.end o.state)) (table : Table) where
  there-comes : (number : ℕ) (start : Option Value) (kept : Kept) → GoesOn s.variables kept → (there : Bool)
      → (let t : State = record s { variables = kept } in let o : Outcome = cond there (with_instance number start body t) (body t) in P o.end o.state)
  there-comes number start kept goes true = opens number start kept goes
  there-comes number start kept goes false = plain kept goes

  told-comes : (number : ℕ) (told : Result (Option Value) ℕ) (kept : Kept) → GoesOn s.variables kept
      → (let o : Outcome = opened_with number told body (record s { variables = kept }) in P o.end o.state)
  told-comes number (Ok start) kept goes = there-comes number start kept goes (nat_lt number kept.globals)
  told-comes number (Err cause) kept goes = fails (ExpressionFault cause) kept goes

  reads-go : (start : Start) (found : Option (List Node)) → GoesOn s.variables (start_read table start found s)
  reads-go start None = goes_same s.variables
  reads-go start (Some expression) = left_goes (meaning expression) (around_at table start s)

  pub opened-comes : (found : Option Opening) → (let o : Outcome = opened_by table found body s in P o.end o.state)
  opened-comes None = plain s.variables (goes_same s.variables)
  opened-comes (Some opening) =
      told-comes opening.variable (start_told table (Inside s.inside) opening.kind opening.start s)
      (start_read table (Inside s.inside) opening.start s) (reads-go (Inside s.inside) opening.start)
