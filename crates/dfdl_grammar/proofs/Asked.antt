-- A question changes nothing but the variables, each way back to which goes on. What asks it fails, or goes on by what it tells.
use Rattle.std.proofs.Common.{ℕ, List, Option, Some, None, Result, Ok, Err}
use Rattle.dfdl_expressions.specs.declared.node.Node.{Node}
use Rattle.dfdl_expression_eval.specs.Meanings.{meaning}
use Rattle.dfdl_paths.specs.declared.place.Start.{Start}
use Rattle.dfdl_surroundings.specs.Taking.{count_taken, text_taken}
use Rattle.dfdl_vars.specs.Kept.{Kept}
use Rattle.dfdl_report.specs.declared.cause.ParseCause.{ParseCause}
use Rattle.dfdl_report.specs.declared.cause.ParseCause.TheVariants.{ExpressionFault, NoDispatchBranch}
use Rattle.dfdl_terms.specs.Rows.{Table}
use Rattle.dfdl_terms.specs.declared.keys.Key.{Key}
use Rattle.dfdl_grammar.specs.declared.end.End.{End}
use Rattle.dfdl_grammar.specs.declared.end.End.TheVariants.{Failed}
use Rattle.dfdl_grammar.specs.States.{State}
use Rattle.dfdl_grammar.specs.Outcomes.{Outcome}
use Rattle.dfdl_grammar.specs.Questions.{asked_count, asked_key, counted_by, row_by, taken_by, told_count, told_key}
use Rattle.dfdl_grammar.specs.Statements.{around_at, evaluated, with_reads}
use Rattle.dfdl_grammar.proofs.Ways.{GoesOn, goes_same, left_goes}

-- What holds of each failure where the question is asked, and of what goes on there, whatever is read of the variables.
module _ (P : End → State → Type 0) (s : State)
    (fails : (cause : ParseCause) (kept : Kept) → GoesOn s.variables kept → P (Failed cause s.at) (record s { variables = kept })) (table : Table)
    (start : Start) where
  -- what is done there
  abbrev pub Comes : (State → Outcome) → Type 0
  Comes f = (kept : Kept) → GoesOn s.variables kept
      → (let o : Outcome = f (record s { variables = kept }) in P o.end o.state)

  module _ (cause : ParseCause) (next : ℕ → State → Outcome) (comes : (count : ℕ) → Comes (next count)) where
    counted-comes : (count : Option ℕ) → Comes (counted_by cause next count)
    counted-comes None kept goes = fails cause kept goes
    counted-comes (Some count) kept goes = comes count kept goes

    told-comes : (told : Result (Option ℕ) ℕ) → Comes (told_count cause next told)
    told-comes (Ok count) kept goes = counted-comes count kept goes
    told-comes (Err fault) kept goes = fails (ExpressionFault fault) kept goes

    pub count-comes : (found : Option (List Node))
        → (let o : Outcome = asked_count table start cause next found s in P o.end o.state)
    count-comes None = counted-comes None s.variables (goes_same s.variables)
    count-comes (Some expression) =
        told-comes (count_taken (evaluated table start expression s)) (with_reads table start expression s).variables
        (left_goes (meaning expression) (around_at table start s))

  module _ (child : ℕ → State → Outcome) (keys : List Key) (comes : (id : ℕ) → Comes (child id)) where
    taken-comes : (id : Option ℕ) → Comes (taken_by child id)
    taken-comes None kept goes = fails NoDispatchBranch kept goes
    taken-comes (Some id) kept goes = comes id kept goes

    text-comes : (told : Result (List ℕ) ℕ) → Comes (told_key child keys told)
    text-comes (Ok text) kept goes = taken-comes (row_by keys text) kept goes
    text-comes (Err fault) kept goes = fails (ExpressionFault fault) kept goes

    pub key-comes : (found : Option (List Node)) → (let o : Outcome = asked_key table start child keys found s in P o.end o.state)
    key-comes None = taken-comes None s.variables (goes_same s.variables)
    key-comes (Some expression) =
        text-comes (text_taken (evaluated table start expression s)) (with_reads table start expression s).variables
        (left_goes (meaning expression) (around_at table start s))
