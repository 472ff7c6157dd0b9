-- Rows that ask expressions stop by a limit on data, or a variable that can't be set, alone.
use Rattle.std.proofs.Common.{ℕ, List, Option, None, Some, Result, Ok, Err}
use Rattle.dfdl_report.specs.declared.cause.ParseCause.{ParseCause}
use Rattle.dfdl_expressions.specs.declared.node.Node.{Node}
use Rattle.dfdl_paths.specs.declared.place.Start.{Start}
use Rattle.dfdl_surroundings.specs.Taking.{count_taken, text_taken}
use Rattle.dfdl_terms.specs.Rows.{Table}
use Rattle.dfdl_terms.specs.declared.keys.Key.{Key}
use Rattle.dfdl_grammar.specs.States.{State}
use Rattle.dfdl_grammar.specs.Outcomes.{Outcome}
use Rattle.dfdl_grammar.specs.Questions.{asked_count, asked_key, counted_by, row_by, taken_by, told_count, told_key}
use Rattle.dfdl_grammar.specs.Statements.{evaluated, with_reads}
use Rattle.dfdl_run.proofs.Stopping.{StopsByData}

module _ (cause : ParseCause) (next : ℕ → State → Outcome) (each : (count : ℕ) (s : State) → StopsByData (next count s).end) where
  counted-stops : (o : Option ℕ) (s : State) → StopsByData (counted_by cause next o s).end
  counted-stops None s = tt
  counted-stops (Some count) s = each count s

  told-stops : (r : Result (Option ℕ) ℕ) (s : State) → StopsByData (told_count cause next r s).end
  told-stops (Ok count) s = counted-stops count s
  told-stops (Err fault) s = tt

  -- what follows a number that is asked for
  pub count-stops : (table : Table) (start : Start) (o : Option (List Node)) (s : State) → StopsByData (asked_count table start cause next o s).end
  count-stops table start None s = tt
  count-stops table start (Some expression) s =
      told-stops (count_taken (evaluated table start expression s)) (with_reads table start expression s)

module _ (child : ℕ → State → Outcome) (each : (id : ℕ) (s : State) → StopsByData (child id s).end) where
  taken-stops : (o : Option ℕ) (s : State) → StopsByData (taken_by child o s).end
  taken-stops None s = tt
  taken-stops (Some id) s = each id s

  told-key-stops : (keys : List Key) (r : Result (List ℕ) ℕ) (s : State) → StopsByData (told_key child keys r s).end
  told-key-stops keys (Ok text) s = taken-stops (row_by keys text) s
  told-key-stops keys (Err fault) s = tt

  -- the row to which a key leads
  pub key-stops : (table : Table) (start : Start) (keys : List Key) (o : Option (List Node)) (s : State) → StopsByData (asked_key table start child keys o s).end
  key-stops table start keys None s = tt
  key-stops table start keys (Some expression) s =
      told-key-stops keys (text_taken (evaluated table start expression s)) (with_reads table start expression s)
