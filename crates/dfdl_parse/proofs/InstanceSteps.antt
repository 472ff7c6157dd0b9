-- The steps of rows for which an instance of a variable is opened: they do a part of what is ahead, and what holds of each machine that they come to.
use Rattle.std.proofs.Common.{◌≡◌, ℕ, ◌<◌, nat_lt, Bool, true, false, cond, List, ◌∷◌, Option, Some, None, Result, Ok, Err, refl, ap, ◌∙◌}
use Rattle.std.specs.Prelude.{slice_get}
use Rattle.dfdl_bits.specs.Window.{Held}
use Rattle.dfdl_value.specs.declared.value.Value.{Value}
use Rattle.dfdl_paths.specs.declared.place.Start.TheVariants.{Inside}
use Rattle.dfdl_vars.specs.Kept.{Kept, entered}
use Rattle.dfdl_report.specs.declared.cause.ParseCause.{ParseCause}
use Rattle.dfdl_report.specs.declared.cause.ParseCause.TheVariants.{ExpressionFault}
use Rattle.dfdl_terms.specs.Rows.{Table}
use Rattle.dfdl_terms.specs.declared.statement.Opening.{Opening}
use Rattle.dfdl_looks.specs.Tallies.{one_row}
use Rattle.dfdl_grammar.specs.declared.end.End.TheVariants.{Failed}
use Rattle.dfdl_grammar.specs.States.{Input, State}
use Rattle.dfdl_grammar.specs.Outcomes.{Outcome, spend}
use Rattle.dfdl_grammar.specs.Instances.{closed_behind, instanced, opened_by, opened_with, opening_of, start_read, start_told, with_instance}
use Rattle.dfdl_grammar.specs.Rows.{below}
use Rattle.dfdl_grammar.proofs.Towers.{below-meaning}
use Rattle.dfdl_parse.specs.declared.frame.Frame.{Frame}
use Rattle.dfdl_parse.specs.declared.frame.Frame.TheVariants.{Instance}
use Rattle.dfdl_parse.specs.declared.frame.Focus.TheVariants.{Enter}
use Rattle.dfdl_parse.specs.Moves.{Machine}
use Rattle.dfdl_parse.specs.Prefixed.{at_end}
use Rattle.dfdl_parse.specs.Asking.{begins, row_begins}
use Rattle.dfdl_parse.specs.Instances.{instanced_begins, opening_begins, start_begins}
use Rattle.dfdl_parse.specs.Ahead.{ahead, finish}
use Rattle.dfdl_parse.proofs.Finishes.{Does, finish-spend}

-- What holds of each failure there, of the row that begins without an instance, and of the row that begins with one.
module _ (P : Machine → Type 0) (table : Table) (body : ℕ) (k : List Frame) (s : State)
    (fails : (variables : Kept) (why : ParseCause) → P (at_end (Failed why s.at) k (record s { variables = variables })))
    (plain : (variables : Kept) → P (row_begins body k (record s { variables = variables })))
    (opens : (variables : Kept) → P (record { focus = Enter body; stack = Instance ∷ k; state = record s { variables = variables } })) where
  instance-has : (number : ℕ) (start : Option Value) (variables : Kept) (there : Bool)
      → P (cond there (record { focus = Enter body; stack = Instance ∷ k; state = record s { variables = entered variables number start } })
      (row_begins body k (record s { variables = variables })))
  instance-has number start variables true = opens (entered variables number start)
  instance-has number start variables false = plain variables

  start-has : (number : ℕ) (told : Result (Option Value) ℕ) (variables : Kept) → P (start_begins number told body k (record s { variables = variables }))
  start-has number (Ok start) variables = instance-has number start variables (nat_lt number variables.globals)
  start-has number (Err cause) variables = fails variables (ExpressionFault cause)

  opening-has : (found : Option Opening) → P (opening_begins table found body k s)
  opening-has None = plain s.variables
  opening-has (Some opening) =
      start-has opening.variable (start_told table (Inside s.inside) opening.kind opening.start s) (start_read table (Inside s.inside) opening.start s)

  pub instanced-has : (number : ℕ) → P (instanced_begins table number body k s)
  instanced-has number = opening-has (opening_of (slice_get table.statements number))

module _ (input : Input) (table : Table) where
  there-ahead : (id number : ℕ) (start : Option Value) (body : ℕ) (k : List Frame) (s : State) → body < id → (there : Bool)
      → finish input table k (cond there (with_instance number start (below input table id body) s) (below input table id body s))
      ≡ ahead input table (cond there (record { focus = Enter body; stack = Instance ∷ k; state = record s { variables = entered s.variables number start } })
      (row_begins body k s))
  unfolding finish
  there-ahead id number start body k s less true =
      ap (λ (o : Outcome). finish input table k (closed_behind o.end o))
      (below-meaning input table id body (record s { variables = entered s.variables number start }) less)
  there-ahead id number start body k s less false = ap (finish input table k) (below-meaning input table id body s less)

  start-ahead : (id number : ℕ) (told : Result (Option Value) ℕ) (body : ℕ) (k : List Frame) (s : State) → body < id
      → finish input table k (opened_with number told (below input table id body) s) ≡ ahead input table (start_begins number told body k s)
  start-ahead id number (Ok start) body k s less = there-ahead id number start body k s less (nat_lt number s.variables.globals)
  start-ahead id number (Err cause) body k s less = refl

  opening-ahead : (id : ℕ) (found : Option Opening) (body : ℕ) (k : List Frame) (s : State) → body < id
      → finish input table k (opened_by table found (below input table id body) s) ≡ ahead input table (opening_begins table found body k s)
  opening-ahead id None body k s less = ap (finish input table k) (below-meaning input table id body s less)
  opening-ahead id (Some opening) body k s less =
      start-ahead id opening.variable (start_told table (Inside s.inside) opening.kind opening.start s) body k
      (record s { variables = start_read table (Inside s.inside) opening.start s }) less

  pub instanced-ahead : (held : Held) (id number body : ℕ) (k : List Frame) (s : State) → body < id
      → Does input table (finish input table k (spend one_row (instanced table number (below input table id body) s)))
      (begins one_row held (instanced_begins table number body k s))
  instanced-ahead held id number body k s less =
      finish-spend input table k one_row (instanced table number (below input table id body) s)
      ∙ ap (spend one_row) (opening-ahead id (opening_of (slice_get table.statements number)) body k s less)
