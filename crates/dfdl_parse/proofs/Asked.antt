-- What holds of the machines that rows which ask an expression can come to.
use Rattle.std.proofs.Common.{ℕ, ◌-◌, nat_eq, Bool, true, false, cond, List, ◌∷◌, Option, Some, None, Result, Ok, Err}
use Rattle.dfdl_expression_eval.specs.declared.env.Evaluated.{Evaluated}
use Rattle.dfdl_paths.specs.declared.place.Start.{Start}
use Rattle.dfdl_paths.specs.declared.place.Start.TheVariants.{At, Inside}
use Rattle.dfdl_vars.specs.Kept.{Kept}
use Rattle.dfdl_report.specs.declared.cause.ParseCause.{ParseCause}
use Rattle.dfdl_report.specs.declared.cause.ParseCause.TheVariants.{ExpressionFault, LengthOutOfRange, NegativeCount, NoDispatchBranch}
use Rattle.dfdl_terms.specs.Rows.{Table}
use Rattle.dfdl_terms.specs.declared.keys.Key.{Key}
use Rattle.dfdl_terms.specs.declared.prefix.Measure.{Measure}
use Rattle.dfdl_grammar.specs.declared.end.End.TheVariants.{Done, Failed}
use Rattle.dfdl_grammar.specs.States.{State}
use Rattle.dfdl_grammar.specs.Questions.{question_at}
use Rattle.dfdl_parse.specs.declared.frame.Frame.{Frame}
use Rattle.dfdl_parse.specs.declared.frame.Frame.TheVariants.{Times}
use Rattle.dfdl_parse.specs.declared.frame.Focus.TheVariants.{Enter}
use Rattle.dfdl_parse.specs.declared.frame.Behind.{Behind}
use Rattle.dfdl_parse.specs.Moves.{Machine}
use Rattle.dfdl_parse.specs.Prefixed.{at_end, behind_units}
use Rattle.dfdl_parse.specs.Asking.{asked_begins, behind_question, count_told, counted_begins, dispatch_begins, given_by, key_told, measured_begins, row_begins, times_begin, told}

-- behind a number that is told or isn't
pub told-has : (P : Machine → Type 0) (cause : ParseCause) (next : ℕ → List Frame → State → Machine) (k : List Frame) (s : State)
    → ((why : ParseCause) → P (at_end (Failed why s.at) k s)) → ((number : ℕ) → P (next number k s)) → (answer : Result (Option ℕ) ℕ) → P (told cause next answer k s)
told-has P cause next k s fails each (Ok None) = fails cause
told-has P cause next k s fails each (Ok (Some number)) = each number
told-has P cause next k s fails each (Err fault) = fails (ExpressionFault fault)

-- a row that stands so many times more
pub times-have : (P : Machine → Type 0) (body : ℕ) (k : List Frame) (s : State) → P (at_end Done k s)
    → ((left : ℕ) → P (record { focus = Enter body; stack = Times body left ∷ k; state = s })) → (left : ℕ) → P (times_begin body left k s)
times-have P body k s done each left = by (nat_eq left 0)
  where
    by : (none : Bool) → P (cond none (at_end Done k s) (record { focus = Enter body; stack = Times body (left - 1) ∷ k; state = s }))
    by true = done
    by false = each (left - 1)

-- behind a question, which reads variables
module _ (P : Machine → Type 0) (table : Table) (k : List Frame) (s : State)
    (fails : (variables : Kept) (why : ParseCause) → P (at_end (Failed why s.at) k (record s { variables = variables }))) where
  asked-has : (start : Start) (question : ℕ) (cause : ParseCause) (next : ℕ → List Frame → State → Machine) (tells : Option Evaluated → Result (Option ℕ) ℕ)
      → ((variables : Kept) (number : ℕ) → P (next number k (record s { variables = variables }))) → P (asked_begins table start question cause next tells k s)
  asked-has start question cause next tells each =
      let t : State = behind_question table start question s in
      told-has P cause next k t (fails t.variables) (each t.variables) (tells (given_by table start (question_at table question) s))

  pub measured-has : (measure : Measure) (what : Behind)
      → ((variables : Kept) (units : ℕ) → P (behind_units table.primitives measure.unit what units k (record s { variables = variables })))
      → P (measured_begins table measure what k s)
  measured-has measure what each =
      asked-has (At s.inside) measure.question LengthOutOfRange (behind_units table.primitives measure.unit what) count_told each

  pub counted-has : (question body : ℕ) → ((variables : Kept) → P (at_end Done k (record s { variables = variables })))
      → ((variables : Kept) (left : ℕ) → P (record { focus = Enter body; stack = Times body left ∷ k; state = record s { variables = variables } }))
      → P (counted_begins table question body k s)
  counted-has question body done each =
      asked-has (Inside s.inside) question NegativeCount (times_begin body) count_told
      (λ variables number. times-have P body k (record s { variables = variables }) (done variables) (each variables) number)

  pub dispatch-has : (question : ℕ) (keys : List Key) → ((variables : Kept) (id : ℕ) → P (row_begins id k (record s { variables = variables })))
      → P (dispatch_begins table question keys k s)
  dispatch-has question keys each = asked-has (Inside s.inside) question NoDispatchBranch row_begins (key_told keys) each
