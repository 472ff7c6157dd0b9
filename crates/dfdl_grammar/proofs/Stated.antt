-- Statements set and read variables and resolve points, and give the open element a value. What they come to, for any law of rows.
use Rattle.std.proofs.Common.{◌≡◌, ◌<◌, refl, sym, subst, ℕ, zero, suc, ◌+◌, Bool, true, false, cond, nat_eq, nat_lt, List, Option, Some, None, Result, Ok, Err, arith}
use Rattle.std.proofs.lemmas.Bool.Decides.{nat_tests}
use Rattle.std.specs.Prelude.{slice_get}
use Rattle.dfdl_value.specs.declared.value.Value.{Value}
use Rattle.dfdl_expressions.specs.declared.node.Node.{Node}
use Rattle.dfdl_expression_eval.specs.Meanings.{meaning}
use Rattle.dfdl_paths.specs.declared.place.Start.{Start}
use Rattle.dfdl_surroundings.specs.Taking.{taken, truth_taken}
use Rattle.dfdl_vars.specs.Kept.{Kept, fault_now, place_now, with_setting}
use Rattle.dfdl_vars.specs.declared.instances.VarFault.{VarFault}
use Rattle.dfdl_report.specs.declared.cause.ParseCause.{ParseCause}
use Rattle.dfdl_report.specs.declared.cause.ParseCause.TheVariants.{ExpressionFault}
use Rattle.dfdl_terms.specs.Rows.{Table}
use Rattle.dfdl_terms.specs.declared.statement.Calculation.{Calculation as CalculationOf}
use Rattle.dfdl_terms.specs.declared.statement.Statement.{Statement}
use Rattle.dfdl_terms.specs.declared.statement.Statement.TheVariants.{Pattern, Expression, Setting, Calculation, Question, Opening}
use Rattle.dfdl_terms.specs.declared.statement.Statements.{Statements}
use Rattle.dfdl_looks.specs.Asks.{Told}
use Rattle.dfdl_grammar.specs.declared.end.End.{End}
use Rattle.dfdl_grammar.specs.declared.end.End.TheVariants.{Done, Failed, Stopped}
use Rattle.dfdl_grammar.specs.declared.end.Halt.TheVariants.{Variable}
use Rattle.dfdl_grammar.specs.declared.limits.Limits.{Limits}
use Rattle.dfdl_grammar.specs.declared.mark.Mark.{Mark}
use Rattle.dfdl_grammar.specs.States.{Input, State}
use Rattle.dfdl_grammar.specs.Outcomes.{Outcome, ended, follow}
use Rattle.dfdl_grammar.specs.Leaves.{default_find, land}
use Rattle.dfdl_grammar.specs.Marks.{AreSame, resolved, resolved_among}
use Rattle.dfdl_grammar.specs.Tests.{false_test}
use Rattle.dfdl_grammar.specs.Statements.{around_at, calculated, computed, concluded, concluded_at, evaluated, is_held, is_written, judged, reconsidered, reconsidered_from, set_by, set_to, start_of, stated, stated_from, statement, statement_of, told_at, variable_cause, with_reads}
use Rattle.dfdl_grammar.proofs.Resolved.{resolved_same}
use Rattle.dfdl_grammar.proofs.Tested.{test-comes}
use Rattle.dfdl_grammar.proofs.Ways.{GoesOn, goes_same, left_goes, set_goes}

-- where points are resolved, and variables are set and read
abbrev pub Restates : (State → Type 0) → Type 0
Restates R = (t : State) (marks : List Mark) (kept : Kept) → R t → AreSame marks t.marks → GoesOn t.variables kept
    → R (record t { marks = marks; variables = kept })

-- What holds of a state (R), and where something ends (P).
pub record Tells (limits : Limits) (R : State → Type 0) (P : End → State → Type 0) : Type 0 where
  pub again : Restates R
  pub lands : (t : State) (v : Value) → R t → is_written v ≡ true
      → P (land limits t.at (Told (default_find t.at v)) t).end (land limits t.at (Told (default_find t.at v)) t).state
  pub done : (t : State) → P Done t → R t
  pub ends : (e : End) (t : State) → R t → P e t

-- a discriminator that is tested again
module _ (Q : State → Type 0) (again : Restates Q) (table : Table) (start : Start) where
  pub reads-again : (expression : List Node) (t : State) → Q t → Q (with_reads table start expression t)
  reads-again expression t has =
      again t t.marks (with_reads table start expression t).variables has refl (left_goes (meaning expression) (around_at table start t))

  pub resolves-again : (t : State) → Q t → Q (resolved t)
  resolves-again t has = again t (resolved_among t.marks) t.variables has (resolved_same t.marks) (goes_same t.variables)

  held-again : (t : State) → Q t → (held : Bool) → Q (cond held (resolved t) t)
  held-again t has true = resolves-again t has
  held-again t has false = has

  asked-again : (expression : List Node) (t : State) → Q t → (discriminates : Bool)
      → Q (cond discriminates
      (cond (is_held (truth_taken (evaluated table start expression t))) (resolved (with_reads table start expression t))
      (with_reads table start expression t)) t)
  asked-again expression t has true =
      held-again (with_reads table start expression t) (reads-again expression t has) (is_held (truth_taken (evaluated table start expression t)))
  asked-again expression t has false = has

  reconsidered-again : (found : Option Statement) (t : State) → Q t → Q (reconsidered table start found t)
  reconsidered-again None t has = has
  reconsidered-again (Some (Pattern test)) t has = has
  reconsidered-again (Some (Expression test)) t has = asked-again test.expression t has test.discriminates
  reconsidered-again (Some (Setting setting)) t has = has
  reconsidered-again (Some (Calculation calculation)) t has = has
  reconsidered-again (Some (Question question)) t has = has
  reconsidered-again (Some (Opening opening)) t has = has

  pub all-again : (first count : ℕ) (t : State) → Q t → Q (reconsidered_from table start first count t)
  unfolding reconsidered_from
  all-again first zero t has = has
  all-again first (suc count) t has =
      let found : Option Statement = slice_get table.statements first in
      all-again (first + 1) count (reconsidered table start found t) (reconsidered-again found t has)

module _ (limits : Limits) (R : State → Type 0) (P : End → State → Type 0) (tells : Tells limits R P) (table : Table) where
  -- what is done from such a state on
  abbrev pub Comes : (State → Outcome) → Type 0
  Comes f = (t : State) → R t → P (f t).end (f t).state

  behind-comes : (t : State) → R t → (discriminates : Bool) → P Done (cond discriminates (resolved t) t)
  behind-comes t has true =
      tells.ends Done (resolved t) (tells.again t (resolved_among t.marks) t.variables has (resolved_same t.marks) (goes_same t.variables))
  behind-comes t has false = tells.ends Done t has

  pub judged-comes : (discriminates : Bool) (number : ℕ) (truth : Result Bool ℕ) → Comes (judged discriminates number truth)
  judged-comes discriminates number (Ok true) t has = behind-comes t has discriminates
  judged-comes discriminates number (Ok false) t has = tells.ends (Failed (false_test discriminates number) t.at) t has
  judged-comes discriminates number (Err cause) t has = tells.ends (Failed (ExpressionFault cause) t.at) t has

  by-comes : (number : ℕ) (v : Value) (t : State) → R t → number < t.variables.globals → (reason : Option VarFault) → fault_now t.variables number ≡ reason
      → P (set_by reason number v t).end (set_by reason number v t).state
  by-comes number v t has less None is =
      let kept : Kept = with_setting t.variables (place_now t.variables number) v in
      tells.ends Done (record t { variables = kept }) (tells.again t t.marks kept has refl (set_goes t.variables number v less is))
  by-comes number v t has less (Some reason) is = tells.ends (Stopped (Variable (variable_cause reason)) t.at) t has

  there-comes : (number : ℕ) (v : Value) (t : State) → R t → (there : Bool) → nat_lt number t.variables.globals ≡ there
      → (let o : Outcome = cond there (set_by (fault_now t.variables number) number v t) (ended Done t) in P o.end o.state)
  there-comes number v t has true is = by-comes number v t has (grind (arith, nat_tests)) (fault_now t.variables number) refl
  there-comes number v t has false is = tells.ends Done t has

  pub set-comes : (number : ℕ) (told : Result Value ℕ) → Comes (set_to number told)
  set-comes number (Ok v) t has = there-comes number v t has (nat_lt number t.variables.globals) refl
  set-comes number (Err cause) t has = tells.ends (Failed (ExpressionFault cause) t.at) t has

  written-comes : (v : Value) (t : State) → R t → (written : Bool) → is_written v ≡ written
      → (let o : Outcome = cond written (land limits t.at (Told (default_find t.at v)) t) (ended (Failed (ExpressionFault 6) t.at) t) in P o.end o.state)
  written-comes v t has true is = tells.lands t v has is
  written-comes v t has false is = tells.ends (Failed (ExpressionFault 6) t.at) t has

  pub calculated-comes : (told : Result Value ℕ) → Comes (calculated limits told)
  calculated-comes (Ok v) t has = written-comes v t has (is_written v) refl
  calculated-comes (Err cause) t has = tells.ends (Failed (ExpressionFault cause) t.at) t has

  pub reads-come : (start : Start) (expression : List Node) (t : State) → R t → R (with_reads table start expression t)
  reads-come start expression t has = reads-again R tells.again table start expression t has

  -- a calculated value, or nothing where that is one of unparsing alone
  computed-comes : (start : Start) (calculation : CalculationOf) → Comes (computed limits table start calculation)
  computed-comes start calculation t has = by calculation.output
    where
      found : Result Value ℕ
      found = taken calculation.kind (evaluated table start calculation.expression t)

      behind : State
      behind = with_reads table start calculation.expression t

      by : (output : Bool) → (let o : Outcome = cond output (ended Done t) (calculated limits found behind) in P o.end o.state)
      by true = tells.ends Done t has
      by false = calculated-comes found behind (reads-come start calculation.expression t has)

  pub stated-comes : (start : Start) (number : ℕ) (found : Option Statement) → Comes (stated limits table start number found)
  stated-comes start number None t has = tells.ends Done t has
  stated-comes start number (Some (Pattern test)) t has = tells.ends Done t has
  stated-comes start number (Some (Expression test)) t has =
      judged-comes test.discriminates number (truth_taken (evaluated table start test.expression t)) (with_reads table start test.expression t)
      (reads-come start test.expression t has)
  stated-comes start number (Some (Setting setting)) t has =
      set-comes setting.variable (taken setting.kind (evaluated table start setting.expression t)) (with_reads table start setting.expression t)
      (reads-come start setting.expression t has)
  stated-comes start number (Some (Calculation calculation)) t has = computed-comes start calculation t has
  stated-comes start number (Some (Question question)) t has = tells.ends Done t has
  stated-comes start number (Some (Opening opening)) t has = tells.ends Done t has

  follow-comes : (e : End) (o : Outcome) (next : State → Outcome) → e ≡ o.end → P o.end o.state → Comes next
      → P (follow e o next).end (follow e o next).state
  follow-comes Done o next same holds comes = comes o.state (tells.done o.state (subst (λ (e : End). P e o.state) (sym same) holds))
  follow-comes (Failed cause bit) o next same holds comes = holds
  follow-comes (Stopped cause quantity) o next same holds comes = holds

  pub from-comes : (start : Start) (first count : ℕ) → Comes (stated_from limits table start first count)
  unfolding stated_from
  from-comes start first zero t has = tells.ends Done t has
  from-comes start first (suc count) t has =
      let o : Outcome = stated limits table start first (slice_get table.statements first) t in
      follow-comes o.end o (stated_from limits table start (first + 1) count) refl
      (stated-comes start first (slice_get table.statements first) t has) (from-comes start (first + 1) count)

  -- Statements behind a component, of which this holds (C): where it is done, they begin.
  module _ (C : End → State → Type 0) (begins : (t : State) → C Done t → R t) (start : Start)
      (told : (e : End) (t : State) → P e t → C e (told_at e start t)) (fails : (cause : ParseCause) (bit : ℕ) → Restates (C (Failed cause bit)))
      (behind : Statements) where
    at-comes : (e : End) (o : Outcome) → e ≡ o.end → C o.end o.state
        → C (concluded_at e limits table start behind o).end (concluded_at e limits table start behind o).state
    at-comes Done o same holds =
        let last : Outcome = stated_from limits table start behind.first behind.count o.state in
        told last.end last.state
        (from-comes start behind.first behind.count o.state (begins o.state (subst (λ (e : End). C e o.state) (sym same) holds)))
    at-comes (Failed cause bit) o same holds =
        let last : State = reconsidered_from table start behind.first behind.count o.state in
        subst (λ (e : End). C e last) same
        (all-again (C (Failed cause bit)) (fails cause bit) table start behind.first behind.count o.state
        (subst (λ (e : End). C e o.state) (sym same) holds))
    at-comes (Stopped cause quantity) o same holds = holds

    some-come : (o : Outcome) → C o.end o.state → (none : Bool)
        → (let out : Outcome = cond none o (concluded_at o.end limits table start behind o) in C out.end out.state)
    some-come o holds true = holds
    some-come o holds false = at-comes o.end o refl holds

    pub concluded-comes : (o : Outcome) → C o.end o.state
        → C (concluded limits table start behind o).end (concluded limits table start behind o).state
    concluded-comes o holds = some-come o holds (nat_eq behind.count 0)

-- the row of a statement
module _ (input : Input) (R : State → Type 0) (P : End → State → Type 0) (tells : Tells input.limits R P) (table : Table) where
  found-comes : (number : ℕ) (found : Option Statement) (t : State) → R t
      → P (statement_of input table number found t).end (statement_of input table number found t).state
  found-comes number None t has = tells.ends Done t has
  found-comes number (Some (Pattern pattern)) t has =
      test-comes P t
      (λ marks same. tells.ends Done (record t { marks = marks }) (tells.again t marks t.variables has same (goes_same t.variables)))
      (λ cause. tells.ends (Failed cause t.at) t has) (λ cause quantity. tells.ends (Stopped cause quantity) t has) input pattern number
  found-comes number (Some (Expression test)) t has =
      let found : Option Statement = Some (Expression test) in
      stated-comes input.limits R P tells table (start_of found t) number found t has
  found-comes number (Some (Setting setting)) t has =
      let found : Option Statement = Some (Setting setting) in
      stated-comes input.limits R P tells table (start_of found t) number found t has
  found-comes number (Some (Calculation calculation)) t has =
      let found : Option Statement = Some (Calculation calculation) in
      stated-comes input.limits R P tells table (start_of found t) number found t has
  found-comes number (Some (Question question)) t has = tells.ends Done t has
  found-comes number (Some (Opening opening)) t has = tells.ends Done t has

  pub statement-comes : (number : ℕ) (t : State) → R t → P (statement input table number t).end (statement input table number t).state
  statement-comes number t has = found-comes number (slice_get table.statements number) t has
