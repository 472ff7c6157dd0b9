-- What holds of a state and of it with a resolved point, whatever elements, texts and variables there are, holds behind statements.
use Rattle.std.proofs.Common.{◌≡◌, refl, ℕ, zero, suc, ◌+◌, Bool, true, false, cond, nat_eq, nat_le, nat_lt, List, ◌∷◌, length, Option, Some, None, Result, Ok, Err, ◌≤◌, arith}
use Rattle.std.specs.Prelude.{slice_get}
use Rattle.dfdl_report.specs.declared.cause.LimitCause.TheVariants.{Text as TextLimit}
use Rattle.dfdl_report.specs.declared.cause.ParseCause.{ParseCause}
use Rattle.dfdl_report.specs.declared.cause.ParseCause.TheVariants.{ExpressionFault}
use Rattle.dfdl_value.specs.declared.value.Value.{Value}
use Rattle.dfdl_value.specs.declared.value.Value.TheVariants as value
use Rattle.dfdl_expression_eval.specs.Meanings.{meaning}
use Rattle.dfdl_expression_eval.specs.Runs.{left_by}
use Rattle.dfdl_expressions.specs.declared.node.Node.{Node as ExpressionNode}
use Rattle.dfdl_paths.specs.declared.place.Start.{Start}
use Rattle.dfdl_region.specs.declared.node.Node.{Node}
use Rattle.dfdl_surroundings.specs.Answers.{answer_in, element_of, read_in}
use Rattle.dfdl_surroundings.specs.Taking.{taken, truth_taken}
use Rattle.dfdl_vars.specs.Kept.{Kept, fault_now}
use Rattle.dfdl_vars.specs.declared.instances.VarFault.{VarFault}
use Rattle.dfdl_terms.specs.declared.statement.Calculation.{Calculation as CalculationOf}
use Rattle.dfdl_terms.specs.declared.statement.Statement.{Statement}
use Rattle.dfdl_terms.specs.declared.statement.Statement.TheVariants.{Pattern, Expression, Setting, Calculation, Question, Opening}
use Rattle.dfdl_terms.specs.declared.statement.Statements.{Statements}
use Rattle.dfdl_terms.specs.Rows.{Table}
use Rattle.dfdl_looks.specs.Asks.{Told}
use Rattle.dfdl_looks.specs.Tallies.{Tally, nothing}
use Rattle.dfdl_grammar.specs.declared.end.End.{End}
use Rattle.dfdl_grammar.specs.declared.end.End.TheVariants.{Done, Failed, Stopped}
use Rattle.dfdl_grammar.specs.declared.end.Halt.{Halt}
use Rattle.dfdl_grammar.specs.declared.end.Halt.TheVariants.{Limit, Variable}
use Rattle.dfdl_grammar.specs.declared.limits.Limits.{Limits}
use Rattle.dfdl_grammar.specs.Leaves.{default_find, land}
use Rattle.dfdl_grammar.specs.Marks.{resolved}
use Rattle.dfdl_grammar.specs.Outcomes.{Outcome, ended, follow}
use Rattle.dfdl_grammar.specs.States.{State}
use Rattle.dfdl_grammar.specs.Statements.{around_at, calculated, computed, evaluated, is_held, is_written, judged, reconsidered, reconsidered_from, set_by, set_to, stated, stated_from, told_at, variable_cause, with_reads}
use Rattle.dfdl_grammar.specs.Tests.{false_test}
use Rattle.dfdl_parse.specs.declared.frame.Frame.{Frame}
use Rattle.dfdl_parse.specs.declared.frame.Frame.TheVariants.{Concluding}
use Rattle.dfdl_parse.specs.Stating.{behind_done, with_behind}
use Rattle.dfdl_parse.proofs.Finishes.{land-nothing}
use Rattle.dfdl_parse.proofs.Resolved.{tested-comes, tested-nothing}

module _ (P : End → State → Type 0) (resolves : (s : State) → P Done s → P Done (resolved s))
    (changes : (s : State) (nodes : List Node) (text : List ℕ) (variables : Kept) → P Done s → P Done (record s { nodes = nodes; text = text; variables = variables }))
    (fails : (s : State) (cause : ParseCause) → P Done s → P (Failed cause s.at) s)
    (stops : (s : State) (cause : Halt) (quantity : ℕ) → P Done s → P (Stopped cause quantity) s) where
  judged-comes : (discriminates : Bool) (number : ℕ) (truth : Result Bool ℕ) (s : State) → P Done s
      → let o : Outcome = judged discriminates number truth s in P o.end o.state
  judged-comes discriminates number (Ok holds) s is =
      tested-comes P resolves discriminates number holds s is (fails s (false_test discriminates number) is)
  judged-comes discriminates number (Err cause) s is = fails s (ExpressionFault cause) is

  set_by-comes : (reason : Option VarFault) (number : ℕ) (v : Value) (s : State) → P Done s
      → let o : Outcome = set_by reason number v s in P o.end o.state
  set_by-comes None number v s is = changes s s.nodes s.text _ is
  set_by-comes (Some reason) number v s is = stops s (Variable (variable_cause reason)) s.at is

  set_to-comes : (number : ℕ) (v : Result Value ℕ) (s : State) → P Done s → let o : Outcome = set_to number v s in P o.end o.state
  set_to-comes number (Ok v) s is = by (nat_lt number s.variables.globals)
    where
      by : (there : Bool) → let o : Outcome = cond there (set_by (fault_now s.variables number) number v s) (ended Done s) in P o.end o.state
      by true = set_by-comes (fault_now s.variables number) number v s is
      by false = is
  set_to-comes number (Err cause) s is = fails s (ExpressionFault cause) is

  held-comes : (room : Bool) (most : ℕ) (nodes : List Node) (text : List ℕ) (s : State) → P Done s
      → let o : Outcome = cond room (ended Done (record s { nodes = nodes; text = text })) (ended (Stopped (Limit TextLimit) most) s) in P o.end o.state
  held-comes true most nodes text s is = changes s nodes text s.variables is
  held-comes false most nodes text s is = stops s (Limit TextLimit) most is

  landed-comes : (limits : Limits) (v : Value) (s : State) → P Done s → let o : Outcome = land limits s.at (Told (default_find s.at v)) s in P o.end o.state
  landed-comes limits (value.Int z) s is = changes s _ s.text s.variables is
  landed-comes limits (value.Uns n) s is = changes s _ s.text s.variables is
  landed-comes limits (value.Dec d) s is = changes s _ s.text s.variables is
  landed-comes limits (value.Text text) s is = held-comes (nat_le (length s.text + length text) limits.text) limits.text _ _ s is
  landed-comes limits (value.Truth truth) s is = changes s _ s.text s.variables is
  landed-comes limits (value.Bytes bytes) s is = held-comes (nat_le (length s.text + length bytes) limits.text) limits.text _ _ s is

  calculated-comes : (limits : Limits) (v : Result Value ℕ) (s : State) → P Done s → let o : Outcome = calculated limits v s in P o.end o.state
  calculated-comes limits (Ok v) s is = by (is_written v)
    where
      by : (written : Bool)
          → let o : Outcome = cond written (land limits s.at (Told (default_find s.at v)) s) (ended (Failed (ExpressionFault 6) s.at) s) in P o.end o.state
      by true = landed-comes limits v s is
      by false = fails s (ExpressionFault 6) is
  calculated-comes limits (Err cause) s is = fails s (ExpressionFault cause) is

  -- the variables that an expression asks for are read
  read-comes : (table : Table) (start : Start) (expression : List ExpressionNode) (s : State) → P Done s → P Done (with_reads table start expression s)
  read-comes table start expression s is =
      changes s s.nodes s.text (left_by answer_in read_in (meaning expression) (around_at table start s)).variables is

  -- a calculated value, or nothing where that is one of unparsing alone
  computed-comes : (limits : Limits) (table : Table) (start : Start) (calculation : CalculationOf) (s : State) → P Done s
      → let o : Outcome = computed limits table start calculation s in P o.end o.state
  computed-comes limits table start calculation s is = by calculation.output
    where
      found : Result Value ℕ
      found = taken calculation.kind (evaluated table start calculation.expression s)

      behind : State
      behind = with_reads table start calculation.expression s

      by : (output : Bool) → let o : Outcome = cond output (ended Done s) (calculated limits found behind) in P o.end o.state
      by true = is
      by false = calculated-comes limits found behind (read-comes table start calculation.expression s is)

  -- behind a statement
  pub stated-comes : (limits : Limits) (table : Table) (start : Start) (number : ℕ) (found : Option Statement) (s : State) → P Done s
      → let o : Outcome = stated limits table start number found s in P o.end o.state
  stated-comes limits table start number None s is = is
  stated-comes limits table start number (Some (Pattern test)) s is = is
  stated-comes limits table start number (Some (Expression test)) s is =
      judged-comes test.discriminates number (truth_taken (evaluated table start test.expression s)) (with_reads table start test.expression s)
      (read-comes table start test.expression s is)
  stated-comes limits table start number (Some (Setting setting)) s is =
      set_to-comes setting.variable (taken setting.kind (evaluated table start setting.expression s)) (with_reads table start setting.expression s)
      (read-comes table start setting.expression s is)
  stated-comes limits table start number (Some (Calculation calculation)) s is = computed-comes limits table start calculation s is
  stated-comes limits table start number (Some (Question question)) s is = is
  stated-comes limits table start number (Some (Opening opening)) s is = is

  follow-comes : (end : End) (s : State) (t : Tally) (next : State → Outcome) → P end s → ((u : State) → P Done u → P (next u).end (next u).state)
      → let o : Outcome = follow end (record { end = end; state = s; tally = t }) next in P o.end o.state
  follow-comes Done s t next is each = each s is
  follow-comes (Failed cause bit) s t next is each = is
  follow-comes (Stopped cause quantity) s t next is each = is

  all-comes : (limits : Limits) (table : Table) (start : Start) (first count : ℕ) (s : State) → P Done s
      → let o : Outcome = stated_from limits table start first count s in P o.end o.state
  unfolding stated_from
  all-comes limits table start first zero s is = is
  all-comes limits table start first (suc count) s is =
      let o : Outcome = stated limits table start first (slice_get table.statements first) s in
      follow-comes o.end o.state o.tally (stated_from limits table start (first + 1) count)
      (stated-comes limits table start first (slice_get table.statements first) s is)
      (λ u there. all-comes limits table start (first + 1) count u there)

  -- behind those of a component that is done
  module _ (tells : (end : End) (s : State) (inside : ℕ) → P end s → P end (record s { inside = inside })) where
    told-comes : (end : End) (start : Start) (s : State) → P end s → P end (told_at end start s)
    told-comes Done start s is = is
    told-comes (Failed cause bit) start s is = tells (Failed cause bit) s (element_of start) is
    told-comes (Stopped cause quantity) start s is = tells (Stopped cause quantity) s (element_of start) is

    pub behind-comes : (limits : Limits) (table : Table) (statements : Statements) (start : Start) (s : State) → P Done s
        → let o : Outcome = behind_done limits table statements start s in P o.end o.state
    behind-comes limits table statements start s is =
        let o : Outcome = stated_from limits table start statements.first statements.count s in
        told-comes o.end start o.state (all-comes limits table start statements.first statements.count s is)

-- the same of those of a component that has failed
module _ (Q : State → Type 0) (resolves : (s : State) → Q s → Q (resolved s))
    (changes : (s : State) (variables : Kept) → Q s → Q (record s { variables = variables })) where
  held-again : (held : Bool) (s : State) → Q s → Q (cond held (resolved s) s)
  held-again true s is = resolves s is
  held-again false s is = is

  expression-again : (discriminates : Bool) (table : Table) (start : Start) (expression : List ExpressionNode) (s : State) → Q s
      → Q (cond discriminates (cond (is_held (truth_taken (evaluated table start expression s))) (resolved (with_reads table start expression s))
      (with_reads table start expression s)) s)
  expression-again true table start expression s is =
      held-again (is_held (truth_taken (evaluated table start expression s))) (with_reads table start expression s)
      (changes s (left_by answer_in read_in (meaning expression) (around_at table start s)).variables is)
  expression-again false table start expression s is = is

  one-again : (table : Table) (start : Start) (found : Option Statement) (s : State) → Q s → Q (reconsidered table start found s)
  one-again table start None s is = is
  one-again table start (Some (Pattern test)) s is = is
  one-again table start (Some (Expression test)) s is = expression-again test.discriminates table start test.expression s is
  one-again table start (Some (Setting setting)) s is = is
  one-again table start (Some (Calculation calculation)) s is = is
  one-again table start (Some (Question question)) s is = is
  one-again table start (Some (Opening opening)) s is = is

  pub all-again : (table : Table) (start : Start) (first count : ℕ) (s : State) → Q s → Q (reconsidered_from table start first count s)
  unfolding reconsidered_from
  all-again table start first zero s is = is
  all-again table start first (suc count) s is =
      all-again table start (first + 1) count (reconsidered table start (slice_get table.statements first) s)
      (one-again table start (slice_get table.statements first) s is)

-- a statement costs nothing more
judged-nothing : (discriminates : Bool) (number : ℕ) (truth : Result Bool ℕ) (s : State) → (judged discriminates number truth s).tally ≡ nothing
judged-nothing discriminates number (Ok holds) s = tested-nothing discriminates number holds s
judged-nothing discriminates number (Err cause) s = refl

set_by-nothing : (reason : Option VarFault) (number : ℕ) (v : Value) (s : State) → (set_by reason number v s).tally ≡ nothing
set_by-nothing None number v s = refl
set_by-nothing (Some reason) number v s = refl

set_to-nothing : (number : ℕ) (v : Result Value ℕ) (s : State) → (set_to number v s).tally ≡ nothing
set_to-nothing number (Ok v) s = by (nat_lt number s.variables.globals)
  where
    by : (there : Bool) → (cond there (set_by (fault_now s.variables number) number v s) (ended Done s)).tally ≡ nothing
    by true = set_by-nothing (fault_now s.variables number) number v s
    by false = refl
set_to-nothing number (Err cause) s = refl

calculated-nothing : (limits : Limits) (v : Result Value ℕ) (s : State) → (calculated limits v s).tally ≡ nothing
calculated-nothing limits (Ok v) s = by (is_written v)
  where
    by : (written : Bool) → (cond written (land limits s.at (Told (default_find s.at v)) s) (ended (Failed (ExpressionFault 6) s.at) s)).tally ≡ nothing
    by true = land-nothing limits s.at (Told (default_find s.at v)) s
    by false = refl
calculated-nothing limits (Err cause) s = refl

computed-nothing : (limits : Limits) (table : Table) (start : Start) (calculation : CalculationOf) (s : State)
    → (computed limits table start calculation s).tally ≡ nothing
computed-nothing limits table start calculation s = by calculation.output
  where
    found : Result Value ℕ
    found = taken calculation.kind (evaluated table start calculation.expression s)

    behind : State
    behind = with_reads table start calculation.expression s

    by : (output : Bool) → (cond output (ended Done s) (calculated limits found behind)).tally ≡ nothing
    by true = refl
    by false = calculated-nothing limits found behind

pub stated-nothing : (limits : Limits) (table : Table) (start : Start) (number : ℕ) (found : Option Statement) (s : State)
    → (stated limits table start number found s).tally ≡ nothing
stated-nothing limits table start number None s = refl
stated-nothing limits table start number (Some (Pattern test)) s = refl
stated-nothing limits table start number (Some (Expression test)) s =
    judged-nothing test.discriminates number (truth_taken (evaluated table start test.expression s)) (with_reads table start test.expression s)
stated-nothing limits table start number (Some (Setting setting)) s =
    set_to-nothing setting.variable (taken setting.kind (evaluated table start setting.expression s)) (with_reads table start setting.expression s)
stated-nothing limits table start number (Some (Calculation calculation)) s = computed-nothing limits table start calculation s
stated-nothing limits table start number (Some (Question question)) s = refl
stated-nothing limits table start number (Some (Opening opening)) s = refl

-- at most one frame more
pub few-behind : (statements : Statements) (start : Start) (k : List Frame) → length (with_behind statements start k) ≤ length k + 1
few-behind statements start k = by (nat_eq statements.count 0)
  where
    by : (none : Bool) → length (cond none k (Concluding statements start ∷ k)) ≤ length k + 1
    by true = omega arith
    by false = omega arith
