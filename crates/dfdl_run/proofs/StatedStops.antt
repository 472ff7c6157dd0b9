-- Statements stop by a limit on data, or a variable that can't be set, alone.
use Rattle.std.proofs.Common.{ℕ, zero, suc, ◌+◌, nat_eq, nat_le, nat_lt, true, false, Bool, if◌then◌else◌, List, ◌++◌, length, Option, None, Some, Result, Ok, Err, slice_get}
use Rattle.dfdl_report.specs.declared.cause.LimitCause.TheVariants.{Text}
use Rattle.dfdl_report.specs.declared.cause.ParseCause.TheVariants.{ExpressionFault}
use Rattle.dfdl_looks.specs.Asks.{Reached, Told, TooFar, Missing}
use Rattle.dfdl_value.specs.declared.value.Value.{Value}
use Rattle.dfdl_vars.specs.declared.instances.VarFault.{VarFault}
use Rattle.dfdl_paths.specs.declared.place.Start.{Start}
use Rattle.dfdl_region.specs.declared.node.Content.{Content}
use Rattle.dfdl_region.specs.declared.node.Content.TheVariants as content
use Rattle.dfdl_surroundings.specs.Taking.{taken, truth_taken}
use Rattle.dfdl_terms.specs.Rows.{Table}
use Rattle.dfdl_terms.specs.declared.statement.Calculation.{Calculation as CalculationOf}
use Rattle.dfdl_terms.specs.declared.statement.Statement.{Statement}
use Rattle.dfdl_terms.specs.declared.statement.Statement.TheVariants.{Pattern, Expression, Setting, Calculation, Question, Opening}
use Rattle.dfdl_terms.specs.declared.statement.Statements.{Statements}
use Rattle.dfdl_grammar.specs.declared.end.End.{End}
use Rattle.dfdl_grammar.specs.declared.end.End.TheVariants.{Done, Failed, Stopped}
use Rattle.dfdl_grammar.specs.declared.end.Halt.TheVariants.{Limit}
use Rattle.dfdl_grammar.specs.declared.limits.Limits.{Limits}
use Rattle.dfdl_grammar.specs.States.{Input, State}
use Rattle.dfdl_grammar.specs.Outcomes.{Outcome, ended, follow}
use Rattle.dfdl_grammar.specs.Leaves.{Find, Fails, Finds, FindsOctets, FindsText, default_find, land, taken_as}
use Rattle.dfdl_grammar.specs.declared.span.Span.{Span}
use Rattle.dfdl_grammar.specs.Occurrences.{as_occurrence, occurring, untried}
use Rattle.dfdl_grammar.specs.Statements.{calculated, computed, concluded, concluded_at, evaluated, is_written, judged, set_by, set_to, start_of, stated, stated_from, statement, statement_of, with_reads}
use Rattle.dfdl_run.proofs.SoughtStops.{test-stops, tested-stops}
use Rattle.dfdl_run.proofs.Stopping.{StopsByData}

hold-stops : (most : ℕ) (made : ℕ → ℕ → Content) (bytes : List ℕ) (span : Span) (s : State) (room : Bool)
    → StopsByData (let whole : Outcome =
    (if room then ended Done (record (taken_as (made (length s.text) (length bytes)) span s) { text = s.text ++ bytes })
    else ended (Stopped (Limit Text) most) s) in whole.end)
hold-stops most made bytes span s true = tt
hold-stops most made bytes span s false = tt

pub land-stops : (limits : Limits) (first : ℕ) (reached : Reached Find) (s : State) → StopsByData (land limits first reached s).end
land-stops limits first (Told (Fails cause)) s = tt
land-stops limits first (Told (Finds content span)) s = tt
land-stops limits first (Told (FindsOctets bytes span)) s =
    hold-stops limits.text content.Octets bytes span s (nat_le (length s.text + length bytes) limits.text)
land-stops limits first (Told (FindsText bytes span)) s =
    hold-stops limits.text content.Text bytes span s (nat_le (length s.text + length bytes) limits.text)
land-stops limits first TooFar s = tt
land-stops limits first Missing s = tt

pub follow-stops : (end : End) (o : Outcome) (next : State → Outcome) → StopsByData o.end
    → ((s : State) → StopsByData (next s).end) → StopsByData (follow end o next).end
follow-stops Done o next own after = after o.state
follow-stops (Failed cause bit) o next own after = own
follow-stops (Stopped cause quantity) o next own after = own

untried-stops : (end : End) (o : Outcome) → StopsByData o.end → StopsByData (untried end o).end
untried-stops Done o own = own
untried-stops (Failed cause bit) o own = own
untried-stops (Stopped cause quantity) o own = own

-- an occurrence, which is tried or not
pub occurring-stops : (tried : Bool) (body : State → Outcome) → ((s : State) → StopsByData (body s).end) → (s : State)
    → StopsByData (occurring tried body s).end
occurring-stops tried body each s =
    let o : Outcome = body (as_occurrence tried s) in untried-stops o.end o (each (as_occurrence tried s))

judged-stops : (discriminates : Bool) (number : ℕ) (r : Result Bool ℕ) (s : State) → StopsByData (judged discriminates number r s).end
judged-stops discriminates number (Ok holds) s = tested-stops discriminates number holds s
judged-stops discriminates number (Err cause) s = tt

set-stops : (reason : Option VarFault) (number : ℕ) (v : Value) (s : State) → StopsByData (set_by reason number v s).end
set-stops None number v s = tt
set-stops (Some reason) number v s = tt

there-stops : (number : ℕ) (v : Value) (reason : Option VarFault) (s : State) (there : Bool)
    → StopsByData (let whole : Outcome = (if there then set_by reason number v s else ended Done s) in whole.end)
there-stops number v reason s true = set-stops reason number v s
there-stops number v reason s false = tt

set-to-stops : (number : ℕ) (r : Result Value ℕ) (s : State) → StopsByData (set_to number r s).end
set-to-stops number (Ok v) s = there-stops number v _ s (nat_lt number s.variables.globals)
set-to-stops number (Err cause) s = tt

written-stops : (limits : Limits) (v : Value) (s : State) (written : Bool)
    → StopsByData (let whole : Outcome = (if written then land limits s.at (Told (default_find s.at v)) s
    else ended (Failed (ExpressionFault 6) s.at) s) in whole.end)
written-stops limits v s true = land-stops limits s.at (Told (default_find s.at v)) s
written-stops limits v s false = tt

calculated-stops : (limits : Limits) (r : Result Value ℕ) (s : State) → StopsByData (calculated limits r s).end
calculated-stops limits (Ok v) s = written-stops limits v s (is_written v)
calculated-stops limits (Err cause) s = tt

output-stops : (limits : Limits) (r : Result Value ℕ) (s t : State) (output : Bool)
    → StopsByData (let whole : Outcome = (if output then ended Done s else calculated limits r t) in whole.end)
output-stops limits r s t true = tt
output-stops limits r s t false = calculated-stops limits r t

computed-stops : (limits : Limits) (table : Table) (start : Start) (calculation : CalculationOf) (s : State)
    → StopsByData (computed limits table start calculation s).end
computed-stops limits table start calculation s =
    output-stops limits (taken calculation.kind (evaluated table start calculation.expression s)) s (with_reads table start calculation.expression s)
    calculation.output

stated-stops : (limits : Limits) (table : Table) (start : Start) (number : ℕ) (found : Option Statement) (s : State)
    → StopsByData (stated limits table start number found s).end
stated-stops limits table start number None s = tt
stated-stops limits table start number (Some (Pattern test)) s = tt
stated-stops limits table start number (Some (Expression test)) s =
    judged-stops test.discriminates number (truth_taken (evaluated table start test.expression s)) (with_reads table start test.expression s)
stated-stops limits table start number (Some (Setting setting)) s =
    set-to-stops setting.variable (taken setting.kind (evaluated table start setting.expression s)) (with_reads table start setting.expression s)
stated-stops limits table start number (Some (Calculation calculation)) s = computed-stops limits table start calculation s
stated-stops limits table start number (Some (Question question)) s = tt
stated-stops limits table start number (Some (Opening opening)) s = tt

of-stops : (input : Input) (table : Table) (number : ℕ) (found : Option Statement) (s : State) → StopsByData (statement_of input table number found s).end
of-stops input table number None s = tt
of-stops input table number (Some (Pattern test)) s = test-stops input number test s
of-stops input table number (Some (Expression test)) s =
    stated-stops input.limits table (start_of (Some (Expression test)) s) number (Some (Expression test)) s
of-stops input table number (Some (Setting setting)) s =
    stated-stops input.limits table (start_of (Some (Setting setting)) s) number (Some (Setting setting)) s
of-stops input table number (Some (Calculation calculation)) s =
    stated-stops input.limits table (start_of (Some (Calculation calculation)) s) number (Some (Calculation calculation)) s
of-stops input table number (Some (Question question)) s =
    stated-stops input.limits table (start_of (Some (Question question)) s) number (Some (Question question)) s
of-stops input table number (Some (Opening opening)) s =
    stated-stops input.limits table (start_of (Some (Opening opening)) s) number (Some (Opening opening)) s

pub statement-stops : (input : Input) (table : Table) (number : ℕ) (s : State) → StopsByData (statement input table number s).end
statement-stops input table number s = of-stops input table number (slice_get table.statements number) s

all-stop : (limits : Limits) (table : Table) (start : Start) (first count : ℕ) (s : State) → StopsByData (stated_from limits table start first count s).end
unfolding stated_from
all-stop limits table start first zero s = tt
all-stop limits table start first (suc count) s =
    let o : Outcome = stated limits table start first (slice_get table.statements first) s in
    follow-stops o.end o (stated_from limits table start (first + 1) count) (stated-stops limits table start first (slice_get table.statements first) s)
    (all-stop limits table start (first + 1) count)

at-end-stops : (end : End) (limits : Limits) (table : Table) (start : Start) (behind : Statements) (o : Outcome) → StopsByData o.end
    → StopsByData (concluded_at end limits table start behind o).end
at-end-stops Done limits table start behind o own = all-stop limits table start behind.first behind.count o.state
at-end-stops (Failed cause bit) limits table start behind o own = own
at-end-stops (Stopped cause quantity) limits table start behind o own = own

some-stop : (limits : Limits) (table : Table) (start : Start) (behind : Statements) (o : Outcome) → StopsByData o.end → (none : Bool)
    → StopsByData (let whole : Outcome = (if none then o else concluded_at o.end limits table start behind o) in whole.end)
some-stop limits table start behind o own true = own
some-stop limits table start behind o own false = at-end-stops o.end limits table start behind o own

-- a component with statements behind it
pub concluded-stops : (limits : Limits) (table : Table) (start : Start) (behind : Statements) (o : Outcome) → StopsByData o.end
    → StopsByData (concluded limits table start behind o).end
concluded-stops limits table start behind o own = some-stop limits table start behind o own (nat_eq behind.count 0)
