-- The steps of rows that ask an expression before they begin. None of them looks at the data.
use Rattle.std.specs.Prelude.{ℕ, ◌-◌, nat_eq, false, List, ◌∷◌, Option, Some, None, Result, Ok, Err, if◌then◌else◌}
use Rattle.dfdl_bits.specs.Window.{Held}
use Rattle.dfdl_expressions.specs.declared.node.Node.{Node}
use Rattle.dfdl_expression_eval.specs.Meanings.{meaning}
use Rattle.dfdl_expression_eval.specs.Runs.{left_by}
use Rattle.dfdl_expression_eval.specs.declared.env.Evaluated.{Evaluated}
use Rattle.dfdl_paths.specs.declared.place.Start.{Start}
use Rattle.dfdl_paths.specs.declared.place.Start.TheVariants.{At, Inside}
use Rattle.dfdl_surroundings.specs.Answers.{answer_in, read_in}
use Rattle.dfdl_surroundings.specs.Taking.{count_taken, text_taken}
use Rattle.dfdl_vars.specs.Kept.{Kept}
use Rattle.dfdl_report.specs.declared.cause.ParseCause.{ParseCause}
use Rattle.dfdl_report.specs.declared.cause.ParseCause.TheVariants.{ExpressionFault, LengthOutOfRange, NegativeCount, NoDispatchBranch}
use Rattle.dfdl_terms.specs.Rows.{Table}
use Rattle.dfdl_terms.specs.declared.keys.Key.{Key}
use Rattle.dfdl_terms.specs.declared.prefix.Measure.{Measure}
use Rattle.dfdl_looks.specs.Tallies.{Tally}
use Rattle.dfdl_grammar.specs.declared.end.End.TheVariants.{Done, Failed}
use Rattle.dfdl_grammar.specs.States.{State}
use Rattle.dfdl_grammar.specs.Statements.{around_at, evaluated}
use Rattle.dfdl_grammar.specs.Questions.{question_at, row_by}
use Rattle.dfdl_parse.specs.declared.frame.Frame.{Frame}
use Rattle.dfdl_parse.specs.declared.frame.Frame.TheVariants.{Times}
use Rattle.dfdl_parse.specs.declared.frame.Focus.TheVariants.{Enter}
use Rattle.dfdl_parse.specs.declared.frame.Behind.{Behind}
use Rattle.dfdl_parse.specs.Moves.{Machine, Move}
use Rattle.dfdl_parse.specs.Prefixed.{at_end, behind_units}

-- what the expression of a question gives that begins there, if there is one
abbrev pub given_by : Table → Start → Option (List Node) → State → Option Evaluated
given_by table start None s = None
given_by table start (Some expression) s = Some (evaluated table start expression s)

-- the variables behind it: those that it asks for are read
abbrev pub variables_behind : Table → Start → Option (List Node) → State → Kept
variables_behind table start None s = s.variables
variables_behind table start (Some expression) s = (left_by answer_in read_in (meaning expression) (around_at table start s)).variables

-- the state behind the question of a number
abbrev pub behind_question : Table → Start → ℕ → State → State
behind_question table start question s = record s { variables = variables_behind table start (question_at table question) s }

-- how many a question tells; none where it is no question, or the number is less than 0
abbrev pub count_told : Option Evaluated → Result (Option ℕ) ℕ
count_told None = Ok None
count_told (Some given) = count_taken given

-- the row to which a text leads, if the expression gives one
abbrev pub row_told : List Key → Result (List ℕ) ℕ → Result (Option ℕ) ℕ
row_told keys (Ok text) = Ok (row_by keys text)
row_told keys (Err fault) = Err fault

-- the row to which a question leads
abbrev pub key_told : List Key → Option Evaluated → Result (Option ℕ) ℕ
key_told keys None = Ok None
key_told keys (Some given) = row_told keys (text_taken given)

-- what follows a number that is told, where there is one
abbrev pub if_told : ParseCause → (ℕ → List Frame → State → Machine) → Option ℕ → List Frame → State → Machine
if_told cause next None k s = at_end (Failed cause s.at) k s
if_told cause next (Some number) k s = next number k s

-- the same where the expression may give none
abbrev pub told : ParseCause → (ℕ → List Frame → State → Machine) → Result (Option ℕ) ℕ → List Frame → State → Machine
told cause next (Ok number) k s = if_told cause next number k s
told cause next (Err fault) k s = at_end (Failed (ExpressionFault fault) s.at) k s

-- a step that looks at nothing and comes to a machine
abbrev pub begins : Tally → Held → Machine → Move
begins cost held m = record { tally = cost; machine = m; held = held; waits = false }

-- the machine behind a question that tells a number of these
abbrev pub asked_begins : Table → Start → ℕ → ParseCause → (ℕ → List Frame → State → Machine) → (Option Evaluated → Result (Option ℕ) ℕ) → List Frame → State → Machine
asked_begins table start question cause next tells k s =
    told cause next (tells (given_by table start (question_at table question) s)) k (behind_question table start question s)

-- a content whose length the open element's question tells
abbrev pub measured_begins : Table → Measure → Behind → List Frame → State → Machine
measured_begins table measure what k s =
    asked_begins table (At s.inside) measure.question LengthOutOfRange (behind_units table.primitives measure.unit what) count_told k s

-- a row stands so many times more
abbrev pub times_begin : ℕ → ℕ → List Frame → State → Machine
times_begin body left k s =
    if nat_eq left 0 then at_end Done k s else record { focus = Enter body; stack = Times body (left - 1) ∷ k; state = s }

-- a row that stands so many times as a question tells
abbrev pub counted_begins : Table → ℕ → ℕ → List Frame → State → Machine
counted_begins table question body k s = asked_begins table (Inside s.inside) question NegativeCount (times_begin body) count_told k s

-- a row begins
abbrev pub row_begins : ℕ → List Frame → State → Machine
row_begins id k s = record { focus = Enter id; stack = k; state = s }

-- the row to which a key leads
abbrev pub dispatch_begins : Table → ℕ → List Key → List Frame → State → Machine
dispatch_begins table question keys k s = asked_begins table (Inside s.inside) question NoDispatchBranch row_begins (key_told keys) k s
