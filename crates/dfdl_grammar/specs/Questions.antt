-- What rows ask expressions for: how long a content is, how many times a row is there, and which row the key leads to. None of them looks at
-- the data. 'Lengths' (lengthKind explicit), 'Arrays and Optional Elements' (occursCountKind expression), 'Choices' (choiceDispatchKey),
-- 'DFDL Expression Language'.
use Rattle.std.specs.Prelude.{ℕ, List, [], ◌∷◌, bytes_eq, Option, Some, None, Result, Ok, Err, replicate, slice_get, if◌then◌else◌}
use Rattle.dfdl_value.specs.declared.value.Value.{Value}
use Rattle.dfdl_expressions.specs.declared.node.Node.{Node}
use Rattle.dfdl_paths.specs.declared.place.Start.{Start}
use Rattle.dfdl_paths.specs.declared.place.Start.TheVariants as start
use Rattle.dfdl_surroundings.specs.Taking.{count_taken, text_taken}
use Rattle.dfdl_report.specs.declared.cause.ParseCause.{ParseCause}
use Rattle.dfdl_report.specs.declared.cause.ParseCause.TheVariants.{ExpressionFault, LengthOutOfRange, NegativeCount, NoDispatchBranch}
use Rattle.dfdl_terms.specs.Rows.{Table}
use Rattle.dfdl_terms.specs.declared.keys.Key.{Key}
use Rattle.dfdl_terms.specs.declared.prefix.Measure.{Measure}
use Rattle.dfdl_terms.specs.declared.row.Primitive.{Primitive}
use Rattle.dfdl_terms.specs.declared.statement.Statement.{Statement}
use Rattle.dfdl_terms.specs.declared.statement.Statement.TheVariants.{Question}
use Rattle.dfdl_grammar.specs.declared.end.End.TheVariants.{Failed}
use Rattle.dfdl_grammar.specs.States.{Input, State}
use Rattle.dfdl_grammar.specs.Outcomes.{Outcome, ended}
use Rattle.dfdl_grammar.specs.Boxes.{boxed}
use Rattle.dfdl_grammar.specs.Prefixes.{bits_of_units, size_of, sized_leaf}
use Rattle.dfdl_grammar.specs.Statements.{evaluated, with_reads}

-- what follows a number that was asked for; where it is less than 0, the row fails by this cause
abbrev pub counted_by : ParseCause → (ℕ → State → Outcome) → Option ℕ → State → Outcome
counted_by cause next None s = ended (Failed cause s.at) s
counted_by cause next (Some count) s = next count s

-- the same where the expression may have none
abbrev pub told_count : ParseCause → (ℕ → State → Outcome) → Result (Option ℕ) ℕ → State → Outcome
told_count cause next (Ok count) s = counted_by cause next count s
told_count cause next (Err fault) s = ended (Failed (ExpressionFault fault) s.at) s

-- the expression of a question; other statements ask for nothing
abbrev pub question_of : Option Statement → Option (List Node)
question_of (Some (Question question)) = Some question.expression
question_of _ = None

-- what follows a number that an expression is asked for which begins there; without an expression there is none
abbrev pub asked_count : Table → Start → ParseCause → (ℕ → State → Outcome) → Option (List Node) → State → Outcome
asked_count table start cause next None s = counted_by cause next None s
asked_count table start cause next (Some expression) s =
    told_count cause next (count_taken (evaluated table start expression s)) (with_reads table start expression s)

-- the question of this number of the tables
abbrev pub question_at : Table → ℕ → Option (List Node)
question_at table number = question_of (slice_get table.statements number)

-- the leaf whose length the open element's question tells
abbrev pub measured_leaf : Input → Table → Measure → Option (List Value) → Option Primitive → State → Outcome
measured_leaf input table measure nil primitive s =
    asked_count table (start.At s.inside) LengthOutOfRange
    (λ units after. sized_leaf input table.delimiters nil primitive (size_of measure.unit units) after)
    (question_at table measure.question) s

-- the box whose length it tells, with what is in it
abbrev pub measured_box : Input → Table → Measure → (State → Outcome) → State → Outcome
measured_box input table measure body s =
    asked_count table (start.At s.inside) LengthOutOfRange (λ units after. boxed input (bits_of_units measure.unit units) body after)
    (question_at table measure.question) s

-- A row so many times as a question tells, where the times one after another have a meaning.
abbrev pub counted : Table → (List ℕ → State → Outcome) → ℕ → ℕ → State → Outcome
counted table times question body s =
    asked_count table (start.Inside s.inside) NegativeCount (λ count after. times (replicate count body) after) (question_at table question) s

-- the row to which a text leads: that of the first key that is this text
unfoldable pub row_by : List Key → List ℕ → Option ℕ
row_by [] text = None
row_by (key ∷ keys) text = if bytes_eq key.text text then Some key.body else row_by keys text

-- the row to which the key leads, if it leads to one
abbrev pub taken_by : (ℕ → State → Outcome) → Option ℕ → State → Outcome
taken_by child None s = ended (Failed NoDispatchBranch s.at) s
taken_by child (Some id) s = child id s

-- the same where the expression may give no text
abbrev pub told_key : (ℕ → State → Outcome) → List Key → Result (List ℕ) ℕ → State → Outcome
told_key child keys (Ok text) s = taken_by child (row_by keys text) s
told_key child keys (Err fault) s = ended (Failed (ExpressionFault fault) s.at) s

-- the row to which the text leads that an expression is asked for which begins there; without an expression there is none
abbrev pub asked_key : Table → Start → (ℕ → State → Outcome) → List Key → Option (List Node) → State → Outcome
asked_key table start child keys None s = taken_by child None s
asked_key table start child keys (Some expression) s =
    told_key child keys (text_taken (evaluated table start expression s)) (with_reads table start expression s)

-- a choice whose branch a key tells
abbrev pub dispatched : Table → (ℕ → State → Outcome) → ℕ → List Key → State → Outcome
dispatched table child question keys s = asked_key table (start.Inside s.inside) child keys (question_at table question) s
