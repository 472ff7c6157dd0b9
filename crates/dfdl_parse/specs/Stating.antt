-- The steps of statements: those that don't look at the data, and those behind a component.
use Rattle.std.specs.Prelude.{ℕ, nat_eq, Bool, true, false, List, ◌∷◌, Option, Some, None, if◌then◌else◌}
use Rattle.dfdl_bits.specs.Window.{Held}
use Rattle.dfdl_paths.specs.declared.place.Start.{Start}
use Rattle.dfdl_terms.specs.declared.statement.Statement.{Statement}
use Rattle.dfdl_terms.specs.declared.statement.Statement.TheVariants.{Pattern, Expression, Setting, Calculation, Question, Opening}
use Rattle.dfdl_terms.specs.declared.statement.Statements.{Statements}
use Rattle.dfdl_terms.specs.Rows.{Table}
use Rattle.dfdl_looks.specs.Tallies.{Tally, nothing}
use Rattle.dfdl_grammar.specs.declared.end.End.{End}
use Rattle.dfdl_grammar.specs.declared.end.End.TheVariants.{Done, Failed, Stopped}
use Rattle.dfdl_grammar.specs.declared.limits.Limits.{Limits}
use Rattle.dfdl_grammar.specs.States.{State}
use Rattle.dfdl_grammar.specs.Outcomes.{Outcome, ended}
use Rattle.dfdl_grammar.specs.Statements.{reconsidered_from, start_of, stated, stated_from, with_end}
use Rattle.dfdl_parse.specs.declared.frame.Frame.{Frame}
use Rattle.dfdl_parse.specs.declared.frame.Frame.TheVariants.{Concluding}
use Rattle.dfdl_parse.specs.declared.frame.Focus.{Focus}
use Rattle.dfdl_parse.specs.declared.frame.Focus.TheVariants.{Enter, Pass, PassRest, Sized, Seek, LookIn, LookBehind, Count, Leave}
use Rattle.dfdl_parse.specs.Moves.{Move, pass}
use Rattle.dfdl_parse.specs.Testing.{read_test}

-- this end is the one of a row that is done
abbrev pub is_well : End → Bool
is_well Done = true
is_well (Failed cause bit) = false
is_well (Stopped cause quantity) = false

-- a row has ended, and is done
abbrev pub is_done : Focus → Bool
is_done (Enter id) = false
is_done (Pass to) = false
is_done (PassRest bit outer) = false
is_done (Sized prim size) = false
is_done (Seek what) = false
is_done (LookIn slot) = false
is_done (LookBehind slot bit) = false
is_done (Count slot question) = false
is_done (Leave end) = is_well end

-- a step that looks at nothing and comes to an outcome
abbrev pub comes_to : Tally → Held → Outcome → List Frame → Move
comes_to cost held o k = pass cost held (Leave o.end) k o.state

-- the statement of this number, if there is one: a test of a pattern looks at the data
abbrev pub make_statement : Tally → Limits → Table → Focus → Held → ℕ → Option Statement → List Frame → State → Move
make_statement cost limits table focus held number None k s = pass cost held (Leave Done) k s
make_statement cost limits table focus held number (Some (Pattern test)) k s = read_test cost limits focus held number test k s
make_statement cost limits table focus held number (Some (Expression test)) k s =
    comes_to cost held (stated limits table (start_of (Some (Expression test)) s) number (Some (Expression test)) s) k
make_statement cost limits table focus held number (Some (Setting setting)) k s =
    comes_to cost held (stated limits table (start_of (Some (Setting setting)) s) number (Some (Setting setting)) s) k
make_statement cost limits table focus held number (Some (Calculation calculation)) k s =
    comes_to cost held (stated limits table (start_of (Some (Calculation calculation)) s) number (Some (Calculation calculation)) s) k
make_statement cost limits table focus held number (Some (Question question)) k s =
    comes_to cost held (stated limits table (start_of (Some (Question question)) s) number (Some (Question question)) s) k
make_statement cost limits table focus held number (Some (Opening opening)) k s =
    comes_to cost held (stated limits table (start_of (Some (Opening opening)) s) number (Some (Opening opening)) s) k

-- the stack before a component with these statements behind it, if there are some
abbrev pub with_behind : Statements → Start → List Frame → List Frame
with_behind statements start k = if nat_eq statements.count 0 then k else Concluding statements start ∷ k

-- the statements behind a component that is done
abbrev pub behind_done : Limits → Table → Statements → Start → State → Outcome
behind_done limits table statements start s = with_end start (ended Done s) (stated_from limits table start statements.first statements.count s)

abbrev pub conclude : Limits → Table → Held → Statements → Start → List Frame → State → Move
conclude limits table held statements start k s = comes_to nothing held (behind_done limits table statements start s) k

-- the discriminators behind a component that has failed, at this end
abbrev pub reconsider : Table → Held → Statements → Start → End → List Frame → State → Move
reconsider table held statements start end k s =
    pass nothing held (Leave end) k (reconsidered_from table start statements.first statements.count s)
