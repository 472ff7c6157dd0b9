-- Choices: the branches are tried in schema order from one place, and the first that doesn't fail is taken. 'Choices', 'Parsing
-- Algorithm' (points of uncertainty).
use Rattle.std.specs.Prelude.{ℕ, Bool, List, [], ◌∷◌, if◌then◌else◌}
use Rattle.dfdl_report.specs.declared.cause.ParseCause.TheVariants.{NoBranch}
use Rattle.dfdl_grammar.specs.declared.end.End.{End}
use Rattle.dfdl_grammar.specs.declared.end.End.TheVariants.{Done, Failed, Stopped}
use Rattle.dfdl_grammar.specs.States.{State}
use Rattle.dfdl_grammar.specs.Outcomes.{Outcome, ended, spend}
use Rattle.dfdl_grammar.specs.Marks.{back, closed, is_settled, pointed}

-- after this end of a branch: where it fails, another one follows from the point; where that is resolved, the choice fails as the branch does
abbrev pub or_branch : End → Outcome → (State → Outcome) → Outcome
or_branch Done o next = record o { state = closed o.state }
or_branch (Failed cause bit) o next =
    if is_settled o.state.marks then record o { state = closed o.state } else spend o.tally (next (back o.state))
or_branch (Stopped cause quantity) o next = o

-- the branches of these rows, one after another, from the innermost mark: where one fails, the next is tried from there, and behind the
-- last the choice fails there
abbrev pub branches : (ℕ → State → Outcome) → List ℕ → State → Outcome
branches child [] s = ended (Failed NoBranch s.at) (closed s)
branches child (id ∷ ids) s = let o : Outcome = child id s in or_branch o.end o (branches child ids)

-- a choice of these rows: a point of uncertainty is open while its branches are tried, which an initiator resolves or not
abbrev pub choice : (ℕ → State → Outcome) → Bool → List ℕ → State → Outcome
choice child initiated ids s = branches child ids (pointed initiated s)
