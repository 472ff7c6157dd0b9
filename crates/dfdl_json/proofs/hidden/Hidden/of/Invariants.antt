use Rattle.dfdl_json.proofs.Passing.{ArePassed}
use Rattle.dfdl_json.proofs.hidden.Hidden.of.Given as goal

-- the rows from a place on have handed on their marks
abbrev pub invariant-loop-row : goal.invariant-loop-row
invariant-loop-row l = ArePassed l.terms l.row l.marks.items
