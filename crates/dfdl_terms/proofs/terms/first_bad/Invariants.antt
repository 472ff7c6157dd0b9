use Rattle.dfdl_terms.specs.Rows.{NestsBelow}
use Rattle.dfdl_terms.proofs.terms.first_bad.Given as goal

-- the rows so far have each child below them
abbrev pub invariant-loop-at : goal.invariant-loop-at
invariant-loop-at l = NestsBelow l.at l.rows
