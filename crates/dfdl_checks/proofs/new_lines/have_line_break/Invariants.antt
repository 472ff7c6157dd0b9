use Rattle.std.proofs.Common.{◌≡◌, drop}
use Rattle.dfdl_checks.specs.NewLines.{have_line_break}
use Rattle.dfdl_checks.proofs.new_lines.have_line_break.Given as goal

-- what is left answers the same as all
abbrev pub invariant-loop-at : goal.invariant-loop-at
invariant-loop-at l = have_line_break (drop l.at l.literals) ≡ have_line_break l.literals
