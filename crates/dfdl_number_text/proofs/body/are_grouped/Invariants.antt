use Rattle.std.proofs.Common.{◌≡◌, false, length}
use Rattle.dfdl_number_text.specs.Body.{are_grouped}
use Rattle.dfdl_number_text.proofs.body.are_grouped.Given as goal

abbrev pub invariant-loop-rest : goal.invariant-loop-rest
invariant-loop-rest l = are_grouped l.separator l.behind l.rest ≡ are_grouped l.separator false l.text

abbrev pub decreases-loop-rest : goal.decreases-loop-rest
decreases-loop-rest l = length l.rest
