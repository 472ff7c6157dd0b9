use Rattle.std.proofs.Common.{◌≡◌, length}
use Rattle.dfdl_value.specs.Texts.{is_zero}
use Rattle.dfdl_lemmas.specs.Trimmed.{without_trailing}
use Rattle.dfdl_value.proofs.decimal.without_trailing_zeros.Given as goal

abbrev pub invariant-loop-rest : goal.invariant-loop-rest
invariant-loop-rest l = without_trailing is_zero l.rest ≡ without_trailing is_zero l.fn.digits

abbrev pub decreases-loop-rest : goal.decreases-loop-rest
decreases-loop-rest l = length l.rest
