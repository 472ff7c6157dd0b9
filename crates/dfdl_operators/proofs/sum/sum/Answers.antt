use Rattle.std.proofs.Common.{◌∙◌, ap}
use Rattle.dfdl_operators.specs.Numbers.{held}
use Rattle.dfdl_operators.specs.NumberShown.{shown}
use Rattle.dfdl_operators.proofs.SumLemmas.{sum_of-turned}
use Rattle.dfdl_operators.proofs.sum.sum.Goals as goal

pub returns-else-of : goal.returns-else-of
returns-else-of c = c.sum_at-else-of.ensures ∙ ap held (sum_of-turned (shown c.args.of.right) (shown c.args.of.left))
