use Rattle.std.proofs.Common.{ap, ◌∙◌, is_some}
use Rattle.dfdl_checks.specs.Booleans.{truth_told}
use Rattle.dfdl_checks.proofs.rules.has_truth.Goals as goal

pub returns : goal.returns
returns c = c.is_some.ensures ∙ ap is_some (c.truth_told.ensures ∙ ap truth_told c.property.ensures)
