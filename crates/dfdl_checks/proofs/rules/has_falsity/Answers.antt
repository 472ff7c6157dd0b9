use Rattle.std.proofs.Common.{ap, ◌∙◌, is_some}
use Rattle.dfdl_checks.specs.Booleans.{falsity_told}
use Rattle.dfdl_checks.proofs.rules.has_falsity.Goals as goal

pub returns : goal.returns
returns c = c.is_some.ensures ∙ ap is_some (c.falsity_told.ensures ∙ ap falsity_told c.property.ensures)
