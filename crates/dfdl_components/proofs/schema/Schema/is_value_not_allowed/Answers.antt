use Rattle.std.proofs.Common.{List, ap, ◌∙◌}
use Rattle.dfdl_markup.specs.Trees.{Node}
use Rattle.dfdl_constructs.specs.ValuesAllowed.{is_value_not_allowed}
use Rattle.dfdl_components.proofs.schema.Schema.is_value_not_allowed.Goals as goal

pub returns : goal.returns
returns c = c.is_value_not_allowed.ensures ∙ ap (λ (nodes : List Node). is_value_not_allowed nodes c.args.site.element) c.tree.ensures
