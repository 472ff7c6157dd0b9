use Rattle.std.proofs.Common.{sym, ◌∙◌}
use Rattle.dfdl_variables.proofs.Ordered.{found_there, found_nowhere, found_past}
use Rattle.dfdl_variables.proofs.numbering.number_in.Goals as goal

pub returns-then-at-variables-clause-number : goal.returns-then-at-variables-clause-number
returns-then-at-variables-clause-number c = found_past c.args.variables.now c.args.site c.count_before-at.result c.requires
    c.count_before-at.ensures.divided c.if-at-variables.true

pub returns-then-is_same-clause-number : goal.returns-then-is_same-clause-number
returns-then-is_same-clause-number c = found_there c.args.variables.now c.args.site c.count_before-at.result c.index-variables-at.result
    c.count_before-at.ensures.divided c.if-at-variables.false (sym c.is_same.ensures ∙ c.if-is_same.true)

pub returns-else-is_same-clause-number : goal.returns-else-is_same-clause-number
returns-else-is_same-clause-number c = found_nowhere c.args.variables.now c.args.site c.count_before-at.result c.index-variables-at.result c.requires
    c.count_before-at.ensures.divided (λ low. sym c.is_same.ensures ∙ c.if-is_same.false)
