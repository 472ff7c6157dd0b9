use Rattle.std.proofs.Common.{Option, ap}
use Rattle.dfdl_components.specs.Searching.{or_else}
use Rattle.dfdl_expression_types.specs.declared.statics.Variable.{Variable}
use Rattle.dfdl_written.specs.Variables.{variable_from}
use Rattle.dfdl_written.proofs.Mapped.{none_at, variable_end, variable_more, variable_step}
use Rattle.dfdl_written.proofs.variables.variables_by_name.Goals as goal

pub loop-at-init : goal.loop-at-init
loop-at-init c = λ q. ap (λ (o : Option Variable). or_else o (variable_from 0 c.args.variables.now q)) (none_at c.new-named.result c.new-named.ensures.empty q)

pub loop-at-preserved : goal.loop-at-preserved
loop-at-preserved c = λ q.
    variable_more c.args.variables.now c.loop-at.at c.index-variables-at.result q _ _ _ c.loop-at-test.true
    (variable_step c.args.variables.now c.loop-at.at c.in_ok-number.number c.index-variables-at.result c.index-variables-at.result q c.as_str.result.now c.variable_by.result c.sound_type.result
    _ _ c.index-variables-at.is c.as_str.ensures c.in_ok-number.ensures c.sound_type.ensures c.variable_by.ensures (c.in_ok-put_if.ensures q)) (c.loop-at.invariant q)

pub returns : goal.returns
returns c = λ q. variable_end c.args.variables.now c.loop-at.at q _ _ c.loop-at-test.false (c.loop-at.invariant q)
