use Rattle.dfdl_statements.proofs.Kinded.{set_by, set_to}
use Rattle.dfdl_statements.proofs.making.setting.Goals as goal

pub returns-then-is_expression : goal.returns-then-is_expression
returns-then-is_expression c = λ read reads.
    set_by read c.args.statics.now c.only.result c.args.text.now _ c.of.result c.args.kind c.is_expression.result c.is_expression.ensures
    c.if-is_expression.true c.only.ensures c.of.ensures (c.expression.ensures read reads)

pub returns-else-is_expression : goal.returns-else-is_expression
returns-else-is_expression c = λ read reads.
    set_to read c.args.statics.now c.args.text.now c.literal.result.now _ c.args.kind c.is_expression.result c.is_expression.ensures
    c.if-is_expression.false c.literal.ensures c.constant.ensures
