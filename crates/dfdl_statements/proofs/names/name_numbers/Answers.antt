use Rattle.std.proofs.Common.{◌∙◌, length, refl}
use Rattle.dfdl_statements.proofs.Tables.{number_put, there}
use Rattle.dfdl_statements.proofs.names.name_numbers.Goals as goal

pub loop-number-preserved : goal.loop-number-preserved
loop-number-preserved c =
    number_put c.args.rows.now c.loop-number.number c.index-rows-number.result c.loop-number.numbers.items c.push.new.self.items _ _
    (there c.args.rows.now (length c.args.rows.now) c.loop-number.number c.index-rows-number.result refl c.loop-number-test.true c.index-rows-number.is)
    c.loop-number.invariant c.name_of.ensures (c.widened.ensures ∙ c.number_of.ensures c.args.rows.now c.requires) c.in_ok-push.ensures.items
