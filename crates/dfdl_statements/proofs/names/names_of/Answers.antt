use Rattle.std.proofs.Common.{length, refl}
use Rattle.std.specs.BTreeMap.{get_by_text}
use Rattle.dfdl_statements.proofs.Gathering.{gathered, none_at}
use Rattle.dfdl_statements.proofs.Tables.{there}
use Rattle.dfdl_statements.proofs.names.names_of.Goals as goal

pub loop-number-init : goal.loop-number-init
loop-number-init c = λ q. none_at c.new-names.result c.new-names.ensures.empty q

pub loop-number-preserved : goal.loop-number-preserved
loop-number-preserved c = λ q.
    gathered c.args.rows.now q c.loop-number.number (get_by_text c.loop-number.names q) (get_by_text c.put_if.new.names q) _ c.index-rows-number.result
    (c.in_ok-put_if.ensures q) c.name_of.ensures
    (there c.args.rows.now (length c.args.rows.now) c.loop-number.number c.index-rows-number.result refl c.loop-number-test.true c.index-rows-number.is)
    (c.loop-number.invariant q)
