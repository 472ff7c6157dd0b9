use Rattle.dfdl_scope.proofs.Maps.{in-more}
use Rattle.dfdl_scope.proofs.properties.mark.Goals as goal

pub returns-clause-ok : goal.returns-clause-ok
returns-clause-ok c = λ q. in-more c.args.name.now c.args.names.now c.insert.new.self c.in_ok-insert.ensures.updates q
