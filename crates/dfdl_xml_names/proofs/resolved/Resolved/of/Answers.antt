use Rattle.dfdl_xml_names.specs.Scoped.{scope_seen}
use Rattle.dfdl_xml_names.proofs.resolved.Resolved.of.Goals as goal

pub loop-attribute-init : goal.loop-attribute-init
loop-attribute-init c = c.new-resolved.ensures (scope_seen c.args.scope.now)
