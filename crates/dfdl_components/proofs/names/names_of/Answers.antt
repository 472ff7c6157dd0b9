use Rattle.std.proofs.Common.{sym, ◌∙◌}
use Rattle.dfdl_components.specs.Globals.{named_at}
use Rattle.dfdl_components.proofs.Searching.{first_none}
use Rattle.dfdl_components.proofs.Gathering.{gathered, none_at}
use Rattle.dfdl_components.proofs.names.names_of.Goals as goal

pub loop-element-init : goal.loop-element-init
loop-element-init c = λ q. none_at c.new-names.result c.new-names.ensures.empty q ∙ sym (first_none (named_at c.args.tree.now c.args.kind q))

pub loop-element-preserved : goal.loop-element-preserved
loop-element-preserved c = λ q. gathered c.args.tree.now c.args.kind q c.loop-element.element _ _ _ (c.in_ok-put_if.ensures q) c.name_of-name.ensures (c.loop-element.invariant q)
