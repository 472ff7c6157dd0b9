use Rattle.std.proofs.Common.{sym, ◌∙◌}
use Rattle.dfdl_paths.specs.Leads.{begins}
use Rattle.dfdl_paths.proofs.Follows.{nowhere-items}
use Rattle.dfdl_paths.proofs.found.items.Goals as goal

pub returns-in-None : goal.returns-in-None
returns-in-None c =
    c.new.ensures.items ∙ sym (nowhere-items c.args.names.now c.args.nodes.now (begins c.args.start c.args.path.now.absolute) c.args.path.now.steps
    c.args.indexes.now c.in-None.ensures.none)
