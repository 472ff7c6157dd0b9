use Rattle.std.proofs.Common.{sym, ap}
use Rattle.dfdl_paths.specs.Leads.{begins}
use Rattle.dfdl_paths.specs.Values.{found_of}
use Rattle.dfdl_paths.proofs.Follows.{nowhere-items}
use Rattle.dfdl_paths.proofs.found.only_item.Goals as goal

pub returns-in-None : goal.returns-in-None
returns-in-None c =
    sym (ap found_of (nowhere-items c.args.names.now c.args.nodes.now (begins c.args.start c.args.path.now.absolute) c.args.path.now.steps
    c.args.indexes.now c.in-None.ensures.none))
