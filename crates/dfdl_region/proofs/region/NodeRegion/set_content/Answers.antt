use Rattle.std.proofs.Common.{◌≤◌, List, length, ap, sym, arith}
use Rattle.dfdl_region.specs.declared.node.Node.{Node}
use Rattle.dfdl_region.proofs.Contents.{with_content-none}
use Rattle.dfdl_region.proofs.region.NodeRegion.set_content.Goals as goal

pub returns-else-number-count : goal.returns-else-number-count
returns-else-number-count c =
    let past : length c.args.self.now.nodes ≤ c.args.number = omega arith in
    ap (λ (nodes : List Node). record c.args.self.now { nodes = nodes }) (sym (with_content-none c.args.self.now.nodes c.args.number c.args.content past))
