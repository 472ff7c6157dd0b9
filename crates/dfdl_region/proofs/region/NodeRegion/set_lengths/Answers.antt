use Rattle.std.proofs.Common.{◌≤◌, List, length, ap, sym, arith}
use Rattle.dfdl_region.specs.declared.node.Node.{Node}
use Rattle.dfdl_region.proofs.Contents.{with_lengths-none}
use Rattle.dfdl_region.proofs.region.NodeRegion.set_lengths.Goals as goal

pub returns-else-count-number : goal.returns-else-count-number
returns-else-count-number c =
    let past : length c.args.self.now.nodes ≤ c.args.number = omega arith in
    ap (λ (nodes : List Node). record c.args.self.now { nodes = nodes }) (sym (with_lengths-none c.args.self.now.nodes c.args.number c.args.lengths past))
