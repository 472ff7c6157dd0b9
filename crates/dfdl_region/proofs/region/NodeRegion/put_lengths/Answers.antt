use Rattle.std.proofs.Common.{List, ap, ◌∙◌}
use Rattle.dfdl_region.specs.Nodes.{Nodes, with_lengths}
use Rattle.dfdl_region.specs.declared.node.Node.{Node}
use Rattle.dfdl_region.proofs.Contents.{set-lengths}
use Rattle.dfdl_region.proofs.region.NodeRegion.put_lengths.Goals as goal

pub returns : goal.returns
returns c =
    ap (λ (nodes : List Node). record { nodes = nodes; most = c.self.inside.most })
    (set-lengths c.self.inside.nodes.items c.args.number c.index_mut-node.result.now c.args.lengths c.index_mut-node.ensures.value)
    ∙ ap (λ (region : Nodes). record region { nodes = with_lengths region.nodes c.args.number c.args.lengths }) c.self.view_is
