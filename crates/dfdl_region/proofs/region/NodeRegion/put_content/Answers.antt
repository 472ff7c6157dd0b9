use Rattle.std.proofs.Common.{List, ap, ◌∙◌}
use Rattle.dfdl_region.specs.Nodes.{Nodes, with_content}
use Rattle.dfdl_region.specs.declared.node.Node.{Node}
use Rattle.dfdl_region.proofs.Contents.{set-content}
use Rattle.dfdl_region.proofs.region.NodeRegion.put_content.Goals as goal

pub returns : goal.returns
returns c =
    ap (λ (nodes : List Node). record { nodes = nodes; most = c.self.inside.most })
    (set-content c.self.inside.nodes.items c.args.number c.index_mut-node.result.now c.args.content c.index_mut-node.ensures.value)
    ∙ ap (λ (region : Nodes). record region { nodes = with_content region.nodes c.args.number c.args.content }) c.self.view_is
