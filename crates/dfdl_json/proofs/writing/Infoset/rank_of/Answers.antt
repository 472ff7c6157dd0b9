use Rattle.std.proofs.Common.{◌∙◌}
use Rattle.dfdl_json.proofs.Nodes.{rank_is}
use Rattle.dfdl_json.proofs.writing.Infoset.rank_of.Goals as goal

pub returns : goal.returns
returns c = c.rank.ensures ∙ rank_is c.args.self.now c.args.number c.node-node.result c.requires c.node-node.ensures
