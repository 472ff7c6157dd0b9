use Rattle.std.proofs.Common.{◌∙◌}
use Rattle.dfdl_json.proofs.ElementNames.{known_members}
use Rattle.dfdl_json.proofs.members.are_known.Goals as goal

pub returns : goal.returns
returns c = λ t elements has. c.are_among.ensures ∙ known_members c.args.names.now t elements c.args.members.now.entries has
