use Rattle.std.proofs.Common.{ap, ◌∙◌}
use Rattle.std.proofs.lemmas.Str.{chars-IsAscii}
use Rattle.std.specs.Str.{chars}
use Rattle.dfdl_doc_tree.proofs.plain.as_text.Goals as goal

pub returns : goal.returns
returns c = ap chars c.ascii.ensures ∙ chars-IsAscii c.args.bytes.now c.requires
