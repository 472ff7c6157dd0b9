use Rattle.std.proofs.Common.{◌∙◌}
use Rattle.dfdl_leaves.proofs.Widths.{bytes-widths}
use Rattle.dfdl_leaves.proofs.spans.bytes_in.Goals as goal

pub returns-in-Utf8 : goal.returns-in-Utf8
returns-in-Utf8 c = c.widths_in.ensures ∙ bytes-widths c.args.encoding c.args.characters.now c.in-Utf8.is
