use Rattle.std.proofs.Common.{◌∙◌}
use Rattle.dfdl_delims.proofs.Tellings.{whole_by}
use Rattle.dfdl_delims.proofs.telling.some_whole.Goals as goal

pub returns : goal.returns
returns c = λ place is_text stands. c.is_some.ensures ∙ whole_by c.args.pieces.now c.args.live.now c.innermost.result c.innermost.ensures place is_text stands
