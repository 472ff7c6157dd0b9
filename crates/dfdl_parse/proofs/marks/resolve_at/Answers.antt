use Rattle.dfdl_parse.proofs.Innermost.{resolved-set}
use Rattle.dfdl_parse.proofs.marks.resolve_at.Goals as goal

pub returns : goal.returns
returns c = resolved-set c.args.marks.now.items c.args.place c.index_mut-mark.result.now c.index_mut-mark.ensures.value
