use Rattle.dfdl_parse.proofs.Innermost.{initiated-there}
use Rattle.dfdl_parse.proofs.marks.is_initiated_at.Goals as goal

pub returns : goal.returns
returns c = initiated-there c.args.marks.now c.args.place c.index-marks-place.result c.requires
