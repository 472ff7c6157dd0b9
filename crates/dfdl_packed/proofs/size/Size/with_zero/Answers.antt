use Rattle.dfdl_packed.proofs.SizeLemmas.{zero_more}
use Rattle.dfdl_packed.proofs.size.Size.with_zero.Goals as goal

pub returns-clause-shows : goal.returns-clause-shows
returns-clause-shows c = λ n shows. zero_more c.args.self n shows
