use Rattle.std.proofs.Common.{sym, ◌∙◌}
use Rattle.dfdl_delims.proofs.Tellings.{longer_by, none_by}
use Rattle.dfdl_delims.proofs.telling.some_longer.Goals as goal

pub returns-clause-some : goal.returns-clause-some
returns-clause-some c = λ place is_text stands is. longer_by c.args.pieces.now c.args.live.now place is_text stands (sym c.some_more.ensures ∙ is)

pub returns-clause-none : goal.returns-clause-none
returns-clause-none c = λ place is_text stands is. none_by c.args.pieces.now c.args.live.now place is_text stands (sym c.some_more.ensures ∙ is)
