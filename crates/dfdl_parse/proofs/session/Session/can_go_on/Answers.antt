use Rattle.dfdl_parse.proofs.Pieces.{ready_when}
use Rattle.dfdl_parse.proofs.session.Session.can_go_on.Goals as goal

pub returns-clause-ready : goal.returns-clause-ready
returns-clause-ready g on = ready_when g.args.self.now.lost g.args.self.now g.requires.ready on
