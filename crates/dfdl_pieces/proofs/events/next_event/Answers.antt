use Rattle.dfdl_pieces.proofs.Moving.{at_place, past_end, takes_none, takes_some}
use Rattle.dfdl_pieces.proofs.events.next_event.Goals as goal

pub returns-in-None-clause-takes : goal.returns-in-None-clause-takes
returns-in-None-clause-takes c = λ more. takes_none c.args.events.now c.args.at.now more (past_end c.args.events.now c.args.at.now c.in-None.ensures.lookup.0)

pub returns-in-Some-clause-takes : goal.returns-in-Some-clause-takes
returns-in-Some-clause-takes c = λ more. takes_some c.args.events.now c.args.at.now c.in-Some.event.now more (at_place c.args.events.now c.args.at.now c.in-Some.event.now c.in-Some.ensures.lookup.0 c.in-Some.ensures.lookup.1)
