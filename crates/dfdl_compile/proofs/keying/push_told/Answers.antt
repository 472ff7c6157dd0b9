use Rattle.dfdl_compile.proofs.Fitting.{none_told}
use Rattle.dfdl_compile.proofs.keying.push_told.Goals as goal

pub returns-in-None : goal.returns-in-None
returns-in-None c = none_told c.args.judgements.now c.args.number c.args.place c.args.made.now.items c.in-None.ensures.lookup.0
