use Rattle.std.proofs.Common.{ap, option_map, arith}
use Rattle.dfdl_components.specs.Globals.{site}
use Rattle.dfdl_breaches.specs.Roots.{root_of}
use Rattle.dfdl_breaches.proofs.Roots.{no_documents}
use Rattle.dfdl_breaches.proofs.root.root_of.Goals as goal

pub count-requires : goal.count-requires
count-requires c = tt

pub returns-then-count-eq0-clause-root : goal.returns-then-count-eq0-clause-root
returns-then-count-eq0-clause-root c = no_documents c.args.schema.now (omega (arith, c.count.ensures, c.if-count-eq0.true))

pub returns-then-count-eq0-clause-within : goal.returns-then-count-eq0-clause-within
returns-then-count-eq0-clause-within c = tt

pub first_global-requires : goal.first_global-requires
first_global-requires c = omega (arith, c.count.ensures, c.if-count-eq0.false)

pub returns-in-Some-clause-root : goal.returns-in-Some-clause-root
unfolding root_of
returns-in-Some-clause-root c = ap (option_map (site 0)) c.in-Some.ensures.first

pub returns-in-Some-clause-within : goal.returns-in-Some-clause-within
returns-in-Some-clause-within c = (omega (arith, c.count.ensures, c.if-count-eq0.false), c.in-Some.ensures.within)

pub returns-in-None-clause-root : goal.returns-in-None-clause-root
unfolding root_of
returns-in-None-clause-root c = ap (option_map (site 0)) c.in-None.ensures.first

pub returns-in-None-clause-within : goal.returns-in-None-clause-within
returns-in-None-clause-within c = tt
