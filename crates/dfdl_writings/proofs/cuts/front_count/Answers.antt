use Rattle.std.proofs.Common.{arith}
use Rattle.dfdl_writings.proofs.Fronts.{further, stops, ended}
use Rattle.dfdl_writings.proofs.cuts.front_count.Goals as goal

pub returns-then-width-left-clause-value : goal.returns-then-width-left-clause-value
returns-then-width-left-clause-value c =
    stops c.args.encoding c.loop-at.left c.loop-at.at c.index-characters-at.result c.width_in.result _ c.args.characters.now c.loop-at-test.true
    c.index-characters-at.is c.width_in.ensures.width c.if-width-left.true c.loop-at.invariant

pub loop-at-preserved : goal.loop-at-preserved
loop-at-preserved c =
    further c.args.encoding c.loop-at.left c.loop-at.at c.index-characters-at.result c.width_in.result _ c.args.characters.now c.loop-at-test.true
    c.index-characters-at.is c.width_in.ensures.width c.if-width-left.false c.loop-at.invariant

pub returns-clause-value : goal.returns-clause-value
returns-clause-value c =
    ended c.args.encoding c.loop-at.left c.loop-at.at _ c.args.characters.now (omega (arith, c.loop-at-test.false, c.loop-at.auto.at-end)) c.loop-at.invariant
