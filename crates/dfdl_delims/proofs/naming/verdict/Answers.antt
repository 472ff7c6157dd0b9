use Rattle.std.proofs.Common.{sym, ap, ◌∙◌, None}
use Rattle.dfdl_delims.specs.Hits.{counted}
use Rattle.dfdl_delims.specs.Verdicts.{named_firsts, verdict_of}
use Rattle.dfdl_delims.proofs.Kept.{verdict_end, verdict_goes, verdict_here, verdict_longer}
use Rattle.dfdl_delims.proofs.naming.verdict.Goals as goal
use Rattle.dfdl_delims.proofs.naming.verdict.Goals.{in-None, in-Some+else-has}

pub returns-then-has : goal.returns-then-has
returns-then-has c =
    verdict_longer c.args.firsts.now c.args.numbers.now c.args.byte c.loop-place.place 0 c.loop-place.best c.first_at.result c.in-Some.first
    (verdict_of c.args.byte 0 None (named_firsts c.args.firsts.now c.args.numbers.now)) c.loop-place-test.true c.first_at.ensures c.in-Some.is
    (sym c.has.ensures ∙ c.if-has.true) c.loop-place.invariant

pub loop-place-preserved : goal.loop-place-preserved
loop-place-preserved c =
    elim c.match-first_at.branch [
      | in-None w ↦
          verdict_goes c.args.firsts.now c.args.numbers.now c.args.byte c.loop-place.place 0 c.loop-place.best c.match-first_at.best c.first_at.result
          (verdict_of c.args.byte 0 None (named_firsts c.args.firsts.now c.args.numbers.now)) c.loop-place-test.true c.first_at.ensures w.in-None.is w.best-is
          c.loop-place.invariant
      | in-Some+else-has w ↦
          verdict_here c.args.firsts.now c.args.numbers.now c.args.byte c.loop-place.place 0 c.loop-place.best c.match-first_at.best c.first_at.result
          w.in-Some.first (verdict_of c.args.byte 0 None (named_firsts c.args.firsts.now c.args.numbers.now)) c.loop-place-test.true c.first_at.ensures
          w.in-Some.is (sym w.has.ensures ∙ w.if-has.false)
          (w.best-is ∙ w.counted-best.ensures ∙ ap (λ t. counted c.loop-place.best c.loop-place.place t) w.has-in-Some.ensures) c.loop-place.invariant
    ]

pub returns : goal.returns
returns c =
    verdict_end c.args.firsts.now c.args.numbers.now c.args.byte c.loop-place.place c.loop-place.best
    (verdict_of c.args.byte 0 None (named_firsts c.args.firsts.now c.args.numbers.now)) c.loop-place-test.false c.loop-place.invariant
