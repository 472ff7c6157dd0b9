use Rattle.dfdl_bits.specs.ByteSets.{has_byte}
use Rattle.dfdl_delims.specs.Verdicts.{begins_with, named_firsts, some_first}
use Rattle.dfdl_delims.proofs.Kept.{no_more, one_set, set_end, set_kept}
use Rattle.dfdl_delims.proofs.naming.begins_in.Goals as goal
use Rattle.dfdl_delims.proofs.naming.begins_in.Goals.{in-None, in-Some}

pub loop-number-preserved : goal.loop-number-preserved
loop-number-preserved c = λ byte less.
    set_kept c.args.firsts.now c.args.numbers.now c.loop-number.number-index 0 byte (has_byte c.loop-number.set byte) (has_byte c.match-first_at.set byte)
    c.first_at.result (some_first (begins_with byte) (named_firsts c.args.firsts.now c.args.numbers.now)) c.loop-number-test.true c.first_at.ensures
    (elim c.match-first_at.branch [
      | in-None w ↦ no_more c.loop-number.set c.match-first_at.set c.first_at.result byte w.set-is w.in-None.is
      | in-Some w ↦ one_set c.loop-number.set w.or.result w.or-set.result c.match-first_at.set c.first_at.result w.in-Some.first byte less w.set-is w.in-Some.is
          (w.or.ensures byte less) (w.or-set.ensures byte less)
    ])
    (c.loop-number.invariant byte less)

pub returns : goal.returns
returns c = λ byte less.
    set_end c.args.firsts.now c.args.numbers.now c.loop-number.number-index byte (has_byte c.loop-number.set byte)
    (some_first (begins_with byte) (named_firsts c.args.firsts.now c.args.numbers.now)) c.loop-number-test.false (c.loop-number.invariant byte less)
