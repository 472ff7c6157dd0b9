use Rattle.std.proofs.Common.{◌++◌}
use Rattle.dfdl_operators.proofs.PlaceLemmas.{passed, longer_front}
use Rattle.dfdl_operators.proofs.substrings.behind.Goals as goal
use Rattle.std.proofs.Common.{chars, drop}

pub behind_first-requires-text-text : goal.behind_first-requires-text-text
behind_first-requires-text-text c = λ _. c.loop-left.invariant.utf8

pub loop-left-preserved : goal.loop-left-preserved
loop-left-preserved c =
    let first = c.in-Some.ensures.first in
    let before = c.loop-left.invariant.suffix in
    let piece = c.in-Some.ensures.suffix in
    record {
      left = passed c.loop-left.left first.0 (chars c.loop-left.rest.now) (chars c.in-Some.shorter.now) (drop c.args.count (chars c.args.text.now)) c.loop-left-test.true first.1 c.loop-left.invariant.left;
      suffix = (before.0 ++ piece.0, longer_front c.args.text.now before.0 piece.0 c.loop-left.rest.now c.in-Some.shorter.now before.1 piece.1);
      utf8 = c.in-Some.ensures.utf8;
    }

pub returns-text : goal.returns-text
returns-text c = c.loop-left.invariant.utf8
