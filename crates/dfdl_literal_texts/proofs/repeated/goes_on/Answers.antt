use Rattle.std.proofs.Common.{◌∙◌, ap, sym, length, None, Some, arith}
use Rattle.std.proofs.lemmas.List.{length-drop, take_rest}
use Rattle.dfdl_literal_texts.proofs.Repeats.{repeat_end, repeat_more}
use Rattle.dfdl_literal_texts.proofs.repeated.goes_on.Goals as goal

pub returns-in-None : goal.returns-in-None
returns-in-None c =
    repeat_more c.args.encoding c.args.fold c.args.c c.args.bytes.now c.loop-at.at None c.loop-at-test.true c.in-None.ensures.front
    ∙ c.loop-at.invariant.left

pub loop-at-preserved : goal.loop-at-preserved
loop-at-preserved c = record {
  within =
      (let rest = ap length (take_rest c.args.bytes.now c.loop-at.at) in
      let less = length-drop c.loop-at.at c.args.bytes.now in
      omega (arith, rest, less, c.in-Some.ensures.bounds.1, c.loop-at-test.true));
  left = repeat_more c.args.encoding c.args.fold c.args.c c.args.bytes.now c.loop-at.at (Some c.in-Some.count) c.loop-at-test.true c.in-Some.ensures.front
      ∙ c.loop-at.invariant.left;
}

pub returns : goal.returns
returns c =
    sym (sym c.loop-at.invariant.left ∙ repeat_end c.args.encoding c.args.fold c.args.c c.args.bytes.now c.loop-at.at c.loop-at-test.false)
