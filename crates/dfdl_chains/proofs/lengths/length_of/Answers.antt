use Rattle.std.proofs.Common.{◌-◌, ◌^◌, ◌∙◌, ap, arith}
use Rattle.dfdl_chains.specs.Lengths.{length_of}
use Rattle.dfdl_chains.proofs.Digits.{digit_more, digits_end}
use Rattle.dfdl_chains.proofs.lengths.length_of.Goals as goal

pub loop-digit-preserved : goal.loop-digit-preserved
loop-digit-preserved c = record {
  same = digit_more (2 ^ 64 - 1) c.loop-digit.length c.saturating_add-length.result c.loop-digit.digit-index c.as_bytes-digit-items.result.now _ c.loop-digit-test.true
      (omega (arith, c.saturating_sub.ensures, c.from-worth.ensures, c.saturating_mul.ensures, c.saturating_add-length.ensures)) c.loop-digit.invariant.same;
  few = omega (arith, c.saturating_add-length.ensures);
}

pub returns : goal.returns
returns c =
    digits_end (2 ^ 64 - 1) c.loop-digit.length c.loop-digit.digit-index c.as_bytes-digit-items.result.now _ (omega (arith, c.loop-digit-test.false))
    c.loop-digit.invariant.few c.loop-digit.invariant.same
    ∙ ap length_of c.as_bytes-digit-items.ensures.value
