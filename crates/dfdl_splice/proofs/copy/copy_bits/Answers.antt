use Rattle.std.proofs.Common.{rules, arith}
use Rattle.dfdl_splice.proofs.Runs.{copies_none, copies_more}
use Rattle.dfdl_splice.proofs.copy.copy_bits.Goals as goal

pub loop-done-init : goal.loop-done-init
loop-done-init c = record { within = search rules; copies = copies_none _ _ _ _ _ }

pub loop-done-preserved : goal.loop-done-preserved
loop-done-preserved c = record {
  within = omega arith;
  copies = rw c.from-done.ensures (copies_more _ _ _ _ _ _ _ _ _ c.loop-done.invariant.copies c.copy_few.ensures);
}
