use Rattle.std.proofs.Common.{◌<◌, ℕ, length, get_or}
use Rattle.dfdl_order.specs.Reaching.{AreReached, Keeps}
use Rattle.dfdl_order.proofs.recursive.put_new.Given as goal

abbrev pub invariant-loop-part : goal.invariant-loop-part
invariant-loop-part l = record {
  reached : AreReached l.uses l.from l.reached;
  keeps : Keeps l.fn.reached l.reached;
  all : (j : ℕ) → j < l.part-index → get_or l.reached.rank (get_or l.parts j 0) 0 < length l.uses;
}
