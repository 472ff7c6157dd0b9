use Rattle.std.proofs.Common.{◌≡◌, ◌<◌, drop, length, All}
use Rattle.dfdl_order.specs.Filling.{all_ranked}
use Rattle.dfdl_order.proofs.order.Order.unplaced_part.Given as goal

abbrev pub invariant-loop-part : goal.invariant-loop-part
invariant-loop-part l = record {
  same : all_ranked (length l.uses) l.self (drop l.part-index l.part-items) ≡ all_ranked (length l.uses) l.self l.part-items;
  within : All (λ p. p < length l.self.rank) (drop l.part-index l.part-items);
}
