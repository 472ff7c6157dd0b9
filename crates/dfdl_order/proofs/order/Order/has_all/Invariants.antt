use Rattle.std.proofs.Common.{◌≡◌, ◌<◌, drop, length, All}
use Rattle.dfdl_order.specs.Filling.{all_ranked}
use Rattle.dfdl_order.proofs.order.Order.has_all.Given as goal

abbrev pub invariant-loop-part : goal.invariant-loop-part
invariant-loop-part l = record {
  same : all_ranked l.count l.self (drop l.part-index l.parts) ≡ all_ranked l.count l.self l.parts;
  within : All (λ p. p < length l.self.rank) (drop l.part-index l.parts);
}
