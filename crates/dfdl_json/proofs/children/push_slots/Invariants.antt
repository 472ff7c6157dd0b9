use Rattle.std.proofs.Common.{◌≡◌, ◌≤◌, ◌++◌, length, drop}
use Rattle.dfdl_json.specs.Children.{bodies_of}
use Rattle.dfdl_json.proofs.children.push_slots.Given as goal

abbrev pub invariant-loop-at : goal.invariant-loop-at
invariant-loop-at l = record {
  within : l.at ≤ length l.slots;
  same : l.left.items ≡ bodies_of (drop l.at l.slots) ++ l.fn.left.items;
}
