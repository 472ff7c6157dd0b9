use Rattle.std.proofs.Common.{◌≡◌, ◌≤◌, ◌++◌, length, drop}
use Rattle.dfdl_json.specs.Children.{keyed}
use Rattle.dfdl_json.proofs.children.push_keys.Given as goal

abbrev pub invariant-loop-at : goal.invariant-loop-at
invariant-loop-at l = record {
  within : l.at ≤ length l.keys;
  same : l.left.items ≡ keyed (drop l.at l.keys) ++ l.fn.left.items;
}
