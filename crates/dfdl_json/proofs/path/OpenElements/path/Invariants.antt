use Rattle.std.proofs.Common.{◌≡◌, ◌≤◌, length, drop, map, string_bytes}
use Rattle.dfdl_json.specs.Paths as paths
use Rattle.dfdl_json.specs.Paths.{step_to}
use Rattle.dfdl_json.proofs.path.OpenElements.path.Given as goal

abbrev pub invariant-loop-at : goal.invariant-loop-at
invariant-loop-at l = record {
  within : l.at ≤ length l.self-inside.steps.items;
  same : string_bytes l.path ≡ paths.path_of (map (λ step. step_to step.name.now step.place) (drop l.at l.self-inside.steps.items));
}
