use Rattle.std.proofs.Common.{◌≤◌, length, drop}
use Rattle.dfdl_json.specs.Inside.{HaveMembers, all_turned}
use Rattle.dfdl_json.specs.Lines.{members_of}
use Rattle.dfdl_json.proofs.lines.members_of_root.Given as goal

abbrev pub invariant-loop-at : goal.invariant-loop-at
invariant-loop-at l = record {
  some : 1 ≤ l.at;
  within : l.at ≤ length l.nodes;
  objects : HaveMembers l.objects.items l.at (λ j. all_turned (members_of l.terms l.text l.at (drop l.at l.nodes) j));
}
