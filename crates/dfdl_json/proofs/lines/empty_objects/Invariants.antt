use Rattle.serde_json.specs.Data.{no_members}
use Rattle.dfdl_json.specs.Inside.{HaveMembers}
use Rattle.dfdl_json.proofs.lines.empty_objects.Given as goal

abbrev pub invariant-loop-made : goal.invariant-loop-made
invariant-loop-made l = HaveMembers l.objects.items l.made (λ _. no_members)
