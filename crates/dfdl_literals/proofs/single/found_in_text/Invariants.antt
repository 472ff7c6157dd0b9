use Rattle.std.proofs.Common.{◌≡◌, length, drop}
use Rattle.std.specs.Str.{chars}
use Rattle.dfdl_machines.specs.Machines.{run}
use Rattle.dfdl_literals.specs.SingleSteps.{single_step, single_start}
use Rattle.dfdl_literals.proofs.single.found_in_text.Given as goal

-- the characters that are left lead where all do
abbrev pub invariant-loop-c : goal.invariant-loop-c
invariant-loop-c l =
    run (single_step l.empty_allowed) l.scan (drop (length l.yielded) (chars l.text)) ≡ run (single_step l.empty_allowed) single_start (chars l.text)
