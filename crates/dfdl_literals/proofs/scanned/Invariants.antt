use Rattle.std.proofs.Common.{◌≡◌, length, take, Some}
use Rattle.std.specs.Str.{chars, encode_utf8_all}
use Rattle.dfdl_machines.specs.Machines.{run}
use Rattle.dfdl_literals.specs.Steps.{step, start}
use Rattle.dfdl_literals.proofs.scanned.Given as goal

abbrev pub invariant-loop-c : goal.invariant-loop-c
invariant-loop-c l =
    (l.at ≡ length (encode_utf8_all (take (length l.yielded) (chars l.text))))
    × (run (step l.empty_allowed) start (take (length l.yielded) (chars l.text)) ≡ Some l.scan)
