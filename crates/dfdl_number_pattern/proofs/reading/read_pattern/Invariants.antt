use Rattle.std.proofs.Common.{◌≡◌, Some, take}
use Rattle.dfdl_machines.specs.Machines.{run}
use Rattle.dfdl_number_pattern.specs.Machine.{start, step}
use Rattle.dfdl_number_pattern.specs.ReaderShown.{state_seen}
use Rattle.dfdl_number_pattern.proofs.reading.read_pattern.Given as goal

-- the reader stands where the machine does behind the bytes so far
abbrev pub invariant-loop-at : goal.invariant-loop-at
invariant-loop-at l = run step start (take l.at l.bytes) ≡ Some (state_seen l.reader)
