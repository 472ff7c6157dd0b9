use Rattle.dfdl_laying.specs.Running as running
use Rattle.dfdl_laying.proofs.run.Run.go_on.Given as goal

abbrev pub invariant-acting : goal.invariant-acting
invariant-acting l = (last : running.Run) → running.Runs l.fn.layout l.fn.aim l.self last → running.Runs l.fn.layout l.fn.aim l.fn.self last
