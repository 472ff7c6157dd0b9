-- What stops a run whose source is not read to its end.
use Rattle.dfdl_edge.specs.declared.whole.SourceFault.{SourceFault}
use Rattle.dfdl_edge.specs.declared.whole.SourceFault.TheVariants as fault
use Rattle.dfdl_report.specs.declared.cause.LimitCause.TheVariants.{Input}
use Rattle.dfdl_run.specs.declared.stop.Stop.{Stop}
use Rattle.dfdl_run.specs.declared.stop.Stop.TheVariants.{SourceFailed, Limit, OutOfMemory}
use Rattle.dfdl_run.specs.Expects.{most_input}

-- what stops a run by this fault
abbrev pub source_stop : SourceFault → Stop
source_stop fault.Failed = SourceFailed
source_stop fault.TooLarge = Limit Input most_input
source_stop fault.OutOfMemory = OutOfMemory
