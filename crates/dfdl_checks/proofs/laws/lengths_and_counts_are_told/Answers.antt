use Rattle.dfdl_checks.proofs.SoundMeasures.{has-count, has-measure, no-count, no-measure}
use Rattle.dfdl_checks.proofs.laws.lengths_and_counts_are_told.Goals as goal

pub returns-clause-measure : goal.returns-clause-measure
returns-clause-measure c = has-measure

pub returns-clause-count : goal.returns-clause-count
returns-clause-count c = has-count

pub returns-clause-unmeasured : goal.returns-clause-unmeasured
returns-clause-unmeasured c = no-measure

pub returns-clause-uncounted : goal.returns-clause-uncounted
returns-clause-uncounted c = no-count
