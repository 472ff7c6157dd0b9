use Rattle.dfdl_checks.proofs.SoundKeys.{has-key, has-keys, has-none-again, no-key}
use Rattle.dfdl_checks.proofs.laws.keys_are_told.Goals as goal

pub returns-clause-key : goal.returns-clause-key
returns-clause-key c = has-key

pub returns-clause-unkeyed : goal.returns-clause-unkeyed
returns-clause-unkeyed c = no-key

pub returns-clause-some : goal.returns-clause-some
returns-clause-some c = has-keys

pub returns-clause-apart : goal.returns-clause-apart
returns-clause-apart c = has-none-again
