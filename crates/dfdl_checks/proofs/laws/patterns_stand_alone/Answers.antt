use Rattle.dfdl_checks.proofs.PatternBounds.{no-pattern, pattern-alone, pattern-bounded}
use Rattle.dfdl_checks.proofs.laws.patterns_stand_alone.Goals as goal

pub returns-clause-bounded : goal.returns-clause-bounded
returns-clause-bounded c = pattern-bounded

pub returns-clause-alone : goal.returns-clause-alone
returns-clause-alone c = pattern-alone

pub returns-clause-parsing : goal.returns-clause-parsing
returns-clause-parsing c = no-pattern
