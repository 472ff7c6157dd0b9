use Rattle.dfdl_literals.proofs.ReadingLaws.{reading_is, none_is}
use Rattle.dfdl_literals.proofs.literals_read_as_one.Goals as goal

pub returns-clause-reads : goal.returns-clause-reads
returns-clause-reads c = reading_is

pub returns-clause-none : goal.returns-clause-none
returns-clause-none c = none_is
