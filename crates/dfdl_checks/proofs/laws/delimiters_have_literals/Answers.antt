use Rattle.dfdl_checks.proofs.SoundDelimiters.{matching-separator-texts, matching-texts, no-delimiter, of-sequence, some-separator-texts, some-texts}
use Rattle.dfdl_checks.proofs.laws.delimiters_have_literals.Goals as goal

pub returns-clause-some : goal.returns-clause-some
returns-clause-some c = some-texts

pub returns-clause-matching : goal.returns-clause-matching
returns-clause-matching c = matching-texts

pub returns-clause-some_separators : goal.returns-clause-some_separators
returns-clause-some_separators c = some-separator-texts

pub returns-clause-matching_separators : goal.returns-clause-matching_separators
returns-clause-matching_separators c = matching-separator-texts

pub returns-clause-sequences : goal.returns-clause-sequences
returns-clause-sequences c = of-sequence

pub returns-clause-parsing : goal.returns-clause-parsing
returns-clause-parsing c = no-delimiter
