use Rattle.dfdl_chains.proofs.Stated.{settings_stand, tests_stand}
use Rattle.dfdl_chains.proofs.settings.statements_are_within.Goals as goal

pub returns-clause-settings : goal.returns-clause-settings
returns-clause-settings c = λ documents own within. settings_stand documents own within

pub returns-clause-tests : goal.returns-clause-tests
returns-clause-tests c = λ documents own within. tests_stand documents own within
