use Rattle.std.proofs.Common.{refl}
use Rattle.dfdl_breaches.proofs.Calculating.{uncalculated}
use Rattle.dfdl_breaches.proofs.HiddenKinds.{unhidden, untested}
use Rattle.dfdl_breaches.proofs.laws.statements_are_for_parsing.Goals as goal

pub returns-clause-tests : goal.returns-clause-tests
returns-clause-tests c = λ refused documents own. untested refused documents own

pub returns-clause-checks : goal.returns-clause-checks
returns-clause-checks c = λ refused documents own. refl

pub returns-clause-settings : goal.returns-clause-settings
returns-clause-settings c = λ documents own. refl

pub returns-clause-calculated : goal.returns-clause-calculated
returns-clause-calculated c = λ refused documents own. uncalculated refused documents own

pub returns-clause-hidden : goal.returns-clause-hidden
returns-clause-hidden c = λ documents own. unhidden documents own

pub returns-clause-initiated : goal.returns-clause-initiated
returns-clause-initiated c = λ refused documents own. refl

pub returns-clause-counted : goal.returns-clause-counted
returns-clause-counted c = λ refused documents own. refl

pub returns-clause-unmeasured : goal.returns-clause-unmeasured
returns-clause-unmeasured c = λ refused documents own. refl

pub returns-clause-uncounted : goal.returns-clause-uncounted
returns-clause-uncounted c = λ refused documents own. refl

pub returns-clause-unkeyed : goal.returns-clause-unkeyed
returns-clause-unkeyed c = λ refused documents own. refl
