use Rattle.std.proofs.Common.{Ok, subst, sym}
use Rattle.dfdl_statements.specs.Making.{never_asked, unused}
use Rattle.dfdl_statements.specs.MakingShown.{Gives}
use Rattle.dfdl_statements.proofs.making.unused.Goals as goal

pub returns-in-Test-clause-answer : goal.returns-in-Test-clause-answer
returns-in-Test-clause-answer c =
    subst (λ o. Gives (Ok (unused o)) c.test_of.result) (sym c.in-Test.is) (c.test_of.ensures (Ok never_asked) c.never_asked.ensures)

pub returns-in-Setting-clause-answer : goal.returns-in-Setting-clause-answer
returns-in-Setting-clause-answer c =
    subst (λ o. Gives (Ok (unused o)) c.test_of-in-Setting.result) (sym c.in-Setting.is) (c.test_of-in-Setting.ensures (Ok never_asked) c.never_asked-in-Setting.ensures)

pub returns-in-Opening-clause-answer : goal.returns-in-Opening-clause-answer
returns-in-Opening-clause-answer c =
    subst (λ o. Gives (Ok (unused o)) c.test_of-in-Opening.result) (sym c.in-Opening.is) (c.test_of-in-Opening.ensures (Ok never_asked) c.never_asked-in-Opening.ensures)

pub returns-in-Calculation-clause-answer : goal.returns-in-Calculation-clause-answer
returns-in-Calculation-clause-answer c =
    subst (λ o. Gives (Ok (unused o)) c.calculation_of.result) (sym c.in-Calculation.is)
    (c.calculation_of.ensures.answer (Ok never_asked) c.never_asked-in-Calculation.ensures)

pub returns-clause-answer : goal.returns-clause-answer
returns-clause-answer c =
    subst (λ o. Gives (Ok (unused o)) c.question_of.result) (sym c.in-Question.is)
    (c.question_of.ensures.answer (Ok never_asked) c.never_asked-in-Question.ensures)
