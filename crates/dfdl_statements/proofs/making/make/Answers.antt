use Rattle.dfdl_statements.proofs.Kinded.{calculation_made, opened_made, question_made, set_made, test_made}
use Rattle.dfdl_statements.proofs.making.make.Goals as goal

pub returns-in-Test-clause-answer : goal.returns-in-Test-clause-answer
returns-in-Test-clause-answer c = λ read reads.
    test_made read c.args.statics.now c.test_of.result c.args.source c.in-Test.text c.as_str.result.now c.in-Test.discriminates c.in-Test.message
    c.only-wanted.result c.expression-found.result c.in-Test.is c.as_str.ensures c.only-wanted.ensures (c.expression-found.ensures read reads) c.test_of.ensures

pub returns-in-Setting-clause-answer : goal.returns-in-Setting-clause-answer
returns-in-Setting-clause-answer c = λ read reads.
    set_made read c.args.statics.now c.setting_made.result c.args.source c.in-Setting.text c.as_str-in-Setting.result.now c.in-Setting.variable
    c.in-Setting.is c.as_str-in-Setting.ensures (c.setting_made.ensures read reads)

pub returns-in-Opening-clause-answer : goal.returns-in-Opening-clause-answer
returns-in-Opening-clause-answer c = λ read reads.
    opened_made read c.args.statics.now c.opening_made.result c.args.source c.in-Opening.text c.in-Opening.variable c.in-Opening.is
    (c.opening_made.ensures read reads)

pub returns-in-Calculation-clause-answer : goal.returns-in-Calculation-clause-answer
returns-in-Calculation-clause-answer c = λ read reads.
    calculation_made read c.args.statics.now c.calculation_of.result c.args.source c.in-Calculation.text c.as_str-in-Calculation.result.now
    c.in-Calculation.kind c.in-Calculation.output c.of.result c.only-wanted-in-Calculation.result c.expression-found-in-Calculation.result c.in-Calculation.is
    c.as_str-in-Calculation.ensures c.only-wanted-in-Calculation.ensures c.of.ensures (c.expression-found-in-Calculation.ensures read reads)
    c.calculation_of.ensures.answer

pub returns-in-Question-clause-answer : goal.returns-in-Question-clause-answer
returns-in-Question-clause-answer c = λ read reads.
    question_made read c.args.statics.now c.question_of.result c.args.source c.in-Question.text c.as_str-in-Question.result.now c.in-Question.asked
    c.types_asked.result c.expression-found-in-Question.result c.in-Question.is c.as_str-in-Question.ensures c.types_asked.ensures
    (c.expression-found-in-Question.ensures read reads) c.question_of.ensures.answer
