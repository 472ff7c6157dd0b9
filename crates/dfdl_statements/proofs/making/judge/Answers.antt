use Rattle.dfdl_statements.proofs.Kinded.{calculation_told, opened_told, question_told, set_told, test_told}
use Rattle.dfdl_statements.proofs.making.judge.Goals as goal

pub returns-in-Test : goal.returns-in-Test
returns-in-Test c = λ read reads.
    test_told read c.args.statics.now c.told.result c.args.source.now c.in-Test.text c.as_str.result.now c.in-Test.discriminates c.in-Test.message
    c.only-wanted.result c.expression.result c.in-Test.is c.as_str.ensures c.only-wanted.ensures (c.expression.ensures read reads) c.told.ensures

pub returns-in-Setting : goal.returns-in-Setting
returns-in-Setting c = λ read reads.
    set_told read c.args.statics.now c.setting_told.result c.args.source.now c.in-Setting.text c.as_str-in-Setting.result.now c.in-Setting.variable
    c.in-Setting.is c.as_str-in-Setting.ensures (c.setting_told.ensures read reads)

pub returns-in-Opening : goal.returns-in-Opening
returns-in-Opening c = λ read reads.
    opened_told read c.args.statics.now c.opening_told.result c.args.source.now c.in-Opening.text c.in-Opening.variable c.in-Opening.is
    (c.opening_told.ensures read reads)

pub returns-in-Calculation : goal.returns-in-Calculation
returns-in-Calculation c = λ read reads.
    calculation_told read c.args.statics.now c.told-in-Calculation.result c.args.source.now c.in-Calculation.text c.as_str-in-Calculation.result.now
    c.in-Calculation.kind c.in-Calculation.output c.of.result c.only-wanted-in-Calculation.result c.expression-in-Calculation.result c.in-Calculation.is
    c.as_str-in-Calculation.ensures c.only-wanted-in-Calculation.ensures c.of.ensures (c.expression-in-Calculation.ensures read reads)
    c.told-in-Calculation.ensures

pub returns-in-Question : goal.returns-in-Question
returns-in-Question c = λ read reads.
    question_told read c.args.statics.now c.told-in-Question.result c.args.source.now c.in-Question.text c.as_str-in-Question.result.now c.in-Question.asked
    c.types_asked.result c.expression-in-Question.result c.in-Question.is c.as_str-in-Question.ensures c.types_asked.ensures
    (c.expression-in-Question.ensures read reads) c.told-in-Question.ensures
