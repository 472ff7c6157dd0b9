use Rattle.std.specs.Str.{chars}
use Rattle.dfdl_operators.specs.Numbers.{number_of, on_numbers}
use Rattle.dfdl_operators.specs.Operators.{sum_answer}
use Rattle.dfdl_operators.specs.Places.{up_to_sum}
use Rattle.dfdl_expression_eval.proofs.Parts.{copy_answer}
use Rattle.dfdl_expression_eval.proofs.functions.part_of_text.Goals as goal

pub returns-in-Ok-substring : goal.returns-in-Ok-substring
returns-in-Ok-substring c =
    copy_answer (λ t. up_to_sum (number_of c.args.first.now) (on_numbers sum_answer (number_of c.args.first.now) (number_of c.args.count.now)) (chars t))
    c.args.text.now c.in-Ok.text.now c.in-Ok-substring.part.now c.text_copy.result
    c.text_copy.ensures.utf8 c.in-Ok.ensures.ok c.in-Ok-substring.ensures.ok c.text_copy.ensures.answer
