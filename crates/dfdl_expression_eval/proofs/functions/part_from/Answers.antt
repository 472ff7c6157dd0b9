use Rattle.std.specs.Str.{chars}
use Rattle.dfdl_operators.specs.Numbers.{number_of}
use Rattle.dfdl_operators.specs.Places.{from_place}
use Rattle.dfdl_expression_eval.proofs.Parts.{copy_answer}
use Rattle.dfdl_expression_eval.proofs.functions.part_from.Goals as goal

pub returns-in-Ok-substring_from : goal.returns-in-Ok-substring_from
returns-in-Ok-substring_from c =
    copy_answer (λ t. from_place (number_of c.args.right.now) (chars t)) c.args.left.now c.in-Ok.text.now c.in-Ok-substring_from.part.now c.text_copy.result
    c.text_copy.ensures.utf8 c.in-Ok.ensures.ok c.in-Ok-substring_from.ensures.ok c.text_copy.ensures.answer
