use Rattle.dfdl_expression_eval.proofs.Parts.{part_answer}
use Rattle.dfdl_expression_eval.proofs.functions.has_part.Goals as goal

pub returns-in-Ok-Ok : goal.returns-in-Ok-Ok
returns-in-Ok-Ok c =
    part_answer c.args.left.now c.args.right.now c.in-Ok-Ok.text.now c.in-Ok-Ok.part.now c.contains.result
    c.in-Ok-Ok.ensures.ok c.in-Ok-Ok.ensures'.ok c.contains.ensures
