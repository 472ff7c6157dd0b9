use Rattle.std.proofs.Common.{subst, sym}
use Rattle.std.proofs.lemmas.Result.{IfOk-weaker}
use Rattle.dfdl_expression_eval.specs.Asks.{IsSettled}
use Rattle.dfdl_expression_eval.specs.Meanings.{meaning}
use Rattle.dfdl_surroundings.specs.Answers.{around}
use Rattle.dfdl_surroundings.proofs.Settled.{gives_settled}
use Rattle.dfdl_surroundings.proofs.evaluating.evaluate_with.Goals as goal

pub returns-clause-settled : goal.returns-clause-settled
returns-clause-settled c =
    IfOk-weaker c.eval-answer.result _ _
    (λ e is. subst IsSettled (sym is) (gives_settled (around c.args.document c.args.variables) (meaning c.args.expression.now))) c.eval-answer.ensures.value
