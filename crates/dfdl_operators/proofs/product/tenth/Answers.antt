use Rattle.std.proofs.Common.{refl, arith, ◌/◌}
use Rattle.dfdl_decimal.proofs.ProductLemmas.{product_by, no_tenth}
use Rattle.dfdl_operators.proofs.product.tenth.Goals as goal
use Rattle.dfdl_operators.proofs.product.tenth.Goals.{else-left-eq0-2-via-then-left-eq0-2+else-right-eq0-2, else-left-eq0-2-via-else-left-eq0-2, else-left-eq0-3-via-then-left-eq0-3+else-right-eq0-3, else-left-eq0-3-via-else-left-eq0-3}

pub returns-then-left-eq0-clause-tenth : goal.returns-then-left-eq0-clause-tenth
returns-then-left-eq0-clause-tenth c = product_by c.args.left c.args.right (c.args.left / 10) c.args.right 10 1 (omega arith) (omega arith) refl

pub returns-then-right-eq0-clause-tenth : goal.returns-then-right-eq0-clause-tenth
returns-then-right-eq0-clause-tenth c = product_by c.args.left c.args.right c.args.left (c.args.right / 10) 1 10 (omega arith) (omega arith) refl

pub returns-then-right-eq0-2-clause-tenth : goal.returns-then-right-eq0-2-clause-tenth
returns-then-right-eq0-2-clause-tenth c = product_by c.args.left c.args.right (c.args.left / 2) (c.args.right / 5) 2 5 (omega arith) (omega arith) refl

pub returns-then-right-eq0-3-clause-tenth : goal.returns-then-right-eq0-3-clause-tenth
returns-then-right-eq0-3-clause-tenth c = product_by c.args.left c.args.right (c.args.left / 5) (c.args.right / 2) 5 2 (omega arith) (omega arith) refl

pub returns-else-left-eq0-3-clause-none : goal.returns-else-left-eq0-3-clause-none
returns-else-left-eq0-3-clause-none c = λ _. no_tenth c.args.left c.args.right c.if-left-eq0.false c.if-right-eq0.false
    (λ h. elim c.else-left-eq0-2.branch [
      | else-left-eq0-2-via-then-left-eq0-2+else-right-eq0-2 w ↦ w.if-right-eq0-2.false h.1
      | else-left-eq0-2-via-else-left-eq0-2 w ↦ w.if-left-eq0-2.false h.0
    ])
    (λ h. elim c.else-left-eq0-3.branch [
      | else-left-eq0-3-via-then-left-eq0-3+else-right-eq0-3 w ↦ w.if-right-eq0-3.false h.1
      | else-left-eq0-3-via-else-left-eq0-3 w ↦ w.if-left-eq0-3.false h.0
    ])
