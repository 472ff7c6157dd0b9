use Rattle.std.proofs.Common.{◌∙◌, sym, ap, arith}
use Rattle.std.specs.Ordering.{nat_cmp}
use Rattle.dfdl_decimal.proofs.OrderLemmas.{nat_cmp-less, nat_cmp-greater, nat_cmp-left, nat_cmp-right}
use Rattle.dfdl_operators.proofs.order.magnitude_order.Goals as goal

pub returns-in-Some : goal.returns-in-Some
returns-in-Some c =
    c.cmp.ensures ∙ ap (λ n. nat_cmp n c.args.right.magnitude) c.in-Some.ensures.1
    ∙ nat_cmp-left c.args.left.magnitude c.args.right.magnitude c.args.left.scale c.args.right.scale c.if-left-right.true

pub returns-in-None : goal.returns-in-None
returns-in-None c =
    sym (nat_cmp-greater _ c.args.right.magnitude (omega (arith, c.in-None.ensures)))
    ∙ nat_cmp-left c.args.left.magnitude c.args.right.magnitude c.args.left.scale c.args.right.scale c.if-left-right.true

pub returns-in-Some-shifted : goal.returns-in-Some-shifted
returns-in-Some-shifted c =
    c.cmp-in-Some-shifted.ensures ∙ ap (λ n. nat_cmp c.args.left.magnitude n) c.in-Some-shifted.ensures.1
    ∙ nat_cmp-right c.args.left.magnitude c.args.right.magnitude c.args.left.scale c.args.right.scale (omega arith)

pub returns-in-None-shifted : goal.returns-in-None-shifted
returns-in-None-shifted c =
    sym (nat_cmp-less c.args.left.magnitude _ (omega (arith, c.in-None-shifted.ensures)))
    ∙ nat_cmp-right c.args.left.magnitude c.args.right.magnitude c.args.left.scale c.args.right.scale (omega arith)
