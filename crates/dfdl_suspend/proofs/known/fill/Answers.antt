use Rattle.std.proofs.Common.{◌≡◌, ◌-◌, None, replicate, length, ◌++◌, ap, ◌∙◌, arith}
use Rattle.dfdl_suspend.proofs.Padding.{filled_more}
use Rattle.dfdl_suspend.proofs.known.fill.Goals as goal

pub filling-preserved : goal.filling-preserved
filling-preserved c = (
  c.in-Ok.ensures.items ∙ filled_more c.args.values.now.items c.filling.values.items (length c.args.values.now.items) c.filling.at None c.filling.invariant.3 c.filling.invariant.0,
  omega (arith, c.in-Ok.ensures.capacity),
  omega arith,
  omega arith,
)

pub returns-clause-items : goal.returns-clause-items
returns-clause-items c =
    let same : c.filling.at - length c.args.values.now.items ≡ c.args.count - length c.args.values.now.items = omega arith in
    c.filling.invariant.0 ∙ ap (λ k. c.args.values.now.items ++ replicate k None) same
