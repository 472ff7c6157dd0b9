use Rattle.std.proofs.Common.{◌≤◌, length, ap, subst, sym, ◌∙◌}
use Rattle.dfdl_expressions.specs.Nodes.{IsExpression}
use Rattle.dfdl_expression_eval.specs.Rooms.{operands_in}
use Rattle.dfdl_expression_compile.specs.Running.{all_nodes}
use Rattle.dfdl_expression_compile.proofs.Compiles.{tree_sound}
use Rattle.dfdl_expression_compile.proofs.Runs.{all_compiled}
use Rattle.dfdl_expression_compile.proofs.resolving.resolve.Goals as goal

pub returns-in-Ok-clause-answer : goal.returns-in-Ok-clause-answer
returns-in-Ok-clause-answer c = λ f same. (
  c.in_ok-types.ensures.answer f same,
  c.in-Ok.ensures.nodes ∙ (ap (λ t. all_nodes c.args.statics.now t c.deref.result.now) c.as_bytes.ensures.value
      ∙ (ap (λ ns. all_nodes c.args.statics.now c.args.text.now ns) c.deref.ensures.value
      ∙ all_compiled c.args.statics.now c.args.text.now f c.args.tree.now.nodes.items same)),
)

pub returns-in-Ok-clause-single : goal.returns-in-Ok-clause-single
returns-in-Ok-clause-single c =
    let s = c.args.statics.now in
    let tree = tree_sound s c.args.text.now c.args.tree.now.nodes.items c.in_ok-types.types c.requires.tree c.in_ok-types.ensures.answer in
    let is = c.in-Ok.ensures.nodes ∙ (ap (λ t. all_nodes s t c.deref.result.now) c.as_bytes.ensures.value
    ∙ ap (λ ns. all_nodes s c.args.text.now ns) c.deref.ensures.value) in
    subst (λ ns. operands_in ns ≤ length ns) (sym is) tree.single

pub compile-requires : goal.compile-requires
compile-requires c = record {
  sound =
      let s = c.args.statics.now in
      let tree = tree_sound s c.args.text.now c.args.tree.now.nodes.items c.in_ok-types.types c.requires.tree c.in_ok-types.ensures.answer in
      subst (λ t. IsExpression (all_nodes s t c.deref.result.now)) (sym c.as_bytes.ensures.value)
      (subst (λ ns. IsExpression (all_nodes s c.args.text.now ns)) (sym c.deref.ensures.value) tree.expression);
}
