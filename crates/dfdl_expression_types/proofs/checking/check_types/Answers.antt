use Rattle.std.proofs.Common.{[], ap, ◌∙◌}
use Rattle.dfdl_expression_types.specs.Running.{first, run}
use Rattle.dfdl_expression_types.proofs.Runs.{judged}
use Rattle.dfdl_expression_types.proofs.checking.check_types.Goals as goal

pub returns : goal.returns
returns c = record {
  answer =
      λ f same. judged c.args.statics.now c.args.text.now c.args.tree.now.nodes.items c.in_ok-note.note c.verdict.result
      (c.in_ok-note.ensures ∙ (ap (λ t. first (run c.args.statics.now t c.deref.result.now [])) c.as_bytes.ensures.value
      ∙ ap (λ ns. first (run c.args.statics.now c.args.text.now ns [])) c.deref.ensures.value))
      c.verdict.ensures f same;
}
