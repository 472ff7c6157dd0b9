use Rattle.std.proofs.Common.{◌∙◌, sym, ap, arith}
use Rattle.dfdl_text_string.specs.Padding.{is_trim}
use Rattle.dfdl_lemmas.proofs.TrimmedLists.{without_trailing-last_passes, without_trailing-last_stops}
use Rattle.dfdl_text_string.proofs.padding.before_trailing.Goals as goal

pub loop-end-preserved : goal.loop-end-preserved
loop-end-preserved c = record {
  within = omega arith;
  same =
      without_trailing-last_passes (is_trim c.args.trim) c.args.text.now c.loop-end.end c.index-text-end.result (omega arith) (omega arith)
      (ap (is_trim c.args.trim) (sym c.index-text-end.is) ∙ sym c.is_trimmed.ensures ∙ c.if-not-is_trimmed.false) ∙ c.loop-end.invariant.same;
}

pub returns-then-not-is_trimmed : goal.returns-then-not-is_trimmed
returns-then-not-is_trimmed c =
    sym (without_trailing-last_stops (is_trim c.args.trim) c.args.text.now c.loop-end.end c.index-text-end.result (omega arith) (omega arith)
    (ap (is_trim c.args.trim) (sym c.index-text-end.is) ∙ sym c.is_trimmed.ensures ∙ c.if-not-is_trimmed.true)) ∙ c.loop-end.invariant.same
