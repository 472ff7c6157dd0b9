use Rattle.std.proofs.Common.{◌∙◌, sym, arith}
use Rattle.dfdl_escapes.specs.Trims.{unescaped}
use Rattle.dfdl_escapes.proofs.TrimmedContents.{last_passes, last_stops}
use Rattle.dfdl_escapes.proofs.trimming.before_pads.Goals as goal

pub loop-end-preserved : goal.loop-end-preserved
loop-end-preserved c = record {
  within = omega arith;
  same =
      last_passes c.args.trim c.args.characters.now c.loop-end.end (unescaped 0) (omega arith) (omega arith)
      (sym c.is_pad.ensures ∙ c.if-not-is_pad.false) ∙ c.loop-end.invariant.same;
}

pub returns-then-not-is_pad : goal.returns-then-not-is_pad
returns-then-not-is_pad c =
    sym (last_stops c.args.trim c.args.characters.now c.loop-end.end (unescaped 0) (omega arith) (omega arith)
    (sym c.is_pad.ensures ∙ c.if-not-is_pad.true)) ∙ c.loop-end.invariant.same
