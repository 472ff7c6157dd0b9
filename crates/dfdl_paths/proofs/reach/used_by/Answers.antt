use Rattle.std.proofs.Common.{sym, ◌∙◌, arith}
use Rattle.std.proofs.lemmas.List.{drop-drop}
use Rattle.std.proofs.lemmas.Option.{get_or_from_slice_get}
use Rattle.dfdl_paths.proofs.Follows.{behind-more, behind-begin}
use Rattle.dfdl_paths.proofs.reach.used_by.Goals as goal

pub loop-at-init : goal.loop-at-init
loop-at-init c = record { few = omega arith; behind = λ ix. behind-begin ix }

pub loop-at-preserved : goal.loop-at-preserved
loop-at-preserved c =
    let step = c.step_at.result in
    let few = c.loop-at.invariant.few in
    let uses = c.uses-used.ensures.few in
    let within = c.requires in
    let less = c.loop-at-test.true in
    record {
      few = omega (arith, few, uses);
      behind = λ ix. behind-more c.args.steps.now c.loop-at.at c.loop-at.used c.uses-used.result step ix (omega (arith, less, within))
          (sym (get_or_from_slice_get c.args.steps.now c.loop-at.at step step c.step_at.ensures)) (c.loop-at.invariant.behind ix)
          c.uses-used.ensures.behind
          ∙ drop-drop c.uses-used.result c.loop-at.used ix;
    }
