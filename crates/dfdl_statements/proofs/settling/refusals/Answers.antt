use Rattle.std.proofs.Common.{◌∙◌, ap}
use Rattle.dfdl_statements.specs.Settled.{row_refusal}
use Rattle.dfdl_statements.proofs.Refused.{refusal_put}
use Rattle.dfdl_statements.proofs.settling.refusals.Goals as goal

pub loop-number-preserved : goal.loop-number-preserved
loop-number-preserved c = λ read reads.
    let rows = c.args.scene.now.rows.now in
    let written = c.args.scene.now.written.now in
    refusal_put rows written c.loop-number.number read c.args.sight.now c.args.given c.loop-number.table.items c.push.new.self.items c.in_ok-refusal.refusal
    (c.loop-number.invariant read reads)
    (c.in_ok-refusal.ensures read reads ∙ ap (row_refusal read c.args.sight.now rows written c.args.given c.loop-number.number) c.as_slice.ensures.value)
    c.in_ok-push.ensures.items
