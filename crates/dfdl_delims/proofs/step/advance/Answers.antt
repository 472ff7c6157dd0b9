use Rattle.dfdl_delims.specs.Candidates.{step}
use Rattle.dfdl_delims.proofs.Adding.{step_end, step_kept}
use Rattle.dfdl_delims.proofs.Completing.{advanced}
use Rattle.dfdl_delims.proofs.Living.{still_live}
use Rattle.dfdl_delims.proofs.step.advance.Goals as goal

pub loop-candidate-preserved : goal.loop-candidate-preserved
loop-candidate-preserved c =
    step_kept (step c.args.pieces.now c.args.byte c.args.from.now) c.loop-candidate.into.items c.add_step.new.into.items c.args.from.now c.args.pieces.now
    c.args.byte c.loop-candidate.candidate-index _ c.loop-candidate-test.true c.in_ok-add_step.ensures c.loop-candidate.invariant

pub returns-clause-adds : goal.returns-clause-adds
returns-clause-adds c =
    step_end (step c.args.pieces.now c.args.byte c.args.from.now) c.loop-candidate.into.items c.args.from.now c.args.pieces.now c.args.byte
    c.loop-candidate.candidate-index c.loop-candidate-test.false c.loop-candidate.invariant

pub returns-clause-completes : goal.returns-clause-completes
returns-clause-completes c = advanced c.args.pieces.now c.args.byte c.args.from.now c.loop-candidate.into.items (returns-clause-adds c)

pub returns-clause-dead : goal.returns-clause-dead
returns-clause-dead c = still_live c.args.pieces.now c.args.byte c.args.from.now c.loop-candidate.into.items (returns-clause-adds c)
