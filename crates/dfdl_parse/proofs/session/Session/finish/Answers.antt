use Rattle.std.proofs.Common.{◌-◌, ◌∙◌}
use Rattle.dfdl_parse.proofs.Pieces.{ended}
use Rattle.dfdl_parse.proofs.session.Session.finish.Goals as goal

pub returns-clause-done : goal.returns-clause-done
returns-clause-done g c stream start spent allowed stands =
    (ended c.args.self.now c.run.new.self c.tell_end.new.self (c.run.new.steps - c.args.steps.now) c.requires.sound (c.in_ok-run.ensures.kept ∙ c.requires.sound.memory) c.tell_end.ensures
    stream start spent allowed stands
    c.in_ok-run.field-0 c.in_ok-run.ensures.waits c.in_ok-run.ensures.ended c.in_ok-run.ensures.over).0

pub returns-clause-taken : goal.returns-clause-taken
returns-clause-taken g c stream start spent allowed stands =
    (ended c.args.self.now c.run.new.self c.tell_end.new.self (c.run.new.steps - c.args.steps.now) c.requires.sound (c.in_ok-run.ensures.kept ∙ c.requires.sound.memory) c.tell_end.ensures
    stream start spent allowed stands
    c.in_ok-run.field-0 c.in_ok-run.ensures.waits c.in_ok-run.ensures.ended c.in_ok-run.ensures.over).1
