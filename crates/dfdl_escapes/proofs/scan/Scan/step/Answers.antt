use Rattle.std.proofs.Common.{◌-◌}
use Rattle.dfdl_bits.specs.Window.{seen_at}
use Rattle.dfdl_escapes.specs.Readings.{step_shown}
use Rattle.dfdl_escapes.specs.Steps.{step_at}
use Rattle.dfdl_escapes.proofs.Coming.{from-none}
use Rattle.dfdl_escapes.proofs.scan.Scan.step.Goals as goal

pub returns-clause-answers : goal.returns-clause-answers
returns-clause-answers g c = λ opened test holds decides.
    let scan = c.args.self.now in
    let turn = c.in_ok-turn.turn in
    let read = from-none (seen_at c.args.window.now) (step_at test opened scan.form scan.at) (step_shown turn.at turn.scanned)
    (c.walk.new.steps - c.args.steps.now) c.in_ok-turn.far (c.in_ok-turn.ensures.comes opened test holds decides) in
    record { reached = read.0; looks = read.1; far = read.2 }
