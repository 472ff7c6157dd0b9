use Rattle.std.proofs.Common.{◌-◌, ◌*◌, arith}
use Rattle.dfdl_bits.specs.Window.{seen_at}
use Rattle.dfdl_looks.specs.Asks.{Answer}
use Rattle.dfdl_delims.specs.Longest.{found_shown, longest_at}
use Rattle.dfdl_escapes.specs.Readings.{end_shown}
use Rattle.dfdl_escapes.specs.Steps.{ended_by}
use Rattle.dfdl_escapes.proofs.Coming.{longest-comes, then-comes, told}
use Rattle.dfdl_escapes.proofs.end.end_at.Goals as goal

pub returns-clause-end : goal.returns-clause-end
returns-clause-end g c = λ opened test holds decides t.
    let look = seen_at c.args.window.now in
    let stop = c.args.form.now.stop in
    then-comes look (longest_at test opened stop c.args.byte) (λ found. Answer (ended_by found)) (found_shown c.in_ok-glance.glance.found)
    (end_shown c.end_of.result) (c.longest.new.steps - c.args.steps.now) 0 c.in_ok-glance.glance.far 0 _ _
    (λ u. longest-comes look test opened stop (8 * c.args.byte) c.args.byte (c.longest.new.steps - c.args.steps.now) c.in_ok-glance.glance (omega arith)
    (c.in_ok-glance.ensures.answers opened test holds decides) u)
    (λ u. told u _ (end_shown c.end_of.result) (c.end_of.ensures look u)) (omega arith) (omega arith) t
