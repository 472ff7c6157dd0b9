use Rattle.std.proofs.Common.{◌+◌, ◌-◌, ◌*◌, ◌≤◌, length, max, refl, ap, ◌∙◌, arith}
use Rattle.dfdl_bits.specs.Window.{end_of, seen_at}
use Rattle.dfdl_texts.proofs.Steps.{run-step, run-fits}
use Rattle.dfdl_texts.proofs.spot.take_run.Goals as goal

pub returns-clause-left : goal.returns-clause-left
returns-clause-left g c =
    let task = c.args.task.now in
    let spot = c.args.spot in
    let run = c.decode_run-run.result.now in
    run-step (seen_at task.window.now) task.enc task.replaces task.extent task.stop run spot.left (spot.left - length run) spot.place (8 * spot.place)
    (spot.place + length run) c.args.steps.now c.decode_run-run.new.steps spot.far c.max.result c.args.into.now.items c.put.new.into.items
    c.decode_run-run.ensures.each (omega arith) (omega (arith, c.decode_run-run.ensures.few)) c.in_ok-put.ensures refl c.decode_run-run.ensures.looks
    (c.max.ensures ∙ ap (max spot.far) c.far_of_run.ensures)

pub returns-clause-behind : goal.returns-clause-behind
returns-clause-behind g c =
    let task = c.args.task.now in
    let spot = c.args.spot in
    let run = c.decode_run-run.result.now in
    let fits : spot.place + length run ≤ max spot.place (end_of task.window.now) =
    run-fits task.window.now task.enc task.stop spot.place (8 * spot.place) c.args.steps.now run c.requires.base (omega arith) c.decode_run-run.ensures.each in
    record { place = omega arith; come = fits; left = omega arith }
