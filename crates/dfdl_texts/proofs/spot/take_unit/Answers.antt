use Rattle.std.proofs.Common.{◌≡◌, ◌+◌, ◌-◌, ◌≤◌, suc, refl, arith}
use Rattle.dfdl_bits.specs.Window.{end_of, seen_at}
use Rattle.dfdl_texts.proofs.Steps.{takes-step, stops-step}
use Rattle.dfdl_texts.proofs.spot.take_unit.Goals as goal

pub returns-in_ok-push-in-Takes-clause-turn : goal.returns-in_ok-push-in-Takes-clause-turn
returns-in_ok-push-in-Takes-clause-turn g c =
    let task = c.args.task.now in
    let spot = c.args.spot in
    let some : spot.left ≡ suc (spot.left - 1) = omega (arith, c.if-spot-eq0.false) in
    let within : spot.place + c.in-Takes.bytes ≤ end_of task.window.now = c.in-Takes.ensures.within (end_of task.window.now) c.unit_at-chars.ensures.fits in (
      takes-step (seen_at task.window.now) task.enc task.replaces task.extent task.stop spot.left (spot.left - 1) spot.place c.args.steps.now
          c.unit_at-chars.new.steps spot.far c.unit_at-chars.result.1 c.max-far.result c.args.into.now.items c.unit_at-chars.result.0 some
          c.unit_at-chars.ensures.unit c.max-far.ensures c.in-Takes.c c.in-Takes.bytes (spot.place + c.in-Takes.bytes) (spot.left - 1) c.push.new.self.items
          (λ go t. c.in-Takes.ensures.shown (seen_at task.window.now) c.args.into.now.items go t) c.in_ok-push-in-Takes.ensures.items refl refl,
      record { place = omega arith; come = omega arith; left = omega arith },
      omega arith,
    )

pub returns-in-Stops-clause-turn : goal.returns-in-Stops-clause-turn
returns-in-Stops-clause-turn g c =
    let task = c.args.task.now in
    let spot = c.args.spot in
    let some : spot.left ≡ suc (spot.left - 1) = omega (arith, c.if-spot-eq0.false) in
    stops-step (seen_at task.window.now) task.enc task.replaces task.extent task.stop spot.left (spot.left - 1) spot.place c.args.steps.now
    c.unit_at-chars.new.steps spot.far c.unit_at-chars.result.1 c.max-far.result c.args.into.now.items c.unit_at-chars.result.0 some
    c.unit_at-chars.ensures.unit c.max-far.ensures c.in-Stops.found
    (λ go t. c.in-Stops.ensures.shown (seen_at task.window.now) c.args.into.now.items go t)
