use Rattle.std.proofs.Common.{ap, sym, subst, length, set, ◌∙◌, arith, length-set}
use Rattle.std.proofs.lemmas.List.{length_push}
use Rattle.std.proofs.lemmas.Option.{slice_get_within}
use Rattle.dfdl_suspend.specs.Marks.{IsReadyList}
use Rattle.dfdl_suspend.specs.declared.mark.Mark.TheVariants.{Ready, Waits}
use Rattle.dfdl_suspend.proofs.Readies.{room_ready, waits_ready, came_ready}
use Rattle.dfdl_suspend.proofs.Waking.{Stepped, waking_step, waking_ends, woken_set}
use Rattle.dfdl_suspend.proofs.queue.wake.Goals as goal

pub prove-unreachable-requires : goal.prove-unreachable-requires
prove-unreachable-requires c =
    let step : Stepped c.waking.marks.items c.args.next.now c.args.unknown c.waking.at = waking_step c.waking.marks.items c.args.next.now c.args.unknown c.waking.at c.waking-test.true c.waking.invariant.waking in
    let low = slice_get_within c.waking.marks.items c.waking.at (Waits c.args.unknown) step.waits in
    absurd (omega (arith, low))

pub put_behind-requires : goal.put_behind-requires
put_behind-requires c =
    let step : Stepped c.waking.marks.items c.args.next.now c.args.unknown c.waking.at = waking_step c.waking.marks.items c.args.next.now c.args.unknown c.waking.at c.waking-test.true c.waking.invariant.waking in
    let less = room_ready c.waking.marks.items c.waking.ready.items c.waking.at (Waits c.args.unknown) c.waking.invariant.readies step.waits (waits_ready c.args.unknown) in
    omega (arith, less, c.requires.room, c.waking.invariant.long, c.waking.invariant.ready_stay)

pub waking-smaller : goal.waking-smaller
waking-smaller c =
    let step : Stepped c.waking.marks.items c.args.next.now c.args.unknown c.waking.at = waking_step c.waking.marks.items c.args.next.now c.args.unknown c.waking.at c.waking-test.true c.waking.invariant.waking in
    let less = room_ready c.waking.marks.items c.waking.ready.items c.waking.at (Waits c.args.unknown) c.waking.invariant.readies step.waits (waits_ready c.args.unknown) in
    let more = ap (λ xs. length xs) c.put_behind.ensures.items ∙ length_push c.waking.ready.items c.waking.at in
    let same = length-set c.waking.marks.items c.waking.at Ready in
    omega (arith, less, more, same)

pub waking-preserved : goal.waking-preserved
waking-preserved c =
    let marks = c.waking.marks.items in
    let step : Stepped c.waking.marks.items c.args.next.now c.args.unknown c.waking.at = waking_step c.waking.marks.items c.args.next.now c.args.unknown c.waking.at c.waking-test.true c.waking.invariant.waking in
    record {
      waking = step.rest;
      readies = subst (λ rs. IsReadyList (set marks c.waking.at Ready) rs) (sym c.put_behind.ensures.items)
          (came_ready marks c.waking.ready.items c.waking.invariant.readies c.waking.at (Waits c.args.unknown) step.waits (waits_ready c.args.unknown));
      same = woken_set c.args.unknown c.waking.at marks step.waits ∙ c.waking.invariant.same;
      long = length-set marks c.waking.at Ready ∙ c.waking.invariant.long;
      marks_stay = c.waking.invariant.marks_stay;
      ready_stay = omega (arith, c.put_behind.ensures.capacity, c.waking.invariant.ready_stay);
    }

pub returns-clause-marks : goal.returns-clause-marks
returns-clause-marks c =
    sym (waking_ends c.waking.marks.items c.args.next.now c.args.unknown c.waking.at c.waking-test.false (omega (arith, c.requires.few, c.waking.invariant.long)) c.waking.invariant.waking)
    ∙ c.waking.invariant.same
