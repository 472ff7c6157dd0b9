use Rattle.std.proofs.Common.{◌≡◌, ℕ, ◌+◌, ◌-◌, ◌<◌, refl, sym, subst, ◌∙◌, arith}
use Rattle.dfdl_bits.specs.Window.{seen_at}
use Rattle.dfdl_delims.specs.Hits.{hit_shown}
use Rattle.dfdl_delims.specs.Longest.{NoText}
use Rattle.dfdl_delims.specs.Searching.{Going}
use Rattle.dfdl_delims.proofs.Going.{box_answers, byte_goes, end_answers, past_answers, text_answers, waits_answers}
use Rattle.dfdl_delims.proofs.finding.find.Goals as goal

pub bytes-init : goal.bytes-init
bytes-init g c = record {
  going = λ starts looks going.
      subst (λ n. Going (seen_at c.args.window.now) c.args.pieces.now starts c.args.live.now.items c.args.first c.args.last c.args.begun c.args.seen n NoText)
      (none looks c.args.steps.now) going;
  begun = c.requires.begun;
  bound = c.requires.bound;
  held = omega arith;
  steps = omega arith;
}
  where
    none : (looks steps : ℕ) → looks ≡ looks + (steps - steps)
    none looks steps = omega arith

pub returns-then-place-last-clause-answers : goal.returns-then-place-last-clause-answers
returns-then-place-last-clause-answers g c = λ starts looks lists test stands decides begun.
    let going = c.bytes.invariant.going starts looks begun in
    box_answers (seen_at c.args.window.now) c.args.pieces.now starts c.bytes.live.items c.deref.result.now c.bytes.live.items c.args.first
    c.args.last c.bytes.place c.bytes.far (looks + (c.bytes.steps - c.args.steps.now)) (hit_shown c.bytes.hit) (hit_shown c.better-now.result) going
    c.deref.ensures.value refl c.innermost.result c.innermost.ensures (c.better-now.ensures (c.bytes.place - c.args.first) refl) c.if-place-last.true
    c.found_of.result c.found_of.ensures lists test stands decides

pub returns-then-not-some_more-clause-answers : goal.returns-then-not-some_more-clause-answers
returns-then-not-some_more-clause-answers g c = λ starts looks lists test stands decides begun.
    let going = c.bytes.invariant.going starts looks begun in
    let before : c.bytes.place < c.args.last = c.if-place-last.false in
    text_answers (seen_at c.args.window.now) c.args.pieces.now starts c.bytes.live.items c.deref.result.now c.deref-in-bytes.result.now c.args.first
    c.args.last c.bytes.place c.bytes.far (looks + (c.bytes.steps - c.args.steps.now)) (hit_shown c.bytes.hit) (hit_shown c.better-now.result) going
    c.deref.ensures.value c.deref-in-bytes.ensures.value c.innermost.result c.innermost.ensures (c.better-now.ensures (c.bytes.place - c.args.first) refl)
    before (sym c.if-not-some_more.true ∙ c.some_more.ensures)
    c.found_of-then-not-some_more.result c.found_of-then-not-some_more.ensures lists test stands decides

pub bytes-preserved : goal.bytes-preserved
bytes-preserved g c =
    let before : c.bytes.place < c.args.last = c.if-place-last.false in
    record {
      going = λ starts looks begun.
          (let going = c.bytes.invariant.going starts looks begun in
          byte_goes (seen_at c.args.window.now) c.args.pieces.now starts c.bytes.live.items c.deref.result.now c.deref-in-bytes.result.now
          c.args.first c.args.last c.bytes.place c.bytes.far (looks + (c.bytes.steps - c.args.steps.now)) (hit_shown c.bytes.hit) (hit_shown c.better-now.result)
          going c.deref.ensures.value c.deref-in-bytes.ensures.value c.innermost.result c.innermost.ensures
          (c.better-now.ensures (c.bytes.place - c.args.first) refl) before (sym c.if-not-some_more.false ∙ c.some_more.ensures) c.in-Byte.byte
          (sym c.look.ensures.seen ∙ c.in-Byte.is) c.deref-in-Byte.result.now c.advance.new.into.items c.swap.new.x.items c.deref-in-Byte.ensures.value
          (λ i. (c.swap.ensures.x_after i).items) c.in_ok-advance-in-Byte.ensures.dead c.in_ok-advance-in-Byte.ensures.completes
          (looks + (c.look.new.steps - c.args.steps.now)) (omega (arith, c.look.ensures.cost, c.bytes.invariant.steps)));
      begun = omega (arith, c.bytes.invariant.begun);
      bound = omega (arith, before);
      held = omega (arith, c.bytes.invariant.held);
      steps = omega (arith, c.look.ensures.cost, c.bytes.invariant.steps);
    }

pub returns-in-End-clause-answers : goal.returns-in-End-clause-answers
returns-in-End-clause-answers g c = λ starts looks lists test stands decides begun.
    let going = c.bytes.invariant.going starts looks begun in
    let before : c.bytes.place < c.args.last = c.if-place-last.false in
    end_answers (seen_at c.args.window.now) c.args.pieces.now starts c.bytes.live.items c.deref.result.now c.deref-in-bytes.result.now c.args.first
    c.args.last c.bytes.place c.bytes.far (looks + (c.bytes.steps - c.args.steps.now)) (hit_shown c.bytes.hit) (hit_shown c.better-now.result) going
    c.deref.ensures.value c.deref-in-bytes.ensures.value c.innermost.result c.innermost.ensures (c.better-now.ensures (c.bytes.place - c.args.first) refl)
    before (sym c.if-not-some_more.false ∙ c.some_more.ensures) (sym c.look.ensures.seen ∙ c.in-End.is)
    c.found_of-in-End.result c.found_of-in-End.ensures
    (looks + (c.look.new.steps - c.args.steps.now)) (omega (arith, c.look.ensures.cost, c.bytes.invariant.steps)) lists test stands decides

pub returns-in-NotYet-clause-answers : goal.returns-in-NotYet-clause-answers
returns-in-NotYet-clause-answers g c = λ starts looks lists test stands decides begun.
    let going = c.bytes.invariant.going starts looks begun in
    let before : c.bytes.place < c.args.last = c.if-place-last.false in
    waits_answers (seen_at c.args.window.now) c.args.pieces.now starts c.bytes.live.items c.deref.result.now c.deref-in-bytes.result.now c.args.first
    c.args.last c.bytes.place c.bytes.far (looks + (c.bytes.steps - c.args.steps.now)) (hit_shown c.bytes.hit) (hit_shown c.better-now.result) going
    c.deref.ensures.value c.deref-in-bytes.ensures.value c.innermost.result c.innermost.ensures (c.better-now.ensures (c.bytes.place - c.args.first) refl)
    before (sym c.if-not-some_more.false ∙ c.some_more.ensures) (sym c.look.ensures.seen ∙ c.in-NotYet.is)
    (looks + (c.look.new.steps - c.args.steps.now)) (omega (arith, c.look.ensures.cost, c.bytes.invariant.steps)) lists test stands decides

pub returns-in-Over-clause-answers : goal.returns-in-Over-clause-answers
returns-in-Over-clause-answers g c = λ starts looks lists test stands decides begun.
    let going = c.bytes.invariant.going starts looks begun in
    let before : c.bytes.place < c.args.last = c.if-place-last.false in
    past_answers (seen_at c.args.window.now) c.args.pieces.now starts c.bytes.live.items c.deref.result.now c.deref-in-bytes.result.now c.args.first
    c.args.last c.bytes.place c.bytes.far (looks + (c.bytes.steps - c.args.steps.now)) (hit_shown c.bytes.hit) (hit_shown c.better-now.result) going
    c.deref.ensures.value c.deref-in-bytes.ensures.value c.innermost.result c.innermost.ensures (c.better-now.ensures (c.bytes.place - c.args.first) refl)
    before (sym c.if-not-some_more.false ∙ c.some_more.ensures) (sym c.look.ensures.seen ∙ c.in-Over.is)
    (looks + (c.look.new.steps - c.args.steps.now)) (omega (arith, c.look.ensures.cost, c.bytes.invariant.steps)) lists test stands decides
