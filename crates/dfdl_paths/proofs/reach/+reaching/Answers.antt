use Rattle.std.proofs.Common.{◌≡◌, ◌&&◌, ◌||◌, ℕ, Bool, Some, length, sym, ap, ◌∙◌, arith}
use Rattle.std.proofs.Math.Bool.{or-true}
use Rattle.dfdl_expressions.specs.declared.path.Step.TheVariants.{Here, Up, Down}
use Rattle.dfdl_paths.specs.declared.place.Place.TheVariants.{At}
use Rattle.dfdl_paths.specs.Elements.{around, is_place}
use Rattle.dfdl_paths.specs.Leads.{holds_reached, only_at}
use Rattle.dfdl_paths.specs.Spans.{reached_first}
use Rattle.dfdl_paths.specs.Numbers.{some_below}
use Rattle.dfdl_paths.proofs.Below.{some-at, some-begin, some-next}
use Rattle.dfdl_paths.proofs.Bits.{and_of, and_none}
use Rattle.dfdl_paths.proofs.Follows.{reach-step, up-none}
use Rattle.dfdl_paths.proofs.reach.+reaching.Goals as goal
use Rattle.dfdl_paths.proofs.reach.+reaching.Goals.{reaches_up-then-is+else-reaches, reaches_up-else-is}

pub reaches-returns-in-Here : goal.reaches-returns-in-Here
reaches-returns-in-Here t c =
    let course = c.args.course.now in
    c.reaches.ensures
    ∙ sym (reach-step course.names.now course.nodes.now course.steps.now c.args.count Here course.indexes.now (only_at (Some course.from))
    c.args.place (omega arith) (c.step_at.ensures ∙ ap Some c.in-Here.is))

pub reaches-returns-in-Up : goal.reaches-returns-in-Up
reaches-returns-in-Up t c =
    let course = c.args.course.now in
    c.reaches_up.ensures
    ∙ sym (reach-step course.names.now course.nodes.now course.steps.now c.args.count Up course.indexes.now (only_at (Some course.from))
    c.args.place (omega arith) (c.step_at.ensures ∙ ap Some c.in-Up.is))

pub reaches-returns-in-Down : goal.reaches-returns-in-Down
reaches-returns-in-Down t c =
    let course = c.args.course.now in
    c.reaches_down.ensures
    ∙ sym (reach-step course.names.now course.nodes.now course.steps.now c.args.count (Down c.in-Down.name c.in-Down.indexed)
    course.indexes.now (only_at (Some course.from))
    c.args.place (omega arith) (c.step_at.ensures ∙ ap Some c.in-Down.is))

pub reaches_up-loop-number-init : goal.reaches_up-loop-number-init
reaches_up-loop-number-init t c =
    let nodes = c.args.course.now.nodes.now in
    let reached = reached_first c.args.course.now c.args.before in
    some-begin (λ n. is_place (around nodes n) c.args.place && reached (At n))

pub reaches_up-loop-number-preserved : goal.reaches_up-loop-number-preserved
reaches_up-loop-number-preserved t c =
    let nodes = c.args.course.now.nodes.now in
    let reached = reached_first c.args.course.now c.args.before in
    let n = c.loop-number.number in
    let test : ℕ → Bool = λ n. is_place (around nodes n) c.args.place && reached (At n) in
    elim c.if-is.branch [
      | reaches_up-then-is+else-reaches w ↦ some-next test n c.loop-number.invariant
          (and_none (is_place (around nodes n) c.args.place) (reached (At n)) (sym w.reaches.ensures ∙ w.if-reaches.false))
      | reaches_up-else-is w ↦ some-next test n c.loop-number.invariant
          (ap (λ b. b && reached (At n)) (ap (λ p. is_place p c.args.place) (sym c.around.ensures) ∙ sym c.is.ensures ∙ w.if-is.false))
    ]

pub reaches_up-returns-then-reaches : goal.reaches_up-returns-then-reaches
reaches_up-returns-then-reaches t c =
    let nodes = c.args.course.now.nodes.now in
    let reached = reached_first c.args.course.now c.args.before in
    let n = c.loop-number.number in
    let here = ap (λ p. is_place p c.args.place) (sym c.around.ensures) ∙ sym c.is.ensures ∙ c.if-is.true in
    sym (ap (λ b. holds_reached reached c.args.place || b)
    (some-at (λ n. is_place (around nodes n) c.args.place && reached (At n)) n (length nodes) c.loop-number-test.true
    (and_of (is_place (around nodes n) c.args.place) (reached (At n)) here (sym c.reaches.ensures ∙ c.if-reaches.true)))
    ∙ or-true (holds_reached reached c.args.place))

pub reaches_up-returns-in-At : goal.reaches_up-returns-in-At
reaches_up-returns-in-At t c =
    let nodes = c.args.course.now.nodes.now in
    let reached = reached_first c.args.course.now c.args.before in
    let last : c.loop-number.number ≡ length nodes = omega (arith, c.loop-number.auto.number-end, c.loop-number-test.false) in
    c.reaches-in-At.ensures ∙ ap (holds_reached reached) (sym c.in-At.is)
    ∙ sym (up-none nodes reached c.args.place
    (ap (some_below (λ n. is_place (around nodes n) c.args.place && reached (At n))) (sym last) ∙ c.loop-number.invariant))

pub reaches_up-returns-in-Above : goal.reaches_up-returns-in-Above
reaches_up-returns-in-Above t c =
    let nodes = c.args.course.now.nodes.now in
    let reached = reached_first c.args.course.now c.args.before in
    let last : c.loop-number.number ≡ length nodes = omega (arith, c.loop-number.auto.number-end, c.loop-number-test.false) in
    ap (holds_reached reached) (sym c.in-Above.is)
    ∙ sym (up-none nodes reached c.args.place
    (ap (some_below (λ n. is_place (around nodes n) c.args.place && reached (At n))) (sym last) ∙ c.loop-number.invariant))

pub reaches_up-returns-in-Inside : goal.reaches_up-returns-in-Inside
reaches_up-returns-in-Inside t c =
    let nodes = c.args.course.now.nodes.now in
    let reached = reached_first c.args.course.now c.args.before in
    let last : c.loop-number.number ≡ length nodes = omega (arith, c.loop-number.auto.number-end, c.loop-number-test.false) in
    ap (holds_reached reached) (sym c.in-Inside.is)
    ∙ sym (up-none nodes reached c.args.place
    (ap (some_below (λ n. is_place (around nodes n) c.args.place && reached (At n))) (sym last) ∙ c.loop-number.invariant))
