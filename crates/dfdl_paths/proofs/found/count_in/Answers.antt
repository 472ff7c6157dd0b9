use Rattle.std.proofs.Common.{◌≡◌, ◌≤◌, ◌+◌, ℕ, Bool, length, ap, ◌∙◌, arith}
use Rattle.dfdl_paths.specs.declared.place.Place.TheVariants.{At}
use Rattle.dfdl_paths.specs.Spans.{reached_by}
use Rattle.dfdl_paths.specs.Numbers.{those_below}
use Rattle.dfdl_paths.proofs.Below.{length-more, those-few}
use Rattle.dfdl_paths.proofs.Walked.{items-begin, items-end}
use Rattle.dfdl_paths.proofs.found.count_in.Goals as goal

pub loop-number-init : goal.loop-number-init
loop-number-init c =
    let course = c.args.course.now in
    record {
      few = omega arith;
      counted = ap length (items-begin course.names.now course.nodes.now course.from course.steps.now course.indexes.now
          c.args.span.from c.args.span.end c.requires.span);
    }

pub loop-number-preserved : goal.loop-number-preserved
loop-number-preserved c =
    let test : ℕ → Bool = λ n. reached_by c.args.course.now (At n) in
    let n = c.loop-number.number in
    let counted : c.loop-number.count + c.one_if-count.result ≡ length (those_below test (n + 1)) =
    ap (λ m. m + c.one_if-count.result) c.loop-number.invariant.counted
    ∙ (ap (λ m. length (those_below test n) + m) c.one_if-count.ensures ∙ length-more test n c.has_item.result c.has_item.ensures) in
    let few : length (those_below test (n + 1)) ≤ n + 1 = those-few test (n + 1) in
    record { few = omega (arith, counted, few); counted = counted }

pub returns : goal.returns
returns c =
    let course = c.args.course.now in
    let last : c.loop-number.number ≡ c.args.span.end =
    (let top : c.loop-number.number ≤ c.args.span.end = c.loop-number.auto.number-end c.requires.span.order in
    omega (arith, top, c.loop-number-test.false)) in
    c.loop-number.invariant.counted
    ∙ ap length (items-end course.names.now course.nodes.now course.from course.steps.now course.indexes.now
    c.args.span.from c.args.span.end c.requires.span c.loop-number.number last)
