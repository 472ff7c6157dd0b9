use Rattle.std.proofs.Common.{◌≡◌, ◌≤◌, ℕ, Bool, ap, ◌∙◌, arith}
use Rattle.dfdl_paths.specs.declared.found.Found.{Found}
use Rattle.dfdl_paths.specs.declared.place.Place.TheVariants.{At}
use Rattle.dfdl_paths.specs.Numbers.{one_if, those_below}
use Rattle.dfdl_paths.specs.Spans.{reached_by, with_item}
use Rattle.dfdl_paths.specs.Values.{found_of}
use Rattle.dfdl_paths.proofs.Below.{span-more}
use Rattle.dfdl_paths.proofs.Walked.{items-begin, items-end, found-if}
use Rattle.dfdl_paths.proofs.found.only_in.Goals as goal

pub loop-number-init : goal.loop-number-init
loop-number-init c =
    let course = c.args.course.now in
    ap found_of (items-begin course.names.now course.nodes.now course.from course.steps.now course.indexes.now
    c.args.span.from c.args.span.end c.requires.span)

pub loop-number-preserved : goal.loop-number-preserved
loop-number-preserved c =
    let test : ℕ → Bool = λ n. reached_by c.args.course.now (At n) in
    let n = c.loop-number.number in
    c.with_if-found.ensures
    ∙ ap (λ (f : Found). with_item f (one_if c.has_item.result n)) c.loop-number.invariant
    ∙ (found-if (those_below test n) c.has_item.result n
    ∙ ap found_of (span-more test n c.has_item.result c.has_item.ensures))

pub returns : goal.returns
returns c =
    let course = c.args.course.now in
    let last : c.loop-number.number ≡ c.args.span.end =
    (let top : c.loop-number.number ≤ c.args.span.end = c.loop-number.auto.number-end c.requires.span.order in
    omega (arith, top, c.loop-number-test.false)) in
    c.loop-number.invariant
    ∙ ap found_of (items-end course.names.now course.nodes.now course.from course.steps.now course.indexes.now
    c.args.span.from c.args.span.end c.requires.span c.loop-number.number last)
