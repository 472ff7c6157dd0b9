use Rattle.std.proofs.Common.{◌≡◌, ◌≤◌, ◌+◌, sym, ap, ◌∙◌, arith}
use Rattle.dfdl_paths.specs.Elements.{stand_together}
use Rattle.dfdl_paths.specs.Numbers.{count_if, count_below}
use Rattle.dfdl_paths.proofs.Below.{count-none, count-more, count-few}
use Rattle.dfdl_paths.proofs.Occurrences.{apart-before}
use Rattle.dfdl_paths.proofs.occurs.place_of.Goals as goal

pub loop-other-init : goal.loop-other-init
loop-other-init c = record {
  few = omega arith;
  counted = sym (count-none (stand_together c.args.nodes.now c.args.number) c.inside_of-other.result.from
      (λ n less. apart-before c.args.nodes.now c.args.number c.around-outer.result c.inside_of-other.result.from c.inside_of-other.result.end
      c.around-outer.ensures c.inside_of-other.ensures n less));
}

pub loop-other-preserved : goal.loop-other-preserved
loop-other-preserved c =
    let test = stand_together c.args.nodes.now c.args.number in
    let at = c.loop-other.other in
    let more : count_below test (at + 1) ≡ count_below test at + count_if (test at) = count-more test at in
    let one : c.one_if-place.result ≡ count_if (test at) = c.one_if-place.ensures ∙ ap count_if c.stand_together.ensures in
    let counted = c.loop-other.invariant.counted in
    let few : count_below test (at + 1) ≤ at + 1 = count-few test (at + 1) in
    record {
      few = omega (arith, more, one, counted, few);
      counted = omega (arith, more, one, counted);
    }
