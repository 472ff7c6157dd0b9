use Rattle.std.proofs.Common.{◌≡◌, ◌≤◌, ◌+◌, inl, sym, ap, ◌∙◌, arith}
use Rattle.dfdl_paths.specs.Elements.{is_child}
use Rattle.dfdl_paths.specs.Numbers.{count_if, count_below}
use Rattle.dfdl_paths.proofs.Below.{count-none, count-more, count-few}
use Rattle.dfdl_paths.proofs.Children.{outside-none}
use Rattle.dfdl_paths.proofs.index.place_among.Goals as goal

pub loop-other-init : goal.loop-other-init
loop-other-init c = record {
  few = omega arith;
  counted = sym (count-none (is_child c.args.names.now c.args.nodes.now c.args.name c.around-outer.result) c.inside_of-other.result.from
      (λ n less. outside-none c.args.names.now c.args.nodes.now c.args.name c.around-outer.result c.inside_of-other.result.from
      c.inside_of-other.result.end
      c.inside_of-other.ensures n (inl less)));
}

pub loop-other-preserved : goal.loop-other-preserved
loop-other-preserved c =
    let test = is_child c.args.names.now c.args.nodes.now c.args.name c.around-outer.result in
    let at = c.loop-other.other in
    let more : count_below test (at + 1) ≡ count_below test at + count_if (test at) = count-more test at in
    let one : c.one_if-place.result ≡ count_if (test at) = c.one_if-place.ensures ∙ ap count_if c.is_child.ensures in
    let counted = c.loop-other.invariant.counted in
    let few : count_below test (at + 1) ≤ at + 1 = count-few test (at + 1) in
    record {
      few = omega (arith, more, one, counted, few);
      counted = omega (arith, more, one, counted);
    }
