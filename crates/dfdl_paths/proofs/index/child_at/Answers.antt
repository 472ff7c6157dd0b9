use Rattle.std.proofs.Common.{◌≡◌, ◌&&◌, ◌+◌, suc, eqb, inl, sym, ap, ◌∙◌, arith}
use Rattle.dfdl_paths.specs.Elements.{is_child}
use Rattle.dfdl_paths.specs.Numbers.{count_if, count_below}
use Rattle.dfdl_paths.proofs.Below.{count-none, count-more, count-one}
use Rattle.dfdl_paths.proofs.Children.{outside-none, child-found, child-none, passed-other, passed-none}
use Rattle.dfdl_paths.proofs.index.child_at.Goals as goal
use Rattle.dfdl_paths.proofs.index.child_at.Goals.{then-is_child+else-seen-index, else-is_child}

pub loop-number-init : goal.loop-number-init
loop-number-init c =
    let test = is_child c.args.names.now c.args.nodes.now c.args.name c.args.outer in
    let outside = outside-none c.args.names.now c.args.nodes.now c.args.name c.args.outer c.inside_of-span.result.from c.inside_of-span.result.end
    c.inside_of-span.ensures in
    record {
      few = omega arith;
      counted = sym (count-none test c.inside_of-span.result.from (λ n less. outside n (inl less)));
      passed = λ n less. ap (λ b. b && eqb (count_below test (suc n)) c.args.index) (outside n (inl less));
    }

pub returns-then-seen-index : goal.returns-then-seen-index
returns-then-seen-index c = λ q.
    let test = is_child c.args.names.now c.args.nodes.now c.args.name c.args.outer in
    let is = sym c.is_child.ensures ∙ c.if-is_child.true in
    let one : count_below test (suc c.loop-number.number) ≡ count_below test c.loop-number.number + 1 = count-one test c.loop-number.number is in
    let counted = c.loop-number.invariant.counted in
    child-found c.args.names.now c.args.nodes.now c.args.name c.args.outer c.args.index c.loop-number.number is
    (one ∙ ap (λ n. n + 1) (sym counted) ∙ c.if-seen-index.true) q

pub loop-number-preserved : goal.loop-number-preserved
loop-number-preserved c =
    let test = is_child c.args.names.now c.args.nodes.now c.args.name c.args.outer in
    let at = c.loop-number.number in
    let more : count_below test (at + 1) ≡ count_below test at + count_if (test at) = count-more test at in
    let counted = c.loop-number.invariant.counted in
    elim c.if-is_child.branch [
      | then-is_child+else-seen-index w ↦
          let is = sym c.is_child.ensures ∙ w.if-is_child.true in
          let one : count_below test (suc at) ≡ count_below test at + 1 = count-one test at is in
          let hit : count_if (test at) ≡ 1 = ap count_if is in
          let few = c.loop-number.invariant.few in
          record {
            few = omega (arith, w.seen-is, few);
            counted = omega (arith, w.seen-is, counted, more, hit);
            passed = passed-other c.args.names.now c.args.nodes.now c.args.name c.args.outer c.args.index at
                (λ same. omega (arith, one, same, counted, w.if-seen-index.false)) c.loop-number.invariant.passed;
          }
      | else-is_child w ↦
          let is = sym c.is_child.ensures ∙ w.if-is_child.false in
          let miss : count_if (test at) ≡ 0 = ap count_if is in
          let few = c.loop-number.invariant.few in
          record {
            few = omega (arith, w.seen-is, few);
            counted = omega (arith, w.seen-is, counted, more, miss);
            passed = passed-none c.args.names.now c.args.nodes.now c.args.name c.args.outer c.args.index at is c.loop-number.invariant.passed;
          }
    ]

pub returns : goal.returns
returns c = λ q.
    child-none c.args.names.now c.args.nodes.now c.args.name c.args.outer c.args.index c.inside_of-span.result.from c.inside_of-span.result.end
    c.inside_of-span.ensures (λ n less. c.loop-number.invariant.passed n (omega (arith, less, c.loop-number-test.false))) q
