use Rattle.std.proofs.Common.{◌≡◌, ◌∙◌, ap, suc, take, arith}
use Rattle.std.specs.List.{count_by}
use Rattle.dfdl_grammar.specs.Paths.{stand_together}
use Rattle.dfdl_parse.proofs.path.place_of.Goals as goal

pub returns : goal.returns
returns c =
    let last : c.loop-at.at ≡ suc c.args.number = omega (arith, c.loop-at.auto.at-end, c.loop-at-test.false) in
    c.loop-at.invariant.counted ∙ ap (λ n. count_by (stand_together c.args.node.now) (take n c.args.nodes.now)) last
