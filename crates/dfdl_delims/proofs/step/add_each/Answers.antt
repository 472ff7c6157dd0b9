use Rattle.dfdl_delims.specs.Candidates.{begun_each, left_behind}
use Rattle.dfdl_chars.specs.Encodings.{encoded_of}
use Rattle.std.proofs.Common.{ap, ◌∙◌}
use Rattle.dfdl_delims.proofs.Adding.{each_end, each_kept}
use Rattle.dfdl_delims.proofs.step.add_each.Goals as goal

pub loop-c-preserved : goal.loop-c-preserved
loop-c-preserved c =
    each_kept c.args.into.now.items (begun_each c.args.characters.now c.args.byte c.args.next) c.loop-c.into.items c.add_left.new.into.items
    c.args.characters.now c.args.byte c.args.next c.loop-c.c-index _ c.behind.result c.loop-c-test.true (c.behind.ensures ∙ ap (λ x. left_behind (encoded_of c.args.next.encoding x) c.args.byte) c.c-item.is) c.in_ok-add_left.ensures
    c.loop-c.invariant

pub returns : goal.returns
returns c =
    each_end c.args.into.now.items (begun_each c.args.characters.now c.args.byte c.args.next) c.loop-c.into.items c.args.characters.now c.args.byte
    c.args.next c.loop-c.c-index c.loop-c-test.false c.loop-c.invariant
