use Rattle.std.proofs.Common.{◌∙◌, ◌+◌, ◌<◌, ◌^◌, ◌++◌, None, length, sym, ap, subst, arith}
use Rattle.dfdl_terms.specs.declared.framing.Framing.{Framing}
use Rattle.dfdl_rows.specs.Framing.{framed, framed_row, framing_size}
use Rattle.dfdl_rows.proofs.Opened.{inner_few, instances_whole, tests_few}
use Rattle.dfdl_rows.proofs.framing.push_with_instances.Goals as goal

pub push_framed-requires : goal.push_framed-requires
push_framed-requires c =
    subst (λ (f : Framing). length c.args.rows.now.items + framing_size f c.args.separators < 2 ^ 32) (sym c.untested.ensures) (omega (arith, c.requires))

pub push_instances-requires : goal.push_instances-requires
push_instances-requires c =
    inner_few c.args.framing c.args.separators c.args.content c.args.rows.now.items c.push_framed.new.rows.items
    (c.in_ok-body.ensures.rows
    ∙ ap (λ (f : Framing). c.args.rows.now.items ++ framed f c.args.separators c.args.content (length c.args.rows.now.items)) c.untested.ensures)
    (2 ^ 32) c.requires

pub push_framed-requires-2 : goal.push_framed-requires-2
push_framed-requires-2 c =
    subst (λ (f : Framing). length c.push_instances.new.rows.items + framing_size f None < 2 ^ 32) (sym c.tests_alone.ensures)
    (tests_few c.args.framing c.args.separators c.args.content c.args.rows.now.items c.push_framed.new.rows.items
    (c.in_ok-body.ensures.rows
    ∙ ap (λ (f : Framing). c.args.rows.now.items ++ framed f c.args.separators c.args.content (length c.args.rows.now.items)) c.untested.ensures)
    c.in_ok-body.body
    (c.in_ok-body.ensures.whole ∙ ap (λ (f : Framing). framed_row f c.args.separators c.args.content (length c.args.rows.now.items)) c.untested.ensures)
    c.push_instances.new.rows.items c.in_ok-outermost.ensures.rows (2 ^ 32) c.requires)

pub returns : goal.returns
returns c =
    instances_whole c.args.framing c.args.separators c.args.content c.args.rows.now.items c.push_framed.new.rows.items
    (c.in_ok-body.ensures.rows
    ∙ ap (λ (f : Framing). c.args.rows.now.items ++ framed f c.args.separators c.args.content (length c.args.rows.now.items)) c.untested.ensures)
    c.in_ok-body.body
    (c.in_ok-body.ensures.whole ∙ ap (λ (f : Framing). framed_row f c.args.separators c.args.content (length c.args.rows.now.items)) c.untested.ensures)
    c.push_instances.new.rows.items c.in_ok-outermost.ensures.rows c.in_ok-outermost.outermost c.push_framed-2.new.rows.items c.in_ok-outermost.ensures.outermost
    (c.in_ok-push_framed.ensures.rows
    ∙ ap (λ (f : Framing). c.push_instances.new.rows.items ++ framed f None c.in_ok-outermost.outermost (length c.push_instances.new.rows.items)) c.tests_alone.ensures)
