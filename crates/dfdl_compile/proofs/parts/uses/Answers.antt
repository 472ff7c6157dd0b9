use Rattle.std.proofs.Common.{◌∙◌, get_or, map, refl}
use Rattle.dfdl_compile.specs.Components.{part_numbers}
use Rattle.dfdl_compile.proofs.Fitting.{list_end, list_more, parts_there}
use Rattle.dfdl_compile.proofs.parts.uses.Goals as goal

pub loop-at-preserved : goal.loop-at-preserved
loop-at-preserved c = λ refused told.
    list_more (part_numbers c.args.purpose refused c.args.schema.now) c.args.sites.now c.loop-at.at _ c.as_slice-in-loop-at.result.now c.loop-at.made
    c.push.new.self (map (part_numbers c.args.purpose refused c.args.schema.now) c.args.sites.now) c.loop-at-test.true
    (parts_there c.args.purpose refused c.args.schema.now c.args.sites.now c.args.judgements.now c.loop-at.at c.as_slice.result.now c.as_slice-in-loop-at.result.now _
    c.index-judgements-at.result (get_or c.args.judgements.now c.loop-at.at c.index-judgements-at.result) told c.loop-at-test.true refl (c.as_slice.ensures.value ∙ c.in_ok-parts_by.ensures.parts) (c.as_slice-in-loop-at.ensures.value ∙ c.in_ok-number_all.ensures))
    c.in_ok-push.ensures.added (c.loop-at.invariant refused told)

pub returns-clause-uses : goal.returns-clause-uses
returns-clause-uses c = λ refused told.
    list_end (part_numbers c.args.purpose refused c.args.schema.now) c.args.sites.now c.loop-at.at c.loop-at.made
    (map (part_numbers c.args.purpose refused c.args.schema.now) c.args.sites.now) c.loop-at-test.false (c.loop-at.invariant refused told)
