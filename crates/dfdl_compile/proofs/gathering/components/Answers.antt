use Rattle.std.proofs.Common.{arith, map}
use Rattle.dfdl_compile.specs.Components.{component_at}
use Rattle.dfdl_compile.proofs.Fitting.{component_there, hides_there, list_end, list_more, sites_within, statements_more}
use Rattle.dfdl_compile.proofs.gathering.components.Goals as goal

pub component_with-requires-clause-site : goal.component_with-requires-clause-site
component_with-requires-clause-site c = sites_within c.args.schema.now c.args.sites.now c.requires.sites c.loop-at.at _ c.loop-at-test.true

pub dispatch_of-requires-clause-site : goal.dispatch_of-requires-clause-site
dispatch_of-requires-clause-site c = sites_within c.args.schema.now c.args.sites.now c.requires.sites c.loop-at.at _ c.loop-at-test.true

pub dispatch_of-requires-clause-hidden : goal.dispatch_of-requires-clause-hidden
dispatch_of-requires-clause-hidden c =
    hides_there c.args.schema.now c.args.judgements.now c.loop-at.at _ c.index-judgements-at.result (omega (arith, c.loop-at-test.true, c.requires.told))
    c.index-judgements-at.is c.requires.hidden

pub loop-at-preserved : goal.loop-at-preserved
loop-at-preserved c = record {
  first = statements_more c.args.judgements.now c.loop-at.at _ c.index-judgements-at.result c.loop-at.first c.in_ok-first.first
      (omega (arith, c.loop-at-test.true, c.requires.told)) c.index-judgements-at.is c.loop-at.invariant.first c.in_ok-first.ensures;
  made = λ refused told.
      list_more (component_at c.args.purpose refused c.args.schema.now) c.args.sites.now c.loop-at.at _ c.keyed_by.result c.loop-at.made.items
      c.push.new.self.items (map (component_at c.args.purpose refused c.args.schema.now) c.args.sites.now) c.loop-at-test.true
      (component_there c.args.purpose refused c.args.schema.now c.args.sites.now c.args.judgements.now c.loop-at.at c.loop-at.first c.in_ok-component.component _ _ c.index-judgements-at.result
      c.requires.sites told c.loop-at-test.true c.index-judgements-at.is c.loop-at.invariant.first c.in_ok-component.ensures
      c.in_ok-dispatch.dispatch c.keyed_by.result
      (hides_there c.args.schema.now c.args.judgements.now c.loop-at.at _ c.index-judgements-at.result (omega (arith, c.loop-at-test.true, c.requires.told))
      c.index-judgements-at.is c.requires.hidden) c.in_ok-dispatch.ensures c.keyed_by.ensures)
      c.in_ok-push.ensures.items (c.loop-at.invariant.made refused told);
}

pub returns : goal.returns
returns c = λ refused told.
    list_end (component_at c.args.purpose refused c.args.schema.now) c.args.sites.now c.loop-at.at c.loop-at.made.items
    (map (component_at c.args.purpose refused c.args.schema.now) c.args.sites.now) c.loop-at-test.false (c.loop-at.invariant.made refused told)
