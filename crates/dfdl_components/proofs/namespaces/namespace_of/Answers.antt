use Rattle.std.proofs.Common.{◌+◌, ◌-◌, ◌∙◌, length, sym, arith}
use Rattle.dfdl_components.proofs.Outward.{at_own, at_none, at_includer, at_end, is_namespace, includer_below}
use Rattle.dfdl_components.proofs.namespaces.namespace_of.Goals as goal

pub returns-in-Some : goal.returns-in-Some
returns-in-Some c =
    sym (at_own c.args.documents.now (length c.args.documents.now + 1 - c.loop.counter) c.loop.outer c.in-Some.namespace.now
    (omega (arith, c.loop-test.true, c.count-end.ensures)) c.in-Some.ensures)
    ∙ (c.loop.invariant.same ∙ is_namespace c.args.documents.now c.args.document)

pub returns-in_default-includer_of : goal.returns-in_default-includer_of
returns-in_default-includer_of c =
    sym (at_none c.args.documents.now (length c.args.documents.now + 1 - c.loop.counter) c.loop.outer
    (omega (arith, c.loop-test.true, c.count-end.ensures)) c.in_default.ensures c.in_default-includer_of.ensures)
    ∙ (c.loop.invariant.same ∙ is_namespace c.args.documents.now c.args.document)

pub loop-preserved : goal.loop-preserved
loop-preserved c = record {
  same = at_includer c.args.documents.now (length c.args.documents.now + 1 - c.loop.counter) (length c.args.documents.now + 1 - (c.loop.counter + 1))
      c.loop.outer c.in-Some-includer_of.includer (omega (arith, c.loop-test.true, c.count-end.ensures)) c.in_default.ensures c.in-Some-includer_of.ensures
      ∙ c.loop.invariant.same;
  within = includer_below c.args.documents.now c.loop.outer c.in-Some-includer_of.includer c.in-Some-includer_of.ensures;
}

pub returns : goal.returns
returns c =
    sym (at_end c.args.documents.now (length c.args.documents.now + 1 - c.loop.counter) c.loop.outer
    (omega (arith, c.loop-test.false, c.count-end.ensures)))
    ∙ (c.loop.invariant.same ∙ is_namespace c.args.documents.now c.args.document)
