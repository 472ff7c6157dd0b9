use Rattle.std.proofs.Common.{◌-◌, sym, ◌∙◌, arith}
use Rattle.dfdl_chains.proofs.Deriving.{primitive_all, primitive_none, primitive_step}
use Rattle.dfdl_chains.proofs.derivation.primitive.Goals as goal

pub returns-in_default-clause-typed : goal.returns-in_default-clause-typed
returns-in_default-clause-typed c =
    sym (primitive_none c.args.schema.now (c.args.most - c.loop-step.step) c.loop-step.last (sym c.in_default.ensures.simple)) ∙ c.loop-step.invariant.same

pub loop-step-preserved : goal.loop-step-preserved
loop-step-preserved c = record {
  same = primitive_step c.args.schema.now c.args.most c.loop-step.step c.base_type-last.result c.loop-step.last _ c.in-Some.site c.loop-step-test.true (sym c.in-Some.ensures.simple)
      c.loop-step.invariant.same c.base_type-last.ensures.typed;
  within = c.base_type-last.ensures.within;
}

pub returns-clause-typed : goal.returns-clause-typed
returns-clause-typed c =
    sym (primitive_all c.args.schema.now (c.args.most - c.loop-step.step) c.loop-step.last (omega (arith, c.loop-step-test.false))) ∙ c.loop-step.invariant.same
