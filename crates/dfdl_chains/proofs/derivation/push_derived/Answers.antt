use Rattle.std.proofs.Common.{◌-◌, sym, ◌∙◌, arith}
use Rattle.dfdl_chains.proofs.Deriving.{derived_all, derived_none, derived_step}
use Rattle.dfdl_chains.proofs.derivation.push_derived.Goals as goal

pub returns-in_default : goal.returns-in_default
returns-in_default c =
    sym (derived_none c.args.schema.now (c.args.most - c.loop-step.step) c.loop-step.last c.loop-step.chain.items (sym c.in_default.ensures.simple)) ∙ c.loop-step.invariant.same

pub loop-step-preserved : goal.loop-step-preserved
loop-step-preserved c = record {
  same = derived_step c.args.schema.now c.args.most c.loop-step.step c.base_type-last.result c.loop-step.last c.in-Some.site c.loop-step.chain.items c.push.new.self.items _ c.loop-step-test.true
      (sym c.in-Some.ensures.simple) c.loop-step.invariant.same c.base_type-last.ensures.typed c.in_ok-push.ensures.items;
  within = c.base_type-last.ensures.within;
}

pub returns : goal.returns
returns c =
    sym (derived_all c.args.schema.now (c.args.most - c.loop-step.step) c.loop-step.last c.loop-step.chain.items (omega (arith, c.loop-step-test.false))) ∙ c.loop-step.invariant.same
