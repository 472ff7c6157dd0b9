use Rattle.std.proofs.Common.{◌≡◌, ◌-◌}
use Rattle.dfdl_chains.specs.Derivation.{primitive_within}
use Rattle.dfdl_chains.specs.Shown.{IsTypeOf}
use Rattle.dfdl_chains.proofs.derivation.primitive.Given as goal

abbrev pub invariant-loop-step : goal.invariant-loop-step
invariant-loop-step l = record {
  same : primitive_within (l.most - l.step) l.schema l.last ≡ primitive_within l.most l.schema l.fn.typed;
  within : IsTypeOf l.schema l.last;
}
