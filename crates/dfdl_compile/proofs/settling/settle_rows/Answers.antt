use Rattle.std.proofs.Common.{rules, ◌∙◌, List, ap, map, subst}
use Rattle.dfdl_statements.specs.Elements.{declaration_shown}
use Rattle.dfdl_variables.specs.declared.variable.Declared.{Declared}
use Rattle.dfdl_written.specs.Variables.{HasVariables}
use Rattle.dfdl_compile.proofs.settling.settle_rows.Goals as goal

pub settle_with-requires-clause-sees : goal.settle_with-requires-clause-sees
settle_with-requires-clause-sees c = record {
  elements = ap (map declaration_shown) c.as_slice.ensures.value ∙ c.in_ok-elements.ensures.elements;
  names = c.in_ok-elements.ensures.names;
  variables = subst (λ (vs : List Declared). HasVariables vs c.in_ok-named.named) c.requires.variables c.in_ok-named.ensures;
}

pub returns-in_err-statements-clause-fault : goal.returns-in_err-statements-clause-fault
returns-in_err-statements-clause-fault c = λ laid rows_are refused_is noted_are.
    let given = c.in_err-statements.ensures.fault laid rows_are refused_is noted_are in
    search (rules, given)
