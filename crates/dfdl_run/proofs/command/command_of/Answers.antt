use Rattle.std.proofs.Common.{string_bytes, ◌∙◌, sym, refl, subst, arith, IsTrue, false}
use Rattle.std.proofs.lemmas.Bool.Decides.{nat_tests}
use Rattle.dfdl_run.specs.Command.{IsOperand}
use Rattle.dfdl_run.proofs.Words.{at_none, at_verb, at_missing, at_operand, at_surplus}
use Rattle.dfdl_run.proofs.command.command_of.Goals as goal

pub returns-in_default-clause-place : goal.returns-in_default-clause-place
returns-in_default-clause-place c = at_none string_bytes _ c.in_default.len_below

pub returns-in_default-verb_of-clause-place : goal.returns-in_default-verb_of-clause-place
returns-in_default-verb_of-clause-place c =
    at_verb string_bytes _ _ c.in-len1-up.len_at_least c.first-item.is
    (λ verb same. c.in_default-verb_of.ensures.none verb (c.as_str.ensures.value ∙ same))

pub returns-in_default-operands-clause-place : goal.returns-in_default-operands-clause-place
returns-in_default-operands-clause-place c =
    at_missing string_bytes _ _ _ c.in-len1-up.len_at_least c.first-item.is
    (sym c.as_str.ensures.value ∙ c.in-Some.ensures.some) c.in_default-operands.len_below

pub returns-then-not-is_operand-clause-place : goal.returns-then-not-is_operand-clause-place
returns-then-not-is_operand-clause-place c =
    at_operand string_bytes _ _ _ _ c.in-len1-up.len_at_least c.first-item.is
    (sym c.as_str.ensures.value
    ∙ c.in-Some.ensures.some) c.in-len1-up-operands.len_at_least c.schema-item.is
    (λ operand. let is : IsTrue false = c.if-not-is_operand.ensures.1 (subst IsOperand (sym c.as_str-2.ensures.value) operand) in cc)

pub returns-then-not-is_empty-clause-place : goal.returns-then-not-is_empty-clause-place
returns-then-not-is_empty-clause-place c =
    at_surplus string_bytes _ _ _ _ c.in-len1-up.len_at_least c.first-item.is
    (sym c.as_str.ensures.value
    ∙ c.in-Some.ensures.some) c.in-len1-up-operands.len_at_least c.schema-item.is
    (subst IsOperand c.as_str-2.ensures.value (c.if-not-is_operand.ensures.0 refl)) (grind (arith, nat_tests))
