use Rattle.std.proofs.Common.{◌≡◌, ◌&&◌, ◌==◌, not, is_some, sym, subst, ap, ◌∙◌, IfOk}
use Rattle.dfdl_checks.proofs.Answered.{joined}
use Rattle.dfdl_checks.specs.NumberTexts.{pattern_of, pattern_text}
use Rattle.dfdl_checks.proofs.text_rules.is_standard_pattern_malformed.Goals as goal

pub returns : goal.returns
returns c =
    joined _ _ _ c.is_told_malformed.result (sym c.is_standard.ensures ∙ c.if-not-is_standard.false)
    (ap (λ base. base == 10) (sym c.base_of.ensures ∙ c.if-base_of-ne10.false))
    (subst (λ told. IfOk c.is_told_malformed.result (λ m. m ≡ (is_some (pattern_text told) && not (is_some (pattern_of (pattern_text told))))))
    c.property.ensures c.is_told_malformed.ensures)
