use Rattle.std.proofs.Common.{◌≡◌, subst, IfOk}
use Rattle.dfdl_checks.proofs.AlikeChains.{both}
use Rattle.dfdl_checks.specs.NumberTexts.{pattern_text, zoned_spelled}
use Rattle.dfdl_checks.proofs.zoned_texts.zoned_form_of.Goals as goal

pub returns : goal.returns
returns c =
    subst (λ told. IfOk c.zoned_told.result (λ form. form ≡ told))
    (both (λ style told. zoned_spelled style c.args.simple (pattern_text told)) c.style_told.ensures c.property.ensures) c.zoned_told.ensures
