use Rattle.std.proofs.Common.{ap, ◌∙◌, ◌||◌}
use Rattle.dfdl_checks.proofs.AlikeChains.{three}
use Rattle.dfdl_checks.specs.BooleanTexts.{lacks_texts}
use Rattle.dfdl_checks.specs.Encodings.{encoding_told}
use Rattle.dfdl_checks.proofs.boolean_texts.are_truth_texts_outside.Goals as goal

pub returns : goal.returns
returns c =
    c.lacks_either.ensures
    ∙ three (λ encoding truths falses. lacks_texts encoding truths || lacks_texts encoding falses)
    (c.encoding_told-encoding.ensures ∙ ap encoding_told c.property.ensures) c.in_ok-truths.ensures c.in_ok-falses.ensures
