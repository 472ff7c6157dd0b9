use Rattle.std.proofs.Common.{◌∙◌}
use Rattle.dfdl_checks.proofs.AlikeChains.{three}
use Rattle.dfdl_checks.specs.BooleanTexts.{truth_texts}
use Rattle.dfdl_checks.proofs.boolean_texts.truth_form_of.Goals as goal

pub returns : goal.returns
returns c = c.truth_texts.ensures ∙ three truth_texts c.in_ok-truths.ensures c.in_ok-falses.ensures c.is_word.ensures
