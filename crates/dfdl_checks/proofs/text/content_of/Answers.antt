use Rattle.std.proofs.Common.{sym, ◌∙◌}
use Rattle.dfdl_checks.proofs.Answered.{chosen, passed}
use Rattle.dfdl_checks.proofs.text.content_of.Goals as goal

pub returns-then-is_word : goal.returns-then-is_word
returns-then-is_word c =
    passed _ _ _ c.zoned_text.result (sym c.is_characters.ensures ∙ c.if-is_characters.false)
    (passed _ _ _ c.zoned_text.result (sym c.is_truths.ensures ∙ c.if-is_truths.false)
    (chosen _ _ _ c.zoned_text.result (sym c.is_word.ensures ∙ c.if-is_word.true) c.zoned_text.ensures))

pub returns : goal.returns
returns c =
    passed _ _ _ c.number_text.result (sym c.is_characters.ensures ∙ c.if-is_characters.false)
    (passed _ _ _ c.number_text.result (sym c.is_truths.ensures ∙ c.if-is_truths.false)
    (passed _ _ _ c.number_text.result (sym c.is_word.ensures ∙ c.if-is_word.false) c.number_text.ensures))
