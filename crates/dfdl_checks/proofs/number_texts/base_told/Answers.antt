use Rattle.std.proofs.Common.{sym, ◌∙◌}
use Rattle.std.proofs.lemmas.Bool.{cond-true, cond-false}
use Rattle.dfdl_checks.proofs.number_texts.base_told.Goals as goal

pub returns-then-is_word : goal.returns-then-is_word
returns-then-is_word c = sym (cond-true _ _ _ (sym c.is_word.ensures ∙ c.if-is_word.true))

pub returns-then-is_word-2 : goal.returns-then-is_word-2
returns-then-is_word-2 c =
    sym (cond-false _ _ _ (sym c.is_word.ensures ∙ c.if-is_word.false)
    ∙ cond-true _ _ _ (sym c.is_word-2.ensures ∙ c.if-is_word-2.true))

pub returns-then-is_word-3 : goal.returns-then-is_word-3
returns-then-is_word-3 c =
    sym (cond-false _ _ _ (sym c.is_word.ensures ∙ c.if-is_word.false)
    ∙ (cond-false _ _ _ (sym c.is_word-2.ensures ∙ c.if-is_word-2.false)
    ∙ cond-true _ _ _ (sym c.is_word-3.ensures ∙ c.if-is_word-3.true)))

pub returns : goal.returns
returns c =
    sym (cond-false _ _ _ (sym c.is_word.ensures ∙ c.if-is_word.false)
    ∙ (cond-false _ _ _ (sym c.is_word-2.ensures ∙ c.if-is_word-2.false)
    ∙ cond-false _ _ _ (sym c.is_word-3.ensures ∙ c.if-is_word-3.false)))
