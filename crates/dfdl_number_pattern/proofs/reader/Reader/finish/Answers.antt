use Rattle.std.proofs.Common.{ℕ, List, ◌∷◌, ap, ◌∙◌}
use Rattle.dfdl_number_pattern.proofs.Texts.{behind_minus}
use Rattle.dfdl_number_pattern.proofs.reader.Reader.finish.Goals as goal

pub pattern-requires-in-None-clause-utf8_negative_prefix : goal.pattern-requires-in-None-clause-utf8_negative_prefix
pattern-requires-in-None-clause-utf8_negative_prefix c =
    behind_minus _ _ (c.deref-in-None-4.ensures.value ∙ c.in_ok-negative_prefix-in-None.ensures ∙ ap (λ (l : List ℕ). 45 ∷ l) c.deref-in-None.ensures.value) c.requires.utf8_prefix
