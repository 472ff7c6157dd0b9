-- What the reading of a pattern is, by the reading of its text.
use Rattle.std.specs.Prelude.{ℕ}
use Rattle.dfdl_looks.specs.Asks.{Reached, Told, TooFar, Missing}
use Rattle.dfdl_terms.specs.declared.text.PatternForm.{PatternForm}
use Rattle.dfdl_texts.specs.Texts.{Text}
use Rattle.dfdl_grammar.specs.Leaves.{Find, pattern_find}

-- what a pattern at a bit comes to, by what its text comes to
abbrev pub pattern_reached : PatternForm → ℕ → Reached Text → Reached Find
pattern_reached form bit (Told text) = Told (pattern_find form bit text)
pattern_reached form bit TooFar = TooFar
pattern_reached form bit Missing = Missing
