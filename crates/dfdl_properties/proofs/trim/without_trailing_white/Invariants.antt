use Rattle.std.proofs.Common.{◌≡◌, length}
use denote.Text.{Utf8}
use denote.Shadow.{shadow}
use Rattle.dfdl_lemmas.specs.Trimmed.{without_trailing}
use Rattle.dfdl_markup.specs.Grammar.{is_white}
use Rattle.dfdl_properties.proofs.trim.without_trailing_white.Given as goal

-- what is left is the same without white space behind it as all
abbrev pub invariant-loop-last : goal.invariant-loop-last
invariant-loop-last l = shadow (Utf8 l.rest) × (without_trailing is_white l.rest ≡ without_trailing is_white l.text)

abbrev pub decreases-loop-last : goal.decreases-loop-last
decreases-loop-last l = length l.rest
