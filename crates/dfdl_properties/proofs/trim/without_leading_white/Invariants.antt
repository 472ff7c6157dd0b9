use Rattle.std.proofs.Common.{◌≡◌, length}
use denote.Text.{Utf8}
use denote.Shadow.{shadow}
use Rattle.dfdl_lemmas.specs.Trimmed.{without_leading}
use Rattle.dfdl_markup.specs.Grammar.{is_white}
use Rattle.dfdl_properties.proofs.trim.without_leading_white.Given as goal

-- what is left is the same without white space before it as all
abbrev pub invariant-loop-first : goal.invariant-loop-first
invariant-loop-first l = shadow (Utf8 l.rest) × (without_leading is_white l.rest ≡ without_leading is_white l.text)

abbrev pub decreases-loop-first : goal.decreases-loop-first
decreases-loop-first l = length l.rest
