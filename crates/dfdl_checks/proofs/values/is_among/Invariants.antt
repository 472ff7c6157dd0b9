use Rattle.std.proofs.Common.{◌≡◌, drop, map}
use Rattle.dfdl_checks.specs.Values as values
use Rattle.dfdl_checks.proofs.values.is_among.Given as goal

-- what is left answers the same as all
abbrev pub invariant-loop-word : goal.invariant-loop-word
invariant-loop-word l =
    values.is_among (map (λ word. word.now) (drop l.word-index l.words)) l.text
    ≡ values.is_among (map (λ word. word.now) l.words) l.text
