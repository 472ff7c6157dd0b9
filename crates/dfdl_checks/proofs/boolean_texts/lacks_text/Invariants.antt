use Rattle.std.proofs.Common.{◌≡◌, drop, Some}
use Rattle.std.specs.List.{list_any}
use Rattle.dfdl_checks.specs.Pads.{lacks_character}
use Rattle.dfdl_checks.proofs.boolean_texts.lacks_text.Given as goal

-- what is left answers the same as all
abbrev pub invariant-loop-c : goal.invariant-loop-c
invariant-loop-c l =
    list_any (λ c. lacks_character l.encoding (Some c)) (drop l.c-index l.text)
    ≡ list_any (λ c. lacks_character l.encoding (Some c)) l.text
