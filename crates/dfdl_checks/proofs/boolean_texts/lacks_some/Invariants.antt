use Rattle.std.proofs.Common.{◌≡◌, drop, Some}
use Rattle.std.specs.List.{list_any}
use Rattle.dfdl_checks.specs.Pads.{lacks_character}
use Rattle.dfdl_checks.proofs.boolean_texts.lacks_some.Given as goal

-- what is left answers the same as all
abbrev pub invariant-loop-at : goal.invariant-loop-at
invariant-loop-at l =
    list_any (λ text. list_any (λ c. lacks_character l.encoding (Some c)) text) (drop l.at l.texts)
    ≡ list_any (λ text. list_any (λ c. lacks_character l.encoding (Some c)) text) l.texts
