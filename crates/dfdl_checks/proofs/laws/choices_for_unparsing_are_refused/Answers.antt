use Rattle.std.proofs.Common.{◌≡◌, subst, Bool, false, ◌||◌, arith}
use Rattle.dfdl_checks.proofs.Kept.{keeps-all}
use Rattle.dfdl_checks.specs.Rules.{has_later_type, is_later_group}
use Rattle.dfdl_checks.proofs.laws.choices_for_unparsing_are_refused.Goals as goal

-- where none of some holds, the first doesn't
first-fails : (a b c d e : Bool) → (a || b || c || d || e) ≡ false → a ≡ false
first-fails a b c d e none = grind (arith, none)

pub returns : goal.returns
returns c = λ j none unparsing.
    subst (λ purpose. is_later_group purpose j.kind ≡ false) unparsing
    (first-fails (is_later_group j.purpose j.kind) (has_later_type j.purpose j.kind) _ _ _ (keeps-all j none).built)
