use Rattle.std.proofs.Common.{◌≡◌, Bool, sym, ap, ◌∙◌, codes, List, None, if◌then◌else◌}
use Rattle.dfdl_checks.specs.Calculations.{written_told}
use Rattle.dfdl_checks.specs.JudgedShown.{judged_of}
use Rattle.dfdl_checks.specs.Subjects.{told_at}
use Rattle.dfdl_checks.proofs.keys.parsed_key.Goals as goal

pub returns : goal.returns
returns c =
    c.written_told.ensures ∙ ap written_told c.property.ensures
    ∙ sym (ap (λ (b : Bool). if b then written_told (told_at (judged_of c.args.subject.now) (codes "choiceDispatchKey")) else None)
    (sym c.is_choice.ensures ∙ c.if-not-is_choice.false))
