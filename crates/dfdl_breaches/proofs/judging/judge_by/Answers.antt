use Rattle.std.proofs.Common.{◌∙◌, ap, Option, Some}
use Rattle.dfdl_forms.specs.declared.encoding.Encoding.{Encoding}
use Rattle.dfdl_checks.specs.JudgedShown.{judged_of}
use Rattle.dfdl_checks.specs.Patterns.{form_by}
use Rattle.dfdl_breaches.proofs.Building.{same_seen}
use Rattle.dfdl_breaches.proofs.Judged.{told_refused, told_unrefused, with_pattern}
use Rattle.dfdl_breaches.proofs.judging.judge_by.Goals as goal

pub told_of-requires-clause-pattern : goal.told_of-requires-clause-pattern
told_of-requires-clause-pattern g c =
    with_pattern (judged_of c.args.subject.now) c.requires.subject c.args.text.now _ c.requires.text
    (c.form_by-form.ensures ∙ ap (λ (e : Option Encoding). form_by e (Some c.args.text.now)) c.pattern_encoding.ensures)

pub returns-in-Ok : goal.returns-in-Ok
returns-in-Ok g c =
    told_unrefused (judged_of c.args.subject.now) c.requires.subject _ _ _ _ _ _
    (same_seen _ _ (c.in-Ok.ensures.still (λ is. cc)) (c.in-Ok.ensures.last_kept (λ is. cc))) c.told_of.ensures

pub returns-in-Err-Refused : goal.returns-in-Err-Refused
returns-in-Err-Refused g c =
    told_refused (judged_of c.args.subject.now) c.requires.subject _ _ _ _ _ c.args.text.now c.requires.text
    (record { later = c.in-Err-Refused.ensures.later; rose = c.in-Err-Refused.ensures.cause (cc); last = c.in-Err-Refused.ensures.last (cc) })
    c.told_of_refused.ensures
