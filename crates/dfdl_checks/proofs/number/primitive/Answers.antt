use Rattle.std.proofs.Common.{sym, subst, IsSome}
use Rattle.dfdl_checks.proofs.Answered.{if-ok}
use Rattle.dfdl_checks.specs.JudgedShown.{judged_of}
use Rattle.dfdl_checks.proofs.number.primitive.Goals as goal

pub returns-clause-sound : goal.returns-clause-sound
returns-clause-sound c =
    if-ok c.of_kind.result c.of_kind.ensures
    (λ p is none simple.
    subst (λ p. IsSome p) (sym is) (c.sound_elements_have_primitives.ensures.primitive (judged_of c.args.subject.now) none simple))
