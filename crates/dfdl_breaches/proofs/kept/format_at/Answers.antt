use Rattle.std.proofs.Common.{sym, ap, subst, ◌∙◌, ℕ, ◌<◌, length, Option, IfSome}
use Rattle.dfdl_scope.specs.Shown.{format_given}
use Rattle.dfdl_scope.specs.declared.format.Format.{Format}
use Rattle.dfdl_breaches.proofs.Keeping.{some_given}
use Rattle.dfdl_breaches.proofs.kept.format_at.Goals as goal

pub returns-in-Some : goal.returns-in-Some
returns-in-Some c = λ o name number format.
    ap (λ (f : Format). format_given f name) c.index-formats-number.is
    ∙ some_given c.args.schema.now c.args.formats.now c.in-Some.number c.index-formats-number.result o name c.requires.joined
    (subst (λ (p : Option ℕ). IfSome p (λ n. n < length c.args.formats.now)) c.in-Some.is c.requires.within) (sym c.in-Some.is ∙ number) format
