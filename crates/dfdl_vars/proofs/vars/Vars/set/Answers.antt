use Rattle.std.proofs.Common.{◌∙◌, ap, ℕ}
use Rattle.dfdl_vars.specs.Kept.{Kept, with_setting}
use Rattle.dfdl_vars.proofs.vars.Vars.set.Goals as goal

pub returns-clause-set : goal.returns-clause-set
returns-clause-set c =
    c.note_setting.ensures.kept c.self.inside.globals c.self.inside.deep
    ∙ (ap (λ (k : Kept). with_setting k c.place-place.result c.args.value) c.self.view_is
    ∙ ap (λ (p : ℕ). with_setting c.args.self.now p c.args.value) c.place-place.ensures.place)
