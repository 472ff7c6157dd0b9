use Rattle.std.proofs.Common.{◌∙◌, ap, sym}
use Rattle.dfdl_chains.specs.Parts.{is_component}
use Rattle.dfdl_breaches.proofs.Building.{not_component, of_component}
use Rattle.dfdl_breaches.proofs.telling.judgement.Goals as goal

pub returns-then-not-is_component : goal.returns-then-not-is_component
returns-then-not-is_component g c =
    not_component c.args.purpose c.args.schema.now c.args.site _ _ (sym (c.if-not-is_component.ensures ∙ ap is_component c.role.ensures))
    c.nothing_told.ensures

pub returns : goal.returns
returns g c =
    of_component c.args.purpose c.args.schema.now c.args.site _ _ c.judged.result (sym (c.if-not-is_component.ensures ∙ ap is_component c.role.ensures))
    c.judged.ensures
