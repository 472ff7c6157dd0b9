use Rattle.std.specs.Prelude.{◌∷◌, [], if◌then◌else◌}
use Rattle.std.specs.List.{list_any}
use Rattle.std.proofs.Common.{sym, ap, ◌∙◌}
use Rattle.dfdl_markup.specs.Values.{same_expanded}
use Rattle.dfdl_xml_names.specs.Shown.{name_of}
use Rattle.dfdl_xml_names.specs.Scoped.{scope_seen}
use Rattle.dfdl_xml_names.proofs.Expanded.{or_none}
use Rattle.dfdl_xml_names.proofs.resolved.Resolved.meets.Goals as goal

pub returns-clause-met : goal.returns-clause-met
returns-clause-met c = λ names paired.
    let name = name_of c.args.name.now in
    c.has.ensures names paired
    ∙ (sym (or_none (list_any (λ other. same_expanded (scope_seen c.args.scope.now) other name) names))
    ∙ sym (ap (λ b. list_any (λ u. list_any (λ other. same_expanded (scope_seen c.args.scope.now) other u) names) (if b then [] else name ∷ []))
    (sym c.is_found.ensures ∙ c.if-is_found.false)))
