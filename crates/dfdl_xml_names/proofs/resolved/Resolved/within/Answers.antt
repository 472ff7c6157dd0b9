use Rattle.std.specs.Prelude.{◌++◌}
use Rattle.std.specs.Str.{chars}
use Rattle.std.proofs.Common.{sym, ap, ◌∙◌}
use Rattle.dfdl_xml_names.specs.Shown.{name_of}
use Rattle.dfdl_xml_names.proofs.Kept.{bound_one}
use Rattle.dfdl_xml_names.proofs.Texts.{if_ok}
use Rattle.dfdl_xml_names.proofs.resolved.Resolved.within.Goals as goal

pub returns-in-Some : goal.returns-in-Some
returns-in-Some c =
    if_ok c.declare.result c.declare.ensures
    (λ resolved step old value names is kept.
    step old value names
    (is ∙ ap (λ l. old ++ l) (bound_one (name_of c.args.name.now) value (chars c.in-Some.prefix.now) (sym c.in-Some.ensures)))
    kept)
