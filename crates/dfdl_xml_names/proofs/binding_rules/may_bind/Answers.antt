use Rattle.std.specs.Str.{chars}
use Rattle.std.proofs.Common.{◌∙◌}
use Rattle.dfdl_xml_names.proofs.Rules.{bind_none}
use Rattle.dfdl_xml_names.proofs.binding_rules.may_bind.Goals as goal

pub returns-then-has_none : goal.returns-then-has_none
returns-then-has_none c =
    c.has_none-then-has_none.ensures ∙ bind_none (chars c.args.prefix.now) (chars c.args.namespace.now) c.if-has_none.ensures
