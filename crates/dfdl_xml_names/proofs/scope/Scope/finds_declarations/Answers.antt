use Rattle.std.proofs.Common.{sym, ap, ◌∙◌}
use Rattle.dfdl_markup.specs.Values.{found, is_some_text}
use Rattle.dfdl_xml_names.specs.Scoped.{scope_seen}
use Rattle.dfdl_xml_names.proofs.Settled.{some_lent}
use Rattle.dfdl_xml_names.proofs.scope.Scope.finds_declarations.Goals as goal

pub returns : goal.returns
returns c = λ is.
    sym (ap is_some_text (c.find.ensures ∙ ap (found (scope_seen c.args.self.now)) c.xmlns.ensures))
    ∙ (some_lent c.find.result ∙ (sym c.is_some.ensures ∙ is))
