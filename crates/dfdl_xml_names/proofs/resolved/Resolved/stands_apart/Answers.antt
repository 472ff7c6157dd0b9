use Rattle.std.specs.Prelude.{chars}
use Rattle.std.proofs.Common.{sym, ap, ◌∙◌}
use Rattle.dfdl_markup.specs.Values.{found, xmlns_prefix}
use Rattle.dfdl_xml_names.specs.Scoped.{scope_seen}
use Rattle.dfdl_xml_names.proofs.Expanded.{any_in, none_unfound}
use Rattle.dfdl_xml_names.proofs.resolved.Resolved.stands_apart.Goals as goal

pub returns-in-Some : goal.returns-in-Some
returns-in-Some c = λ yes names paired b u.
    let scope = scope_seen c.args.scope.now in
    let namespace = chars c.in-Some.namespace.now in
    let is = sym (c.in-Some.ensures ∙ ap (found scope) c.xmlns.ensures) in
    sym (any_in scope xmlns_prefix (chars b) namespace is names) ∙ c.has_none_in.ensures yes scope names paired b u

pub returns-in-None : goal.returns-in-None
returns-in-None c = λ yes names paired b u.
    let scope = scope_seen c.args.scope.now in
    none_unfound scope xmlns_prefix (chars b) (sym (c.in-None.ensures ∙ ap (found scope) c.xmlns.ensures)) names
