use Rattle.std.specs.Str.{chars}
use Rattle.std.specs.Prelude.{◌++◌, ◌∷◌, []}
use Rattle.std.proofs.Common.{sym, ap, ◌∙◌, subst}
use Rattle.dfdl_markup.specs.Values.{found}
use Rattle.dfdl_xml_names.specs.Shown.{text_of, name_of}
use Rattle.dfdl_xml_names.specs.Scoped.{scope_seen}
use Rattle.dfdl_xml_names.specs.Expanded.{IsResolved}
use Rattle.dfdl_markup.specs.Grammar.{Prefixed}
use Rattle.dfdl_xml_names.proofs.Texts.{on_ok}
use Rattle.dfdl_xml_names.proofs.Expanded.{add_plain}
use Rattle.dfdl_xml_names.proofs.resolved.Resolved.add.Goals as goal

pub returns-in-Plain : goal.returns-in-Plain
returns-in-Plain c = λ names kept.
    subst (λ n. IsResolved c.args.self.now (scope_seen c.args.scope.now) (names ++ name_of n ∷ [])) (sym c.in-Plain.is)
    (add_plain c.args.self.now (scope_seen c.args.scope.now) names (text_of c.in-Plain.field-0) kept)

pub returns-in-None : goal.returns-in-None
returns-in-None c =
    let scope = scope_seen c.args.scope.now in
    let none = sym (c.in-None.ensures ∙ ap (λ l. found scope (chars l)) c.as_str.ensures.value) in
    on_ok c.wait.result c.wait.ensures
    (λ more names kept.
    subst (λ n. IsResolved c.wait.new.self scope (names ++ name_of n ∷ [])) (sym c.in-Prefixed.is)
    (subst (λ l. IsResolved c.wait.new.self scope (names ++ Prefixed (chars l) (text_of c.in-Prefixed.part) ∷ [])) c.as_str-in-None.ensures.value
    (subst (λ l. IsResolved c.wait.new.self scope (names ++ Prefixed (chars c.as_str-in-None.result.now) (chars l) ∷ [])) c.as_str-in-None-2.ensures.value
    (more scope names (ap (λ l. found scope (chars l)) c.as_str-in-None.ensures.value ∙ none) kept))))

pub returns-in-Some : goal.returns-in-Some
returns-in-Some c =
    let scope = scope_seen c.args.scope.now in
    let prefix = text_of c.in-Prefixed.prefix in
    let is = sym (c.in-Some.ensures ∙ ap (λ l. found scope (chars l)) c.as_str.ensures.value) in
    on_ok c.take.result c.take.ensures
    (λ more names kept.
    subst (λ n. IsResolved c.take.new.self scope (names ++ name_of n ∷ [])) (sym c.in-Prefixed.is)
    (subst (λ l. IsResolved c.take.new.self scope (names ++ Prefixed prefix (chars l) ∷ [])) c.as_str-in-Some.ensures.value
    (more scope names prefix is kept)))
