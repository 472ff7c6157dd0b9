use Rattle.std.specs.Prelude.{◌++◌, ◌∷◌, [], map}
use Rattle.std.specs.Str.{chars}
use Rattle.std.proofs.Common.{refl, sym, ap, ◌∙◌, subst, append-nil}
use Rattle.dfdl_markup.specs.Values.{Binding, found}
use Rattle.dfdl_xml_names.specs.Shown.{text_of}
use Rattle.dfdl_xml_names.specs.Expanded.{IsResolved}
use Rattle.dfdl_xml_names.specs.declared.resolved.Resolved.{Resolved}
use Rattle.dfdl_xml_names.proofs.Texts.{if_ok}
use Rattle.dfdl_xml_names.proofs.Bound.{declared_at, found_some}
use Rattle.dfdl_xml_names.proofs.resolved.Resolved.declare.Goals as goal

pub returns-then-are_none : goal.returns-then-are_none
returns-then-are_none c = λ old value names is kept.
    let p = chars c.args.prefix.now in
    let more : Binding = record { prefix = p; namespace = value } in
    let taken : Resolved = record { pairs = c.args.self.pairs; waiting = c.take-parts.new.self; clash = c.args.self.clash } in
    let none = sym (c.are_none.ensures c.if-are_none.true) ∙ c.as_slice-parts.ensures.value in
    subst (λ s. IsResolved taken s names) (sym is)
    (declared_at old p value c.args.self taken c.args.prefix.now c.utf8.prefix refl refl refl c.take-parts.ensures.others
    taken names [] (found old p) refl (ap (map text_of) none ∙ c.take-parts.ensures.parts)
    (λ others before. subst (IsResolved taken (old ++ more ∷ [])) (sym (append-nil others)) before) kept)

pub returns-in-Some : goal.returns-in-Some
returns-in-Some c =
    if_ok c.take_all.result c.take_all.ensures
    (λ new step old value names is kept.
    let p = chars c.args.prefix.now in
    let more : Binding = record { prefix = p; namespace = value } in
    let taken : Resolved = record { pairs = c.args.self.pairs; waiting = c.take-parts.new.self; clash = c.args.self.clash } in
    subst (λ s. IsResolved new s names) (sym is)
    (declared_at old p value c.args.self taken c.args.prefix.now c.utf8.prefix refl refl refl c.take-parts.ensures.others
    new names (map text_of c.as_slice-parts.result.now) (found old p) refl (ap (map text_of) c.as_slice-parts.ensures.value ∙ c.take-parts.ensures.parts)
    (λ others. step (old ++ more ∷ []) others p (sym (c.in-Some.ensures ∙ ap (λ s. found s p) is))) kept))

pub returns : goal.returns
returns c = λ old value names is kept.
    let p = chars c.args.prefix.now in
    absurd (found_some old p value (found old p) refl (sym (c.in-None.ensures ∙ ap (λ s. found s p) is)))
