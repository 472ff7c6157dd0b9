use Rattle.std.specs.Prelude.{◌≡◌, map, ◌++◌, ◌∷◌, []}
use Rattle.std.specs.Str.{chars}
use Rattle.std.proofs.Common.{sym, ap, ◌∙◌}
use Rattle.std.proofs.lemmas.List.{map-append}
use Rattle.dfdl_markup.specs.Values.{found, xmlns_prefix}
use Rattle.dfdl_xml_names.specs.Kept.{binding_of}
use Rattle.dfdl_xml_names.proofs.Kept.{lacks_more, same_binding, the_binding, with_first}
use Rattle.dfdl_xml_names.proofs.bindings.Bindings.with.Goals as goal

pub invariant_of-result : goal.invariant_of-result
invariant_of-result c =
    let old = map binding_of c.self.inside.items.items in
    let more = the_binding (chars c.args.prefix.now) (chars c.args.namespace.now) in
    let behind : old ++ more ∷ [] ≡ map binding_of c.push.new.self.items =
    ap (λ b. old ++ b ∷ []) (sym (same_binding _ _ _ _ c.in_ok-from_str.ensures.ok c.in_ok-from_str-2.ensures.ok))
    ∙ sym (ap (map binding_of) c.in_ok-push.ensures.items ∙ map-append binding_of c.self.inside.items.items _) in (
      λ q u.
          with_first c.self.inside.first c.add_first.new.first old c.args.prefix.now c.args.namespace.now c.utf8.prefix c.in_ok-add_first.ensures c.self.invariant.0 q u
          ∙ ap (λ bs. found bs (chars q)) behind,
      λ none.
          sym (ap (λ bs. found bs xmlns_prefix) behind)
          ∙ lacks_more old more xmlns_prefix c.self.inside.binds_xmlns c.or_xmlns-binds_xmlns.result c.self.invariant.1 c.or_xmlns-binds_xmlns.ensures none,
    )
