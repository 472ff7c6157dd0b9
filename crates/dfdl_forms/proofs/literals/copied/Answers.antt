use Rattle.std.proofs.Common.{map, [], ◌∷◌, ◌++◌, take, sym, ap, ◌∙◌}
use Rattle.std.proofs.lemmas.List.{map-append, map_more}
use Rattle.dfdl_forms.proofs.literals.copied.Goals as goal

pub loop-literal-preserved : goal.loop-literal-preserved
loop-literal-preserved c =
    let literal = c.literal-item.result in
    let before = map (λ v. v.items) c.loop-literal.copies.items in
    ap (λ l. map (λ v. v.items) l) c.in_ok-push.ensures.items
    ∙ map-append (λ v. v.items) c.loop-literal.copies.items (c.in_ok-from_slice.field-0 ∷ [])
    ∙ ap (λ l. before ++ l ∷ []) (c.in_ok-from_slice.ensures.items ∙ c.deref.ensures.value)
    ∙ ap (λ l. l ++ literal.items ∷ []) c.loop-literal.invariant
    ∙ ap (λ v. map (λ w. w.items) (take c.loop-literal.literal-index c.args.literals.now) ++ v.items ∷ []) c.literal-item.is
    ∙ sym (map_more (λ v. v.items) c.args.literals.now c.loop-literal.literal-index literal c.loop-literal-test.true)
