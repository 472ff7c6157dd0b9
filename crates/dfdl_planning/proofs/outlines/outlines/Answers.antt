use Rattle.std.proofs.Common.{◌∙◌, ℕ, List, map, get_or, length, ap, sym, subst}
use Rattle.std.proofs.lemmas.List.FromFn.{fill_by_all}
use Rattle.dfdl_order.specs.Parts.{uses_of}
use Rattle.dfdl_rows.specs.Components.{Schema, component_at}
use Rattle.dfdl_rows.specs.declared.component.Component.{Component}
use Rattle.dfdl_planning.specs.Planned.{outline_by, outline_from, outline_in, unknown_outline}
use Rattle.dfdl_planning.specs.declared.outline.Outline.{Outline}
use Rattle.dfdl_planning.proofs.Tables.{known_all, known_more}
use Rattle.dfdl_planning.proofs.outlines.outlines.Goals as goal

pub loop-number-preserved : goal.loop-number-preserved
loop-number-preserved c =
    let number : ℕ = get_or c.list-number-items.result.now c.loop-number.number-index 0 in
    known_more Outline c.args.source.now.schema.uses (outline_from c.args.source.now) unknown_outline c.list-number-items.result.now c.loop-number.number-index
    c.loop-number.known.items c.outline_of-outline.result c.loop-number.invariant c.loop-number-test.true
    (c.outline_of-outline.ensures
    ∙ (ap (λ (known : List Outline). outline_by c.args.source.now number c.component-component.result.now (map (λ p. get_or known p unknown_outline) c.parts-parts.result.now))
    c.as_slice.ensures.value
    ∙ (ap (λ (one : Component). outline_by c.args.source.now number one (map (λ p. get_or c.loop-number.known.items p unknown_outline) c.parts-parts.result.now))
    (c.component-component.ensures.component ∙ ap (λ (s : Schema). component_at s.components number) c.components-components.ensures)
    ∙ ap (λ (parts : List ℕ). outline_from c.args.source.now number (map (λ p. get_or c.loop-number.known.items p unknown_outline) parts))
    (c.parts-parts.ensures.parts ∙ ap (λ (s : Schema). uses_of s.uses number) c.components-components.ensures))))

pub returns-clause-outlines : goal.returns-clause-outlines
returns-clause-outlines c =
    fill_by_all (outline_in c.args.source.now) c.loop-number.known.items _ unknown_outline c.loop-number.invariant.counted
    (known_all Outline c.args.source.now.schema.uses (outline_from c.args.source.now) unknown_outline c.list-number-items.result.now c.loop-number.number-index
    c.loop-number.known.items c.loop-number.invariant c.loop-number-test.false)
