use Rattle.std.proofs.Common.{◌∙◌, ap, sym, List, ℕ, [], Some}
use Rattle.dfdl_rows.specs.Looking.{refusal_behind}
use Rattle.dfdl_rows.proofs.Elements.{inside_first, own_first}
use Rattle.dfdl_rows.proofs.refusals.element_refusal.Goals as goal

pub returns-in-Some : goal.returns-in-Some
returns-in-Some c =
    own_first c.args.components.now c.requires.ready.order c.requires.ready.are_known.is_order c.args.number c.requires.within
    (Some c.in-Some.refusal) c.in-Some.ensures (cc)

pub returns-in_ok-found-in-None : goal.returns-in_ok-found-in-None
returns-in_ok-found-in-None c =
    c.in_ok-found-in-None.ensures
    ∙ (ap (λ (ps : List ℕ). refusal_behind c.args.components.now ps []) c.parts.ensures.parts
    ∙ sym (inside_first c.args.components.now c.requires.ready.order c.requires.ready.are_known.is_order c.args.number c.requires.within
    c.requires.element (sym c.in-None.ensures)))
