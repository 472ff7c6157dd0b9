use Rattle.std.proofs.Common.{◌∙◌, ◌∷◌, [], ◌++◌, ◌+◌, Some, None, ap, sym, refl, map}
use Rattle.dfdl_json.proofs.Declares.{there, below_elem, below_group, below_repeat, below_spanned}
use Rattle.dfdl_terms.specs.declared.row.Row.TheVariants.{Elem}
use Rattle.dfdl_pieces.specs.declared.unparsing.Task.TheVariants.{Lay}
use Rattle.dfdl_pieces.specs.Laying.{Takes, begins, begun_laying, form_at, laying, value_for, value_laying}
use Rattle.dfdl_pieces.specs.Unparsing.{left, outcome, steps_left}
use Rattle.dfdl_json.specs.Steps.{steps_of}
use Rattle.dfdl_pieces.proofs.Layings.{laid_simple, laid_complex, laid_group, laid_leaf, laid_skip, laid_align, laid_initiator, laid_terminator, laid_separator, laid_scope, laid_boxed, laid_prefixed_leaf, laid_prefixed_box, laid_repeat, laid_spanned, laid_optional, laid_choice, laid_nothing, laid_no_row, same_less, group_less, repeat_less, spanned_less, complex_less}
use Rattle.dfdl_pieces.proofs.Moving.{if_ok, if_ok_both, if_ok_any, is_less, less_too, moves_too, moves_same, moves_group}
use Rattle.dfdl_pieces.proofs.unparsing.Unparser.lay.Goals as goal

pub lay_simple-requires-clause-row : goal.lay_simple-requires-clause-row
lay_simple-requires-clause-row c = (
  c.in-Some-Elem.field-0-2,
  c.in-Some-Elem.field-0-3,
  there _ _ _ c.in-Some-Elem.ensures.row (c.in-Some-Elem.field-0-is ∙ (ap (λ s. Elem c.in-Some-Elem.name s c.in-Some-Elem.field-0-2 c.in-Some-Elem.field-0-3 c.in-Some-Elem.body) c.in-Some.is
      ∙ ap (λ n. Elem n (Some c.in-Some.kind) c.in-Some-Elem.field-0-2 c.in-Some-Elem.field-0-3 c.in-Some-Elem.body) (sym c.as_str.ensures))),
)

pub returns-in-Some-clause-moves : goal.returns-in-Some-clause-moves
returns-in-Some-clause-moves c =
    let old = c.args.self.now in
    let t = c.args.terms.now in
    let more = left t old.tasks.items old.around in
    if_ok_both c.lay_simple.result _ _ _ c.lay_simple.ensures.moves c.lay_simple.ensures.names
    (λ missing moves names. moves_same t c.args.events.now old c.lay_simple.new.self
    (Takes (λ event. value_laying (c.as_str.result.now ∷ old.around) (form_at t c.in-Some-Elem.body) more (value_for c.args.row event))) (laying t c.args.row old.around more) missing
    (laid_simple t c.args.row old.around more c.as_str.result.now c.in-Some.kind c.in-Some-Elem.field-0-2 c.in-Some-Elem.field-0-3 c.in-Some-Elem.body
    (there _ _ _ c.in-Some-Elem.ensures.row (c.in-Some-Elem.field-0-is ∙ (ap (λ s. Elem c.in-Some-Elem.name s c.in-Some-Elem.field-0-2 c.in-Some-Elem.field-0-3 c.in-Some-Elem.body) c.in-Some.is
    ∙ ap (λ n. Elem n (Some c.in-Some.kind) c.in-Some-Elem.field-0-2 c.in-Some-Elem.field-0-3 c.in-Some-Elem.body) (sym c.as_str.ensures)))))
    c.lay_simple.ensures.tasks names (moves more))

pub returns-in-Some-clause-less : goal.returns-in-Some-clause-less
returns-in-Some-clause-less c = if_ok_any c.lay_simple.result _
    (λ missing. is_less c.args.terms.now (steps_of c.args.terms.now c.args.row + steps_left c.args.terms.now c.args.self.now.tasks.items) c.lay_simple.new.self missing
    (same_less c.args.terms.now c.args.row c.args.self.now.tasks.items c.lay_simple.new.self.tasks.items c.lay_simple.ensures.tasks))

pub returns-in-None-simple-clause-moves : goal.returns-in-None-simple-clause-moves
returns-in-None-simple-clause-moves c =
    let old = c.args.self.now in
    let t = c.args.terms.now in
    let more = left t old.tasks.items old.around in
    let new = c.lay_complex.new.self in
    if_ok c.lay_complex.result _ _ c.lay_complex.ensures.moves
    (λ missing moves. moves_too c.args.events.now old new
    (Takes (λ event. begun_laying (c.as_str-in-None-simple.result.now ∷ old.around) (laying t c.in-Some-Elem.body (c.as_str-in-None-simple.result.now ∷ old.around) (Takes (λ end. more))) (begins c.args.row event)))
    (laying t c.args.row old.around more) (left t new.tasks.items new.around) missing
    (laid_complex t c.args.row old.around more c.as_str-in-None-simple.result.now c.in-Some-Elem.field-0-2 c.in-Some-Elem.field-0-3 c.in-Some-Elem.body
    (there _ _ _ c.in-Some-Elem.ensures.row (c.in-Some-Elem.field-0-is ∙ (ap (λ s. Elem c.in-Some-Elem.name s c.in-Some-Elem.field-0-2 c.in-Some-Elem.field-0-3 c.in-Some-Elem.body) c.in-None-simple.is
    ∙ ap (λ n. Elem n None c.in-Some-Elem.field-0-2 c.in-Some-Elem.field-0-3 c.in-Some-Elem.body) (sym c.as_str-in-None-simple.ensures))))
    (below_elem _ _ _ _ _ _ _ c.in-Some-Elem.field-0-is c.in-Some-Elem.ensures.nests)) moves)

pub returns-in-None-simple-clause-less : goal.returns-in-None-simple-clause-less
returns-in-None-simple-clause-less c =
    let t = c.args.terms.now in
    let old = c.args.self.now in
    if_ok c.lay_complex.result _ _ c.lay_complex.ensures.less
    (λ missing less. less_too t (2 + steps_of t c.in-Some-Elem.body + steps_left t old.tasks.items) (steps_of t c.args.row + steps_left t old.tasks.items) c.lay_complex.new.self missing
    (complex_less t c.args.row old.tasks.items c.lay_complex.new.self.tasks.items c.in-Some-Elem.name c.in-Some-Elem.field-0-2 c.in-Some-Elem.field-0-3 c.in-Some-Elem.body
    (there _ _ _ c.in-Some-Elem.ensures.row (c.in-Some-Elem.field-0-is ∙ ap (λ s. Elem c.in-Some-Elem.name s c.in-Some-Elem.field-0-2 c.in-Some-Elem.field-0-3 c.in-Some-Elem.body) c.in-None-simple.is))
    (below_elem _ _ _ _ _ _ _ c.in-Some-Elem.field-0-is c.in-Some-Elem.ensures.nests)) less)

pub returns-in-Some-Group-clause-moves : goal.returns-in-Some-Group-clause-moves
returns-in-Some-Group-clause-moves c =
    let old = c.args.self.now in
    let t = c.args.terms.now in
    let more = left t old.tasks.items old.around in
    if_ok_both c.lay_group.result _ _ _ c.lay_group.ensures.none c.lay_group.ensures.tasks
    (λ missing none tasks. moves_group t c.args.events.now old c.lay_group.new.self (laying t c.args.row old.around more) c.in-Some-Group.children missing none
    (laid_group t c.args.row old.around more c.in-Some-Group.children (there _ _ _ c.in-Some-Group.ensures.row c.in-Some-Group.field-0-is)
    (below_group _ _ _ c.in-Some-Group.field-0-is c.in-Some-Group.ensures.nests))
    (tasks ∙ ap (λ rows. map Lay rows ++ old.tasks.items) c.as_slice.ensures) c.lay_group.ensures.names c.lay_group.ensures.at c.lay_group.ensures.pieces)

pub returns-in-Some-Group-clause-less : goal.returns-in-Some-Group-clause-less
returns-in-Some-Group-clause-less c =
    let t = c.args.terms.now in
    let old = c.args.self.now in
    if_ok c.lay_group.result _ _ c.lay_group.ensures.tasks
    (λ missing tasks. is_less t (steps_of t c.args.row + steps_left t old.tasks.items) c.lay_group.new.self missing
    (group_less t c.args.row old.tasks.items c.lay_group.new.self.tasks.items c.in-Some-Group.children (there _ _ _ c.in-Some-Group.ensures.row c.in-Some-Group.field-0-is)
    (below_group _ _ _ c.in-Some-Group.field-0-is c.in-Some-Group.ensures.nests) (tasks ∙ ap (λ rows. map Lay rows ++ old.tasks.items) c.as_slice.ensures)))

pub returns-in-Some-Repeat-clause-moves : goal.returns-in-Some-Repeat-clause-moves
returns-in-Some-Repeat-clause-moves c =
    let old = c.args.self.now in
    let t = c.args.terms.now in
    let body = c.in-Some-Repeat.body in
    let more = left t old.tasks.items old.around in
    if_ok_both c.lay_group-in-Some-Repeat.result _ _ _ c.lay_group-in-Some-Repeat.ensures.none c.lay_group-in-Some-Repeat.ensures.tasks
    (λ missing none tasks. moves_group t c.args.events.now old c.lay_group-in-Some-Repeat.new.self (laying t c.args.row old.around more) (body ∷ []) missing none
    (laid_repeat t c.args.row old.around more _ body (there _ _ _ c.in-Some-Repeat.ensures.row c.in-Some-Repeat.field-0-is)
    (below_repeat _ _ _ _ c.in-Some-Repeat.field-0-is c.in-Some-Repeat.ensures.nests))
    tasks c.lay_group-in-Some-Repeat.ensures.names c.lay_group-in-Some-Repeat.ensures.at c.lay_group-in-Some-Repeat.ensures.pieces)

pub returns-in-Some-Repeat-clause-less : goal.returns-in-Some-Repeat-clause-less
returns-in-Some-Repeat-clause-less c =
    let t = c.args.terms.now in
    let old = c.args.self.now in
    if_ok c.lay_group-in-Some-Repeat.result _ _ c.lay_group-in-Some-Repeat.ensures.tasks
    (λ missing tasks. is_less t (steps_of t c.args.row + steps_left t old.tasks.items) c.lay_group-in-Some-Repeat.new.self missing
    (repeat_less t c.args.row old.tasks.items c.lay_group-in-Some-Repeat.new.self.tasks.items _ c.in-Some-Repeat.body
    (there _ _ _ c.in-Some-Repeat.ensures.row c.in-Some-Repeat.field-0-is)
    (below_repeat _ _ _ _ c.in-Some-Repeat.field-0-is c.in-Some-Repeat.ensures.nests) tasks))

pub returns-in-Some-Leaf-clause-moves : goal.returns-in-Some-Leaf-clause-moves
returns-in-Some-Leaf-clause-moves c =
    let old = c.args.self.now in
    let t = c.args.terms.now in
    ap (outcome old c.args.events.now) (sym (laid_leaf t c.args.row old.around (left t old.tasks.items old.around) _ (there _ _ _ c.in-Some-Leaf.ensures.row c.in-Some-Leaf.field-0-is)))

pub returns-in-Some-Leaf-clause-less : goal.returns-in-Some-Leaf-clause-less
returns-in-Some-Leaf-clause-less c = same_less c.args.terms.now c.args.row c.args.self.now.tasks.items c.args.self.now.tasks.items refl

pub returns-in-Some-Skip-clause-moves : goal.returns-in-Some-Skip-clause-moves
returns-in-Some-Skip-clause-moves c =
    let old = c.args.self.now in
    let t = c.args.terms.now in
    ap (outcome old c.args.events.now) (sym (laid_skip t c.args.row old.around (left t old.tasks.items old.around) _ (there _ _ _ c.in-Some-Skip.ensures.row c.in-Some-Skip.field-0-is)))

pub returns-in-Some-Skip-clause-less : goal.returns-in-Some-Skip-clause-less
returns-in-Some-Skip-clause-less c = same_less c.args.terms.now c.args.row c.args.self.now.tasks.items c.args.self.now.tasks.items refl

pub returns-in-Some-Align-clause-moves : goal.returns-in-Some-Align-clause-moves
returns-in-Some-Align-clause-moves c =
    let old = c.args.self.now in
    let t = c.args.terms.now in
    ap (outcome old c.args.events.now) (sym (laid_align t c.args.row old.around (left t old.tasks.items old.around) _ (there _ _ _ c.in-Some-Align.ensures.row c.in-Some-Align.field-0-is)))

pub returns-in-Some-Align-clause-less : goal.returns-in-Some-Align-clause-less
returns-in-Some-Align-clause-less c = same_less c.args.terms.now c.args.row c.args.self.now.tasks.items c.args.self.now.tasks.items refl

pub returns-in-Some-Initiator-clause-moves : goal.returns-in-Some-Initiator-clause-moves
returns-in-Some-Initiator-clause-moves c =
    let old = c.args.self.now in
    let t = c.args.terms.now in
    ap (outcome old c.args.events.now) (sym (laid_initiator t c.args.row old.around (left t old.tasks.items old.around) _ (there _ _ _ c.in-Some-Initiator.ensures.row c.in-Some-Initiator.field-0-is)))

pub returns-in-Some-Initiator-clause-less : goal.returns-in-Some-Initiator-clause-less
returns-in-Some-Initiator-clause-less c = same_less c.args.terms.now c.args.row c.args.self.now.tasks.items c.args.self.now.tasks.items refl

pub returns-in-Some-Terminator-clause-moves : goal.returns-in-Some-Terminator-clause-moves
returns-in-Some-Terminator-clause-moves c =
    let old = c.args.self.now in
    let t = c.args.terms.now in
    ap (outcome old c.args.events.now) (sym (laid_terminator t c.args.row old.around (left t old.tasks.items old.around) _ _ (there _ _ _ c.in-Some-Terminator.ensures.row c.in-Some-Terminator.field-0-is)))

pub returns-in-Some-Terminator-clause-less : goal.returns-in-Some-Terminator-clause-less
returns-in-Some-Terminator-clause-less c = same_less c.args.terms.now c.args.row c.args.self.now.tasks.items c.args.self.now.tasks.items refl

pub returns-in-Some-Separator-clause-moves : goal.returns-in-Some-Separator-clause-moves
returns-in-Some-Separator-clause-moves c =
    let old = c.args.self.now in
    let t = c.args.terms.now in
    ap (outcome old c.args.events.now) (sym (laid_separator t c.args.row old.around (left t old.tasks.items old.around) (there _ _ _ c.in-Some-Separator.ensures.row c.in-Some-Separator.field-0-is)))

pub returns-in-Some-Separator-clause-less : goal.returns-in-Some-Separator-clause-less
returns-in-Some-Separator-clause-less c = same_less c.args.terms.now c.args.row c.args.self.now.tasks.items c.args.self.now.tasks.items refl

pub returns-in-Some-Boxed-clause-moves : goal.returns-in-Some-Boxed-clause-moves
returns-in-Some-Boxed-clause-moves c =
    let old = c.args.self.now in
    let t = c.args.terms.now in
    ap (outcome old c.args.events.now) (sym (laid_boxed t c.args.row old.around (left t old.tasks.items old.around) _ _ (there _ _ _ c.in-Some-Boxed.ensures.row c.in-Some-Boxed.field-0-is)))

pub returns-in-Some-Boxed-clause-less : goal.returns-in-Some-Boxed-clause-less
returns-in-Some-Boxed-clause-less c = same_less c.args.terms.now c.args.row c.args.self.now.tasks.items c.args.self.now.tasks.items refl

pub returns-in-Some-Scope-clause-moves : goal.returns-in-Some-Scope-clause-moves
returns-in-Some-Scope-clause-moves c =
    let old = c.args.self.now in
    let t = c.args.terms.now in
    ap (outcome old c.args.events.now) (sym (laid_scope t c.args.row old.around (left t old.tasks.items old.around) _ _ (there _ _ _ c.in-Some-Scope.ensures.row c.in-Some-Scope.field-0-is)))

pub returns-in-Some-Scope-clause-less : goal.returns-in-Some-Scope-clause-less
returns-in-Some-Scope-clause-less c = same_less c.args.terms.now c.args.row c.args.self.now.tasks.items c.args.self.now.tasks.items refl

pub returns-in-Some-Optional-clause-moves : goal.returns-in-Some-Optional-clause-moves
returns-in-Some-Optional-clause-moves c =
    let old = c.args.self.now in
    let t = c.args.terms.now in
    ap (outcome old c.args.events.now) (sym (laid_optional t c.args.row old.around (left t old.tasks.items old.around) _ _ _ _
    (there _ _ _ c.in-Some-Optional.ensures.row c.in-Some-Optional.field-0-is)))

pub returns-in-Some-Optional-clause-less : goal.returns-in-Some-Optional-clause-less
returns-in-Some-Optional-clause-less c = same_less c.args.terms.now c.args.row c.args.self.now.tasks.items c.args.self.now.tasks.items refl

pub returns-in-Some-Choice-clause-moves : goal.returns-in-Some-Choice-clause-moves
returns-in-Some-Choice-clause-moves c =
    let old = c.args.self.now in
    let t = c.args.terms.now in
    ap (outcome old c.args.events.now) (sym (laid_choice t c.args.row old.around (left t old.tasks.items old.around) _ _
    (there _ _ _ c.in-Some-Choice.ensures.row c.in-Some-Choice.field-0-is)))

pub returns-in-Some-Choice-clause-less : goal.returns-in-Some-Choice-clause-less
returns-in-Some-Choice-clause-less c = same_less c.args.terms.now c.args.row c.args.self.now.tasks.items c.args.self.now.tasks.items refl

pub returns-in-Some-Statement-clause-moves : goal.returns-in-Some-Statement-clause-moves
returns-in-Some-Statement-clause-moves c =
    let old = c.args.self.now in
    let t = c.args.terms.now in
    ap (outcome old c.args.events.now) (sym (laid_nothing t c.args.row old.around (left t old.tasks.items old.around) _
    (there _ _ _ c.in-Some-Statement.ensures.row c.in-Some-Statement.field-0-is) refl))

pub returns-in-Some-Statement-clause-less : goal.returns-in-Some-Statement-clause-less
returns-in-Some-Statement-clause-less c = same_less c.args.terms.now c.args.row c.args.self.now.tasks.items c.args.self.now.tasks.items refl

pub returns-in-Some-Dispatch-clause-moves : goal.returns-in-Some-Dispatch-clause-moves
returns-in-Some-Dispatch-clause-moves c =
    let old = c.args.self.now in
    let t = c.args.terms.now in
    ap (outcome old c.args.events.now) (sym (laid_nothing t c.args.row old.around (left t old.tasks.items old.around) _
    (there _ _ _ c.in-Some-Dispatch.ensures.row c.in-Some-Dispatch.field-0-is) refl))

pub returns-in-Some-Dispatch-clause-less : goal.returns-in-Some-Dispatch-clause-less
returns-in-Some-Dispatch-clause-less c = same_less c.args.terms.now c.args.row c.args.self.now.tasks.items c.args.self.now.tasks.items refl

pub returns-in-Some-Counted-clause-moves : goal.returns-in-Some-Counted-clause-moves
returns-in-Some-Counted-clause-moves c =
    let old = c.args.self.now in
    let t = c.args.terms.now in
    ap (outcome old c.args.events.now) (sym (laid_nothing t c.args.row old.around (left t old.tasks.items old.around) _
    (there _ _ _ c.in-Some-Counted.ensures.row c.in-Some-Counted.field-0-is) refl))

pub returns-in-Some-Counted-clause-less : goal.returns-in-Some-Counted-clause-less
returns-in-Some-Counted-clause-less c = same_less c.args.terms.now c.args.row c.args.self.now.tasks.items c.args.self.now.tasks.items refl

pub returns-in-Some-MeasuredBox-clause-moves : goal.returns-in-Some-MeasuredBox-clause-moves
returns-in-Some-MeasuredBox-clause-moves c =
    let old = c.args.self.now in
    let t = c.args.terms.now in
    ap (outcome old c.args.events.now) (sym (laid_nothing t c.args.row old.around (left t old.tasks.items old.around) _
    (there _ _ _ c.in-Some-MeasuredBox.ensures.row c.in-Some-MeasuredBox.field-0-is) refl))

pub returns-in-Some-MeasuredBox-clause-less : goal.returns-in-Some-MeasuredBox-clause-less
returns-in-Some-MeasuredBox-clause-less c = same_less c.args.terms.now c.args.row c.args.self.now.tasks.items c.args.self.now.tasks.items refl

pub returns-in-Some-MeasuredLeaf-clause-moves : goal.returns-in-Some-MeasuredLeaf-clause-moves
returns-in-Some-MeasuredLeaf-clause-moves c =
    let old = c.args.self.now in
    let t = c.args.terms.now in
    ap (outcome old c.args.events.now) (sym (laid_nothing t c.args.row old.around (left t old.tasks.items old.around) _
    (there _ _ _ c.in-Some-MeasuredLeaf.ensures.row c.in-Some-MeasuredLeaf.field-0-is) refl))

pub returns-in-Some-MeasuredLeaf-clause-less : goal.returns-in-Some-MeasuredLeaf-clause-less
returns-in-Some-MeasuredLeaf-clause-less c = same_less c.args.terms.now c.args.row c.args.self.now.tasks.items c.args.self.now.tasks.items refl

pub returns-in-Some-Concluded-clause-moves : goal.returns-in-Some-Concluded-clause-moves
returns-in-Some-Concluded-clause-moves c =
    let old = c.args.self.now in
    let t = c.args.terms.now in
    ap (outcome old c.args.events.now) (sym (laid_nothing t c.args.row old.around (left t old.tasks.items old.around) _
    (there _ _ _ c.in-Some-Concluded.ensures.row c.in-Some-Concluded.field-0-is) refl))

pub returns-in-Some-Concluded-clause-less : goal.returns-in-Some-Concluded-clause-less
returns-in-Some-Concluded-clause-less c = same_less c.args.terms.now c.args.row c.args.self.now.tasks.items c.args.self.now.tasks.items refl

pub returns-in-Some-Hidden-clause-moves : goal.returns-in-Some-Hidden-clause-moves
returns-in-Some-Hidden-clause-moves c =
    let old = c.args.self.now in
    let t = c.args.terms.now in
    ap (outcome old c.args.events.now) (sym (laid_nothing t c.args.row old.around (left t old.tasks.items old.around) _
    (there _ _ _ c.in-Some-Hidden.ensures.row c.in-Some-Hidden.field-0-is) refl))

pub returns-in-Some-Hidden-clause-less : goal.returns-in-Some-Hidden-clause-less
returns-in-Some-Hidden-clause-less c = same_less c.args.terms.now c.args.row c.args.self.now.tasks.items c.args.self.now.tasks.items refl

pub returns-in-Some-Spanned-clause-moves : goal.returns-in-Some-Spanned-clause-moves
returns-in-Some-Spanned-clause-moves c =
    let old = c.args.self.now in
    let t = c.args.terms.now in
    let body = c.in-Some-Spanned.body in
    let more = left t old.tasks.items old.around in
    if_ok_both c.lay_group-in-Some-Spanned.result _ _ _ c.lay_group-in-Some-Spanned.ensures.none c.lay_group-in-Some-Spanned.ensures.tasks
    (λ missing none tasks. moves_group t c.args.events.now old c.lay_group-in-Some-Spanned.new.self (laying t c.args.row old.around more) (body ∷ []) missing none
    (laid_spanned t c.args.row old.around more body (there _ _ _ c.in-Some-Spanned.ensures.row c.in-Some-Spanned.field-0-is)
    (below_spanned _ _ _ c.in-Some-Spanned.field-0-is c.in-Some-Spanned.ensures.nests))
    tasks c.lay_group-in-Some-Spanned.ensures.names c.lay_group-in-Some-Spanned.ensures.at c.lay_group-in-Some-Spanned.ensures.pieces)

pub returns-in-Some-Spanned-clause-less : goal.returns-in-Some-Spanned-clause-less
returns-in-Some-Spanned-clause-less c =
    let t = c.args.terms.now in
    let old = c.args.self.now in
    if_ok c.lay_group-in-Some-Spanned.result _ _ c.lay_group-in-Some-Spanned.ensures.tasks
    (λ missing tasks. is_less t (steps_of t c.args.row + steps_left t old.tasks.items) c.lay_group-in-Some-Spanned.new.self missing
    (spanned_less t c.args.row old.tasks.items c.lay_group-in-Some-Spanned.new.self.tasks.items c.in-Some-Spanned.body
    (there _ _ _ c.in-Some-Spanned.ensures.row c.in-Some-Spanned.field-0-is)
    (below_spanned _ _ _ c.in-Some-Spanned.field-0-is c.in-Some-Spanned.ensures.nests) tasks))

pub returns-in-Some-Instance-clause-moves : goal.returns-in-Some-Instance-clause-moves
returns-in-Some-Instance-clause-moves c =
    let old = c.args.self.now in
    let t = c.args.terms.now in
    ap (outcome old c.args.events.now) (sym (laid_nothing t c.args.row old.around (left t old.tasks.items old.around) _
    (there _ _ _ c.in-Some-Instance.ensures.row c.in-Some-Instance.field-0-is) refl))

pub returns-in-Some-Instance-clause-less : goal.returns-in-Some-Instance-clause-less
returns-in-Some-Instance-clause-less c = same_less c.args.terms.now c.args.row c.args.self.now.tasks.items c.args.self.now.tasks.items refl

pub returns-in-Some-Separated-clause-moves : goal.returns-in-Some-Separated-clause-moves
returns-in-Some-Separated-clause-moves c =
    let old = c.args.self.now in
    let t = c.args.terms.now in
    ap (outcome old c.args.events.now) (sym (laid_nothing t c.args.row old.around (left t old.tasks.items old.around) _
    (there _ _ _ c.in-Some-Separated.ensures.row c.in-Some-Separated.field-0-is) refl))

pub returns-in-Some-Separated-clause-less : goal.returns-in-Some-Separated-clause-less
returns-in-Some-Separated-clause-less c = same_less c.args.terms.now c.args.row c.args.self.now.tasks.items c.args.self.now.tasks.items refl

pub returns-in-Some-PrefixedLeaf-clause-moves : goal.returns-in-Some-PrefixedLeaf-clause-moves
returns-in-Some-PrefixedLeaf-clause-moves c =
    let old = c.args.self.now in
    let t = c.args.terms.now in
    ap (outcome old c.args.events.now) (sym (laid_prefixed_leaf t c.args.row old.around (left t old.tasks.items old.around) _ _
    (there _ _ _ c.in-Some-PrefixedLeaf.ensures.row c.in-Some-PrefixedLeaf.field-0-is)))

pub returns-in-Some-PrefixedLeaf-clause-less : goal.returns-in-Some-PrefixedLeaf-clause-less
returns-in-Some-PrefixedLeaf-clause-less c = same_less c.args.terms.now c.args.row c.args.self.now.tasks.items c.args.self.now.tasks.items refl

pub returns-in-Some-PrefixedBox-clause-moves : goal.returns-in-Some-PrefixedBox-clause-moves
returns-in-Some-PrefixedBox-clause-moves c =
    let old = c.args.self.now in
    let t = c.args.terms.now in
    ap (outcome old c.args.events.now) (sym (laid_prefixed_box t c.args.row old.around (left t old.tasks.items old.around) _ _
    (there _ _ _ c.in-Some-PrefixedBox.ensures.row c.in-Some-PrefixedBox.field-0-is)))

pub returns-in-Some-PrefixedBox-clause-less : goal.returns-in-Some-PrefixedBox-clause-less
returns-in-Some-PrefixedBox-clause-less c = same_less c.args.terms.now c.args.row c.args.self.now.tasks.items c.args.self.now.tasks.items refl

pub returns-in-None-clause-moves : goal.returns-in-None-clause-moves
returns-in-None-clause-moves c =
    let old = c.args.self.now in
    let t = c.args.terms.now in
    ap (outcome old c.args.events.now) (sym (laid_no_row t c.args.row old.around (left t old.tasks.items old.around) (sym c.in-None.ensures.row)))

pub returns-in-None-clause-less : goal.returns-in-None-clause-less
returns-in-None-clause-less c = same_less c.args.terms.now c.args.row c.args.self.now.tasks.items c.args.self.now.tasks.items refl
