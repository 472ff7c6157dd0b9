use Rattle.dfdl_json.proofs.Declares.{there, on_ok, below_elem, below_group, elem_visited, elem_less, parts_visited, parts_less, group_declares, group_steps, bare_visited, bare_less, leaf_declares, leaf_steps, skip_declares, skip_steps, align_declares, align_steps, initiator_declares, initiator_steps, terminator_declares, separator_declares, terminator_steps, separator_steps, below_scope, below_concluded, scope_declares, concluded_declares, scope_steps, concluded_steps, below_box, box_declares, box_steps, body_visited, body_less, prefixed_leaf_declares, prefixed_leaf_steps, below_prefixed_box, prefixed_box_declares, prefixed_box_steps, below_repeat, repeat_declares, repeat_steps, below_optional, optional_declares, optional_steps, below_choice, choice_declares, choice_steps, statement_declares, statement_steps, below_hidden, hidden_declares, hidden_steps, below_spanned, spanned_declares, spanned_steps, below_instance, instance_declares, instance_steps, measured_leaf_declares, measured_leaf_steps, below_measured_box, measured_box_declares, measured_box_steps, below_counted, counted_declares, counted_steps, below_dispatch, dispatch_declares, dispatch_steps, below_separated, separated_declares, separated_steps, no_row_declares, no_row_steps}
use Rattle.std.proofs.Common.{sym, ◌∙◌, ap, [], ◌++◌}
use Rattle.dfdl_json.specs.Children.{bodies_of, keyed}
use Rattle.dfdl_json.proofs.children.visit.Goals as goal

pub returns-in_ok-push-in-Some-Elem-clause-same : goal.returns-in_ok-push-in-Some-Elem-clause-same
returns-in_ok-push-in-Some-Elem-clause-same c =
    elem_visited c.args.terms.now c.args.row _ _ _ _ _ _ _ _ (there _ _ _ c.in-Some-Elem.ensures.row c.in-Some-Elem.field-0-is) c.in_ok-push-in-Some-Elem.ensures.items

pub returns-in_ok-push-in-Some-Elem-clause-less : goal.returns-in_ok-push-in-Some-Elem-clause-less
returns-in_ok-push-in-Some-Elem-clause-less c =
    elem_less c.args.terms.now c.args.row [] _ _ _ _ _ _ (there _ _ _ c.in-Some-Elem.ensures.row c.in-Some-Elem.field-0-is) (below_elem _ _ _ _ _ _ _ c.in-Some-Elem.field-0-is c.in-Some-Elem.ensures.nests)

pub returns-in-Some-Group-clause-same : goal.returns-in-Some-Group-clause-same
returns-in-Some-Group-clause-same c = on_ok c.push_all.result _ _ c.push_all.ensures
    (λ now_is. parts_visited c.args.terms.now c.args.row c.args.elements.now.items _ _ _
    (group_declares c.args.terms.now c.args.row _ (there _ _ _ c.in-Some-Group.ensures.row c.in-Some-Group.field-0-is)
    (below_group _ _ _ c.in-Some-Group.field-0-is c.in-Some-Group.ensures.nests)) (now_is ∙ ap (λ xs. xs ++ c.args.left.now.items) c.as_slice.ensures))

pub returns-in-Some-Group-clause-less : goal.returns-in-Some-Group-clause-less
returns-in-Some-Group-clause-less c = on_ok c.push_all.result _ _ c.push_all.ensures
    (λ now_is. parts_less c.args.terms.now c.args.row [] _ _ _
    (group_steps c.args.terms.now c.args.row _ (there _ _ _ c.in-Some-Group.ensures.row c.in-Some-Group.field-0-is)
    (below_group _ _ _ c.in-Some-Group.field-0-is c.in-Some-Group.ensures.nests)) (now_is ∙ ap (λ xs. xs ++ c.args.left.now.items) c.as_slice.ensures))

pub returns-in-Some-Leaf-clause-same : goal.returns-in-Some-Leaf-clause-same
returns-in-Some-Leaf-clause-same c =
    bare_visited c.args.terms.now c.args.row _ _ (leaf_declares c.args.terms.now c.args.row _ (there _ _ _ c.in-Some-Leaf.ensures.row c.in-Some-Leaf.field-0-is))

pub returns-in-Some-Leaf-clause-less : goal.returns-in-Some-Leaf-clause-less
returns-in-Some-Leaf-clause-less c =
    bare_less c.args.terms.now c.args.row [] _ (leaf_steps c.args.terms.now c.args.row _ (there _ _ _ c.in-Some-Leaf.ensures.row c.in-Some-Leaf.field-0-is))

pub returns-in-Some-Skip-clause-same : goal.returns-in-Some-Skip-clause-same
returns-in-Some-Skip-clause-same c =
    bare_visited c.args.terms.now c.args.row _ _ (skip_declares c.args.terms.now c.args.row _ (there _ _ _ c.in-Some-Skip.ensures.row c.in-Some-Skip.field-0-is))

pub returns-in-Some-Skip-clause-less : goal.returns-in-Some-Skip-clause-less
returns-in-Some-Skip-clause-less c =
    bare_less c.args.terms.now c.args.row [] _ (skip_steps c.args.terms.now c.args.row _ (there _ _ _ c.in-Some-Skip.ensures.row c.in-Some-Skip.field-0-is))

pub returns-in-Some-Align-clause-same : goal.returns-in-Some-Align-clause-same
returns-in-Some-Align-clause-same c =
    bare_visited c.args.terms.now c.args.row _ _ (align_declares c.args.terms.now c.args.row _ (there _ _ _ c.in-Some-Align.ensures.row c.in-Some-Align.field-0-is))

pub returns-in-Some-Align-clause-less : goal.returns-in-Some-Align-clause-less
returns-in-Some-Align-clause-less c =
    bare_less c.args.terms.now c.args.row [] _ (align_steps c.args.terms.now c.args.row _ (there _ _ _ c.in-Some-Align.ensures.row c.in-Some-Align.field-0-is))

pub returns-in-Some-Initiator-clause-same : goal.returns-in-Some-Initiator-clause-same
returns-in-Some-Initiator-clause-same c =
    bare_visited c.args.terms.now c.args.row _ _ (initiator_declares c.args.terms.now c.args.row _ (there _ _ _ c.in-Some-Initiator.ensures.row c.in-Some-Initiator.field-0-is))

pub returns-in-Some-Initiator-clause-less : goal.returns-in-Some-Initiator-clause-less
returns-in-Some-Initiator-clause-less c =
    bare_less c.args.terms.now c.args.row [] _ (initiator_steps c.args.terms.now c.args.row _ (there _ _ _ c.in-Some-Initiator.ensures.row c.in-Some-Initiator.field-0-is))

pub returns-in-Some-Terminator-clause-same : goal.returns-in-Some-Terminator-clause-same
returns-in-Some-Terminator-clause-same c =
    bare_visited c.args.terms.now c.args.row _ _ (terminator_declares c.args.terms.now c.args.row _ _ (there _ _ _ c.in-Some-Terminator.ensures.row c.in-Some-Terminator.field-0-is))

pub returns-in-Some-Terminator-clause-less : goal.returns-in-Some-Terminator-clause-less
returns-in-Some-Terminator-clause-less c =
    bare_less c.args.terms.now c.args.row [] _ (terminator_steps c.args.terms.now c.args.row _ _ (there _ _ _ c.in-Some-Terminator.ensures.row c.in-Some-Terminator.field-0-is))

pub returns-in-Some-Separator-clause-same : goal.returns-in-Some-Separator-clause-same
returns-in-Some-Separator-clause-same c =
    bare_visited c.args.terms.now c.args.row _ _ (separator_declares c.args.terms.now c.args.row (there _ _ _ c.in-Some-Separator.ensures.row c.in-Some-Separator.field-0-is))

pub returns-in-Some-Separator-clause-less : goal.returns-in-Some-Separator-clause-less
returns-in-Some-Separator-clause-less c =
    bare_less c.args.terms.now c.args.row [] _ (separator_steps c.args.terms.now c.args.row (there _ _ _ c.in-Some-Separator.ensures.row c.in-Some-Separator.field-0-is))

pub returns-in-Some-Boxed-clause-same : goal.returns-in-Some-Boxed-clause-same
returns-in-Some-Boxed-clause-same c = on_ok c.push_all-in-Some-Boxed.result _ _ c.push_all-in-Some-Boxed.ensures
    (body_visited c.args.terms.now c.args.row c.args.elements.now.items _ c.in-Some-Boxed.body _
    (box_declares c.args.terms.now c.args.row _ _ (there _ _ _ c.in-Some-Boxed.ensures.row c.in-Some-Boxed.field-0-is)
    (below_box _ _ _ _ c.in-Some-Boxed.field-0-is c.in-Some-Boxed.ensures.nests)))

pub returns-in-Some-Boxed-clause-less : goal.returns-in-Some-Boxed-clause-less
returns-in-Some-Boxed-clause-less c = on_ok c.push_all-in-Some-Boxed.result _ _ c.push_all-in-Some-Boxed.ensures
    (body_less c.args.terms.now c.args.row [] _ c.in-Some-Boxed.body _
    (box_steps c.args.terms.now c.args.row _ _ (there _ _ _ c.in-Some-Boxed.ensures.row c.in-Some-Boxed.field-0-is)
    (below_box _ _ _ _ c.in-Some-Boxed.field-0-is c.in-Some-Boxed.ensures.nests)))

pub returns-in-Some-Scope-clause-same : goal.returns-in-Some-Scope-clause-same
returns-in-Some-Scope-clause-same c = on_ok c.push_all-in-Some-Scope.result _ _ c.push_all-in-Some-Scope.ensures
    (body_visited c.args.terms.now c.args.row c.args.elements.now.items _ c.in-Some-Scope.body _
    (scope_declares c.args.terms.now c.args.row _ _ (there _ _ _ c.in-Some-Scope.ensures.row c.in-Some-Scope.field-0-is)
    (below_scope _ _ _ _ c.in-Some-Scope.field-0-is c.in-Some-Scope.ensures.nests)))

pub returns-in-Some-Scope-clause-less : goal.returns-in-Some-Scope-clause-less
returns-in-Some-Scope-clause-less c = on_ok c.push_all-in-Some-Scope.result _ _ c.push_all-in-Some-Scope.ensures
    (body_less c.args.terms.now c.args.row [] _ c.in-Some-Scope.body _
    (scope_steps c.args.terms.now c.args.row _ _ (there _ _ _ c.in-Some-Scope.ensures.row c.in-Some-Scope.field-0-is)
    (below_scope _ _ _ _ c.in-Some-Scope.field-0-is c.in-Some-Scope.ensures.nests)))

pub returns-in-Some-Repeat-clause-same : goal.returns-in-Some-Repeat-clause-same
returns-in-Some-Repeat-clause-same c = on_ok c.push_all-in-Some-Repeat.result _ _ c.push_all-in-Some-Repeat.ensures
    (body_visited c.args.terms.now c.args.row c.args.elements.now.items _ c.in-Some-Repeat.body _
    (repeat_declares c.args.terms.now c.args.row _ _ (there _ _ _ c.in-Some-Repeat.ensures.row c.in-Some-Repeat.field-0-is)
    (below_repeat _ _ _ _ c.in-Some-Repeat.field-0-is c.in-Some-Repeat.ensures.nests)))

pub returns-in-Some-Repeat-clause-less : goal.returns-in-Some-Repeat-clause-less
returns-in-Some-Repeat-clause-less c = on_ok c.push_all-in-Some-Repeat.result _ _ c.push_all-in-Some-Repeat.ensures
    (body_less c.args.terms.now c.args.row [] _ c.in-Some-Repeat.body _
    (repeat_steps c.args.terms.now c.args.row _ _ (there _ _ _ c.in-Some-Repeat.ensures.row c.in-Some-Repeat.field-0-is)
    (below_repeat _ _ _ _ c.in-Some-Repeat.field-0-is c.in-Some-Repeat.ensures.nests)))

pub returns-in-Some-Counted-clause-same : goal.returns-in-Some-Counted-clause-same
returns-in-Some-Counted-clause-same c = on_ok c.push_all-in-Some-Counted.result _ _ c.push_all-in-Some-Counted.ensures
    (body_visited c.args.terms.now c.args.row c.args.elements.now.items _ c.in-Some-Counted.body _
    (counted_declares c.args.terms.now c.args.row _ _ (there _ _ _ c.in-Some-Counted.ensures.row c.in-Some-Counted.field-0-is)
    (below_counted _ _ _ _ c.in-Some-Counted.field-0-is c.in-Some-Counted.ensures.nests)))

pub returns-in-Some-Counted-clause-less : goal.returns-in-Some-Counted-clause-less
returns-in-Some-Counted-clause-less c = on_ok c.push_all-in-Some-Counted.result _ _ c.push_all-in-Some-Counted.ensures
    (body_less c.args.terms.now c.args.row [] _ c.in-Some-Counted.body _
    (counted_steps c.args.terms.now c.args.row _ _ (there _ _ _ c.in-Some-Counted.ensures.row c.in-Some-Counted.field-0-is)
    (below_counted _ _ _ _ c.in-Some-Counted.field-0-is c.in-Some-Counted.ensures.nests)))

pub returns-in-Some-Optional-clause-same : goal.returns-in-Some-Optional-clause-same
returns-in-Some-Optional-clause-same c = on_ok c.push_all-in-Some-Optional.result _ _ c.push_all-in-Some-Optional.ensures
    (body_visited c.args.terms.now c.args.row c.args.elements.now.items _ c.in-Some-Optional.body _
    (optional_declares c.args.terms.now c.args.row _ _ _ _ (there _ _ _ c.in-Some-Optional.ensures.row c.in-Some-Optional.field-0-is)
    (below_optional _ _ _ _ _ _ c.in-Some-Optional.field-0-is c.in-Some-Optional.ensures.nests)))

pub returns-in-Some-Optional-clause-less : goal.returns-in-Some-Optional-clause-less
returns-in-Some-Optional-clause-less c = on_ok c.push_all-in-Some-Optional.result _ _ c.push_all-in-Some-Optional.ensures
    (body_less c.args.terms.now c.args.row [] _ c.in-Some-Optional.body _
    (optional_steps c.args.terms.now c.args.row _ _ _ _ (there _ _ _ c.in-Some-Optional.ensures.row c.in-Some-Optional.field-0-is)
    (below_optional _ _ _ _ _ _ c.in-Some-Optional.field-0-is c.in-Some-Optional.ensures.nests)))

pub returns-in-Some-Choice-clause-same : goal.returns-in-Some-Choice-clause-same
returns-in-Some-Choice-clause-same c = on_ok c.push_all-in-Some-Choice.result _ _ c.push_all-in-Some-Choice.ensures
    (λ now_is. parts_visited c.args.terms.now c.args.row c.args.elements.now.items _ _ _
    (choice_declares c.args.terms.now c.args.row _ _ (there _ _ _ c.in-Some-Choice.ensures.row c.in-Some-Choice.field-0-is)
    (below_choice _ _ _ _ c.in-Some-Choice.field-0-is c.in-Some-Choice.ensures.nests)) (now_is ∙ ap (λ xs. xs ++ c.args.left.now.items) c.as_slice-in-Some-Choice.ensures))

pub returns-in-Some-Choice-clause-less : goal.returns-in-Some-Choice-clause-less
returns-in-Some-Choice-clause-less c = on_ok c.push_all-in-Some-Choice.result _ _ c.push_all-in-Some-Choice.ensures
    (λ now_is. parts_less c.args.terms.now c.args.row [] _ _ _
    (choice_steps c.args.terms.now c.args.row _ _ (there _ _ _ c.in-Some-Choice.ensures.row c.in-Some-Choice.field-0-is)
    (below_choice _ _ _ _ c.in-Some-Choice.field-0-is c.in-Some-Choice.ensures.nests)) (now_is ∙ ap (λ xs. xs ++ c.args.left.now.items) c.as_slice-in-Some-Choice.ensures))

pub returns-in-Some-PrefixedLeaf-clause-same : goal.returns-in-Some-PrefixedLeaf-clause-same
returns-in-Some-PrefixedLeaf-clause-same c =
    bare_visited c.args.terms.now c.args.row _ _
    (prefixed_leaf_declares c.args.terms.now c.args.row _ _ (there _ _ _ c.in-Some-PrefixedLeaf.ensures.row c.in-Some-PrefixedLeaf.field-0-is))

pub returns-in-Some-PrefixedLeaf-clause-less : goal.returns-in-Some-PrefixedLeaf-clause-less
returns-in-Some-PrefixedLeaf-clause-less c =
    bare_less c.args.terms.now c.args.row [] _
    (prefixed_leaf_steps c.args.terms.now c.args.row _ _ (there _ _ _ c.in-Some-PrefixedLeaf.ensures.row c.in-Some-PrefixedLeaf.field-0-is))

pub returns-in-Some-MeasuredLeaf-clause-same : goal.returns-in-Some-MeasuredLeaf-clause-same
returns-in-Some-MeasuredLeaf-clause-same c =
    bare_visited c.args.terms.now c.args.row _ _
    (measured_leaf_declares c.args.terms.now c.args.row _ _ (there _ _ _ c.in-Some-MeasuredLeaf.ensures.row c.in-Some-MeasuredLeaf.field-0-is))

pub returns-in-Some-MeasuredLeaf-clause-less : goal.returns-in-Some-MeasuredLeaf-clause-less
returns-in-Some-MeasuredLeaf-clause-less c =
    bare_less c.args.terms.now c.args.row [] _
    (measured_leaf_steps c.args.terms.now c.args.row _ _ (there _ _ _ c.in-Some-MeasuredLeaf.ensures.row c.in-Some-MeasuredLeaf.field-0-is))

pub returns-in-Some-PrefixedBox-clause-same : goal.returns-in-Some-PrefixedBox-clause-same
returns-in-Some-PrefixedBox-clause-same c = on_ok c.push_all-in-Some-PrefixedBox.result _ _ c.push_all-in-Some-PrefixedBox.ensures
    (body_visited c.args.terms.now c.args.row c.args.elements.now.items _ c.in-Some-PrefixedBox.body _
    (prefixed_box_declares c.args.terms.now c.args.row _ _ (there _ _ _ c.in-Some-PrefixedBox.ensures.row c.in-Some-PrefixedBox.field-0-is)
    (below_prefixed_box _ _ _ _ c.in-Some-PrefixedBox.field-0-is c.in-Some-PrefixedBox.ensures.nests)))

pub returns-in-Some-PrefixedBox-clause-less : goal.returns-in-Some-PrefixedBox-clause-less
returns-in-Some-PrefixedBox-clause-less c = on_ok c.push_all-in-Some-PrefixedBox.result _ _ c.push_all-in-Some-PrefixedBox.ensures
    (body_less c.args.terms.now c.args.row [] _ c.in-Some-PrefixedBox.body _
    (prefixed_box_steps c.args.terms.now c.args.row _ _ (there _ _ _ c.in-Some-PrefixedBox.ensures.row c.in-Some-PrefixedBox.field-0-is)
    (below_prefixed_box _ _ _ _ c.in-Some-PrefixedBox.field-0-is c.in-Some-PrefixedBox.ensures.nests)))

pub returns-in-Some-MeasuredBox-clause-same : goal.returns-in-Some-MeasuredBox-clause-same
returns-in-Some-MeasuredBox-clause-same c = on_ok c.push_all-in-Some-MeasuredBox.result _ _ c.push_all-in-Some-MeasuredBox.ensures
    (body_visited c.args.terms.now c.args.row c.args.elements.now.items _ c.in-Some-MeasuredBox.body _
    (measured_box_declares c.args.terms.now c.args.row _ _ (there _ _ _ c.in-Some-MeasuredBox.ensures.row c.in-Some-MeasuredBox.field-0-is)
    (below_measured_box _ _ _ _ c.in-Some-MeasuredBox.field-0-is c.in-Some-MeasuredBox.ensures.nests)))

pub returns-in-Some-MeasuredBox-clause-less : goal.returns-in-Some-MeasuredBox-clause-less
returns-in-Some-MeasuredBox-clause-less c = on_ok c.push_all-in-Some-MeasuredBox.result _ _ c.push_all-in-Some-MeasuredBox.ensures
    (body_less c.args.terms.now c.args.row [] _ c.in-Some-MeasuredBox.body _
    (measured_box_steps c.args.terms.now c.args.row _ _ (there _ _ _ c.in-Some-MeasuredBox.ensures.row c.in-Some-MeasuredBox.field-0-is)
    (below_measured_box _ _ _ _ c.in-Some-MeasuredBox.field-0-is c.in-Some-MeasuredBox.ensures.nests)))

pub returns-in-Some-Statement-clause-same : goal.returns-in-Some-Statement-clause-same
returns-in-Some-Statement-clause-same c =
    bare_visited c.args.terms.now c.args.row _ _ (statement_declares c.args.terms.now c.args.row _ (there _ _ _ c.in-Some-Statement.ensures.row c.in-Some-Statement.field-0-is))

pub returns-in-Some-Statement-clause-less : goal.returns-in-Some-Statement-clause-less
returns-in-Some-Statement-clause-less c =
    bare_less c.args.terms.now c.args.row [] _ (statement_steps c.args.terms.now c.args.row _ (there _ _ _ c.in-Some-Statement.ensures.row c.in-Some-Statement.field-0-is))

pub returns-in-Some-Concluded-clause-same : goal.returns-in-Some-Concluded-clause-same
returns-in-Some-Concluded-clause-same c = on_ok c.push_all-in-Some-Concluded.result _ _ c.push_all-in-Some-Concluded.ensures
    (body_visited c.args.terms.now c.args.row c.args.elements.now.items _ c.in-Some-Concluded.body _
    (concluded_declares c.args.terms.now c.args.row _ _ (there _ _ _ c.in-Some-Concluded.ensures.row c.in-Some-Concluded.field-0-is)
    (below_concluded _ _ _ _ c.in-Some-Concluded.field-0-is c.in-Some-Concluded.ensures.nests)))

pub returns-in-Some-Concluded-clause-less : goal.returns-in-Some-Concluded-clause-less
returns-in-Some-Concluded-clause-less c = on_ok c.push_all-in-Some-Concluded.result _ _ c.push_all-in-Some-Concluded.ensures
    (body_less c.args.terms.now c.args.row [] _ c.in-Some-Concluded.body _
    (concluded_steps c.args.terms.now c.args.row _ _ (there _ _ _ c.in-Some-Concluded.ensures.row c.in-Some-Concluded.field-0-is)
    (below_concluded _ _ _ _ c.in-Some-Concluded.field-0-is c.in-Some-Concluded.ensures.nests)))

pub returns-in-Some-Hidden-clause-same : goal.returns-in-Some-Hidden-clause-same
returns-in-Some-Hidden-clause-same c = on_ok c.push_all-in-Some-Hidden.result _ _ c.push_all-in-Some-Hidden.ensures
    (body_visited c.args.terms.now c.args.row c.args.elements.now.items _ c.in-Some-Hidden.body _
    (hidden_declares c.args.terms.now c.args.row _ (there _ _ _ c.in-Some-Hidden.ensures.row c.in-Some-Hidden.field-0-is)
    (below_hidden _ _ _ c.in-Some-Hidden.field-0-is c.in-Some-Hidden.ensures.nests)))

pub returns-in-Some-Hidden-clause-less : goal.returns-in-Some-Hidden-clause-less
returns-in-Some-Hidden-clause-less c = on_ok c.push_all-in-Some-Hidden.result _ _ c.push_all-in-Some-Hidden.ensures
    (body_less c.args.terms.now c.args.row [] _ c.in-Some-Hidden.body _
    (hidden_steps c.args.terms.now c.args.row _ (there _ _ _ c.in-Some-Hidden.ensures.row c.in-Some-Hidden.field-0-is)
    (below_hidden _ _ _ c.in-Some-Hidden.field-0-is c.in-Some-Hidden.ensures.nests)))

pub returns-in-Some-Spanned-clause-same : goal.returns-in-Some-Spanned-clause-same
returns-in-Some-Spanned-clause-same c = on_ok c.push_all-in-Some-Spanned.result _ _ c.push_all-in-Some-Spanned.ensures
    (body_visited c.args.terms.now c.args.row c.args.elements.now.items _ c.in-Some-Spanned.body _
    (spanned_declares c.args.terms.now c.args.row _ (there _ _ _ c.in-Some-Spanned.ensures.row c.in-Some-Spanned.field-0-is)
    (below_spanned _ _ _ c.in-Some-Spanned.field-0-is c.in-Some-Spanned.ensures.nests)))

pub returns-in-Some-Spanned-clause-less : goal.returns-in-Some-Spanned-clause-less
returns-in-Some-Spanned-clause-less c = on_ok c.push_all-in-Some-Spanned.result _ _ c.push_all-in-Some-Spanned.ensures
    (body_less c.args.terms.now c.args.row [] _ c.in-Some-Spanned.body _
    (spanned_steps c.args.terms.now c.args.row _ (there _ _ _ c.in-Some-Spanned.ensures.row c.in-Some-Spanned.field-0-is)
    (below_spanned _ _ _ c.in-Some-Spanned.field-0-is c.in-Some-Spanned.ensures.nests)))

pub returns-in-Some-Instance-clause-same : goal.returns-in-Some-Instance-clause-same
returns-in-Some-Instance-clause-same c = on_ok c.push_all-in-Some-Instance.result _ _ c.push_all-in-Some-Instance.ensures
    (body_visited c.args.terms.now c.args.row c.args.elements.now.items _ c.in-Some-Instance.body _
    (instance_declares c.args.terms.now c.args.row _ _ (there _ _ _ c.in-Some-Instance.ensures.row c.in-Some-Instance.field-0-is)
    (below_instance _ _ _ _ c.in-Some-Instance.field-0-is c.in-Some-Instance.ensures.nests)))

pub returns-in-Some-Instance-clause-less : goal.returns-in-Some-Instance-clause-less
returns-in-Some-Instance-clause-less c = on_ok c.push_all-in-Some-Instance.result _ _ c.push_all-in-Some-Instance.ensures
    (body_less c.args.terms.now c.args.row [] _ c.in-Some-Instance.body _
    (instance_steps c.args.terms.now c.args.row _ _ (there _ _ _ c.in-Some-Instance.ensures.row c.in-Some-Instance.field-0-is)
    (below_instance _ _ _ _ c.in-Some-Instance.field-0-is c.in-Some-Instance.ensures.nests)))

pub returns-in-Some-Dispatch-clause-same : goal.returns-in-Some-Dispatch-clause-same
returns-in-Some-Dispatch-clause-same c = on_ok c.push_keys.result _ _ c.push_keys.ensures
    (λ now_is. parts_visited c.args.terms.now c.args.row c.args.elements.now.items _ _ _
    (dispatch_declares c.args.terms.now c.args.row _ _ (there _ _ _ c.in-Some-Dispatch.ensures.row c.in-Some-Dispatch.field-0-is)
    (below_dispatch _ _ _ _ c.in-Some-Dispatch.field-0-is c.in-Some-Dispatch.ensures.nests))
    (now_is ∙ ap (λ xs. keyed xs ++ c.args.left.now.items) c.as_slice-in-Some-Dispatch.ensures))

pub returns-in-Some-Dispatch-clause-less : goal.returns-in-Some-Dispatch-clause-less
returns-in-Some-Dispatch-clause-less c = on_ok c.push_keys.result _ _ c.push_keys.ensures
    (λ now_is. parts_less c.args.terms.now c.args.row [] _ _ _
    (dispatch_steps c.args.terms.now c.args.row _ _ (there _ _ _ c.in-Some-Dispatch.ensures.row c.in-Some-Dispatch.field-0-is)
    (below_dispatch _ _ _ _ c.in-Some-Dispatch.field-0-is c.in-Some-Dispatch.ensures.nests))
    (now_is ∙ ap (λ xs. keyed xs ++ c.args.left.now.items) c.as_slice-in-Some-Dispatch.ensures))

pub returns-in-Some-Separated-clause-same : goal.returns-in-Some-Separated-clause-same
returns-in-Some-Separated-clause-same c = on_ok c.push_slots.result _ _ c.push_slots.ensures
    (λ now_is. parts_visited c.args.terms.now c.args.row c.args.elements.now.items _ _ _
    (separated_declares c.args.terms.now c.args.row _ _ _ _ (there _ _ _ c.in-Some-Separated.ensures.row c.in-Some-Separated.field-0-is)
    (below_separated _ _ _ _ _ _ c.in-Some-Separated.field-0-is c.in-Some-Separated.ensures.nests))
    (now_is ∙ ap (λ xs. bodies_of xs ++ c.args.left.now.items) c.as_slice-in-Some-Separated.ensures))

pub returns-in-Some-Separated-clause-less : goal.returns-in-Some-Separated-clause-less
returns-in-Some-Separated-clause-less c = on_ok c.push_slots.result _ _ c.push_slots.ensures
    (λ now_is. parts_less c.args.terms.now c.args.row [] _ _ _
    (separated_steps c.args.terms.now c.args.row _ _ _ _ (there _ _ _ c.in-Some-Separated.ensures.row c.in-Some-Separated.field-0-is)
    (below_separated _ _ _ _ _ _ c.in-Some-Separated.field-0-is c.in-Some-Separated.ensures.nests))
    (now_is ∙ ap (λ xs. bodies_of xs ++ c.args.left.now.items) c.as_slice-in-Some-Separated.ensures))

pub returns-in-None-clause-same : goal.returns-in-None-clause-same
returns-in-None-clause-same c = bare_visited c.args.terms.now c.args.row _ _ (no_row_declares c.args.terms.now c.args.row (sym c.in-None.ensures.row))

pub returns-in-None-clause-less : goal.returns-in-None-clause-less
returns-in-None-clause-less c = bare_less c.args.terms.now c.args.row [] _ (no_row_steps c.args.terms.now c.args.row (sym c.in-None.ensures.row))
