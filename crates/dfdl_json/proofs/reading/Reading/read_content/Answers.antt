use Rattle.std.proofs.Common.{◌∙◌, ◌∷◌, ◌++◌, ap, sym, fold}
use Rattle.serde_json.specs.View.{view}
use Rattle.dfdl_terms.specs.declared.row.Row.TheVariants.{Elem}
use Rattle.dfdl_json.specs.Found.{noted}
use Rattle.dfdl_json.specs.Infosets.{simple_findings, complex_findings, findings, value_in}
use Rattle.dfdl_json.specs.Members.{members_in}
use Rattle.dfdl_json.specs.Paths.{step_to}
use Rattle.dfdl_json.specs.Reading.{coming, data_at}
use Rattle.dfdl_json.proofs.Declares.{there, on_ok, on_ok_four, below_elem}
use Rattle.dfdl_json.proofs.Contents.{left_same, complex_less, nil_comes, simple_comes, complex_comes, bare_comes, leaf_says, group_says, skip_says, align_says, initiator_says, terminator_says, separator_says, scope_says, concluded_says, repeat_says, optional_says, choice_says, statement_says, hidden_says, spanned_says, instance_says, separated_says, box_says, prefixed_leaf_says, prefixed_box_says, measured_leaf_says, measured_box_says, counted_says, dispatch_says, no_row_says, less_left}
use Rattle.dfdl_json.proofs.reading.Reading.read_content.Goals as goal

pub returns-then-is_nil-clause-same : goal.returns-then-is_nil-clause-same
returns-then-is_nil-clause-same c =
    let old = c.args.self.now in
    on_ok c.say.result _ _ c.say.ensures
    (λ said. nil_comes c.args.terms.now c.args.row c.args.place (view c.args.content.now) old.around old.found old.tasks.items (data_at old.contents.items)
    c.in-Some-Elem.name c.in-Some-Elem.simple c.in-Some-Elem.tried c.in-Some-Elem.field-0-3 c.in-Some-Elem.body c.say.new.self
    (there _ _ _ c.in-Some-Elem.ensures.row c.in-Some-Elem.field-0-is) (sym c.is_nil.ensures ∙ c.if-is_nil.true) said)

pub returns-in-Some-clause-same : goal.returns-in-Some-clause-same
returns-in-Some-clause-same c =
    let old = c.args.self.now in
    let new = c.read_simple.new.self in
    on_ok_four c.read_simple.result _ _ _ _ _ c.read_simple.ensures.tasks c.read_simple.ensures.contents c.read_simple.ensures.names c.read_simple.ensures.found
    (λ tasks contents names found. left_same c.args.terms.now new.found old.tasks.items new.tasks.items old.contents.items new.contents.items old.around new.around tasks contents names
    ∙ simple_comes c.args.terms.now c.args.row c.args.place (view c.args.content.now) old.around old.found old.tasks.items (data_at old.contents.items)
    c.in-Some-Elem.name c.in-Some.kind c.in-Some-Elem.tried c.in-Some-Elem.field-0-3 c.in-Some-Elem.body new.found
    (there _ _ _ c.in-Some-Elem.ensures.row (c.in-Some-Elem.field-0-is
    ∙ ap (λ s. Elem c.in-Some-Elem.name s c.in-Some-Elem.tried c.in-Some-Elem.field-0-3 c.in-Some-Elem.body) c.in-Some.is))
    (sym c.is_nil.ensures ∙ c.if-is_nil.false)
    (found ∙ ap (λ n. fold noted old.found (simple_findings c.args.row (step_to n c.args.place ∷ old.around) (value_in c.in-Some.kind (view c.args.content.now)))) c.as_str.ensures))

pub returns-in-None-simple-clause-same : goal.returns-in-None-simple-clause-same
returns-in-None-simple-clause-same c =
    let old = c.args.self.now in
    on_ok c.read_complex.result _ _ c.read_complex.ensures.same
    (λ same. complex_comes c.args.terms.now c.args.row c.args.place (view c.args.content.now) old.around old.found old.tasks.items (data_at old.contents.items)
    c.in-Some-Elem.name c.in-Some-Elem.tried c.in-Some-Elem.field-0-3 c.in-Some-Elem.body _
    (there _ _ _ c.in-Some-Elem.ensures.row (c.in-Some-Elem.field-0-is
    ∙ ap (λ s. Elem c.in-Some-Elem.name s c.in-Some-Elem.tried c.in-Some-Elem.field-0-3 c.in-Some-Elem.body) c.in-None-simple.is))
    (below_elem _ _ _ _ _ _ _ c.in-Some-Elem.field-0-is c.in-Some-Elem.ensures.nests) (sym c.is_nil.ensures ∙ c.if-is_nil.false)
    (same ∙ ap (λ n. fold noted old.found (complex_findings c.args.terms.now (findings c.args.terms.now) c.args.row (members_in c.args.terms.now c.in-Some-Elem.body)
    (step_to n c.args.place ∷ old.around) (view c.args.content.now) ++ coming c.args.terms.now old.tasks.items (data_at old.contents.items) old.around)) c.as_str-in-None-simple.ensures))

pub returns-in-None-simple-clause-less : goal.returns-in-None-simple-clause-less
returns-in-None-simple-clause-less c = on_ok c.read_complex.result _ _ c.read_complex.ensures.less
    (λ less. complex_less c.args.terms.now c.args.row (view c.args.content.now) _ _ _ c.in-Some-Elem.body _ _
    (there _ _ _ c.in-Some-Elem.ensures.row (c.in-Some-Elem.field-0-is
    ∙ ap (λ s. Elem c.in-Some-Elem.name s c.in-Some-Elem.tried c.in-Some-Elem.field-0-3 c.in-Some-Elem.body) c.in-None-simple.is))
    (below_elem _ _ _ _ _ _ _ c.in-Some-Elem.field-0-is c.in-Some-Elem.ensures.nests) less)

pub returns-in-Some-Leaf-clause-same : goal.returns-in-Some-Leaf-clause-same
returns-in-Some-Leaf-clause-same c =
    bare_comes c.args.terms.now c.args.row c.args.place (view c.args.content.now) c.args.self.now.around c.args.self.now.found c.args.self.now.tasks.items
    (data_at c.args.self.now.contents.items)
    (leaf_says c.args.terms.now c.args.row c.args.place (view c.args.content.now) c.args.self.now.around _ (there _ _ _ c.in-Some-Leaf.ensures.row c.in-Some-Leaf.field-0-is))

pub returns-in-Some-Leaf-clause-less : goal.returns-in-Some-Leaf-clause-less
returns-in-Some-Leaf-clause-less c = less_left _ _

pub returns-in-Some-Group-clause-same : goal.returns-in-Some-Group-clause-same
returns-in-Some-Group-clause-same c =
    bare_comes c.args.terms.now c.args.row c.args.place (view c.args.content.now) c.args.self.now.around c.args.self.now.found c.args.self.now.tasks.items
    (data_at c.args.self.now.contents.items)
    (group_says c.args.terms.now c.args.row c.args.place (view c.args.content.now) c.args.self.now.around _ (there _ _ _ c.in-Some-Group.ensures.row c.in-Some-Group.field-0-is))

pub returns-in-Some-Group-clause-less : goal.returns-in-Some-Group-clause-less
returns-in-Some-Group-clause-less c = less_left _ _

pub returns-in-Some-Skip-clause-same : goal.returns-in-Some-Skip-clause-same
returns-in-Some-Skip-clause-same c =
    bare_comes c.args.terms.now c.args.row c.args.place (view c.args.content.now) c.args.self.now.around c.args.self.now.found c.args.self.now.tasks.items
    (data_at c.args.self.now.contents.items)
    (skip_says c.args.terms.now c.args.row c.args.place (view c.args.content.now) c.args.self.now.around _ (there _ _ _ c.in-Some-Skip.ensures.row c.in-Some-Skip.field-0-is))

pub returns-in-Some-Skip-clause-less : goal.returns-in-Some-Skip-clause-less
returns-in-Some-Skip-clause-less c = less_left _ _

pub returns-in-Some-Align-clause-same : goal.returns-in-Some-Align-clause-same
returns-in-Some-Align-clause-same c =
    bare_comes c.args.terms.now c.args.row c.args.place (view c.args.content.now) c.args.self.now.around c.args.self.now.found c.args.self.now.tasks.items
    (data_at c.args.self.now.contents.items)
    (align_says c.args.terms.now c.args.row c.args.place (view c.args.content.now) c.args.self.now.around _ (there _ _ _ c.in-Some-Align.ensures.row c.in-Some-Align.field-0-is))

pub returns-in-Some-Align-clause-less : goal.returns-in-Some-Align-clause-less
returns-in-Some-Align-clause-less c = less_left _ _

pub returns-in-Some-Initiator-clause-same : goal.returns-in-Some-Initiator-clause-same
returns-in-Some-Initiator-clause-same c =
    bare_comes c.args.terms.now c.args.row c.args.place (view c.args.content.now) c.args.self.now.around c.args.self.now.found c.args.self.now.tasks.items
    (data_at c.args.self.now.contents.items)
    (initiator_says c.args.terms.now c.args.row c.args.place (view c.args.content.now) c.args.self.now.around _ (there _ _ _ c.in-Some-Initiator.ensures.row c.in-Some-Initiator.field-0-is))

pub returns-in-Some-Initiator-clause-less : goal.returns-in-Some-Initiator-clause-less
returns-in-Some-Initiator-clause-less c = less_left _ _

pub returns-in-Some-Terminator-clause-same : goal.returns-in-Some-Terminator-clause-same
returns-in-Some-Terminator-clause-same c =
    bare_comes c.args.terms.now c.args.row c.args.place (view c.args.content.now) c.args.self.now.around c.args.self.now.found c.args.self.now.tasks.items
    (data_at c.args.self.now.contents.items)
    (terminator_says c.args.terms.now c.args.row c.args.place (view c.args.content.now) c.args.self.now.around _ _ (there _ _ _ c.in-Some-Terminator.ensures.row c.in-Some-Terminator.field-0-is))

pub returns-in-Some-Terminator-clause-less : goal.returns-in-Some-Terminator-clause-less
returns-in-Some-Terminator-clause-less c = less_left _ _

pub returns-in-Some-Separator-clause-same : goal.returns-in-Some-Separator-clause-same
returns-in-Some-Separator-clause-same c =
    bare_comes c.args.terms.now c.args.row c.args.place (view c.args.content.now) c.args.self.now.around c.args.self.now.found c.args.self.now.tasks.items
    (data_at c.args.self.now.contents.items)
    (separator_says c.args.terms.now c.args.row c.args.place (view c.args.content.now) c.args.self.now.around (there _ _ _ c.in-Some-Separator.ensures.row c.in-Some-Separator.field-0-is))

pub returns-in-Some-Separator-clause-less : goal.returns-in-Some-Separator-clause-less
returns-in-Some-Separator-clause-less c = less_left _ _

pub returns-in-Some-Boxed-clause-same : goal.returns-in-Some-Boxed-clause-same
returns-in-Some-Boxed-clause-same c =
    bare_comes c.args.terms.now c.args.row c.args.place (view c.args.content.now) c.args.self.now.around c.args.self.now.found c.args.self.now.tasks.items
    (data_at c.args.self.now.contents.items)
    (box_says c.args.terms.now c.args.row c.args.place (view c.args.content.now) c.args.self.now.around _ _ (there _ _ _ c.in-Some-Boxed.ensures.row c.in-Some-Boxed.field-0-is))

pub returns-in-Some-Boxed-clause-less : goal.returns-in-Some-Boxed-clause-less
returns-in-Some-Boxed-clause-less c = less_left _ _

pub returns-in-Some-Scope-clause-same : goal.returns-in-Some-Scope-clause-same
returns-in-Some-Scope-clause-same c =
    bare_comes c.args.terms.now c.args.row c.args.place (view c.args.content.now) c.args.self.now.around c.args.self.now.found c.args.self.now.tasks.items
    (data_at c.args.self.now.contents.items)
    (scope_says c.args.terms.now c.args.row c.args.place (view c.args.content.now) c.args.self.now.around _ _ (there _ _ _ c.in-Some-Scope.ensures.row c.in-Some-Scope.field-0-is))

pub returns-in-Some-Scope-clause-less : goal.returns-in-Some-Scope-clause-less
returns-in-Some-Scope-clause-less c = less_left _ _

pub returns-in-Some-Repeat-clause-same : goal.returns-in-Some-Repeat-clause-same
returns-in-Some-Repeat-clause-same c =
    bare_comes c.args.terms.now c.args.row c.args.place (view c.args.content.now) c.args.self.now.around c.args.self.now.found c.args.self.now.tasks.items
    (data_at c.args.self.now.contents.items)
    (repeat_says c.args.terms.now c.args.row c.args.place (view c.args.content.now) c.args.self.now.around _ _ (there _ _ _ c.in-Some-Repeat.ensures.row c.in-Some-Repeat.field-0-is))

pub returns-in-Some-Repeat-clause-less : goal.returns-in-Some-Repeat-clause-less
returns-in-Some-Repeat-clause-less c = less_left _ _

pub returns-in-Some-Counted-clause-same : goal.returns-in-Some-Counted-clause-same
returns-in-Some-Counted-clause-same c =
    bare_comes c.args.terms.now c.args.row c.args.place (view c.args.content.now) c.args.self.now.around c.args.self.now.found c.args.self.now.tasks.items
    (data_at c.args.self.now.contents.items)
    (counted_says c.args.terms.now c.args.row c.args.place (view c.args.content.now) c.args.self.now.around _ _ (there _ _ _ c.in-Some-Counted.ensures.row c.in-Some-Counted.field-0-is))

pub returns-in-Some-Counted-clause-less : goal.returns-in-Some-Counted-clause-less
returns-in-Some-Counted-clause-less c = less_left _ _

pub returns-in-Some-Optional-clause-same : goal.returns-in-Some-Optional-clause-same
returns-in-Some-Optional-clause-same c =
    bare_comes c.args.terms.now c.args.row c.args.place (view c.args.content.now) c.args.self.now.around c.args.self.now.found c.args.self.now.tasks.items
    (data_at c.args.self.now.contents.items)
    (optional_says c.args.terms.now c.args.row c.args.place (view c.args.content.now) c.args.self.now.around _ _ _ _ (there _ _ _ c.in-Some-Optional.ensures.row c.in-Some-Optional.field-0-is))

pub returns-in-Some-Optional-clause-less : goal.returns-in-Some-Optional-clause-less
returns-in-Some-Optional-clause-less c = less_left _ _

pub returns-in-Some-Choice-clause-same : goal.returns-in-Some-Choice-clause-same
returns-in-Some-Choice-clause-same c =
    bare_comes c.args.terms.now c.args.row c.args.place (view c.args.content.now) c.args.self.now.around c.args.self.now.found c.args.self.now.tasks.items
    (data_at c.args.self.now.contents.items)
    (choice_says c.args.terms.now c.args.row c.args.place (view c.args.content.now) c.args.self.now.around _ _ (there _ _ _ c.in-Some-Choice.ensures.row c.in-Some-Choice.field-0-is))

pub returns-in-Some-Choice-clause-less : goal.returns-in-Some-Choice-clause-less
returns-in-Some-Choice-clause-less c = less_left _ _

pub returns-in-Some-Dispatch-clause-same : goal.returns-in-Some-Dispatch-clause-same
returns-in-Some-Dispatch-clause-same c =
    bare_comes c.args.terms.now c.args.row c.args.place (view c.args.content.now) c.args.self.now.around c.args.self.now.found c.args.self.now.tasks.items
    (data_at c.args.self.now.contents.items)
    (dispatch_says c.args.terms.now c.args.row c.args.place (view c.args.content.now) c.args.self.now.around _ _ (there _ _ _ c.in-Some-Dispatch.ensures.row c.in-Some-Dispatch.field-0-is))

pub returns-in-Some-Dispatch-clause-less : goal.returns-in-Some-Dispatch-clause-less
returns-in-Some-Dispatch-clause-less c = less_left _ _

pub returns-in-Some-PrefixedLeaf-clause-same : goal.returns-in-Some-PrefixedLeaf-clause-same
returns-in-Some-PrefixedLeaf-clause-same c =
    bare_comes c.args.terms.now c.args.row c.args.place (view c.args.content.now) c.args.self.now.around c.args.self.now.found c.args.self.now.tasks.items
    (data_at c.args.self.now.contents.items)
    (prefixed_leaf_says c.args.terms.now c.args.row c.args.place (view c.args.content.now) c.args.self.now.around _ _
    (there _ _ _ c.in-Some-PrefixedLeaf.ensures.row c.in-Some-PrefixedLeaf.field-0-is))

pub returns-in-Some-PrefixedLeaf-clause-less : goal.returns-in-Some-PrefixedLeaf-clause-less
returns-in-Some-PrefixedLeaf-clause-less c = less_left _ _

pub returns-in-Some-MeasuredLeaf-clause-same : goal.returns-in-Some-MeasuredLeaf-clause-same
returns-in-Some-MeasuredLeaf-clause-same c =
    bare_comes c.args.terms.now c.args.row c.args.place (view c.args.content.now) c.args.self.now.around c.args.self.now.found c.args.self.now.tasks.items
    (data_at c.args.self.now.contents.items)
    (measured_leaf_says c.args.terms.now c.args.row c.args.place (view c.args.content.now) c.args.self.now.around _ _
    (there _ _ _ c.in-Some-MeasuredLeaf.ensures.row c.in-Some-MeasuredLeaf.field-0-is))

pub returns-in-Some-MeasuredLeaf-clause-less : goal.returns-in-Some-MeasuredLeaf-clause-less
returns-in-Some-MeasuredLeaf-clause-less c = less_left _ _

pub returns-in-Some-PrefixedBox-clause-same : goal.returns-in-Some-PrefixedBox-clause-same
returns-in-Some-PrefixedBox-clause-same c =
    bare_comes c.args.terms.now c.args.row c.args.place (view c.args.content.now) c.args.self.now.around c.args.self.now.found c.args.self.now.tasks.items
    (data_at c.args.self.now.contents.items)
    (prefixed_box_says c.args.terms.now c.args.row c.args.place (view c.args.content.now) c.args.self.now.around _ _
    (there _ _ _ c.in-Some-PrefixedBox.ensures.row c.in-Some-PrefixedBox.field-0-is))

pub returns-in-Some-PrefixedBox-clause-less : goal.returns-in-Some-PrefixedBox-clause-less
returns-in-Some-PrefixedBox-clause-less c = less_left _ _

pub returns-in-Some-MeasuredBox-clause-same : goal.returns-in-Some-MeasuredBox-clause-same
returns-in-Some-MeasuredBox-clause-same c =
    bare_comes c.args.terms.now c.args.row c.args.place (view c.args.content.now) c.args.self.now.around c.args.self.now.found c.args.self.now.tasks.items
    (data_at c.args.self.now.contents.items)
    (measured_box_says c.args.terms.now c.args.row c.args.place (view c.args.content.now) c.args.self.now.around _ _
    (there _ _ _ c.in-Some-MeasuredBox.ensures.row c.in-Some-MeasuredBox.field-0-is))

pub returns-in-Some-MeasuredBox-clause-less : goal.returns-in-Some-MeasuredBox-clause-less
returns-in-Some-MeasuredBox-clause-less c = less_left _ _

pub returns-in-Some-Statement-clause-same : goal.returns-in-Some-Statement-clause-same
returns-in-Some-Statement-clause-same c =
    bare_comes c.args.terms.now c.args.row c.args.place (view c.args.content.now) c.args.self.now.around c.args.self.now.found c.args.self.now.tasks.items
    (data_at c.args.self.now.contents.items)
    (statement_says c.args.terms.now c.args.row c.args.place (view c.args.content.now) c.args.self.now.around _ (there _ _ _ c.in-Some-Statement.ensures.row c.in-Some-Statement.field-0-is))

pub returns-in-Some-Statement-clause-less : goal.returns-in-Some-Statement-clause-less
returns-in-Some-Statement-clause-less c = less_left _ _

pub returns-in-Some-Concluded-clause-same : goal.returns-in-Some-Concluded-clause-same
returns-in-Some-Concluded-clause-same c =
    bare_comes c.args.terms.now c.args.row c.args.place (view c.args.content.now) c.args.self.now.around c.args.self.now.found c.args.self.now.tasks.items
    (data_at c.args.self.now.contents.items)
    (concluded_says c.args.terms.now c.args.row c.args.place (view c.args.content.now) c.args.self.now.around _ _ (there _ _ _ c.in-Some-Concluded.ensures.row c.in-Some-Concluded.field-0-is))

pub returns-in-Some-Concluded-clause-less : goal.returns-in-Some-Concluded-clause-less
returns-in-Some-Concluded-clause-less c = less_left _ _

pub returns-in-Some-Hidden-clause-same : goal.returns-in-Some-Hidden-clause-same
returns-in-Some-Hidden-clause-same c =
    bare_comes c.args.terms.now c.args.row c.args.place (view c.args.content.now) c.args.self.now.around c.args.self.now.found c.args.self.now.tasks.items
    (data_at c.args.self.now.contents.items)
    (hidden_says c.args.terms.now c.args.row c.args.place (view c.args.content.now) c.args.self.now.around _ (there _ _ _ c.in-Some-Hidden.ensures.row c.in-Some-Hidden.field-0-is))

pub returns-in-Some-Hidden-clause-less : goal.returns-in-Some-Hidden-clause-less
returns-in-Some-Hidden-clause-less c = less_left _ _

pub returns-in-Some-Spanned-clause-same : goal.returns-in-Some-Spanned-clause-same
returns-in-Some-Spanned-clause-same c =
    bare_comes c.args.terms.now c.args.row c.args.place (view c.args.content.now) c.args.self.now.around c.args.self.now.found c.args.self.now.tasks.items
    (data_at c.args.self.now.contents.items)
    (spanned_says c.args.terms.now c.args.row c.args.place (view c.args.content.now) c.args.self.now.around _ (there _ _ _ c.in-Some-Spanned.ensures.row c.in-Some-Spanned.field-0-is))

pub returns-in-Some-Spanned-clause-less : goal.returns-in-Some-Spanned-clause-less
returns-in-Some-Spanned-clause-less c = less_left _ _

pub returns-in-Some-Instance-clause-same : goal.returns-in-Some-Instance-clause-same
returns-in-Some-Instance-clause-same c =
    bare_comes c.args.terms.now c.args.row c.args.place (view c.args.content.now) c.args.self.now.around c.args.self.now.found c.args.self.now.tasks.items
    (data_at c.args.self.now.contents.items)
    (instance_says c.args.terms.now c.args.row c.args.place (view c.args.content.now) c.args.self.now.around _ _ (there _ _ _ c.in-Some-Instance.ensures.row c.in-Some-Instance.field-0-is))

pub returns-in-Some-Instance-clause-less : goal.returns-in-Some-Instance-clause-less
returns-in-Some-Instance-clause-less c = less_left _ _

pub returns-in-Some-Separated-clause-same : goal.returns-in-Some-Separated-clause-same
returns-in-Some-Separated-clause-same c =
    bare_comes c.args.terms.now c.args.row c.args.place (view c.args.content.now) c.args.self.now.around c.args.self.now.found c.args.self.now.tasks.items
    (data_at c.args.self.now.contents.items)
    (separated_says c.args.terms.now c.args.row c.args.place (view c.args.content.now) c.args.self.now.around _ _ _ _ (there _ _ _ c.in-Some-Separated.ensures.row c.in-Some-Separated.field-0-is))

pub returns-in-Some-Separated-clause-less : goal.returns-in-Some-Separated-clause-less
returns-in-Some-Separated-clause-less c = less_left _ _

pub returns-in-None-clause-same : goal.returns-in-None-clause-same
returns-in-None-clause-same c =
    bare_comes c.args.terms.now c.args.row c.args.place (view c.args.content.now) c.args.self.now.around c.args.self.now.found c.args.self.now.tasks.items
    (data_at c.args.self.now.contents.items)
    (no_row_says c.args.terms.now c.args.row c.args.place (view c.args.content.now) c.args.self.now.around (sym c.in-None.ensures.row))

pub returns-in-None-clause-less : goal.returns-in-None-clause-less
returns-in-None-clause-less c = less_left _ _
