use Rattle.std.proofs.Common.{ℕ, ◌-◌, ◌∙◌, refl, sym, ap, subst, false, arith}
use Rattle.dfdl_looks.specs.Tallies.{one_row}
use Rattle.dfdl_terms.specs.declared.keys.Key.{Key}
use Rattle.dfdl_grammar.specs.Leaves.{read_by}
use Rattle.dfdl_parse.specs.declared.frame.Behind.TheVariants as behind
use Rattle.dfdl_parse.specs.Asking.{begins, counted_begins, dispatch_begins, measured_begins}
use Rattle.dfdl_parse.specs.Instances.{instanced_begins}
use Rattle.dfdl_parse.specs.Steps.{Moved}
use Rattle.dfdl_parse.specs.Shown.{limits_of, state_of}
use Rattle.dfdl_parse.proofs.Landings.{asking-entered, box-entered, concluded-entered, leaf-entered, scope-entered, separated-entered, spanned-entered, statement-entered}
use Rattle.std.proofs.Common.{List}
use Rattle.dfdl_terms.specs.declared.row.Row.TheVariants.{Counted, Dispatch, Instance, MeasuredBox, MeasuredLeaf, Separated}
use Rattle.dfdl_terms.specs.declared.slots.Slot.{Slot}
use Rattle.dfdl_parse.specs.Slots.{enter_separated}
use Rattle.dfdl_parse.proofs.SlotMoves.{separated-passes}
use Rattle.dfdl_parse.proofs.SlotTakes.{row-moved}
use Rattle.dfdl_parse.proofs.parser.Parser.enter.Goals as goal

pub returns-in_ok-waits-in-Leaf-clause-moved : goal.returns-in_ok-waits-in-Leaf-clause-moved
returns-in_ok-waits-in-Leaf-clause-moved g c =
    let old = c.args.self.now in
    leaf-entered (limits_of old c.args.sight.now) c.args.terms.now c.args.sight.now c.args.id c.row.result.now old.stack (state_of old) old.far c.begin_leaf_of.new.self
    c.row.ensures.row old.focus c.in-Leaf.prim c.in_ok-waits-in-Leaf.waits c.begin_leaf_of.new.sight (c.begin_leaf_of.new.steps - c.args.steps.now)
    c.in-Leaf.is c.requires.focus (c.in_ok-waits-in-Leaf.ensures.moved one_row (refl, refl))

pub returns-in_ok-begin_box-in-Boxed-clause-moved : goal.returns-in_ok-begin_box-in-Boxed-clause-moved
returns-in_ok-begin_box-in-Boxed-clause-moved g c =
    let old = c.args.self.now in
    box-entered (limits_of old c.args.sight.now) c.args.terms.now c.args.sight.now c.args.id c.row.result.now old.stack (state_of old) old.far c.begin_box.new.self
    c.row.ensures.row c.in-Boxed.bits c.in-Boxed.body (c.args.steps.now - c.args.steps.now) c.in-Boxed.is (omega arith)
    (c.in_ok-begin_box-in-Boxed.ensures.moved c.args.sight.now)

pub returns-in_ok-begin_scope-in-Scope-clause-moved : goal.returns-in_ok-begin_scope-in-Scope-clause-moved
returns-in_ok-begin_scope-in-Scope-clause-moved g c =
    let old = c.args.self.now in
    scope-entered (limits_of old c.args.sight.now) c.args.terms.now c.args.sight.now c.args.id c.row.result.now old.stack (state_of old) old.far c.begin_scope.new.self
    c.row.ensures.row c.in-Scope.list c.in-Scope.body (c.args.steps.now - c.args.steps.now) c.in-Scope.is (omega arith)
    (c.in_ok-begin_scope-in-Scope.ensures.moved c.args.sight.now one_row (refl, refl))

pub returns-in_ok-begin_span-in-Spanned-clause-moved : goal.returns-in_ok-begin_span-in-Spanned-clause-moved
returns-in_ok-begin_span-in-Spanned-clause-moved g c =
    let old = c.args.self.now in
    spanned-entered (limits_of old c.args.sight.now) c.args.terms.now c.args.sight.now c.args.id c.row.result.now old.stack (state_of old) old.far c.begin_span.new.self
    c.row.ensures.row c.in-Spanned.body (c.args.steps.now - c.args.steps.now) c.in-Spanned.is (omega arith)
    (c.in_ok-begin_span-in-Spanned.ensures.moved c.args.sight.now one_row (refl, refl))

pub returns-in_ok-begin_separated-in-Separated-clause-moved : goal.returns-in_ok-begin_separated-in-Separated-clause-moved
returns-in_ok-begin_separated-in-Separated-clause-moved g c =
    let old = c.args.self.now in
    let held = c.args.sight.now in
    let slots : List Slot = c.as_slice-in-Separated.result.now in
    separated-entered (limits_of old held) c.args.terms.now held c.args.id c.row.result.now old.stack (state_of old) old.far c.begin_separated.new.self
    c.row.ensures.row c.in-Separated.policy c.in-Separated.position c.in-Separated.initiated slots (c.args.steps.now - c.args.steps.now)
    (c.in-Separated.is ∙ ap (Separated c.in-Separated.policy c.in-Separated.position c.in-Separated.initiated) (sym c.as_slice-in-Separated.ensures)) (omega arith)
    (row-moved old c.begin_separated.new.self held
    (enter_separated held c.args.id c.in-Separated.policy c.in-Separated.position c.in-Separated.initiated slots old.stack (state_of old))
    (separated-passes held c.in-Separated.initiated old.stack c.args.id c.in-Separated.policy c.in-Separated.position slots (state_of old))
    (c.in_ok-begin_separated-in-Separated.ensures.becomes held))

pub returns-in_ok-begin_separated-in-Separated-clause-most : goal.returns-in_ok-begin_separated-in-Separated-clause-most
returns-in_ok-begin_separated-in-Separated-clause-most g c = (c.in_ok-begin_separated-in-Separated.ensures.becomes c.args.sight.now).limits

pub returns-in_ok-waits-in-Statement-clause-moved : goal.returns-in_ok-waits-in-Statement-clause-moved
returns-in_ok-waits-in-Statement-clause-moved g c =
    let old = c.args.self.now in
    statement-entered (limits_of old c.args.sight.now) c.args.terms.now c.args.sight.now c.args.id c.row.result.now old.stack (state_of old) old.far c.begin_statement.new.self
    c.row.ensures.row old.focus c.in-Statement.statement c.in_ok-waits-in-Statement.waits c.begin_statement.new.sight (c.begin_statement.new.steps - c.args.steps.now)
    c.in-Statement.is c.requires.focus (c.in_ok-waits-in-Statement.ensures.moved one_row (refl, refl))

pub returns-in_ok-begin_concluded-in-Concluded-clause-moved : goal.returns-in_ok-begin_concluded-in-Concluded-clause-moved
returns-in_ok-begin_concluded-in-Concluded-clause-moved g c =
    let old = c.args.self.now in
    concluded-entered (limits_of old c.args.sight.now) c.args.terms.now c.args.sight.now c.args.id c.row.result.now old.stack (state_of old) old.far c.begin_concluded.new.self
    c.row.ensures.row c.in-Concluded.behind c.in-Concluded.body (c.args.steps.now - c.args.steps.now) c.in-Concluded.is (omega arith)
    (c.in_ok-begin_concluded-in-Concluded.ensures.moved c.args.sight.now one_row (refl, refl))

pub returns-in_ok-begin_measured-in-MeasuredLeaf-clause-moved : goal.returns-in_ok-begin_measured-in-MeasuredLeaf-clause-moved
returns-in_ok-begin_measured-in-MeasuredLeaf-clause-moved g c =
    let old = c.args.self.now in
    let held = c.args.sight.now in
    let table = c.args.terms.now in
    let row = c.in-MeasuredLeaf in
    asking-entered (limits_of old held) table held c.args.id c.row.result.now old.stack (state_of old) old.far c.begin_measured.new.self
    c.row.ensures.row (MeasuredLeaf row.measure row.prim)
    (measured_begins table row.measure (behind.Leaf (read_by table.primitives old.instead row.prim)) old.stack (state_of old)) (c.args.steps.now - c.args.steps.now)
    row.is refl (omega arith)
    (subst (λ (n : ℕ). Moved (begins one_row held (measured_begins table row.measure (behind.Leaf n) old.stack (state_of old))) false old.far
    c.begin_measured.new.self held 0) c.read_by-in-MeasuredLeaf.ensures (c.in_ok-begin_measured-in-MeasuredLeaf.ensures.moved held))

pub returns-in_ok-begin_measured-in-MeasuredBox-clause-moved : goal.returns-in_ok-begin_measured-in-MeasuredBox-clause-moved
returns-in_ok-begin_measured-in-MeasuredBox-clause-moved g c =
    let old = c.args.self.now in
    let held = c.args.sight.now in
    let table = c.args.terms.now in
    let row = c.in-MeasuredBox in
    asking-entered (limits_of old held) table held c.args.id c.row.result.now old.stack (state_of old) old.far c.begin_measured-in-MeasuredBox.new.self
    c.row.ensures.row (MeasuredBox row.measure row.body) (measured_begins table row.measure (behind.Box row.body) old.stack (state_of old))
    (c.args.steps.now - c.args.steps.now) row.is refl (omega arith) (c.in_ok-begin_measured-in-MeasuredBox.ensures.moved held)

pub returns-in_ok-begin_counted-in-Counted-clause-moved : goal.returns-in_ok-begin_counted-in-Counted-clause-moved
returns-in_ok-begin_counted-in-Counted-clause-moved g c =
    let old = c.args.self.now in
    let held = c.args.sight.now in
    let table = c.args.terms.now in
    let row = c.in-Counted in
    asking-entered (limits_of old held) table held c.args.id c.row.result.now old.stack (state_of old) old.far c.begin_counted.new.self
    c.row.ensures.row (Counted row.question row.body) (counted_begins table row.question row.body old.stack (state_of old))
    (c.args.steps.now - c.args.steps.now) row.is refl (omega arith) (c.in_ok-begin_counted-in-Counted.ensures.moved held)

pub returns-in_ok-begin_dispatch-in-Dispatch-clause-moved : goal.returns-in_ok-begin_dispatch-in-Dispatch-clause-moved
returns-in_ok-begin_dispatch-in-Dispatch-clause-moved g c =
    let old = c.args.self.now in
    let held = c.args.sight.now in
    let table = c.args.terms.now in
    let row = c.in-Dispatch in
    let keys : List Key = c.as_slice-in-Dispatch.result.now in
    asking-entered (limits_of old held) table held c.args.id c.row.result.now old.stack (state_of old) old.far c.begin_dispatch.new.self
    c.row.ensures.row (Dispatch row.question keys) (dispatch_begins table row.question keys old.stack (state_of old)) (c.args.steps.now - c.args.steps.now)
    (row.is ∙ ap (Dispatch row.question) (sym c.as_slice-in-Dispatch.ensures)) refl (omega arith) (c.in_ok-begin_dispatch-in-Dispatch.ensures.moved held)

pub returns-in_ok-begin_instance-in-Instance-clause-moved : goal.returns-in_ok-begin_instance-in-Instance-clause-moved
returns-in_ok-begin_instance-in-Instance-clause-moved g c =
    let old = c.args.self.now in
    let held = c.args.sight.now in
    let table = c.args.terms.now in
    let row = c.in-Instance in
    asking-entered (limits_of old held) table held c.args.id c.row.result.now old.stack (state_of old) old.far c.begin_instance.new.self
    c.row.ensures.row (Instance row.statement row.body) (instanced_begins table row.statement row.body old.stack (state_of old))
    (c.args.steps.now - c.args.steps.now) row.is refl (omega arith) (c.in_ok-begin_instance-in-Instance.ensures.moved held)
