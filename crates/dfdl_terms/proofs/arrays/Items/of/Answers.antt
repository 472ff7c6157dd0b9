use Rattle.std.proofs.Common.{◌≡◌, sym, rules, ◌∙◌, ap, false, take_all, replicate, slice_get}
use Rattle.std.specs.List.{list_any}
use Rattle.dfdl_terms.specs.Arrays.{is_item_of, is_marked}
use Rattle.dfdl_terms.proofs.Marks.{none_marked, next_row}
use Rattle.dfdl_terms.proofs.MarkLists.{is_marks, marks_items}
use Rattle.dfdl_terms.proofs.arrays.Items.of.Goals as goal

pub loop-row-init : goal.loop-row-init
loop-row-init c =
    let items : c.in_ok-marks.marks.items ≡ replicate c.rows.result false = search rules in
    record {
      many = search rules;
      marked = λ e. ap (λ xs. is_marked xs e) items ∙ none_marked c.rows.result e;
    }

pub loop-row-preserved : goal.loop-row-preserved
loop-row-preserved c = record {
  many = c.loop-row.invariant.many ∙ sym c.mark_repeated.ensures.many;
  marked = λ e. next_row c.mark_repeated.new.marks.items c.loop-row.marks.items c.args.terms.now.rows c.loop-row.row e c.row.result.now
      (search rules) (sym (ap (slice_get c.args.terms.now.rows) c.new.ensures) ∙ c.row.ensures.row) (c.loop-row.invariant.marked e) (c.mark_repeated.ensures.marked e);
}

pub returns-clause-items : goal.returns-clause-items
returns-clause-items c = is_marks c.args.terms.now.rows c.loop-row.marks.items (sym c.loop-row.marks.ok.0 ∙ sym c.loop-row.invariant.many)
    (λ e. c.loop-row.invariant.marked e ∙ ap (list_any (is_item_of c.args.terms.now.rows e)) (take_all c.loop-row.row c.args.terms.now.rows (search rules)))

pub returns-in_err-marks-clause-marks : goal.returns-in_err-marks-clause-marks
returns-in_err-marks-clause-marks c = marks_items c.args.terms.now.rows c.rows.ensures.table.nests

pub returns-clause-marks : goal.returns-clause-marks
returns-clause-marks c = marks_items c.args.terms.now.rows c.rows.ensures.table.nests
