use Rattle.std.proofs.Common.{◌≡◌, ◌-◌, ℕ, suc, sym, rules, ◌∙◌, ap, subst, false, replicate, slice_get, arith}
use Rattle.dfdl_terms.specs.Rows.{ChildrenBelow}
use Rattle.dfdl_json.specs.Marking.{passed_on}
use Rattle.dfdl_json.proofs.Passing.{none_passed, next_passed, all_passed}
use Rattle.dfdl_json.proofs.hidden.Hidden.of.Goals as goal

pub loop-row-init : goal.loop-row-init
loop-row-init c =
    let items : c.in_ok-marks.marks.items ≡ replicate c.rows.result false = search rules in
    none_passed c.args.terms.now c.rows-row.result c.rows.result c.in_ok-marks.marks.items c.rows-row.ensures.count c.rows.ensures.count items

pub loop-row-preserved : goal.loop-row-preserved
loop-row-preserved c =
    let before : c.loop-row.row ≡ suc (c.loop-row.row - 1) = omega (arith, c.loop-row-test.true) in
    next_passed c.args.terms.now c.loop-row.row (c.loop-row.row - 1) c.row.result.now c.loop-row.marks.items c.pass_on.new.marks.items before
    (ap (slice_get c.args.terms.now.rows) (sym c.new-id.ensures) ∙ c.row.ensures.row)
    (subst (λ (n : ℕ). ChildrenBelow n c.row.result.now) c.new-id.ensures c.row.ensures.nests)
    (c.pass_on.ensures ∙ ap (λ n. passed_on n c.row.result.now c.loop-row.marks.items) c.new-id.ensures) c.loop-row.invariant

pub returns : goal.returns
returns c =
    let first : c.loop-row.row ≡ 0 = omega (arith, c.loop-row-test.false) in
    all_passed c.args.terms.now c.loop-row.row c.loop-row.marks.items first c.loop-row.invariant
