use Rattle.std.proofs.Common.{◌≡◌, ◌+◌, ◌<◌, ◌∙◌, ℕ, List, Some, true, false, ap, arith, get_or, length, subst, sym}
use Rattle.std.proofs.lemmas.List.Sums.{count_by_more_no, count_by_more_yes}
use Rattle.std.proofs.lemmas.Option.{get_or_from_slice_get, slice_get_within}
use Rattle.std.specs.Prelude.{slice_get}
use Rattle.dfdl_terms.specs.declared.row.Row.{Row}
use Rattle.dfdl_grammar.specs.States.{is_instance}
use Rattle.dfdl_parse.proofs.instances.instances_within.Goals as goal
use Rattle.dfdl_parse.proofs.instances.instances_within.Goals.{then-is_instance, else-is_instance}

pub loop-number-preserved : goal.loop-number-preserved
loop-number-preserved c =
    let rows : List Row = c.args.terms.now.rows in
    let row : Row = c.row.result.now in
    let n : ℕ = c.loop-number.number in
    let is : slice_get rows n ≡ Some row = subst (λ (i : ℕ). slice_get rows i ≡ Some row) c.new.ensures c.row.ensures.row in
    let at : get_or rows n row ≡ row = get_or_from_slice_get rows n row row is in
    let within : n < length rows = slice_get_within rows n row is in
    let held = c.loop-number.invariant in
    elim c.if-is_instance.branch [
      | then-is_instance w ↦ (let more = count_by_more_yes is_instance rows n row within (ap is_instance at ∙ sym c.is_instance.ensures ∙ w.if-is_instance.true) in
          record { few = omega (arith, held.few, w.count-is); counted = omega (arith, more, held.counted, w.count-is) })
      | else-is_instance w ↦ (let same = count_by_more_no is_instance rows n row within (ap is_instance at ∙ sym c.is_instance.ensures ∙ w.if-is_instance.false) in
          record { few = omega (arith, held.few, w.count-is); counted = omega (arith, same, held.counted, w.count-is) })
    ]
