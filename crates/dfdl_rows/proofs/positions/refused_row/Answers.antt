use Rattle.std.proofs.Common.{◌∙◌, ℕ, List, None, Option, ap, get_or}
use Rattle.dfdl_rows.specs.Positions.{row_before}
use Rattle.dfdl_rows.proofs.Located.{row_is}
use Rattle.dfdl_rows.proofs.positions.refused_row.Goals as goal

pub returns : goal.returns
returns c = λ i. record {
  row = (c.row_at-row.ensures
      ∙ (ap (λ (ns : List ℕ). row_before (get_or ns c.args.root 0) (get_or c.as_slice-3.result.now c.args.root None)) c.as_slice-2.ensures.value
      ∙ (ap (λ (os : List (Option ℕ)). row_before (get_or c.in_ok-sizes.sizes.items c.args.root 0) (get_or os c.args.root None)) c.as_slice-3.ensures.value
      ∙ row_is c.args.components.now c.facts.ensures.ordered c.args.refusal.place c.args.root c.requires.within c.requires.few _ _
      (c.in_ok-sizes.ensures.known c.args.root c.requires.within) (c.in_ok-ends.ensures.known c.args.root c.requires.within)))) i;
  refusal = c.args.refusal;
}
