-- Items of one array, and the innermost one.
use Rattle.std.proofs.Common.{◌≡◌, ◌<◌, ◌-◌, ℕ, zero, suc, Bool, true, false, cond, List, slice_get, refl, sym, ap, ◌∙◌, arith}
use Rattle.dfdl_region.specs.declared.node.Node.{Node}
use Rattle.dfdl_paths.specs.declared.place.Place.{Place}
use Rattle.dfdl_paths.specs.Elements.{around, is_place, place_of, same_row, stand_together}
use Rattle.dfdl_paths.specs.Spans.{IsAround}
use Rattle.dfdl_paths.specs.Values.{index_around, index_within, is_item_by}
use Rattle.dfdl_paths.proofs.Bits.{and_none, false_unless}

-- no element before the span stands where another one does
pub apart-before : (nodes : List Node) (number : ℕ) (outer : Place) (from end : ℕ) → outer ≡ around nodes number → IsAround nodes outer from end
    → (n : ℕ) → n < from → stand_together nodes number n ≡ false
apart-before nodes number outer from end is span n less =
    and_none (same_row (slice_get nodes number) (slice_get nodes n)) (is_place (around nodes number) (around nodes n))
    (ap (λ (p : Place). is_place p (around nodes n)) (sym is)
    ∙ false_unless (is_place outer (around nodes n)) (λ same.
    let order = span.order in
    let within = span.within in
    let inside = span.first n (omega (arith, less, order, within)) same in
    omega (arith, inside.0, less)))

module _ (marks : List Bool) (nodes : List Node) where
  -- an item
  pub index-item : (left number : ℕ) → 0 < left → is_item_by marks (slice_get nodes number) ≡ true
      → index_within marks nodes left number ≡ place_of nodes number
  unfolding index_within
  index-item zero number some is = absurd (omega arith)
  index-item (suc left) number some is =
      ap (λ b. cond b (place_of nodes number) (index_around (index_within marks nodes left) (around nodes number))) is

  -- no item
  pub index-outer : (left number : ℕ) → 0 < left → is_item_by marks (slice_get nodes number) ≡ false
      → index_within marks nodes left number ≡ index_around (index_within marks nodes (left - 1)) (around nodes number)
  unfolding index_within
  index-outer zero number some is = absurd (omega arith)
  index-outer (suc left) number some is =
      let less : left ≡ suc left - 1 = omega arith in
      ap (λ b. cond b (place_of nodes number) (index_around (index_within marks nodes left) (around nodes number))) is
      ∙ ap (λ n. index_around (index_within marks nodes n) (around nodes number)) less

  pub index-last : (left number : ℕ) → left ≡ 0 → index_within marks nodes left number ≡ 1
  unfolding index_within
  index-last zero number none = refl
  index-last (suc left) number none = absurd (omega arith)
