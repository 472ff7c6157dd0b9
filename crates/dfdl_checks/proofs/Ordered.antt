-- The order of bits of components without a breach.
use Rattle.std.proofs.Common.{◌≡◌, refl, sym, ap, subst, Bool, false, not, ◌&&◌, if◌then◌else◌, codes, arith}
use Rattle.dfdl_forms.specs.declared.order.BitOrder.{BitOrder}
use Rattle.dfdl_forms.specs.declared.order.BitOrder.TheVariants.{MostFirst, LeastFirst}
use Rattle.dfdl_scope.specs.Scoping.{Told}
use Rattle.dfdl_scope.specs.Table.{Row, property_table}
use Rattle.dfdl_checks.proofs.Built.{flawless-by, no-other-word}
use Rattle.dfdl_checks.proofs.Flawless.{HasNoFlaw}
use Rattle.dfdl_checks.proofs.Kept.{IsKept}
use Rattle.dfdl_checks.proofs.Primitives.{ordered}
use Rattle.dfdl_checks.specs.Judged.{Judged}
use Rattle.dfdl_checks.specs.Numbers.{HasBitOrder, IsInBitOrder}
use Rattle.dfdl_checks.specs.Orders.{bit_order, field_order, is_same_order, order_for, told_order}
use Rattle.dfdl_checks.specs.Subjects.{is_bare}
use Rattle.dfdl_checks.specs.Table.{Applicability, applies_by, built_for, EveryValue, word, applicability_table}
use Rattle.dfdl_checks.specs.declared.applicability.Bearers.TheVariants as bearers
use Rattle.dfdl_checks.specs.declared.purpose.Purpose.{Purpose}
use Rattle.dfdl_checks.specs.declared.purpose.Purpose.TheVariants.{Parsing, Unparsing}

-- which orders of bits are built
abbrev bit_orders : Applicability
bit_orders = applies_by (codes "bitOrder") bearers.EveryComponent EveryValue (word (codes "mostSignificantBitFirst"))

-- the order of the fields is the one that is told: for unparsing no other one is built
order-told : (purpose : Purpose) (r : Row) (t : Told) → HasNoFlaw r (built_for purpose bit_orders) t → order_for purpose t ≡ bit_order t
order-told Parsing r t none = refl
order-told Unparsing r t none =
    sym (ap (λ b. if b then LeastFirst else MostFirst)
    (no-other-word (codes "mostSignificantBitFirst") (codes "leastSignificantBitFirst") refl r t none))

-- orders that pass the test are the same
same-order : (a b : BitOrder) → not (is_same_order a b) ≡ false → a ≡ b
same-order MostFirst MostFirst same = refl
same-order LeastFirst LeastFirst same = refl
same-order MostFirst LeastFirst same = grind (arith, same)
same-order LeastFirst MostFirst same = grind (arith, same)

-- orders of a component that neither is a hidden sequence nor calculated
same-orders : (hidden : Bool) (a b : BitOrder) → hidden ≡ false → (not hidden && not (is_same_order a b)) ≡ false → a ≡ b
same-orders hidden a b shown kept = same-order a b (by (is_same_order a b) kept)
  where
    by : (same : Bool) → (not hidden && not same) ≡ false → not same ≡ false
    by same kept = grind (arith, kept, shown)

pub in-bit-order : (s : Judged) → IsKept s → is_bare s.kind ≡ false → IsInBitOrder s
unfolding applicability_table property_table
in-bit-order s kept shown = record {
  primitive = λ p is. subst (λ order. HasBitOrder order p) told (ordered s p is);
  root = same-orders (is_bare s.kind) (told_order s) s.root_bits_by shown kept.bit_order;
}
  where
    told : field_order s ≡ told_order s
    told = order-told s.purpose _ _ (flawless-by s kept 8 bit_orders refl (ap not shown) _ refl)
