-- A Vec that was written over as a slice.
use Rattle.std.proofs.Common.{◌≡◌, ℕ, List, [], ◌++◌, length, take, drop, ap, subst, ◌∙◌, arith}
use Rattle.std.proofs.lemmas.List.{append-nil, take_all, drop_all}
use Rattle.dfdl_bits.specs.Bits.{KeepsOutside}
use Rattle.dfdl_forms.specs.declared.order.BitOrder.{BitOrder}

-- all of it is what was written
pub written_over : (new items : List ℕ) (len : ℕ) → length new ≡ length items → len ≡ length items
    → take len (new ++ drop (length new) items) ≡ new
written_over new items len same all =
    let none : drop (length new) items ≡ [] = drop_all (length new) items (omega arith) in
    ap (λ rest. take len (new ++ rest)) none ∙ (ap (take len) (append-nil new) ∙ take_all len new (omega arith))

-- what is kept outside of some bits, of equal bytes
pub kept_of : (order : BitOrder) (old other new changed : List ℕ) (bit len : ℕ) → old ≡ other → new ≡ changed
    → KeepsOutside order old new bit len → KeepsOutside order other changed bit len
kept_of order old other new changed bit len is becomes kept =
    subst (λ xs. KeepsOutside order xs changed bit len) is (subst (λ ys. KeepsOutside order old ys bit len) becomes kept)
