-- What holds behind one act after another.
use Rattle.std.proofs.Common.{◌≡◌, ℕ, suc, ◌+◌, ◌-◌, ◌<◌, ◌≤◌, sym, ap, subst, refl, ◌∙◌, arith}
use Rattle.std.specs.Prelude.{[], Result, Ok, Err, OnOk}
use Rattle.dfdl_cells.specs.declared.cell.Cell.{Cell}
use Rattle.dfdl_cells.specs.declared.cell.Cell.TheVariants.{Items, Waiting}
use Rattle.dfdl_outline.specs.declared.entry.Around.{Around}
use Rattle.dfdl_outline.specs.declared.entry.SimpleSort.{SimpleSort}
use Rattle.dfdl_laying.specs.Laying.{Laid, given, markup_of, scoped, simple_begun, simple_laid, simple_own, with_simple, with_unknown, with_waiting}
use Rattle.dfdl_laying.specs.Running.{emptied}
use Rattle.dfdl_laying.specs.declared.spot.Own.{Own}

-- what follows from what holds of an answer
pub on_ok : {T E : Type 0} (r : Result T E) (P Q : Type 0) → OnOk r P → (P → Q) → OnOk r Q
on_ok (Ok value) P Q holds then = then holds
on_ok (Err fault) P Q holds then = tt

-- a simple element, from its markup, its unknowns and its pieces
pub simple_joined : (component markup : ℕ) (simple : SimpleSort) (around : Around) (value : Cell) (laid scope begun new : Laid) (own : Own)
    → markup ≡ markup_of simple.scanned laid → scope ≡ scoped simple.scanned laid
    → own ≡ simple_own component markup value scope → begun ≡ simple_begun component markup value scope
    → new ≡ simple_laid own simple around begun → new ≡ with_simple component simple around value laid
unfolding with_simple
simple_joined component markup simple around value laid scope begun new own m s o b e =
    e ∙ ((λ i. simple_laid (o i) simple around (b i))
    ∙ (λ i. simple_laid (simple_own component (m i) value (s i)) simple around (simple_begun component (m i) value (s i))))

-- one unknown that waits, of those that are left
pub waiting_next : (owner count at : ℕ) (laid : Laid) → at < count
    → with_waiting owner (count - at) laid ≡ with_waiting owner (count - (at + 1)) (with_unknown owner Waiting laid)
unfolding with_waiting
waiting_next owner count at laid less =
    let same : suc (count - (at + 1)) ≡ count - at = omega (arith, less)
    in subst (λ (n : ℕ). with_waiting owner n laid ≡ with_waiting owner (count - (at + 1)) (with_unknown owner Waiting laid)) same refl

-- none is left
pub waiting_done : (owner count at : ℕ) (laid : Laid) → count ≤ at → with_waiting owner (count - at) laid ≡ laid
unfolding with_waiting
waiting_done owner count at laid all =
    let none : 0 ≡ count - at = omega (arith, all)
    in subst (λ (n : ℕ). with_waiting owner n laid ≡ laid) none refl

-- one element more has no item, of those that are left
pub emptied_next : (first end : ℕ) (laid : Laid) → first < end
    → emptied first (end - first) laid ≡ emptied (first + 1) (end - (first + 1)) (given first (Items []) laid)
unfolding emptied
emptied_next first end laid less =
    let same : suc (end - (first + 1)) ≡ end - first = omega (arith, less)
    in subst (λ (n : ℕ). emptied first n laid ≡ emptied (first + 1) (end - (first + 1)) (given first (Items []) laid)) same refl

-- none is left
pub emptied_done : (first end : ℕ) (laid : Laid) → end ≤ first → emptied first (end - first) laid ≡ laid
unfolding emptied
emptied_done first end laid all =
    let none : 0 ≡ end - first = omega (arith, all)
    in subst (λ (n : ℕ). emptied first n laid ≡ laid) none refl
