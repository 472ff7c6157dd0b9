-- What an equation gives stays while more is known.
use Rattle.std.proofs.Common.{◌≡◌, ℕ, Option, Some, None, List, set, refl, sym, ap, ◌∙◌, inl, inr}
use Rattle.std.proofs.lemmas.Bool.{cases_eq}
use Rattle.dfdl_suspend.specs.Asks.{Asks, Is, Fails, Ask, Gives, Gets, Faults, WaitsFor, at, told, gives, waiting, Below}
use Rattle.dfdl_suspend.proofs.Places.{at_set_other}

told_stays : {V : Type 0} (o p : Option V) (cell : ℕ) (f g : V → Gives V) (r : Gives V) → ((x : V) → o ≡ Some x → p ≡ Some x)
    → ((x : V) → f x ≡ r → g x ≡ r) → ((w : ℕ) → r ≡ WaitsFor w → ⊥) → told o cell f ≡ r → told p cell g ≡ r
told_stays None p cell f g r below more ends e = absurd (ends cell (sym e))
told_stays (Some x) p cell f g r below more ends e = ap (λ q. told q cell g) (below x refl) ∙ more x e

stays : {V : Type 0} (t : Asks V) (a b : List (Option V)) (r : Gives V) → Below a b → ((w : ℕ) → r ≡ WaitsFor w → ⊥) → gives t a ≡ r → gives t b ≡ r
stays (Is value) a b r below ends e = e
stays (Fails cause) a b r below ends e = e
stays (Ask cell more) a b r below ends e =
    told_stays (at a cell) (at b cell) cell (λ x. gives (more x) a) (λ x. gives (more x) b) r (below cell) (λ x is. stays (more x) a b r below ends is) ends e

pub value_stays : {V : Type 0} (t : Asks V) (a b : List (Option V)) (v : V) → Below a b → gives t a ≡ Gets v → gives t b ≡ Gets v
value_stays t a b v below e = stays t a b (Gets v) below (λ w is. absurd (cc)) e

pub fault_stays : {V : Type 0} (t : Asks V) (a b : List (Option V)) (cause : ℕ) → Below a b → gives t a ≡ Faults cause → gives t b ≡ Faults cause
fault_stays t a b cause below e = stays t a b (Faults cause) below (λ w is. absurd (cc)) e

told_waits : {V : Type 0} (o p : Option V) (cell w : ℕ) (f g : V → Gives V) → ((x : V) → o ≡ Some x → p ≡ Some x)
    → (cell ≡ w → p ≡ None) → ((x : V) → f x ≡ WaitsFor w → g x ≡ WaitsFor w) → told o cell f ≡ WaitsFor w → told p cell g ≡ WaitsFor w
told_waits None p cell w f g below free more e = ap (λ q. told q cell g) (free (cc)) ∙ e
told_waits (Some x) p cell w f g below free more e = ap (λ q. told q cell g) (below x refl) ∙ more x e

pub wait_stays : {V : Type 0} (t : Asks V) (a b : List (Option V)) (w : ℕ) → Below a b → gives t a ≡ WaitsFor w → at b w ≡ None → gives t b ≡ WaitsFor w
wait_stays (Is value) a b w below e free = absurd (cc)
wait_stays (Fails cause) a b w below e free = absurd (cc)
wait_stays (Ask cell more) a b w below e free =
    told_waits (at a cell) (at b cell) cell w (λ x. gives (more x) a) (λ x. gives (more x) b) (below cell) (λ is. ap (λ i. at b i) is ∙ free)
    (λ x is. wait_stays (more x) a b w below is free) e

told_open : {V : Type 0} (o : Option V) (cell w : ℕ) (f : V → Gives V) (P : Option V → Type 0) → (cell ≡ w → o ≡ None → P None)
    → ((x : V) → f x ≡ WaitsFor w → P None) → told o cell f ≡ WaitsFor w → P None
told_open None cell w f P here more e = here (cc) refl
told_open (Some x) cell w f P here more e = more x e

pub wait_open : {V : Type 0} (t : Asks V) (a : List (Option V)) (w : ℕ) → gives t a ≡ WaitsFor w → at a w ≡ None
wait_open (Is value) a w e = absurd (cc)
wait_open (Fails cause) a w e = absurd (cc)
wait_open {V} (Ask cell more) a w e =
    told_open (at a cell) cell w (λ x. gives (more x) a) (λ o. at a w ≡ o) (λ is none. sym (ap (λ i. at a i) is) ∙ none) (λ x is. wait_open (more x) a w is) e

-- an unknown that waits for an event waits for itself
pub waiting_gives : {V : Type 0} (cell : ℕ) (a : List (Option V)) → at a cell ≡ None → gives (waiting cell) a ≡ WaitsFor cell
waiting_gives {V} cell a none = let go : V → Gives V = λ value. Gets value in ap (λ o. told o cell go) none

-- an assignment with one value more is above
pub below_set : {V : Type 0} (a : List (Option V)) (cell : ℕ) (v : V) → at a cell ≡ None → Below a (set a cell (Some v))
below_set a cell v none other x is = elim (cases_eq other cell) [
  | inl same ↦ absurd (clash (sym (ap (λ i. at a i) same) ∙ is) none)
  | inr apart ↦ at_set_other a cell other (Some v) apart ∙ is
]
  where
    clash : {X : Type 0} {o : Option X} {x : X} → o ≡ Some x → o ≡ None → ⊥
    clash {X} {o} {x} some none = cc
