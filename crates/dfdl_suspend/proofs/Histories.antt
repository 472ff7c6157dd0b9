-- How often unknowns were run, and how much of what an equation asks for is known.
use Rattle.std.proofs.Common.{◌≡◌, ◌≢◌, ℕ, ◌+◌, ◌*◌, ◌<◌, ◌≤◌, Bool, true, Option, Some, None, List, [], ◌∷◌, ◌++◌, nat_eq, if◌then◌else◌, refl, sym, ap, ◌∙◌, arith, inl, inr, mul-le-mul_left}
use Rattle.std.proofs.lemmas.Bool.{eqb-true, eq-eqb}
use Rattle.dfdl_suspend.specs.Asks.{Asks, Is, Fails, Ask, AsksWithin, Gives, WaitsFor, Below, is_in, at, told, gives}
use Rattle.dfdl_suspend.specs.Boards.{times, one_if, how_many}
use Rattle.dfdl_suspend.proofs.Readies.{in_cons, not_true}

pub times_append : (cell : ℕ) (xs ys : List ℕ) → times cell (xs ++ ys) ≡ times cell xs + times cell ys
times_append cell [] ys = omega arith
times_append cell (x ∷ xs) ys = let rest = times_append cell xs ys in omega arith

pub times_same : (cell other : ℕ) → cell ≡ other → times cell (other ∷ []) ≡ 1
times_same cell other same = ap (λ (b : Bool). (if b then 1 else 0) + 0) (eq-eqb cell other same)

pub times_other : (cell other : ℕ) → cell ≢ other → times cell (other ∷ []) ≡ 0
times_other cell other apart = ap (λ (b : Bool). (if b then 1 else 0) + 0) (not_true (nat_eq cell other) (λ e. apart (eqb-true cell other e)))

pub push_same : (cell other : ℕ) (xs : List ℕ) → cell ≡ other → times cell (xs ++ other ∷ []) ≡ times cell xs + 1
push_same cell other xs same = times_append cell xs (other ∷ []) ∙ ap (λ n. times cell xs + n) (times_same cell other same)

pub push_other : (cell other : ℕ) (xs : List ℕ) → cell ≢ other → times cell (xs ++ other ∷ []) ≡ times cell xs
push_other cell other xs apart = let both = times_append cell xs (other ∷ []) in let none = times_other cell other apart in omega arith

-- what an equation waits for, it asks for
told_asked : {V : Type 0} (o : Option V) (cell w : ℕ) (f : V → Gives V) (P : Type 0) → (cell ≡ w → P) → ((x : V) → f x ≡ WaitsFor w → P) → told o cell f ≡ WaitsFor w → P
told_asked None cell w f P here more e = here (cc)
told_asked (Some x) cell w f P here more e = more x e

pub wait_asked : {V : Type 0} (t : Asks V) (known : List (Option V)) (asked : List ℕ) (w : ℕ) → AsksWithin asked t → gives t known ≡ WaitsFor w → is_in w asked ≡ true
wait_asked (Is value) known asked w within e = absurd (cc)
wait_asked (Fails cause) known asked w within e = absurd (cc)
wait_asked (Ask cell more) known asked w within e =
    told_asked (at known cell) cell w (λ x. gives (more x) known) (is_in w asked ≡ true) (λ same. ap (λ k. is_in k asked) (sym same) ∙ within.0)
    (λ x is. wait_asked (more x) known asked w (within.1 x) is) e

one_more : {V : Type 0} (o p : Option V) → ((v : V) → o ≡ Some v → p ≡ Some v) → one_if o ≤ one_if p
one_more None p below = omega arith
one_more (Some v) p below = let same : 1 ≡ one_if p = ap (λ q. one_if q) (sym (below v refl)) in omega arith

pub how_many_stay : {V : Type 0} (a b : List (Option V)) (asked : List ℕ) → Below a b → how_many a asked ≤ how_many b asked
how_many_stay a b [] below = omega arith
how_many_stay a b (x ∷ xs) below = let rest = how_many_stay a b xs below in let first = one_more (at a x) (at b x) (below x) in omega arith

pub how_many_more : {V : Type 0} (a b : List (Option V)) (cell : ℕ) (v : V) (asked : List ℕ) → Below a b → at a cell ≡ None → at b cell ≡ Some v → is_in cell asked ≡ true
    → how_many a asked + 1 ≤ how_many b asked
how_many_more a b cell v [] below none some e = absurd (cc)
how_many_more a b cell v (x ∷ xs) below none some e = elim (in_cons cell x xs e) [
  | inl same ↦
      let rest = how_many_stay a b xs below in
      let old : one_if (at a x) ≡ 0 = ap (λ k. one_if (at a k)) (sym same) ∙ ap (λ o. one_if o) none in
      let new : one_if (at b x) ≡ 1 = ap (λ k. one_if (at b k)) (sym same) ∙ ap (λ o. one_if o) some in
      omega arith
  | inr behind ↦
      let rest = how_many_more a b cell v xs below none some behind in
      let first = one_more (at a x) (at b x) (below x) in
      omega arith
]

-- what is left falls where one more has a value, however many become ready
pub weight_falls : (a b k r s : ℕ) → a + 1 ≤ b → s < k → a * k + s < b * k + r
weight_falls a b k r s less few = let more = mul-le-mul_left k less in omega arith
