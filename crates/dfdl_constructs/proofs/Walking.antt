-- How the roles of elements come from one another.
use Rattle.std.proofs.Common.{◌≡◌, ℕ, zero, suc, ◌+◌, ◌<◌, List, [], ◌∷◌, ◌++◌, length, get_or, Bool, true, false, ap, sym, ◌∙◌, refl, arith, inl, inr, ◌&&◌, Option, Some, None, min, if◌then◌else◌}
use Rattle.std.proofs.lemmas.Bool.{cases_lt, lt-ltb, le-ltb}
use Rattle.std.proofs.Math.Nat.{min-eq_left, min-eq_right, zero-min}
use Rattle.std.proofs.Math.ListN.{get_or-append}
use Rattle.std.proofs.lemmas.List.{get_or_push, length_push}
use Rattle.dfdl_markup.specs.Trees.{Node, node_at}
use Rattle.dfdl_constructs.specs.declared.role.Role.{Role}
use Rattle.dfdl_constructs.specs.declared.role.Role.TheVariants.{Skipped}
use Rattle.dfdl_constructs.specs.Roles.{is_among, parent_before, parent_of, single_in, role_in, role_by, role_within, role_at, root_role, AreRoles}
use Rattle.dfdl_constructs.specs.Walking.{role_so_far, AreSoFar, parent_with, placed, ArePlaced}

-- a number below, whether the last element is the parent or one before
below_by : (b : Bool) (n p : ℕ) (before : Option ℕ) → (before ≡ Some p → p < n)
    → (if b then Some n else before) ≡ Some p → p < suc n
below_by true n p before low is = let same : n ≡ p = cc in omega (arith, same)
below_by false n p before low is = let less : p < n = low is in omega (arith, less)

-- the element that another stands in has a lower number
parent_below : (n : ℕ) (nodes : List Node) (element p : ℕ) → parent_before n nodes element ≡ Some p → p < n
parent_below zero nodes element p is = absurd cc
parent_below (suc n) nodes element p is =
    below_by (is_among element (node_at nodes n).children) n p (parent_before n nodes element) (parent_below n nodes element p) is

-- two functions that are one on the parent give one role
role_by_same : (nodes : List Node) (f g : ℕ → Role) (element : ℕ) (parent : Option ℕ)
    → ((p : ℕ) → parent ≡ Some p → f p ≡ g p) → role_by nodes f element parent ≡ role_by nodes g element parent
role_by_same nodes f g element None same = refl
role_by_same nodes f g element (Some p) same =
    ap (λ (r : Role). role_in nodes r (single_in nodes r p) element) (same p refl)

-- more levels than an element's number change nothing
within_same : (n m : ℕ) (nodes : List Node) (element : ℕ) → element < n → element < m
    → role_within n nodes element ≡ role_within m nodes element
within_same zero m nodes element low high = absurd (omega (arith, low))
within_same (suc n) zero nodes element low high = absurd (omega (arith, high))
within_same (suc n) (suc m) nodes element low high =
    role_by_same nodes (role_within n nodes) (role_within m nodes) element (parent_of nodes element)
    (λ p is. let less : p < element = parent_below element nodes element p is in
    within_same n m nodes p (omega (arith, less, low)) (omega (arith, less, high)))

-- an element's role follows from that of the element that it stands in
pub role_follows : (nodes : List Node) (element : ℕ) → role_at nodes element ≡ role_by nodes (role_at nodes) element (parent_of nodes element)
unfolding role_at
role_follows nodes element =
    role_by_same nodes (role_within element nodes) (λ p. role_within (suc p) nodes p) element (parent_of nodes element)
    (λ p is. within_same element (suc p) nodes p (parent_below element nodes element p is) (omega arith))

-- no children yet
pub so_far_none : (nodes : List Node) (roles : List Role) → length roles ≡ length nodes
    → ((e : ℕ) → e < length nodes → get_or roles e Skipped ≡ root_role nodes e) → AreSoFar 0 nodes roles
unfolding role_so_far
so_far_none nodes roles long roots = record {
  count = long;
  each = λ e within. roots e within
      ∙ sym (ap (λ (k : ℕ). role_by nodes (role_at nodes) e (parent_before k nodes e)) (zero-min e));
}

-- the role of an element whose children are placed next
parent_role : (n : ℕ) (nodes : List Node) → role_so_far n nodes n ≡ role_at nodes n
unfolding role_so_far
parent_role n nodes =
    ap (λ (k : ℕ). role_by nodes (role_at nodes) n (parent_before k nodes n)) (min-eq_left (omega arith)) ∙ sym (role_follows nodes n)

-- the role where the children of one element more are placed
role_more : (n : ℕ) (nodes : List Node) (e : ℕ) (r : Role) → r ≡ role_at nodes n
    → placed (parent_with nodes n r (single_in nodes r n)) (node_at nodes n).children e (role_so_far n nodes e) ≡ role_so_far (n + 1) nodes e
unfolding role_so_far
role_more n nodes e r is = elim (cases_lt n e) [
  | inl less ↦
      let next : min (n + 1) e ≡ suc n = min-eq_left (omega (arith, less)) ∙ omega arith in
      let now : min n e ≡ n = min-eq_left (omega (arith, less)) in
      ap (λ (b : Bool). if is_among e (node_at nodes n).children && b then role_in nodes r (single_in nodes r n) e
      else role_by nodes (role_at nodes) e (parent_before (min n e) nodes e)) (lt-ltb n e less)
      ∙ (ap (λ (k : ℕ). if is_among e (node_at nodes n).children && true then role_in nodes r (single_in nodes r n) e
      else role_by nodes (role_at nodes) e (parent_before k nodes e)) now
      ∙ (by (is_among e (node_at nodes n).children)
      ∙ sym (ap (λ (k : ℕ). role_by nodes (role_at nodes) e (parent_before k nodes e)) next)))
  | inr more ↦
      let next : min (n + 1) e ≡ e = min-eq_right (omega (arith, more)) in
      let now : min n e ≡ e = min-eq_right more in
      ap (λ (b : Bool). if is_among e (node_at nodes n).children && b then role_in nodes r (single_in nodes r n) e
      else role_by nodes (role_at nodes) e (parent_before (min n e) nodes e)) (le-ltb n e more)
      ∙ (none (is_among e (node_at nodes n).children)
      ∙ ap (λ (k : ℕ). role_by nodes (role_at nodes) e (parent_before k nodes e)) (now ∙ sym next))
]
  where
    by : (b : Bool) → (if b && true then role_in nodes r (single_in nodes r n) e else role_by nodes (role_at nodes) e (parent_before n nodes e))
        ≡ role_by nodes (role_at nodes) e (if b then Some n else parent_before n nodes e)
    by true = ap (λ (q : Role). role_in nodes q (single_in nodes q n) e) is
    by false = refl

    none : (b : Bool) → (if b && false then role_in nodes r (single_in nodes r n) e else role_by nodes (role_at nodes) e (parent_before (min n e) nodes e))
        ≡ role_by nodes (role_at nodes) e (parent_before (min n e) nodes e)
    none true = refl
    none false = refl

-- the children of one element more
pub so_far_more : (n : ℕ) (nodes : List Node) (old new : List Role) (r : Role) → n < length nodes → r ≡ get_or old n Skipped
    → AreSoFar n nodes old → ArePlaced (parent_with nodes n r (single_in nodes r n)) (node_at nodes n).children old new
    → AreSoFar (n + 1) nodes new
so_far_more n nodes old new r within is before are = record {
  count = are.count ∙ before.count;
  each = λ e small. are.each e (omega (arith, small, before.count))
      ∙ (ap (placed (parent_with nodes n r (single_in nodes r n)) (node_at nodes n).children e) (before.each e small)
      ∙ role_more n nodes e r (is ∙ (before.each n within ∙ parent_role n nodes)));
}

-- the children of all elements
pub so_far_all : (n : ℕ) (nodes : List Node) (roles : List Role) → n ≡ length nodes → AreSoFar n nodes roles → AreRoles nodes roles
unfolding role_so_far
so_far_all n nodes roles all are = record {
  count = are.count;
  each = λ e within. are.each e within
      ∙ (ap (λ (k : ℕ). role_by nodes (role_at nodes) e (parent_before k nodes e)) (min-eq_right (omega (arith, within, all)))
      ∙ sym (role_follows nodes e));
}

-- one element more has its role
pub roots_more : (f : ℕ → Role) (xs : List Role) (n : ℕ) (r : Role) → r ≡ f n
    → (length xs ≡ n) × ((e : ℕ) → e < n → get_or xs e Skipped ≡ f e)
    → (length (xs ++ r ∷ []) ≡ n + 1) × ((e : ℕ) → e < n + 1 → get_or (xs ++ r ∷ []) e Skipped ≡ f e)
roots_more f xs n r is before = (
  length_push xs r ∙ ap (λ (k : ℕ). k + 1) before.0,
  λ e less. elim (cases_lt e n) [
    | inl low ↦ get_or-append xs (r ∷ []) Skipped e (omega (arith, low, before.0)) ∙ before.1 e low
    | inr high ↦
        let here : n ≡ e = omega (arith, less, high) in
        get_or_push xs r Skipped e (before.0 ∙ here) ∙ (is ∙ ap f here)
  ],
)
