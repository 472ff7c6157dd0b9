-- Where the attributes of a whole tag differ, those before one of them differ from it.
use Rattle.std.proofs.Common.{◌≡◌, ℕ, Bool, true, false, if◌then◌else◌, List, []}
use Rattle.std.proofs.Common.{◌∷◌, ◌++◌, Option, Some, None, refl, ap, ◌∙◌, subst, inl, inr}
use Rattle.std.proofs.Common.{append_assoc}
use Rattle.std.specs.List.{list_any, cons_option}
use Rattle.std.specs.Str.{bytes_eq}
use Rattle.std.proofs.lemmas.Bool.{cases_Bool, both_ways, and_parts, and_from, or_parts, or_from}
use Rattle.dfdl_markup.specs.Grammar.{Name, Plain, Prefixed}
use Rattle.dfdl_markup.specs.Values.{Attribute, same_name, Binding, binding_of, bindings_of, found}
use Rattle.dfdl_markup.specs.Values.{same_found, same_expanded, have_same, names_of, scope_in}
use Rattle.dfdl_markup.specs.Rules.{AreDifferent}
use Rattle.dfdl_markup.specs.Machine.{StartTag, is_given}

-- what is found is found in more
found_more : (xs ys : List Binding) (p v : List ℕ) → found xs p ≡ Some v → found (xs ++ ys) p
    ≡ Some v
found_more [] ys p v is = absurd (cc)
found_more (b ∷ xs) ys p v is = one (bytes_eq b.prefix p) is (found_more xs ys p v)
  where
    one : (t : Bool) → (if t then Some b.namespace else found xs p) ≡ Some v
        → (found xs p ≡ Some v → found (xs ++ ys) p ≡ Some v)
        → (if t then Some b.namespace else found (xs ++ ys) p) ≡ Some v
    one true is rest = is
    one false is rest = rest is

same_found_more : (xs ys : List Binding) (p q : List ℕ) (a b : Option (List ℕ)) → found xs p ≡ a
    → found xs q ≡ b → same_found a b ≡ true
    → same_found (found (xs ++ ys) p) (found (xs ++ ys) q) ≡ true
same_found_more xs ys p q (Some a) (Some b) is_a is_b same =
    rw (found_more xs ys p a is_a, found_more xs ys q b is_b) same
same_found_more xs ys p q (Some a) None is_a is_b same = absurd (cc)
same_found_more xs ys p q None b is_a is_b same = absurd (cc)

same_expanded_more : (xs ys : List Binding) (a b : Name) → same_expanded xs a b ≡ true
    → same_expanded (xs ++ ys) a b ≡ true
same_expanded_more xs ys (Prefixed p a) (Prefixed q b) same =
    let parts = and_parts _ _ same in
    and_from (bytes_eq a b) (same_found (found (xs ++ ys) p) (found (xs ++ ys) q)) parts.0
    (same_found_more xs ys p q (found xs p) (found xs q) refl refl parts.1)
same_expanded_more xs ys (Prefixed p a) (Plain b) same = absurd (cc)
same_expanded_more xs ys (Plain a) b same = absurd (cc)

-- names that differ in more bindings differ in fewer
differ_in_fewer : (xs ys : List Binding) (a b : Name) → same_expanded (xs ++ ys) a b ≡ false
    → same_expanded xs a b ≡ false
differ_in_fewer xs ys a b differ =
    elim (cases_Bool (same_expanded xs a b)) [
      | inl e ↦ absurd (both_ways _ differ (same_expanded_more xs ys a b e))
      | inr e ↦ e
    ]

any_of_fewer : (f g : Name → Bool) → ((x : Name) → g x ≡ false → f x ≡ false) → (xs : List Name)
    → list_any g xs ≡ false → list_any f xs ≡ false
any_of_fewer f g less [] none = refl
any_of_fewer f g less (x ∷ xs) none =
    let parts = or_parts (g x) (list_any g xs) none in
    or_from (f x) (list_any f xs) (less x parts.0) (any_of_fewer f g less xs parts.1)

have_of_fewer : (f g : Name → Name → Bool) → ((x y : Name) → g x y ≡ false → f x y ≡ false)
    → (xs : List Name) → have_same g xs ≡ false → have_same f xs ≡ false
have_of_fewer f g less [] none = refl
have_of_fewer f g less (x ∷ xs) none =
    let parts = or_parts (list_any (g x) xs) (have_same g xs) none in
    or_from (list_any (f x) xs) (have_same f xs) (any_of_fewer (f x) (g x) (less x) xs parts.0)
    (have_of_fewer f g less xs parts.1)

any_in_front : (f : Name → Bool) (xs ys : List Name) → list_any f (xs ++ ys) ≡ false
    → list_any f xs ≡ false
any_in_front f [] ys none = refl
any_in_front f (x ∷ xs) ys none =
    let parts = or_parts (f x) (list_any f (xs ++ ys)) none in
    or_from (f x) (list_any f xs) parts.0 (any_in_front f xs ys parts.1)

have_in_front : (f : Name → Name → Bool) (xs ys : List Name) → have_same f (xs ++ ys) ≡ false
    → have_same f xs ≡ false
have_in_front f [] ys none = refl
have_in_front f (x ∷ xs) ys none =
    let parts = or_parts (list_any (f x) (xs ++ ys)) (have_same f (xs ++ ys)) none in
    or_from (list_any (f x) xs) (have_same f xs) (any_in_front (f x) xs ys parts.0)
    (have_in_front f xs ys parts.1)

any_at : (f : Name → Bool) (xs : List Name) (y : Name) (ys : List Name)
    → list_any f (xs ++ y ∷ ys) ≡ false → f y ≡ false
any_at f [] y ys none = (or_parts (f y) (list_any f ys) none).0
any_at f (x ∷ xs) y ys none = any_at f xs y ys (or_parts (f x) (list_any f (xs ++ y ∷ ys)) none).1

-- none before a name is the same
none_before : (f : Name → Name → Bool) (xs : List Name) (y : Name) (ys : List Name)
    → have_same f (xs ++ y ∷ ys) ≡ false → list_any (λ x. f x y) xs ≡ false
none_before f [] y ys none = refl
none_before f (x ∷ xs) y ys none =
    let parts = or_parts (list_any (f x) (xs ++ y ∷ ys)) (have_same f (xs ++ y ∷ ys)) none in
    or_from (f x y) (list_any (λ o. f o y) xs) (any_at (f x) xs y ys parts.0)
    (none_before f xs y ys parts.1)

names-append : (xs ys : List Attribute) → names_of (xs ++ ys) ≡ names_of xs ++ names_of ys
names-append [] ys = refl
names-append (x ∷ xs) ys = ap (λ l. x.name ∷ l) (names-append xs ys)

bindings-append : (xs ys : List Attribute) → bindings_of (xs ++ ys)
    ≡ bindings_of xs ++ bindings_of ys
bindings-append [] ys = refl
bindings-append (x ∷ xs) ys = one (binding_of x) (bindings-append xs ys)
  where
    one : (o : Option Binding) → bindings_of (xs ++ ys) ≡ bindings_of xs ++ bindings_of ys
        → cons_option o (bindings_of (xs ++ ys)) ≡ cons_option o (bindings_of xs) ++ bindings_of ys
    one None is = is
    one (Some b) is = ap (λ l. b ∷ l) is

-- by the bindings of those before alone
by_front : (scope : List Binding) (before behind : List Attribute)
    → have_same (same_expanded (scope_in (before ++ behind) scope)) (names_of (before ++ behind))
    ≡ false
    → have_same (same_expanded (bindings_of before)) (names_of before ++ names_of behind) ≡ false
by_front scope before behind none =
    have_of_fewer (same_expanded (bindings_of before))
    (same_expanded (bindings_of before ++ (bindings_of behind ++ scope)))
    (differ_in_fewer (bindings_of before) (bindings_of behind ++ scope))
    (names_of before ++ names_of behind)
    (subst (λ l. have_same (same_expanded l) (names_of before ++ names_of behind) ≡ false)
    (ap (λ l. l ++ scope) (bindings-append before behind)
    ∙ append_assoc (bindings_of before) (bindings_of behind) scope)
    (subst (λ l. have_same (same_expanded (scope_in (before ++ behind) scope)) l ≡ false)
    (names-append before behind) none))

-- an attribute is none of those before it
pub name_is_new : (scope : List Binding) (tag : StartTag) (a : Attribute) (behind : List Attribute)
    → AreDifferent scope (tag.attributes ++ a ∷ behind) → is_given tag a.name ≡ false
name_is_new scope tag a behind differ =
    let before = tag.attributes in
    or_from (list_any (λ other. same_name other a.name) (names_of before))
    (list_any (λ other. same_expanded (bindings_of before) other a.name) (names_of before))
    (none_before same_name (names_of before) a.name (names_of behind)
    (subst (λ l. have_same same_name l ≡ false) (names-append before (a ∷ behind)) differ.written))
    (none_before (same_expanded (bindings_of before)) (names_of before) a.name (names_of behind)
    (by_front scope before (a ∷ behind) differ.expanded))

-- those before have no two that are the same by what they declare
pub none_sure : (scope : List Binding) (before behind : List Attribute)
    → AreDifferent scope (before ++ behind)
    → have_same (same_expanded (bindings_of before)) (names_of before) ≡ false
none_sure scope before behind differ =
    have_in_front (same_expanded (bindings_of before)) (names_of before) (names_of behind)
    (by_front scope before behind differ.expanded)
