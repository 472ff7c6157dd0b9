-- A name is a property's exactly where it is among the names of its length.
use Rattle.std.proofs.Common.{◌≡◌, refl, sym, subst, ℕ, zero, suc, List, [], ◌∷◌, length, get_or, Some, is_some, Bool, true, false, ◌&&◌, ◌||◌, if◌then◌else◌, bytes_eq, ◌⊎◌, inl, inr}
use Rattle.std.specs.List.{list_any, list_all}
use Rattle.std.specs.Cmp.Lexicographic.{bytes_decides}
use Rattle.std.proofs.lemmas.Bool.{cases_Bool}
use Rattle.dfdl_scope.specs.Names.{names_by_length}
use Rattle.dfdl_scope.specs.Table.{Row, row_named, property_table, is_property}

-- the name is among the names of its length
abbrev pub is_listed : List ℕ → Bool
is_listed name = list_any (λ n. bytes_eq n name) (get_or names_by_length (length name) [])

-- each property is
all-listed : list_all (λ row. is_listed row.name) property_table ≡ true
unfolding names_by_length property_table
all-listed = refl

-- and all that are listed are properties
all-known : list_all (λ names. list_all is_property names) names_by_length ≡ true
unfolding names_by_length property_table
all-known = refl

-- both hold
both : (a b : Bool) → (a && b) ≡ true → (a ≡ true) × (b ≡ true)
both true b h = (refl, h)
both false b h = absurd (cc)

-- a row of the name is in a table of rows that are listed
listed : (rows : List Row) (name : List ℕ) → list_all (λ row. is_listed row.name) rows ≡ true → is_some (row_named rows name) ≡ true → is_listed name ≡ true
listed [] name all there = absurd (cc)
listed (row ∷ rows) name all there = by (cases_Bool (bytes_eq row.name name)) (both _ _ all) (listed rows name)
  where
    by : (bytes_eq row.name name ≡ true) ⊎ (bytes_eq row.name name ≡ false) → (is_listed row.name ≡ true) × (list_all (λ (r : Row). is_listed r.name) rows ≡ true)
        → (list_all (λ (r : Row). is_listed r.name) rows ≡ true → is_some (row_named rows name) ≡ true → is_listed name ≡ true)
        → is_listed name ≡ true
    by (inl same) each others = subst (λ n. is_listed n ≡ true) ((bytes_decides row.name name).0 same) each.0
    by (inr apart) each others =
        others each.1 (subst (λ (b : Bool). is_some (if b then Some row else row_named rows name) ≡ true) apart there)

-- one of some names that are all properties
known : (names : List (List ℕ)) (name : List ℕ) → list_all is_property names ≡ true → list_any (λ n. bytes_eq n name) names ≡ true → is_property name ≡ true
known [] name all there = absurd (cc)
known (other ∷ names) name all there = by (cases_Bool (bytes_eq other name)) (both _ _ all) (known names name)
  where
    by : (bytes_eq other name ≡ true) ⊎ (bytes_eq other name ≡ false) → (is_property other ≡ true) × (list_all is_property names ≡ true)
        → (list_all is_property names ≡ true → list_any (λ n. bytes_eq n name) names ≡ true → is_property name ≡ true)
        → is_property name ≡ true
    by (inl same) each others = subst (λ n. is_property n ≡ true) ((bytes_decides other name).0 same) each.0
    by (inr apart) each others =
        others each.1 (subst (λ (b : Bool). (b || list_any (λ n. bytes_eq n name) names) ≡ true) apart there)

-- the names of a length
at-length : (lists : List (List (List ℕ))) (k : ℕ) → list_all (λ names. list_all is_property names) lists ≡ true → list_all is_property (get_or lists k []) ≡ true
at-length [] k all = refl
at-length (names ∷ lists) zero all = (both _ _ all).0
at-length (names ∷ lists) (suc k) all = at-length lists k (both _ _ all).1

-- two tests of which each gives the other
one-test : (a b : Bool) → (a ≡ true → b ≡ true) → (b ≡ true → a ≡ true) → a ≡ b
one-test true b there back = sym (there refl)
one-test false true there back = back refl
one-test false false there back = refl

pub is_by_length : (name : List ℕ) → is_listed name ≡ is_property name
is_by_length name =
    one-test (is_listed name) (is_property name)
    (known (get_or names_by_length (length name) []) name (at-length names_by_length (length name) all-known))
    (listed property_table name all-listed)
