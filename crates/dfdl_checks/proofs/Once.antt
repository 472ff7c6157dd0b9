-- Properties that no chain gives twice.
use Rattle.std.proofs.Common.{◌≡◌, refl, subst, ℕ, List, ◌∷◌, [], Option, Some, None, Bool, true, false, if◌then◌else◌, ◌||◌, ◌&&◌, is_some, arith}
use Rattle.std.specs.List.{list_any}
use Rattle.std.specs.Option.{option_map_or}
use Rattle.std.specs.Str.{bytes_eq}
use Rattle.std.specs.Cmp.Lexicographic.{bytes_decides}
use Rattle.dfdl_scope.specs.Scoping.{Element, Told, Value, Absent, Twice, explicit, is_again, told, told_explicitly, default_value, is_repeated, repeated_at}
use Rattle.dfdl_scope.specs.Table.{Row, names_of, row_named}

-- it is told that the property is given twice
abbrev pub is_twice : Told → Bool
is_twice (Value value) = false
is_twice Absent = false
is_twice (Twice place) = true

-- a test that no name of the table passes is passed by no name of a property
pub no-property-passes : (test : List ℕ → Bool) (rows : List Row) (name : List ℕ) (row : Row) → row_named rows name ≡ Some row
    → list_any test (names_of rows) ≡ false → test name ≡ false
no-property-passes test [] name row at none = grind (arith, at)
no-property-passes test (r ∷ rows) name row at none =
    by (bytes_eq r.name name) refl at (λ found. no-property-passes test rows name row found (second-fails (test r.name) _ none))
  where
    first-fails : (a b : Bool) → (a || b) ≡ false → a ≡ false
    first-fails a b h = grind (arith, h)

    second-fails : (a b : Bool) → (a || b) ≡ false → b ≡ false
    second-fails a b h = grind (arith, h)

    by : (b : Bool) → bytes_eq r.name name ≡ b → (if b then Some r else row_named rows name) ≡ Some row
        → (row_named rows name ≡ Some row → test name ≡ false) → test name ≡ false
    by true same found go = subst (λ n. test n ≡ false) ((bytes_decides r.name name).0 same) (first-fails (test r.name) _ none)
    by false apart found go = go found

-- what no element of the chain gives again is not told to be given twice
once-told : (chain : List Element) (names : List (List ℕ)) (name : List ℕ)
    → ((test : List ℕ → Bool) → list_any test names ≡ false → test name ≡ false)
    → repeated_at chain names ≡ None → (otherwise : Told) → is_twice otherwise ≡ false → is_twice (told_explicitly chain name otherwise) ≡ false
unfolding is_repeated
once-told [] names name among none otherwise once = once
once-told (e ∷ behind) names name among none otherwise once =
    by (list_any (is_repeated e behind) names) refl none (λ rest. once-told behind names name among rest otherwise once)
  where
    alone-told : (v : List ℕ) (b : Bool) → b ≡ false → is_twice (if b then Twice e.place else Value v) ≡ false
    alone-told v false no-more = refl
    alone-told v true no-more = grind (arith, no-more)

    at-first : (o : Option (List ℕ)) (again : Bool) → (is_some o && again) ≡ false → is_twice (told_explicitly behind name otherwise) ≡ false
        → is_twice (option_map_or (λ v. if again then Twice e.place else Value v) o (told_explicitly behind name otherwise)) ≡ false
    at-first None again kept rest = rest
    at-first (Some v) again kept rest = alone-told v again kept

    by : (b : Bool) → list_any (is_repeated e behind) names ≡ b → (if b then Some e.place else repeated_at behind names) ≡ None
        → (repeated_at behind names ≡ None → is_twice (told_explicitly behind name otherwise) ≡ false)
        → is_twice (told_explicitly (e ∷ behind) name otherwise) ≡ false
    by false kept rest go = at-first (explicit e name) (is_again e behind name) (among (is_repeated e behind) kept) (go rest)
    by true kept rest go = grind (arith, rest)

-- no property of the profile is told to be given twice where the chain gives none again
pub told-once : (chain : List Element) (rows : List Row) (name : List ℕ) (row : Row) → row_named rows name ≡ Some row
    → repeated_at chain (names_of rows) ≡ None → is_twice (told chain name) ≡ false
told-once chain rows name row at none =
    once-told chain (names_of rows) name (λ test. no-property-passes test rows name row at) none _ (by-default (default_value chain name))
  where
    by-default : (o : Option (List ℕ)) → is_twice (option_map_or Value o Absent) ≡ false
    by-default None = refl
    by-default (Some v) = refl
