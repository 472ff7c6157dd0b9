-- Grouped digits are read as the digits that they were made of.
use Rattle.std.proofs.Common.{◌≡◌, ◌≢◌, ℕ, suc, ◌<◌, ◌≤◌, ◌%◌, ◌==◌, ◌&&◌, Bool, true, false, not, nat_lt, if◌then◌else◌, List, [], ◌∷◌, length, filter, Option, Some, None, refl, sym, arith}
use Rattle.std.specs.Char.{is_ascii_digit}
use Rattle.std.specs.List.{list_all}
use Rattle.std.proofs.lemmas.Bool.{eq-eqb, ne_eqb, and_parts}
use Rattle.std.proofs.lemmas.Bool.Decides.{nat_tests}
use Rattle.dfdl_number_text.specs.Body.{are_grouped, begins_with_digit}
use Rattle.dfdl_number_text.specs.Writing.{grouped}

-- separators make digits no fewer
pub grouped_longer : (separator group : ℕ) (ds : List ℕ) → length ds ≤ length (grouped separator group ds)
grouped_longer separator group [] = omega arith
grouped_longer separator group (d ∷ ds) = by (not (group == 0) && (nat_lt 0 (length ds) && (length ds % group == 0))) (grouped_longer separator group ds)
  where
    by : (b : Bool) → length ds ≤ length (grouped separator group ds)
        → suc (length ds) ≤ length (if b then d ∷ (separator ∷ grouped separator group ds) else d ∷ grouped separator group ds)
    by true less = omega arith
    by false less = omega arith

-- digits without separators
plain_are_grouped : (separator : Option ℕ) (behind : Bool) (ds : List ℕ) → list_all is_ascii_digit ds ≡ true → are_grouped separator behind ds ≡ true
plain_are_grouped separator behind [] are = refl
plain_are_grouped separator behind (d ∷ ds) are =
    let parts = and_parts (is_ascii_digit d) (list_all is_ascii_digit ds) are in
    rw parts.0 (plain_are_grouped separator true ds parts.1)

filter_digits : (ds : List ℕ) → list_all is_ascii_digit ds ≡ true → filter is_ascii_digit ds ≡ ds
filter_digits [] are = refl
filter_digits (d ∷ ds) are =
    let parts = and_parts (is_ascii_digit d) (list_all is_ascii_digit ds) are in
    rw (parts.0, filter_digits ds parts.1) refl

-- without groups no separator is written
ungrouped : (separator group : ℕ) (ds : List ℕ) → (group == 0) ≡ true → grouped separator group ds ≡ ds
ungrouped separator group [] none = refl
ungrouped separator group (d ∷ ds) none = rw (none, ungrouped separator group ds none) refl

module _ (separator group : ℕ) (other : is_ascii_digit separator ≡ false) where
  -- a separator stands behind a digit
  abbrev separates : List ℕ → Bool
  separates rest = not (group == 0) && (nat_lt 0 (length rest) && (length rest % group == 0))

  abbrev written : Bool → ℕ → List ℕ → List ℕ
  written b d rest = if b then d ∷ (separator ∷ grouped separator group rest) else d ∷ grouped separator group rest

  grouped_digits : (ds : List ℕ) → list_all is_ascii_digit ds ≡ true → filter is_ascii_digit (grouped separator group ds) ≡ ds
  grouped_digits [] are = refl
  grouped_digits (d ∷ ds) are = by (separates ds) (grouped_digits ds parts.1)
    where
      parts : (is_ascii_digit d ≡ true) × (list_all is_ascii_digit ds ≡ true)
      parts = and_parts (is_ascii_digit d) (list_all is_ascii_digit ds) are

      by : (b : Bool) → filter is_ascii_digit (grouped separator group ds) ≡ ds → filter is_ascii_digit (written b d ds) ≡ d ∷ ds
      by true rest = rw (parts.0, other, rest) refl
      by false rest = rw (parts.0, rest) refl

  begins : (ds : List ℕ) → list_all is_ascii_digit ds ≡ true → 0 < length ds → begins_with_digit (grouped separator group ds) ≡ true
  begins [] are some = absurd (omega arith)
  begins (d ∷ ds) are some = by (separates ds)
    where
      by : (b : Bool) → begins_with_digit (written b d ds) ≡ true
      by true = (and_parts (is_ascii_digit d) (list_all is_ascii_digit ds) are).0
      by false = (and_parts (is_ascii_digit d) (list_all is_ascii_digit ds) are).0

  grouped_are_grouped : (behind : Bool) (ds : List ℕ) → list_all is_ascii_digit ds ≡ true → are_grouped (Some separator) behind (grouped separator group ds) ≡ true
  grouped_are_grouped behind [] are = refl
  grouped_are_grouped behind (d ∷ ds) are = by (separates ds) refl (grouped_are_grouped true ds parts.1) (grouped_are_grouped false ds parts.1)
    where
      parts : (is_ascii_digit d ≡ true) × (list_all is_ascii_digit ds ≡ true)
      parts = and_parts (is_ascii_digit d) (list_all is_ascii_digit ds) are

      by : (b : Bool) → separates ds ≡ b → are_grouped (Some separator) true (grouped separator group ds) ≡ true
          → are_grouped (Some separator) false (grouped separator group ds) ≡ true
          → are_grouped (Some separator) behind (written b d ds) ≡ true
      by true told rest apart =
          let some : nat_lt 0 (length ds) ≡ true = (and_parts _ _ (and_parts (not (group == 0)) _ told).1).0 in
          let next : begins_with_digit (grouped separator group ds) ≡ true = begins ds parts.1 (grind (arith, nat_tests)) in
          rw (parts.0, other, eq-eqb separator separator refl, next, apart) refl
      by false told rest apart = rw parts.0 rest

  -- no other character is written
  grouped_without : (char : ℕ) (ds : List ℕ) → (separator == char) ≡ false → is_ascii_digit char ≡ false
      → list_all is_ascii_digit ds ≡ true → list_all (λ c. not (c == char)) (grouped separator group ds) ≡ true
  grouped_without char [] differs plain are = refl
  grouped_without char (d ∷ ds) differs plain are = by (separates ds) (grouped_without char ds differs plain parts.1)
    where
      parts : (is_ascii_digit d ≡ true) × (list_all is_ascii_digit ds ≡ true)
      parts = and_parts (is_ascii_digit d) (list_all is_ascii_digit ds) are

      apart : (d == char) ≡ false
      apart = grind (arith, nat_tests, parts.0, plain)

      by : (b : Bool) → list_all (λ c. not (c == char)) (grouped separator group ds) ≡ true → list_all (λ c. not (c == char)) (written b d ds) ≡ true
      by true rest = rw (apart, differs, rest) refl
      by false rest = rw (apart, rest) refl

digits_without : (char : ℕ) (ds : List ℕ) → is_ascii_digit char ≡ false → list_all is_ascii_digit ds ≡ true → list_all (λ c. not (c == char)) ds ≡ true
digits_without char [] plain are = refl
digits_without char (d ∷ ds) plain are =
    let parts = and_parts (is_ascii_digit d) (list_all is_ascii_digit ds) are in
    let apart : (d == char) ≡ false = grind (arith, nat_tests, parts.0, plain) in
    rw (apart, digits_without char ds plain parts.1) refl

-- ---- by the separator of a pattern, or by none
some_group : (group : ℕ) → (group == 0) ≡ false → 0 < group
some_group group some = grind (arith, nat_tests)

module _ (separator group : ℕ) (ds : List ℕ) (other : 0 < group → is_ascii_digit separator ≡ false) (are : list_all is_ascii_digit ds ≡ true) where
  pub separated_are_grouped : are_grouped (if group == 0 then None else Some separator) false (grouped separator group ds) ≡ true
  separated_are_grouped = by (group == 0) refl
    where
      by : (b : Bool) → (group == 0) ≡ b → are_grouped (if b then None else Some separator) false (grouped separator group ds) ≡ true
      by true none = rw (ungrouped separator group ds none) (plain_are_grouped None false ds are)
      by false some = grouped_are_grouped separator group (other (some_group group some)) false ds are

  pub separated_digits : filter is_ascii_digit (grouped separator group ds) ≡ ds
  separated_digits = by (group == 0) refl
    where
      by : (b : Bool) → (group == 0) ≡ b → filter is_ascii_digit (grouped separator group ds) ≡ ds
      by true none = rw (ungrouped separator group ds none) (filter_digits ds are)
      by false some = grouped_digits separator group (other (some_group group some)) ds are

  pub separated_without : (char : ℕ) → is_ascii_digit char ≡ false → (0 < group → char ≢ separator) → list_all (λ c. not (c == char)) (grouped separator group ds) ≡ true
  separated_without char plain differs = by (group == 0) refl
    where
      by : (b : Bool) → (group == 0) ≡ b → list_all (λ c. not (c == char)) (grouped separator group ds) ≡ true
      by true none = rw (ungrouped separator group ds none) (digits_without char ds plain are)
      by false some =
          let apart : (separator == char) ≡ false = ne_eqb _ _ (λ e. differs (some_group group some) (sym e)) in
          grouped_without separator group (other (some_group group some)) char ds apart plain are
