-- Tables of intervals, and the characters that begin with a part of one.
use Rattle.std.proofs.Common.{IsTrue, ◌↔◌, ◌≡◌, ◌≢◌, ℕ, ◌<◌, ◌≤◌, ◌&&◌, ◌||◌, max, nat_le, List, []}
use Rattle.std.proofs.Common.{◌∷◌, Bool, true, false, refl, sym, ap, ap₂, ◌∙◌, inl, inr, arith}
use Rattle.std.proofs.Common.{leb-true}
use Rattle.std.specs.List.{list_any, list_all}
use Rattle.std.proofs.lemmas.Bool.{and_parts, or_parts, or_right, cases_Bool}
use Rattle.std.proofs.lemmas.List.Folds.{list_any-append}
use Rattle.std.proofs.lemmas.Bool.Decides.{nat_tests}
use Rattle.std.proofs.Math.Bool.{or-false}
use Rattle.std.specs.Char.{encode_utf8, IsScalar}
use Rattle.dfdl_layers.specs.Bytes.{Part, IsBegun}
use Rattle.dfdl_xml_chars.specs.Utf8.{see, low_of, high_of}
use Rattle.dfdl_xml_chars.specs.Characters.{Row, is_in, is_allowed, char_rows, meets, begins}
use Rattle.dfdl_xml_chars.specs.Characters.{are_proper, are_inside, high_start_rows, high_mark_rows}
use Rattle.dfdl_xml_chars.specs.Characters.{high_name_rows}
use Rattle.dfdl_xml_chars.specs.Characters.{low_start_rows, low_name_rows, is_name_start}
use Rattle.dfdl_xml_chars.specs.Characters.{is_name_char}
use Rattle.dfdl_xml_chars.specs.Beyond.{AreAllowed}
use Rattle.dfdl_xml_chars.proofs.Encodes.{scalar_parts}
use Rattle.dfdl_xml_chars.proofs.Ranges.{begun_by, within_by, low_by}

-- the least code of a row and an interval that meet lies in both
met_row : (low high : ℕ) (row : Row) → low ≤ high → nat_le row.0 row.1 ≡ true
    → (nat_le row.0 high && nat_le low row.1) ≡ true
    → (c : ℕ) × (low ≤ c) × (c ≤ high) × ((nat_le row.0 c && nat_le c row.1) ≡ true)
met_row low high row some proper meet =
    (max low row.0, grind (arith, nat_tests), grind (arith, nat_tests), grind (arith, nat_tests))

met_rows : (rows : List Row) (low high : ℕ) → low ≤ high → are_proper rows ≡ true
    → list_any (λ row. nat_le row.0 high && nat_le low row.1) rows ≡ true
    → (c : ℕ) × (low ≤ c) × (c ≤ high) × (is_in rows c ≡ true)
met_rows [] low high some proper meet = absurd (cc)
met_rows (row ∷ rows) low high some proper meet =
    let both = and_parts (nat_le row.0 row.1) (are_proper rows) proper in
    elim (cases_Bool (nat_le row.0 high && nat_le low row.1)) [
      | inl here ↦ (
          let found = met_row low high row some both.0 here in
          (found.0, found.1, found.2, ap (λ b. b || is_in rows found.0) found.3))
      | inr not_here ↦ (
          let found =
          met_rows rows low high some both.1
          (sym (ap (λ b. b
          || list_any (λ r. nat_le r.0 high && nat_le low r.1) rows) not_here)
          ∙ meet) in
          (found.0, found.1, found.2, grind (arith, nat_tests, found.3)))
    ]

not_met_row : (row : Row) (low high c : ℕ) → low ≤ c → c ≤ high
    → (nat_le row.0 high && nat_le low row.1) ≡ false → (nat_le row.0 c && nat_le c row.1) ≡ false
not_met_row row low high c least most none = grind (arith, nat_tests)

not_met_rows : (rows : List Row) (low high c : ℕ) → low ≤ c → c ≤ high
    → list_any (λ row. nat_le row.0 high && nat_le low row.1) rows ≡ false → is_in rows c ≡ false
not_met_rows [] low high c least most none = refl
not_met_rows (row ∷ rows) low high c least most none =
    let both =
    or_parts (nat_le row.0 high && nat_le low row.1)
    (list_any (λ r. nat_le r.0 high && nat_le low r.1) rows) none in
    ap₂ (λ (a b : Bool). a || b) (not_met_row row low high c least most both.0)
    (not_met_rows rows low high c least most both.1)

in_larger_row : (row other : Row) (c : ℕ) → (nat_le other.0 row.0 && nat_le row.1 other.1) ≡ true
    → (nat_le row.0 c && nat_le c row.1) ≡ true
    → (nat_le other.0 c && nat_le c other.1) ≡ true
in_larger_row row other c larger within = grind (arith, nat_tests)

in_some_row : (row : Row) (others : List Row) (c : ℕ)
    → list_any (λ other. nat_le other.0 row.0 && nat_le row.1 other.1) others ≡ true
    → (nat_le row.0 c && nat_le c row.1) ≡ true → is_in others c ≡ true
in_some_row row [] c larger within = absurd (cc)
in_some_row row (other ∷ others) c larger within =
    elim (cases_Bool (nat_le other.0 row.0 && nat_le row.1 other.1)) [
      | inl here ↦ ap (λ b. b || is_in others c) (in_larger_row row other c here within)
      | inr not_here ↦ or_right (nat_le other.0 c && nat_le c other.1) (is_in others c)
          (in_some_row row others c
          (sym (ap (λ b. b
          || list_any (λ o. nat_le o.0 row.0 && nat_le row.1 o.1) others) not_here)
          ∙ larger) within)
    ]

-- what lies in rows lies in any rows that have each of them inside
pub in_others : (rows others : List Row) (c : ℕ) → are_inside rows others ≡ true
    → is_in rows c ≡ true → is_in others c ≡ true
in_others [] others c inside within = absurd (cc)
in_others (row ∷ rows) others c inside within =
    let both =
    and_parts (list_any (λ o. nat_le o.0 row.0 && nat_le row.1 o.1) others)
    (are_inside rows others) inside in
    elim (cases_Bool (nat_le row.0 c && nat_le c row.1)) [
      | inl here ↦ in_some_row row others c both.0 here
      | inr not_here ↦
          in_others rows others c both.1 (sym (ap (λ b. b || is_in rows c) not_here) ∙ within)
    ]

-- rows that meet the bytes have a character that begins so
pub met_by : (rows : List Row) (bytes : List ℕ) → see bytes ≡ Part → are_proper rows ≡ true
    → meets rows bytes ≡ true
    → (c : ℕ) × IsBegun IsScalar encode_utf8 bytes c × (is_in rows c ≡ true)
met_by rows bytes sees proper meet =
    let found = met_rows rows (low_of bytes) (high_of bytes) (low_by bytes sees).some proper meet in
    (found.0, begun_by bytes found.0 sees (record { low = found.1; high = found.2 }), found.3)

-- and rows that do not meet them have none
pub not_met_by : (rows : List Row) (bytes : List ℕ) (c : ℕ) → see bytes ≡ Part
    → meets rows bytes ≡ false → IsBegun IsScalar encode_utf8 bytes c → is_in rows c ≡ false
not_met_by rows bytes c sees none begun =
    let within = within_by bytes c sees begun in
    not_met_rows rows (low_of bytes) (high_of bytes) c within.low within.high none

-- a character begins so exactly where its code lies in the interval
pub begins_by : (bytes : List ℕ) (c : ℕ) → see bytes ≡ Part → begins bytes c ≡ true
    → IsBegun IsScalar encode_utf8 bytes c
begins_by bytes c sees is =
    let both = and_parts (nat_le (low_of bytes) c) (nat_le c (high_of bytes)) is in
    begun_by bytes c sees
    (record {
      low = leb-true (low_of bytes) c both.0;
      high = leb-true c (high_of bytes) both.1;
    })

pub not_begins_by : (bytes : List ℕ) (c : ℕ) → see bytes ≡ Part → begins bytes c ≡ false
    → IsBegun IsScalar encode_utf8 bytes c → ⊥
not_begins_by bytes c sees none begun = let within = within_by bytes c sees begun in
    not_within (low_of bytes) (high_of bytes) c within.low within.high none
  where
    not_within : (low high d : ℕ) → low ≤ d → d ≤ high → (nat_le low d && nat_le d high) ≡ false → ⊥
    not_within low high d least most none = grind (arith, nat_tests)

-- XML allows each character past ASCII but U+FFFE and U+FFFF
pub allowed_past : (c : ℕ) → IsScalar c → 128 ≤ c → c ≢ 0xFFFE → c ≢ 0xFFFF → is_allowed c ≡ true
unfolding is_allowed char_rows
allowed_past c scalar past first second = let parts = scalar_parts c scalar in
    grind (arith, nat_tests)

-- the least character that begins with a part is past ASCII and allowed
pub least_begun : (bytes : List ℕ) → see bytes ≡ Part
    → IsBegun IsScalar encode_utf8 bytes (low_of bytes) × (128 ≤ low_of bytes)
    × (is_allowed (low_of bytes) ≡ true)
least_begun bytes sees =
    let low = low_by bytes sees in
    let begun =
    begun_by bytes (low_of bytes) sees (record { low = omega arith; high = low.some }) in (
      begun,
      low.past,
      allowed_past (low_of bytes) begun.scalar low.past (λ is. omega (arith, low.allowed))
          (λ is. omega (arith, low.allowed)),
    )

pub past_of : (bytes : List ℕ) (c : ℕ) → see bytes ≡ Part → IsBegun IsScalar encode_utf8 bytes c
    → 128 ≤ c
past_of bytes c sees begun =
    let within = within_by bytes c sees begun in
    let low = low_by bytes sees in
    omega (arith, within.low, low.past)

-- the tables of names
pub start_rows_allowed : AreAllowed high_start_rows
unfolding high_start_rows char_rows
start_rows_allowed = record { proper = refl; allowed = refl }

pub name_rows_allowed : AreAllowed high_name_rows
unfolding high_name_rows high_mark_rows high_start_rows char_rows
name_rows_allowed = record { proper = refl; allowed = refl }

pub no_rows_allowed : AreAllowed []
no_rows_allowed = record { proper = refl; allowed = refl }

-- what lies in allowed rows is allowed
pub allowed_in : (rows : List Row) (c : ℕ) → AreAllowed rows → is_in rows c ≡ true
    → is_allowed c ≡ true
unfolding is_allowed
allowed_in rows c allowed within = in_others rows char_rows c allowed.allowed within

none_below : (rows : List Row) (least c : ℕ) → c < least
    → list_all (λ row. nat_le least row.0) rows ≡ true → is_in rows c ≡ false
none_below [] least c less all = refl
none_below (row ∷ rows) least c less all =
    let both = and_parts (nat_le least row.0) (list_all (λ r. nat_le least r.0) rows) all in
    let first : (nat_le row.0 c && nat_le c row.1) ≡ false = grind (arith, nat_tests, both.0) in
    ap₂ (λ (a b : Bool). a || b) first (none_below rows least c less both.1)

none_above : (rows : List Row) (most c : ℕ) → most < c
    → list_all (λ row. nat_le row.1 most) rows ≡ true → is_in rows c ≡ false
none_above [] most c more all = refl
none_above (row ∷ rows) most c more all =
    let both = and_parts (nat_le row.1 most) (list_all (λ r. nat_le r.1 most) rows) all in
    let first : (nat_le row.0 c && nat_le c row.1) ≡ false = grind (arith, nat_tests, both.0) in
    ap₂ (λ (a b : Bool). a || b) first (none_above rows most c more both.1)

-- of an ASCII character the ASCII rows decide, of any other the rows past ASCII
pub low_start : (c : ℕ) → c < 128 → is_name_start c ≡ is_in low_start_rows c
unfolding is_name_start high_start_rows
low_start c less =
    ap (λ b. is_in low_start_rows c || b) (none_below high_start_rows 128 c less refl)
    ∙ or-false (is_in low_start_rows c)

pub high_start : (c : ℕ) → 128 ≤ c → is_name_start c ≡ is_in high_start_rows c
unfolding is_name_start low_start_rows
high_start c least =
    ap (λ b. b || is_in high_start_rows c) (none_above low_start_rows 127 c (omega arith) refl)

pub low_char : (c : ℕ) → c < 128 → is_name_char c ≡ is_in low_name_rows c
unfolding is_name_char high_name_rows high_mark_rows high_start_rows
low_char c less =
    ap (λ b. is_in low_name_rows c || b) (none_below high_name_rows 128 c less refl)
    ∙ or-false (is_in low_name_rows c)

pub high_char : (c : ℕ) → 128 ≤ c → is_name_char c ≡ is_in high_name_rows c
unfolding is_name_char low_name_rows low_start_rows
high_char c least =
    ap (λ b. b || is_in high_name_rows c) (none_above low_name_rows 127 c (omega arith) refl)

pub begins_exactly : (bytes : List ℕ) (c : ℕ) → see bytes ≡ Part
    → IsTrue (begins bytes c) ↔ IsBegun IsScalar encode_utf8 bytes c
begins_exactly bytes c sees = (
  λ is. begins_by bytes c sees is,
  λ begun. elim
      (cases_Bool (begins bytes c)) [
        | inl is ↦ is
        | inr none ↦
            absurd (not_begins_by bytes c sees none begun)
      ],
)

pub meets_exactly : (rows : List Row) (bytes : List ℕ) → AreAllowed rows → see bytes ≡ Part
    → IsTrue (meets rows bytes) ↔
    ((c : ℕ) × IsBegun IsScalar encode_utf8 bytes c × IsTrue (is_in rows c))
meets_exactly rows bytes allowed sees = (
  λ meet. met_by rows bytes sees allowed.proper meet,
  λ found. elim (cases_Bool (meets rows bytes)) [
    | inl meet ↦ meet
    | inr none ↦
        (let not_in = not_met_by rows bytes found.0 sees none found.1 in let within = found.2 in
        absurd (cc))
  ],
)

-- the rows of names are the marks, and those that names begin with
pub in_name_rows : (c : ℕ)
    → is_in high_name_rows c ≡ (is_in high_mark_rows c || is_in high_start_rows c)
unfolding high_name_rows
in_name_rows c =
    list_any-append (λ row. nat_le row.0 c && nat_le c row.1) high_mark_rows high_start_rows

pub meets_name_rows : (bytes : List ℕ)
    → meets high_name_rows bytes ≡ (meets high_mark_rows bytes || meets high_start_rows bytes)
unfolding high_name_rows
meets_name_rows bytes =
    list_any-append
    (λ row. nat_le row.0 (high_of bytes) && nat_le (low_of bytes) row.1) high_mark_rows
    high_start_rows
