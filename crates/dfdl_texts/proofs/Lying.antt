-- Where the looks of a unit lie, and where what stands at a place lies.
use Rattle.std.proofs.Common.{◌≡◌, ℕ, zero, suc, ◌+◌, ◌-◌, ◌*◌, ◌<◌, ◌≤◌, Bool, true, false, ◌||◌, cond, leb-true, List, [], ◌∷◌, ◌++◌, length, nat_lt, Option, Some, None, refl, ap, sym, subst, arith, length-append, add-zero}
use Rattle.std.specs.Char.{IsScalar}
use Rattle.std.specs.List.{list_any}
use Rattle.std.proofs.lemmas.Bool.Decides.{nat_tests}
use Rattle.dfdl_forms.specs.declared.encoding.Encoding.{Encoding}
use Rattle.dfdl_forms.specs.declared.encoding.Encoding.TheVariants.{Utf8, UsAscii, Iso88591, Utf16Be, Utf16Le}
use Rattle.dfdl_bits.specs.declared.window.Seen.{Seen}
use Rattle.dfdl_bits.specs.declared.window.Seen.TheVariants.{Byte, End, NotYet, Over}
use Rattle.dfdl_looks.specs.Tallies.{Tally, saw_byte}
use Rattle.dfdl_looks.specs.Asks.{Ask, Answer, Reached, Told, TooFar, Missing, ask, AsksFrom}
use Rattle.dfdl_looks.proofs.Resumed.{on_seen}
use Rattle.dfdl_chars.specs.Sequences.{Span, fills, rows, is_sequence, is_begun, code_of}
use Rattle.dfdl_chars.specs.Decoding.{is_high, is_low, pair_code, big_unit, little_unit}
use Rattle.dfdl_texts.specs.Units.{Piece, Holds, Broken, NoMore, lies_in, on_byte, at_byte, narrow_unit, cut_after, utf8_unit, at_unit, utf16_second, utf16_first, utf16_unit, unit_at}

-- each look of a unit is at its first byte or behind it
module _ (low stop : ℕ) where
  from_either : (b : Bool) (p q : Ask Piece) → AsksFrom low p → AsksFrom low q → AsksFrom low (cond b p q)
  from_either true p q first second = first
  from_either false p q first second = second

  from_byte : (k : ℕ) (ends : Piece) (go : ℕ → Ask Piece) → low ≤ k → ((b : ℕ) → AsksFrom low (go b)) → AsksFrom low (at_byte stop k ends go)
  from_byte k ends go behind more = from_either (lies_in stop k) _ _ (behind, seen) tt
    where
      seen : (o : Option ℕ) → AsksFrom low (on_byte ends go o)
      seen None = tt
      seen (Some b) = more b

  from_utf8 : (more k : ℕ) (bytes : List ℕ) → low ≤ k → AsksFrom low (utf8_unit more stop k bytes)
  from_utf8 zero k bytes behind = from_either (is_sequence bytes) _ _ tt tt
  from_utf8 (suc more) k bytes behind =
      from_either (is_sequence bytes) _ _ tt
      (from_either (is_begun bytes) _ _
      (from_byte (k + length bytes) (cut_after bytes) (λ b. utf8_unit more stop k (bytes ++ b ∷ [])) (omega arith)
      (λ b. from_utf8 more k (bytes ++ b ∷ []) behind))
      tt)

  from_narrow : (limit k : ℕ) → low ≤ k → AsksFrom low (narrow_unit limit stop k)
  from_narrow limit k behind =
      from_byte k NoMore (λ b. cond (nat_lt b limit) (Answer (Holds b 1)) (Answer (Broken 1))) behind
      (λ b. from_either (nat_lt b limit) (Answer (Holds b 1)) (Answer (Broken 1)) tt tt)

  from_unit : (join : ℕ → ℕ → ℕ) (k : ℕ) (ends : Piece × Piece) (go : ℕ → Ask Piece) → low ≤ k → ((b : ℕ) → AsksFrom low (go b))
      → AsksFrom low (at_unit join stop k ends go)
  from_unit join k ends go behind more =
      from_byte k ends.0 (λ a. at_byte stop (k + 1) ends.1 (λ b. go (join a b))) behind
      (λ a. from_byte (k + 1) ends.1 (λ b. go (join a b)) (omega arith) (λ b. more (join a b)))

  from_utf16 : (join : ℕ → ℕ → ℕ) (k : ℕ) → low ≤ k → AsksFrom low (utf16_unit join stop k)
  from_utf16 join k behind =
      from_unit join k (NoMore, Broken 1) (λ unit. utf16_first join stop k unit) behind
      (λ unit. from_either (is_high unit) _ _
      (from_unit join (k + 2) (Broken 2, Broken 2) (λ second. utf16_second unit second) (omega arith)
      (λ second. from_either (is_low second) (Answer (Holds (pair_code unit second) 4)) (Answer (Broken 2)) tt tt))
      (from_either (is_low unit) (Answer (Broken 2)) (Answer (Holds unit 2)) tt tt))

  pub unit-from : (enc : Encoding) (k : ℕ) → low ≤ k → AsksFrom low (unit_at enc stop k)
  unit-from Utf8 k behind = from_utf8 4 k [] behind
  unit-from UsAscii k behind = from_narrow 128 k behind
  unit-from Iso88591 k behind = from_narrow 256 k behind
  unit-from Utf16Be k behind = from_utf16 big_unit k behind
  unit-from Utf16Le k behind = from_utf16 little_unit k behind

-- a fact that follows from each row that the bytes fill
abbrev RowsGive : Type 0 → List ℕ → List (List Span) → Type 0
RowsGive P bytes [] = Unit {0}
RowsGive P bytes (row ∷ rest) = (fills row bytes ≡ true → P) × RowsGive P bytes rest

by_row : (P : Type 0) (bytes : List ℕ) (all : List (List Span)) → RowsGive P bytes all → list_any (λ row. fills row bytes) all ≡ true → P
by_row P bytes [] give is = absurd (cc)
by_row P bytes (row ∷ rest) give is = by_first (fills row bytes) refl is (λ some. by_row P bytes rest give.1 some)
  where
    by_first : (b : Bool) → fills row bytes ≡ b → (b || list_any (λ other. fills other bytes) rest) ≡ true
        → (list_any (λ other. fills other bytes) rest ≡ true → P) → P
    by_first true first some more = give.0 first
    by_first false first some more = more some

-- what a sequence stands for is a character
sequence-scalar : (bytes : List ℕ) → is_sequence bytes ≡ true → IsScalar (code_of bytes)
unfolding is_sequence code_of
sequence-scalar [] is = absurd (cc)
sequence-scalar (a ∷ []) is = grind (arith, nat_tests)
sequence-scalar (a ∷ b ∷ []) is = grind (arith, nat_tests)
sequence-scalar (a ∷ b ∷ c ∷ []) is =
    by_row (IsScalar (((a - 0xE0) * 64 + (b - 0x80)) * 64 + (c - 0x80))) (a ∷ b ∷ c ∷ []) rows (
      (λ e. grind (arith, nat_tests)),
      (
        (λ e. grind (arith, nat_tests)),
        (
          (λ e. grind (arith, nat_tests)),
          (
            (λ e. grind (arith, nat_tests)),
            (
              (λ e. grind (arith, nat_tests)),
              (
                (λ e. grind (arith, nat_tests)),
                (
                  (λ e. grind (arith, nat_tests)),
                  ((λ e. grind (arith, nat_tests)), ((λ e. grind (arith, nat_tests)), tt)),
                ),
              ),
            ),
          ),
        ),
      ),
    ) is
sequence-scalar (a ∷ b ∷ c ∷ d ∷ []) is =
    by_row (IsScalar ((((a - 0xF0) * 64 + (b - 0x80)) * 64 + (c - 0x80)) * 64 + (d - 0x80))) (a ∷ b ∷ c ∷ d ∷ []) rows (
      (λ e. grind (arith, nat_tests)),
      (
        (λ e. grind (arith, nat_tests)),
        (
          (λ e. grind (arith, nat_tests)),
          (
            (λ e. grind (arith, nat_tests)),
            (
              (λ e. grind (arith, nat_tests)),
              (
                (λ e. grind (arith, nat_tests)),
                (
                  (λ e. grind (arith, nat_tests)),
                  ((λ e. grind (arith, nat_tests)), ((λ e. grind (arith, nat_tests)), tt)),
                ),
              ),
            ),
          ),
        ),
      ),
    ) is
sequence-scalar (a ∷ b ∷ c ∷ d ∷ e ∷ bs) is =
    by_row (IsScalar 0) (a ∷ b ∷ c ∷ d ∷ e ∷ bs) rows (
      (λ e. grind (arith, nat_tests)),
      (
        (λ e. grind (arith, nat_tests)),
        (
          (λ e. grind (arith, nat_tests)),
          (
            (λ e. grind (arith, nat_tests)),
            (
              (λ e. grind (arith, nat_tests)),
              (
                (λ e. grind (arith, nat_tests)),
                (
                  (λ e. grind (arith, nat_tests)),
                  ((λ e. grind (arith, nat_tests)), ((λ e. grind (arith, nat_tests)), tt)),
                ),
              ),
            ),
          ),
        ),
      ),
    ) is

-- UTF-8 looks at a first byte, whatever it is
pub first_byte : (stop k : ℕ) → utf8_unit 4 stop k [] ≡ at_byte stop k NoMore (λ b. utf8_unit 3 stop k (b ∷ []))
unfolding is_sequence is_begun
first_byte stop k = ap (λ at. at_byte stop at NoMore (λ b. utf8_unit 3 stop k (b ∷ []))) (add-zero k)

-- What stands at a place lies in its box, and in the data that were seen, where these end at a known byte; and a character is
-- one, where the bytes are known to be bytes.
module _ (look : ℕ → Seen) (small near : Type 0) (stop last k : ℕ)
    (shown : (j b : ℕ) → k ≤ j → look j ≡ Byte b → (small → b < 256) × (near → j + 1 ≤ last)) where
  abbrev pub Lies : Reached Piece → Type 0
  Lies (Told (Holds c bytes)) = (small → IsScalar c) × (1 ≤ bytes) × (near → k + bytes ≤ last) × (8 * (k + bytes) ≤ stop)
  Lies (Told (Broken bytes)) = (1 ≤ bytes) × (near → k + bytes ≤ last) × (8 * (k + bytes) ≤ stop)
  Lies (Told NoMore) = Unit {0}
  Lies TooFar = Unit {0}
  Lies Missing = Unit {0}

  abbrev Is : Ask Piece → Type 0
  Is a = (u : Tally) → Lies (ask look a u).reached

  -- so many bytes were seen
  abbrev Come : ℕ → Type 0
  Come n = (near → k + n ≤ last) × (8 * (k + n) ≤ stop)

  either : (b : Bool) (p q : Ask Piece) → (b ≡ true → Is p) → (b ≡ false → Is q) → Is (cond b p q)
  either true p q first second = first refl
  either false p q first second = second refl

  by_look : (n p : ℕ) → p ≡ k + n → (ends : Piece) → Lies (Told ends) → (go : ℕ → Ask Piece) → 8 * p + 8 ≤ stop
      → ((b : ℕ) → (small → b < 256) → Come (suc n) → Is (go b)) → (u : Tally) → (s : Seen) → look p ≡ s
      → Lies (on_seen look (λ o. on_byte ends go o) p u s).reached
  by_look n p at ends none go inside more u (Byte b) is =
      let seen = shown p b (omega arith) is in
      more b seen.0 ((λ is_near. let come = seen.1 is_near in omega arith), omega arith) (saw_byte p u)
  by_look n p at ends none go inside more u End is = none
  by_look n p at ends none go inside more u NotYet is = tt
  by_look n p at ends none go inside more u Over is = tt

  by_byte : (n p : ℕ) → p ≡ k + n → (ends : Piece) → Lies (Told ends) → (go : ℕ → Ask Piece)
      → ((b : ℕ) → (small → b < 256) → Come (suc n) → Is (go b)) → Is (at_byte stop p ends go)
  by_byte n p at ends none go more =
      either (lies_in stop p) _ _ (λ inside u. by_look n p at ends none go (leb-true _ _ inside) more u (look p) refl) (λ outside u. none)

  lies-less : (n m : ℕ) → m ≤ n → Come n → (near → k + m ≤ last) × (8 * (k + m) ≤ stop)
  lies-less n m less come = ((λ is_near. let there = come.0 is_near in omega arith), omega (arith, come.1))

  bad : (bytes n : ℕ) → 1 ≤ bytes → bytes ≤ n → Come n → Is (Answer (Broken bytes))
  bad bytes n some few come u = let there = lies-less n bytes few come in (some, there.0, there.1)

  one : (c bytes n : ℕ) → (small → IsScalar c) → 1 ≤ bytes → bytes ≤ n → Come n → Is (Answer (Holds c bytes))
  one c bytes n scalar some few come u = let there = lies-less n bytes few come in (scalar, some, there.0, there.1)

  scalar-small : (c : ℕ) → c < 256 → IsScalar c
  scalar-small c less = grind (arith, nat_tests)

  narrow : (limit : ℕ) → limit ≤ 256 → Is (narrow_unit limit stop k)
  narrow limit most =
      by_byte 0 k (sym (add-zero k)) NoMore tt (λ b. cond (nat_lt b limit) (Answer (Holds b 1)) (Answer (Broken 1)))
      (λ b less come. either (nat_lt b limit) (Answer (Holds b 1)) (Answer (Broken 1))
      (λ yes_it_is. one b 1 1 (λ is_small. scalar-small b (less is_small)) (omega arith) (omega arith) come)
      (λ no_it_is. bad 1 1 (omega arith) (omega arith) come))

  cut-lies : (bytes : List ℕ) → 1 ≤ length bytes → Come (length bytes) → Lies (Told (cut_after bytes))
  cut-lies [] some come = tt
  cut-lies (b ∷ bs) some come = bad 1 (length (b ∷ bs)) (omega arith) some come (record { rows = 0; looks = 0; far = 0; tail = 0; anchor = 0 })

  utf8 : (more : ℕ) (bytes : List ℕ) → 1 ≤ length bytes → Come (length bytes) → Is (utf8_unit more stop k bytes)
  utf8 zero bytes some come =
      either (is_sequence bytes) _ _ (λ whole. one (code_of bytes) (length bytes) (length bytes) (λ is_small. sequence-scalar bytes whole) some (omega arith) come)
      (λ part. bad 1 (length bytes) (omega arith) some come)
  utf8 (suc more) bytes some come =
      either (is_sequence bytes) _ _ (λ whole. one (code_of bytes) (length bytes) (length bytes) (λ is_small. sequence-scalar bytes whole) some (omega arith) come)
      (λ part. either (is_begun bytes) _ _
      (λ begun. by_byte (length bytes) (k + length bytes) refl (cut_after bytes) (cut-lies bytes some come) (λ b. utf8_unit more stop k (bytes ++ b ∷ []))
      (λ b less more_come. (
      let longer : suc (length bytes) ≡ length (bytes ++ b ∷ []) = omega (arith, length-append bytes (b ∷ [])) in
      utf8 more (bytes ++ b ∷ []) (omega arith) (subst Come longer more_come))))
      (λ none. bad 1 (length bytes) (omega arith) some come))

  utf8-all : Is (utf8_unit 4 stop k [])
  utf8-all =
      subst Is (sym (first_byte stop k))
      (by_byte 0 k (sym (add-zero k)) NoMore tt (λ b. utf8_unit 3 stop k (b ∷ [])) (λ b less come. utf8 3 (b ∷ []) (omega arith) come))

  module _ (join : ℕ → ℕ → ℕ) (joins : (a b : ℕ) → a < 256 → b < 256 → join a b < 65536) where
    by_unit : (n p : ℕ) → p ≡ k + n → (ends : Piece × Piece) → Lies (Told ends.0) → (Come (suc n) → Lies (Told ends.1)) → (go : ℕ → Ask Piece)
        → ((b : ℕ) → (small → b < 65536) → Come (suc (suc n)) → Is (go b)) → Is (at_unit join stop p ends go)
    by_unit n p at ends first second go more =
        by_byte n p at ends.0 first (λ a. at_byte stop (p + 1) ends.1 (λ b. go (join a b)))
        (λ a less come. by_byte (suc n) (p + 1) (omega arith) ends.1 (second come) (λ b. go (join a b))
        (λ b fewer all. more (join a b) (λ is_small. joins a b (less is_small) (fewer is_small)) all))

    pair-scalar : (high unit : ℕ) → is_high high ≡ true → is_low unit ≡ true → IsScalar (pair_code high unit)
    pair-scalar high unit first second = grind (arith, nat_tests)

    lone-scalar : (unit : ℕ) → unit < 65536 → is_high unit ≡ false → is_low unit ≡ false → IsScalar unit
    lone-scalar unit less first second = grind (arith, nat_tests)

    utf16 : Is (utf16_unit join stop k)
    utf16 =
        by_unit 0 k (sym (add-zero k)) (NoMore, Broken 1) tt (λ come. bad 1 1 (omega arith) (omega arith) come (record { rows = 0; looks = 0; far = 0; tail = 0; anchor = 0 }))
        (λ unit. utf16_first join stop k unit)
        (λ unit less come. either (is_high unit) _ _
        (λ high. by_unit 2 (k + 2) refl (Broken 2, Broken 2) (bad 2 2 (omega arith) (omega arith) come (record { rows = 0; looks = 0; far = 0; tail = 0; anchor = 0 }))
        (λ further. bad 2 3 (omega arith) (omega arith) further (record { rows = 0; looks = 0; far = 0; tail = 0; anchor = 0 }))
        (λ second. utf16_second unit second)
        (λ second fewer all. either (is_low second) (Answer (Holds (pair_code unit second) 4)) (Answer (Broken 2))
        (λ low. one (pair_code unit second) 4 4 (λ is_small. pair-scalar unit second high low) (omega arith) (omega arith) all)
        (λ no_low. bad 2 4 (omega arith) (omega arith) all)))
        (λ no_high. either (is_low unit) (Answer (Broken 2)) (Answer (Holds unit 2)) (λ low. bad 2 2 (omega arith) (omega arith) come)
        (λ no_low. one unit 2 2 (λ is_small. lone-scalar unit (less is_small) no_high no_low) (omega arith) (omega arith) come)))

  pub unit-lies : (enc : Encoding) → Is (unit_at enc stop k)
  unit-lies Utf8 = utf8-all
  unit-lies UsAscii = narrow 128 (omega arith)
  unit-lies Iso88591 = narrow 256 (omega arith)
  unit-lies Utf16Be = utf16 big_unit (λ a b first second. omega arith)
  unit-lies Utf16Le = utf16 little_unit (λ a b first second. omega arith)
