-- What is written in an encoding is read back.
use Rattle.std.proofs.Common.{◌≡◌, ℕ, zero, suc, ◌+◌, ◌-◌, ◌*◌, ◌/◌, ◌%◌, ◌<◌, ◌≤◌, ◌⊎◌, Bool, true}
use Rattle.std.proofs.Common.{false, cond, nat_lt, Option, Some, None, List, [], ◌∷◌, ◌++◌, length}
use Rattle.std.proofs.Common.{refl, ap, sym, subst, ◌∙◌, arith, length-append, add_assoc, inl, inr}
use Rattle.std.specs.Char.{encode_utf8, IsScalar}
use Rattle.std.specs.Char.Escape.{encode_utf16}
use Rattle.std.specs.List.{flat_map, All, slice_index}
use Rattle.std.proofs.lemmas.Bool.{lt-ltb, ltb-true, ltb-false, cond-true, cond-false, cases_Bool}
use Rattle.std.proofs.lemmas.List.{get_or_append_left, get_or-append-add}
use Rattle.std.proofs.lemmas.Bool.Decides.{nat_tests}
use Rattle.dfdl_bits.specs.declared.window.Seen.TheVariants.{Byte}
use Rattle.dfdl_chars.specs.declared.decode.Chars.{Chars}
use Rattle.dfdl_chars.specs.declared.decode.Chars.TheVariants.{Bad, End}
use Rattle.dfdl_forms.specs.declared.encoding.Encoding.{Encoding}
use Rattle.dfdl_forms.specs.declared.encoding.Encoding.TheVariants.{Utf8, UsAscii, Iso88591}
use Rattle.dfdl_forms.specs.declared.encoding.Encoding.TheVariants.{Utf16Be, Utf16Le}
use Rattle.dfdl_chars.specs.Decoding.{Boxed, Walk, Decoded, at_byte, looked, char_of, bad_of}
use Rattle.dfdl_chars.specs.Decoding.{end_after, utf8_after, narrow_at, at_unit, is_high, is_low}
use Rattle.dfdl_chars.specs.Decoding.{pair_code, utf16_second, utf16_first, utf16_at, big_unit}
use Rattle.dfdl_chars.specs.Decoding.{little_unit}
use Rattle.dfdl_chars.specs.Encodings.{encoded_of, encoded_text, joined}
use Rattle.dfdl_chars.specs.Sequences.{is_sequence, is_begun, code_of, IsTail, IsFront}
use Rattle.dfdl_chars.specs.Sights.{SeesBytes, StandsAt, StandFrom, walked}
use Rattle.dfdl_chars.proofs.Runs.{at_byte_is, one_byte, no_one_byte, first_byte}
use Rattle.dfdl_chars.proofs.Whole.{encode_one, encode_two, encode_three, encode_four, scalar_parts}
use Rattle.dfdl_chars.proofs.Whole.{begun_one, whole_two, part_two, begun_two, whole_three}
use Rattle.dfdl_chars.proofs.Whole.{part_three, begun_three, whole_four, tail_of, front_of_three}
use Rattle.dfdl_chars.proofs.Whole.{front_of_four, code_two, code_three, code_four}

-- a look at a byte of those that are seen
at_seen : (box : Boxed) (k : ℕ) (bytes : List ℕ) (i at : ℕ) (walk : Walk) (at_end : Chars)
    (go : ℕ → Walk → Decoded)
    → SeesBytes box k bytes → i < length bytes → at ≡ k + i
    → at_byte box at walk at_end go ≡ go (slice_index bytes i) (looked at walk)
at_seen box k bytes i at walk at_end go sees within is =
    let inside : 8 * at + 8 ≤ box.stop = omega (arith, sees.inside) in
    at_byte_is box at (slice_index bytes i) walk at_end go inside
    (ap box.look is ∙ sees.seen i within)

-- the same character with the same walk
same_char : (c d n far more looks count : ℕ) → c ≡ d → far ≡ more → looks ≡ count
    → char_of c n (record { far = far; looks = looks })
    ≡ char_of d n (record { far = more; looks = count })
same_char c d n far more looks count p q r = cc

-- the bytes seen so far are a sequence
utf8_whole : (more : ℕ) (box : Boxed) (k : ℕ) (bytes : List ℕ) (walk : Walk)
    → is_sequence bytes ≡ true
    → utf8_after more box k bytes walk ≡ char_of (code_of bytes) (length bytes) walk
utf8_whole zero box k bytes walk is = cond-true (is_sequence bytes) _ _ is
utf8_whole (suc more) box k bytes walk is = cond-true (is_sequence bytes) _ _ is

-- or they begin one
utf8_more : (more : ℕ) (box : Boxed) (k : ℕ) (all bytes : List ℕ) (walk : Walk)
    → SeesBytes box k all → length bytes < length all
    → is_sequence bytes ≡ false → is_begun bytes ≡ true
    → utf8_after (suc more) box k bytes walk
    ≡ utf8_after more box k (bytes ++ slice_index all (length bytes) ∷ [])
    (looked (k + length bytes) walk)
utf8_more more box k all bytes walk sees within part begun =
    cond-false (is_sequence bytes) _ _ part
    ∙ cond-true (is_begun bytes) _ _ begun
    ∙ at_seen box k all (length bytes) (k + length bytes) walk (end_after bytes)
    (λ b w. utf8_after more box k (bytes ++ b ∷ []) w) sees within refl

-- the first byte, and then sequences by their size
utf8_first : (box : Boxed) (k a : ℕ) (rest : List ℕ) (walk : Walk) → SeesBytes box k (a ∷ rest)
    → utf8_after 4 box k [] walk ≡ utf8_after 3 box k (a ∷ []) (looked k walk)
utf8_first box k a rest walk sees =
    first_byte box k walk
    ∙ at_seen box k (a ∷ rest) 0 k walk End (λ b w. utf8_after 3 box k (b ∷ []) w) sees
    (omega arith) (omega arith)

utf8_one : (box : Boxed) (k a : ℕ) (walk : Walk) → SeesBytes box k (a ∷ []) → a < 128
    → utf8_after 4 box k [] walk ≡ char_of (code_of (a ∷ [])) 1 (walked k 1 walk)
utf8_one box k a walk sees less =
    utf8_first box k a [] walk sees ∙ utf8_whole 3 box k (a ∷ []) (looked k walk) (one_byte a less)

utf8_two : (box : Boxed) (k a b : ℕ) (walk : Walk) → SeesBytes box k (a ∷ b ∷ []) → 0xC2 ≤ a
    → a ≤ 0xDF → IsTail b
    → utf8_after 4 box k [] walk ≡ char_of (code_of (a ∷ b ∷ [])) 2 (walked k 2 walk)
utf8_two box k a b walk sees least most tail =
    utf8_first box k a (b ∷ []) walk sees
    ∙ utf8_more 2 box k (a ∷ b ∷ []) (a ∷ []) (looked k walk) sees (omega arith)
    (no_one_byte a (omega arith)) (begun_one a least (omega arith))
    ∙ utf8_whole 2 box k (a ∷ b ∷ []) _ (whole_two a b least most tail)
    ∙ same_char _ _ 2 _ _ _ _ refl (omega arith) (omega arith)

utf8_three : (box : Boxed) (k a b c : ℕ) (walk : Walk) → SeesBytes box k (a ∷ b ∷ c ∷ [])
    → IsFront a b → a < 0xF0 → IsTail c
    → utf8_after 4 box k [] walk ≡ char_of (code_of (a ∷ b ∷ c ∷ [])) 3 (walked k 3 walk)
utf8_three box k a b c walk sees front less tail =
    let least = front.first_least in
    utf8_first box k a (b ∷ c ∷ []) walk sees
    ∙ utf8_more 2 box k (a ∷ b ∷ c ∷ []) (a ∷ []) (looked k walk) sees (omega arith)
    (no_one_byte a (omega arith)) (begun_one a (omega arith) front.first_most)
    ∙ utf8_more 1 box k (a ∷ b ∷ c ∷ []) (a ∷ b ∷ []) _ sees (omega arith) (part_two a b least)
    (begun_two a b front)
    ∙ utf8_whole 1 box k (a ∷ b ∷ c ∷ []) _ (whole_three a b c front less tail)
    ∙ same_char _ _ 3 _ _ _ _ refl (omega arith) (omega arith)

utf8_four : (box : Boxed) (k a b c d : ℕ) (walk : Walk) → SeesBytes box k (a ∷ b ∷ c ∷ d ∷ [])
    → IsFront a b → 0xF0 ≤ a → IsTail c → IsTail d
    → utf8_after 4 box k [] walk ≡ char_of (code_of (a ∷ b ∷ c ∷ d ∷ [])) 4 (walked k 4 walk)
utf8_four box k a b c d walk sees front least third fourth =
    let all : List ℕ = a ∷ b ∷ c ∷ d ∷ [] in
    utf8_first box k a (b ∷ c ∷ d ∷ []) walk sees
    ∙ utf8_more 2 box k all (a ∷ []) (looked k walk) sees (omega arith)
    (no_one_byte a (omega arith)) (begun_one a (omega arith) front.first_most)
    ∙ utf8_more 1 box k all (a ∷ b ∷ []) _ sees (omega arith) (part_two a b front.first_least)
    (begun_two a b front)
    ∙ utf8_more 0 box k all (a ∷ b ∷ c ∷ []) _ sees (omega arith) (part_three a b c least)
    (begun_three a b c front least third)
    ∙ utf8_whole 0 box k all _ (whole_four a b c d front least third fourth)
    ∙ same_char _ _ 4 _ _ _ _ refl (omega arith) (omega arith)

-- the bytes decode to the character
abbrev Reads : Encoding → ℕ → List ℕ → Type 0
Reads enc c bytes = (box : Boxed) (k : ℕ) → SeesBytes box k bytes
    → StandsAt enc box k c (length bytes)

coded : (c d n : ℕ) (walk : Walk) → c ≡ d → char_of c n walk ≡ char_of d n walk
coded c d n walk e = ap (λ x. char_of x n walk) e

code_one : (c : ℕ) → code_of (c ∷ []) ≡ c
unfolding code_of
code_one c = refl

reads_utf8 : (c : ℕ) → IsScalar c → Reads Utf8 c (encode_utf8 c)
reads_utf8 c scalar =
    let parts = scalar_parts c scalar in
    let no_surrogate = parts.0 in
    let past = parts.1 in
    elim (below c 128) [
      | inl one ↦ subst (Reads Utf8 c) (sym (encode_one c one))
          (λ box k sees walk. utf8_one box k c walk sees one ∙ coded _ _ 1 _ (code_one c))
      | inr more ↦ elim (below c 2048) [
        | inl two ↦ subst (Reads Utf8 c) (sym (encode_two c more two))
            (λ box k sees walk. utf8_two box k _ _ walk sees (omega arith) (omega arith) (tail_of c)
            ∙ coded _ _ 2 _ (code_two c))
        | inr many ↦ elim (below c 65536) [
          | inl three ↦ subst (Reads Utf8 c) (sym (encode_three c many three))
              (λ box k sees walk. utf8_three box k _ _ _ walk sees
              (front_of_three c many three no_surrogate) (omega arith) (tail_of c)
              ∙ coded _ _ 3 _ (code_three c))
          | inr four ↦ subst (Reads Utf8 c) (sym (encode_four c four))
              (λ box k sees walk. utf8_four box k _ _ _ _ walk sees (front_of_four c four past)
              (omega arith) (tail_of (c / 64)) (tail_of c)
              ∙ coded _ _ 4 _ (code_four c))
        ]
      ]
    ]
  where
    below : (m n : ℕ) → (m < n) ⊎ (n ≤ m)
    below m n = elim (cases_Bool (nat_lt m n)) [
      | inl e ↦ inl (ltb-true m n e)
      | inr e ↦ inr
          (ltb-false m n e)
    ]

-- an encoding of one byte a character
narrow_reads : (limit : ℕ) (box : Boxed) (k c : ℕ) (walk : Walk) → SeesBytes box k (c ∷ [])
    → c < limit
    → narrow_at limit box k walk ≡ char_of c 1 (walked k 1 walk)
narrow_reads limit box k c walk sees less =
    at_seen box k (c ∷ []) 0 k walk End
    (λ b w. cond (nat_lt b limit) (char_of b 1 w) (bad_of 1 w)) sees (omega arith) (omega arith)
    ∙ cond-true (nat_lt c limit) _ _ (lt-ltb c limit less)

-- where an encoding of one byte a character has the character, its byte is its code point
narrow_bytes : (t : Bool) (c : ℕ) (bytes : List ℕ) → cond t (Some (c ∷ [])) None ≡ Some bytes
    → (t ≡ true) × (c ∷ [] ≡ bytes)
narrow_bytes true c bytes is = (refl, cc)
narrow_bytes false c bytes is = absurd (cc)

-- a unit that is a character of its own is no surrogate, and those of a pair are the two
not_high : (u : ℕ) → (u < 0xD800) ⊎ (0xE000 ≤ u) → is_high u ≡ false
not_high u outside = grind (arith, nat_tests)

not_low : (u : ℕ) → (u < 0xD800) ⊎ (0xE000 ≤ u) → is_low u ≡ false
not_low u outside = grind (arith, nat_tests)

high_is : (n : ℕ) → n < 1024 → is_high (0xD800 + n) ≡ true
high_is n less = grind (arith, nat_tests)

low_is : (n : ℕ) → n < 1024 → is_low (0xDC00 + n) ≡ true
low_is n less = grind (arith, nat_tests)

pair_is : (c : ℕ) → 65536 ≤ c → pair_code (0xD800 + (c - 0x10000) / 1024)
    (0xDC00 + (c - 0x10000) % 1024) ≡ c
pair_is c least = omega arith

-- a unit of UTF-16, of which each order puts the two bytes in its way
module _ (join : ℕ → ℕ → ℕ) (first second : ℕ → ℕ)
    (joins : (u : ℕ) → join (first u) (second u) ≡ u) where
  unit_seen : (box : Boxed) (k : ℕ) (bytes : List ℕ) (i at u : ℕ) (walk : Walk)
      (ends : Chars × Chars) (go : ℕ → Walk → Decoded)
      → SeesBytes box k bytes → i + 1 < length bytes → at ≡ k + i
      → slice_index bytes i ≡ first u → slice_index bytes (i + 1) ≡ second u
      → at_unit join box at walk ends go ≡ go u (looked (at + 1) (looked at walk))
  unit_seen box k bytes i at u walk ends go sees within is one two =
      at_seen box k bytes i at walk ends.0
      (λ a w. at_byte box (at + 1) w ends.1 (λ b v. go (join a b) v)) sees (omega arith) is
      ∙ at_seen box k bytes (i + 1) (at + 1) (looked at walk) ends.1
      (λ b v. go (join (slice_index bytes i) b) v) sees within (omega arith)
      ∙ ap (λ a. go (join a (slice_index bytes (i + 1))) (looked (at + 1) (looked at walk))) one
      ∙ ap (λ b. go (join (first u) b) (looked (at + 1) (looked at walk))) two
      ∙ ap (λ v. go v (looked (at + 1) (looked at walk))) (joins u)

  one_unit : (box : Boxed) (k u : ℕ) (walk : Walk) → SeesBytes box k (first u ∷ second u ∷ [])
      → (u < 0xD800) ⊎ (0xE000 ≤ u)
      → utf16_at join box k walk ≡ char_of u 2 (walked k 2 walk)
  one_unit box k u walk sees outside =
      unit_seen box k (first u ∷ second u ∷ []) 0 k u walk (End, Bad 8)
      (λ unit w. utf16_first join box k unit w) sees (omega arith) (omega arith) refl refl
      ∙ cond-false (is_high u) _ _ (not_high u outside)
      ∙ cond-false (is_low u) _ _ (not_low u outside)
      ∙ same_char _ _ 2 _ _ _ _ refl (omega arith) (omega arith)

  two_units : (box : Boxed) (k h l : ℕ) (walk : Walk)
      → SeesBytes box k (first h ∷ second h ∷ first l ∷ second l ∷ [])
      → is_high h ≡ true → is_low l ≡ true
      → utf16_at join box k walk ≡ char_of (pair_code h l) 4 (walked k 4 walk)
  two_units box k h l walk sees high low =
      let all : List ℕ = first h ∷ second h ∷ first l ∷ second l ∷ [] in
      unit_seen box k all 0 k h walk (End, Bad 8) (λ unit w. utf16_first join box k unit w) sees
      (omega arith) (omega arith) refl refl
      ∙ cond-true (is_high h) _ _ high
      ∙ unit_seen box k all 2 (k + 2) l _ (Bad 16, Bad 16) (λ unit w. utf16_second h unit w) sees
      (omega arith) refl refl refl
      ∙ cond-true (is_low l) _ _ low
      ∙ same_char _ _ 4 _ _ _ _ refl (omega arith) (omega arith)

  reads_utf16 : (box : Boxed) (k c : ℕ) (bytes : List ℕ) (walk : Walk) → IsScalar c
      → flat_map (λ u. first u ∷ second u ∷ []) (encode_utf16 c) ≡ bytes → SeesBytes box k bytes
      → utf16_at join box k walk ≡ char_of c (length bytes) (walked k (length bytes) walk)
  reads_utf16 box k c bytes walk scalar is sees =
      elim (cases_Bool (nat_lt c 0x1_0000)) [
        | inl one ↦ (
            let units : encode_utf16 c ≡ c ∷ [] = cond-true (nat_lt c 0x1_0000) _ _ one in
            let all : first c ∷ second c ∷ [] ≡ bytes =
            sym (ap (flat_map (λ u. first u ∷ second u ∷ [])) units) ∙ is in
            subst (λ bs. SeesBytes box k bs
            → utf16_at join box k walk ≡ char_of c (length bs) (walked k (length bs) walk)) all
            (λ s. one_unit box k c walk s (scalar_parts c scalar).0) sees)
        | inr two ↦ (
            let units = cond-false (nat_lt c 0x1_0000) (c ∷ []) (h ∷ l ∷ []) two in
            let all : first h ∷ second h ∷ first l ∷ second l ∷ [] ≡ bytes =
            sym (ap (flat_map (λ u. first u ∷ second u ∷ [])) units) ∙ is in
            let least : 65536 ≤ c = ltb-false c 0x1_0000 two in
            let past = (scalar_parts c scalar).1 in
            subst (λ bs. SeesBytes box k bs
            → utf16_at join box k walk ≡ char_of c (length bs) (walked k (length bs) walk)) all
            (λ s. two_units box k h l walk s (high_is ((c - 0x1_0000) / 0x400) (omega arith))
            (low_is ((c - 0x1_0000) % 0x400) (omega arith)) ∙ coded _ _ 4 _ (pair_is c least)) sees)
      ]
    where
      h : ℕ
      h = 0xD800 + (c - 0x1_0000) / 0x400

      l : ℕ
      l = 0xDC00 + (c - 0x1_0000) % 0x400

some_same : (xs ys : List ℕ) → Some xs ≡ Some ys → xs ≡ ys
some_same xs ys is = cc

big_joins : (u : ℕ) → u / 256 * 256 + u % 256 ≡ u
big_joins u = omega arith

pub reads : (enc : Encoding) (c : ℕ) (bytes : List ℕ) (box : Boxed) (k : ℕ) → IsScalar c
    → encoded_of enc c ≡ Some bytes
    → SeesBytes box k bytes → StandsAt enc box k c (length bytes)
reads Utf8 c bytes box k scalar is sees =
    let same : encode_utf8 c ≡ bytes = cc in
    subst (Reads Utf8 c) same (reads_utf8 c scalar) box k sees
reads UsAscii c bytes box k scalar is sees =
    let both = narrow_bytes (nat_lt c 128) c bytes is in
    subst (Reads UsAscii c) both.1
    (λ b at s walk. narrow_reads 128 b at c walk s (ltb-true c 128 both.0)) box k sees
reads Iso88591 c bytes box k scalar is sees =
    let both = narrow_bytes (nat_lt c 256) c bytes is in
    subst (Reads Iso88591 c) both.1
    (λ b at s walk. narrow_reads 256 b at c walk s (ltb-true c 256 both.0)) box k sees
reads Utf16Be c bytes box k scalar is sees = λ walk.
    reads_utf16 big_unit (λ u. u / 256) (λ u. u % 256) big_joins box k c bytes walk scalar
    (some_same _ _ is) sees
reads Utf16Le c bytes box k scalar is sees = λ walk.
    reads_utf16 little_unit (λ u. u % 256) (λ u. u / 256) big_joins box k c bytes walk scalar
    (some_same _ _ is) sees

-- what is seen is seen in parts
sees_front : (box : Boxed) (k : ℕ) (xs ys : List ℕ) → SeesBytes box k (xs ++ ys)
    → SeesBytes box k xs
sees_front box k xs ys sees = record {
  seen = λ i within.
      sees.seen i (rw (length-append xs ys) (omega arith))
      ∙ ap Byte (get_or_append_left xs ys 0 i within);
  inside = omega (arith, sees.inside, length-append xs ys);
}

sees_rest : (box : Boxed) (k : ℕ) (xs ys : List ℕ) → SeesBytes box k (xs ++ ys)
    → SeesBytes box (k + length xs) ys
sees_rest box k xs ys sees = record {
  seen = λ i within.
      ap box.look (add_assoc k (length xs) i)
      ∙ sees.seen (length xs + i) (rw (length-append xs ys) (omega arith))
      ∙ ap Byte (get_or-append-add xs ys i 0);
  inside = omega (arith, sees.inside, length-append xs ys);
}

-- a text has bytes where its first character and the rest have
both_there : (a b : Option (List ℕ)) (bytes : List ℕ) → joined a b ≡ Some bytes
    → (xs : List ℕ) × (ys : List ℕ) × (a ≡ Some xs) × (b ≡ Some ys) × (xs ++ ys ≡ bytes)
both_there (Some xs) (Some ys) bytes is = (xs, ys, refl, refl, cc)
both_there (Some xs) None bytes is = absurd (cc)
both_there None b bytes is = absurd (cc)

pub reads_text : (enc : Encoding) (cs bytes : List ℕ) (box : Boxed) (k : ℕ) → All IsScalar cs
    → encoded_text enc cs ≡ Some bytes
    → SeesBytes box k bytes → StandFrom enc box k (k + length bytes) cs
reads_text enc [] bytes box k scalars is sees =
    let none : [] ≡ bytes = cc in
    let size : length bytes ≡ 0 = ap length (sym none) in
    omega arith
reads_text enc (c ∷ cs) bytes box k scalars is sees =
    let parts = both_there (encoded_of enc c) (encoded_text enc cs) bytes is in
    let all : SeesBytes box k (parts.0 ++ parts.1) = subst (SeesBytes box k) (sym parts.4) sees in
    let rest =
    reads_text enc cs parts.1 box (k + length parts.0)
    (λ i d within. scalars (suc i) d (omega arith)) parts.3
    (sees_rest box k parts.0 parts.1 all) in
    let end : k + length parts.0 + length parts.1 ≡ k + length bytes =
    omega (arith, length-append parts.0 parts.1, ap length parts.4) in (
      length parts.0,
      reads enc c parts.0 box k (scalars 0 0 (omega arith)) parts.2
          (sees_front box k parts.0 parts.1 all),
      subst (λ e. StandFrom enc box (k + length parts.0) e cs) end rest,
    )
