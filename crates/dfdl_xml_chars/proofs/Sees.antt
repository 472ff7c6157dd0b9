-- What is seen of one, two, three and four bytes, as facts on numbers.
use Rattle.std.proofs.Common.{◌≡◌, ℕ, ◌<◌, ◌≤◌, ◌&&◌, nat_le, nat_lt, List, [], ◌∷◌, Bool, true}
use Rattle.std.proofs.Common.{false, if◌then◌else◌, refl, arith, ltb-true, ltb-false, leb-true}
use Rattle.std.proofs.lemmas.Bool.{and_parts}
use Rattle.std.proofs.lemmas.Bool.Decides.{nat_tests}
use Rattle.dfdl_layers.specs.Bytes.{Whole, Part, Bad}
use Rattle.dfdl_xml_chars.specs.Utf8.{is_tail, is_pair, code_of_two, code_of_three, code_of_four}
use Rattle.dfdl_xml_chars.specs.Utf8.{see}
use Rattle.dfdl_xml_chars.proofs.Pairs.{IsPair, pair_facts, facts_pair}

-- a byte that goes on
pub record IsTail (b : ℕ) : Type 0 where
  pub least : 0x80 ≤ b
  pub most : b ≤ 0xBF

pub one_whole : (a : ℕ) → a < 0x80 → see (a ∷ []) ≡ Whole a
unfolding see
one_whole a less = grind (arith, nat_tests)

pub one_part : (a : ℕ) → 0xC2 ≤ a → a ≤ 0xF4 → see (a ∷ []) ≡ Part
unfolding see
one_part a least most = grind (arith, nat_tests)

pub two_whole : (a b : ℕ) → IsPair a b → a < 0xE0 → see (a ∷ b ∷ []) ≡ Whole (code_of_two a b)
unfolding see
two_whole a b pair less = let is = facts_pair a b pair in grind (arith, nat_tests)

pub two_part : (a b : ℕ) → IsPair a b → 0xE0 ≤ a → see (a ∷ b ∷ []) ≡ Part
unfolding see
two_part a b pair least = let is = facts_pair a b pair in grind (arith, nat_tests)

pub whole_one : (a n : ℕ) → see (a ∷ []) ≡ Whole n → (a < 0x80) × (n ≡ a)
unfolding see
whole_one a n sees = grind (arith, nat_tests)

pub whole_two : (a b n : ℕ) → see (a ∷ b ∷ []) ≡ Whole n
    → IsPair a b × (a < 0xE0) × (n ≡ code_of_two a b)
unfolding see
whole_two a b n sees = grind (arith, nat_tests, pair_facts)

pub three_whole : (a b c : ℕ) → IsPair a b → 0xE0 ≤ a → a < 0xF0 → IsTail c
    → see (a ∷ b ∷ c ∷ []) ≡ Whole (code_of_three a b c)
unfolding see
three_whole a b c pair least less tail = let is = facts_pair a b pair in grind (arith, nat_tests)

pub three_part : (a b c : ℕ) → IsPair a b → 0xF0 ≤ a → IsTail c → see (a ∷ b ∷ c ∷ []) ≡ Part
unfolding see
three_part a b c pair least tail = let is = facts_pair a b pair in grind (arith, nat_tests)

pub four_whole : (a b c d : ℕ) → IsPair a b → 0xF0 ≤ a → IsTail c → IsTail d
    → see (a ∷ b ∷ c ∷ d ∷ []) ≡ Whole (code_of_four a b c d)
unfolding see
four_whole a b c d pair least third fourth = let is = facts_pair a b pair in
    grind (arith, nat_tests)

whole_if : (p q : Bool) (m n : ℕ) → (if p then (if q then Whole m else Part) else Bad) ≡ Whole n
    → (p ≡ true) × (q ≡ true) × (n ≡ m)
whole_if true true m n is = (refl, refl, cc)
whole_if true false m n is = absurd (cc)
whole_if false q m n is = absurd (cc)

whole_once : (p : Bool) (m n : ℕ) → (if p then Whole m else Bad) ≡ Whole n → (p ≡ true) × (n ≡ m)
whole_once true m n is = (refl, cc)
whole_once false m n is = absurd (cc)

part_if : (p q : Bool) (m : ℕ) → (if p then (if q then Whole m else Part) else Bad) ≡ Part
    → (p ≡ true) × (q ≡ false)
part_if true true m is = absurd (cc)
part_if true false m is = (refl, refl)
part_if false q m is = absurd (cc)

tail_facts : (b : ℕ) → is_tail b ≡ true → IsTail b
tail_facts b is = grind (arith, nat_tests)

pub whole_three : (a b c n : ℕ) → see (a ∷ b ∷ c ∷ []) ≡ Whole n
    → IsPair a b × (0xE0 ≤ a) × (a < 0xF0) × IsTail c × (n ≡ code_of_three a b c)
unfolding see
whole_three a b c n sees =
    let both =
    whole_if (nat_le 0xE0 a && (is_pair a b && is_tail c)) (nat_lt a 0xF0)
    (code_of_three a b c) n sees in
    let first = and_parts (nat_le 0xE0 a) (is_pair a b && is_tail c) both.0 in
    let more = and_parts (is_pair a b) (is_tail c) first.1 in (
      pair_facts a b more.0,
      leb-true 0xE0 a first.0,
      ltb-true a 0xF0 both.1,
      tail_facts c more.1,
      both.2,
    )

pub whole_four : (a b c d n : ℕ) → see (a ∷ b ∷ c ∷ d ∷ []) ≡ Whole n
    → IsPair a b × (0xF0 ≤ a) × IsTail c × IsTail d × (n ≡ code_of_four a b c d)
unfolding see
whole_four a b c d n sees =
    let both =
    whole_once (nat_le 0xF0 a && (is_pair a b && (is_tail c && is_tail d)))
    (code_of_four a b c d) n sees in
    let first = and_parts (nat_le 0xF0 a) (is_pair a b && (is_tail c && is_tail d)) both.0 in
    let more = and_parts (is_pair a b) (is_tail c && is_tail d) first.1 in
    let last = and_parts (is_tail c) (is_tail d) more.1 in (
      pair_facts a b more.0,
      leb-true 0xF0 a first.0,
      tail_facts c last.0,
      tail_facts d last.1,
      both.1,
    )

pub part_one : (a : ℕ) → see (a ∷ []) ≡ Part → (0xC2 ≤ a) × (a ≤ 0xF4)
unfolding see
part_one a sees = grind (arith, nat_tests)

pub part_two : (a b : ℕ) → see (a ∷ b ∷ []) ≡ Part → IsPair a b × (0xE0 ≤ a)
unfolding see
part_two a b sees = grind (arith, nat_tests, pair_facts)

pub part_three : (a b c : ℕ) → see (a ∷ b ∷ c ∷ []) ≡ Part → IsPair a b × (0xF0 ≤ a) × IsTail c
unfolding see
part_three a b c sees =
    let both =
    part_if (nat_le 0xE0 a && (is_pair a b && is_tail c)) (nat_lt a 0xF0)
    (code_of_three a b c) sees in
    let first = and_parts (nat_le 0xE0 a) (is_pair a b && is_tail c) both.0 in
    let more = and_parts (is_pair a b) (is_tail c) first.1 in
    let least : 0xF0 ≤ a = ltb-false a 0xF0 both.1 in
    (pair_facts a b more.0, least, tail_facts c more.1)

-- no other lists are seen as a part, or as whole
pub no_part_none : see [] ≡ Part → ⊥
unfolding see
no_part_none sees = cc

pub no_part_four : (a b c d : ℕ) → see (a ∷ b ∷ c ∷ d ∷ []) ≡ Part → ⊥
unfolding see
no_part_four a b c d sees = grind (arith, nat_tests)

pub no_part_more : (a b c d e : ℕ) (rest : List ℕ) → see (a ∷ b ∷ c ∷ d ∷ e ∷ rest) ≡ Part → ⊥
unfolding see
no_part_more a b c d e rest sees = cc

pub no_whole_none : (n : ℕ) → see [] ≡ Whole n → ⊥
unfolding see
no_whole_none n sees = cc

pub no_whole_more : (a b c d e : ℕ) (rest : List ℕ) (n : ℕ)
    → see (a ∷ b ∷ c ∷ d ∷ e ∷ rest) ≡ Whole n → ⊥
unfolding see
no_whole_more a b c d e rest n sees = cc
