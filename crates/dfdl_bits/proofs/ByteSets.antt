-- The bits of sets of bytes.
use Rattle.std.proofs.Common.{◌≡◌, ℕ, zero, suc, ◌+◌, ◌-◌, ◌*◌, ◌/◌, ◌%◌, ◌^◌, ◌<◌, ◌≤◌, List, [], ◌∷◌, max, slice_index, Bool, true, false, ◌||◌, if◌then◌else◌, nat_eq, nat_le, bit_or, refl, sym, ap, ◌∙◌, ◌⊎◌, inl, inr, arith}
use Rattle.std.proofs.lemmas.Bool.{cases_lt}
use Rattle.std.proofs.lemmas.Bool.Decides.{nat_tests}
use Rattle.std.proofs.lemmas.Nat.Bits.{bit_at_or, bit_at_ones, bit_at-pow_same, bit_at-pow_other, bit_at-zero}
use Rattle.dfdl_bits.specs.declared.byte_set.ByteSet.{ByteSet}
use Rattle.dfdl_bits.specs.ByteSets.{has_byte}

abbrev set_of : ℕ → ℕ → ℕ → ℕ → ByteSet
set_of a b c d = record { words = a ∷ b ∷ c ∷ d ∷ [] }

-- a fact on each of four words
by_word : (P : ℕ → Type 0) → P 0 → P 1 → P 2 → P 3 → (n : ℕ) → n < 4 → P n
by_word P a b c d zero less = a
by_word P a b c d (suc zero) less = b
by_word P a b c d (suc (suc zero)) less = c
by_word P a b c d (suc (suc (suc zero))) less = d
by_word P a b c d (suc (suc (suc (suc n)))) less = absurd (omega (arith, less))

word_below : (byte : ℕ) → byte < 256 → byte / 64 < 4
word_below byte less = omega (arith, less)

-- both sets

one_of : (x y : ℕ) → x < 2 → y < 2 → nat_eq (max x y) 1 ≡ (nat_eq x 1 || nat_eq y 1)
one_of zero zero a b = refl
one_of zero (suc zero) a b = refl
one_of (suc zero) zero a b = refl
one_of (suc zero) (suc zero) a b = refl
one_of (suc (suc x)) y a b = absurd (omega (arith, a))
one_of x (suc (suc y)) a b = absurd (omega (arith, b))

pub both : (xs ys : List ℕ) (byte : ℕ) → byte < 256
    → has_byte (set_of (bit_or (slice_index xs 0) (slice_index ys 0)) (bit_or (slice_index xs 1) (slice_index ys 1))
    (bit_or (slice_index xs 2) (slice_index ys 2)) (bit_or (slice_index xs 3) (slice_index ys 3))) byte
    ≡ (has_byte (record { words = xs }) byte || has_byte (record { words = ys }) byte)
unfolding has_byte
both xs ys byte less =
    let n : ℕ = byte / 64 in
    let i : ℕ = byte % 64 in
    let words : List ℕ = (set_of (bit_or (slice_index xs 0) (slice_index ys 0)) (bit_or (slice_index xs 1) (slice_index ys 1))
    (bit_or (slice_index xs 2) (slice_index ys 2)) (bit_or (slice_index xs 3) (slice_index ys 3))).words in
    let word : slice_index words n ≡ bit_or (slice_index xs n) (slice_index ys n) =
    by_word (λ n. slice_index words n ≡ bit_or (slice_index xs n) (slice_index ys n)) refl refl refl refl n (word_below byte less) in
    ap (λ w. nat_eq (w / 2 ^ i % 2) 1) word
    ∙ ap (λ b. nat_eq b 1) (bit_at_or (slice_index xs n) (slice_index ys n) i)
    ∙ one_of (slice_index xs n / 2 ^ i % 2) (slice_index ys n / 2 ^ i % 2) (omega arith) (omega arith)

-- one byte

abbrev bit_of : ℕ → ℕ → ℕ
bit_of byte word = if nat_eq (byte / 64) word then 2 ^ (byte % 64) else 0

same_word : (byte other : ℕ) (t : Bool) → nat_eq (byte / 64) (other / 64) ≡ t
    → nat_eq ((if t then 2 ^ (byte % 64) else 0) / 2 ^ (other % 64) % 2) 1 ≡ nat_eq byte other
same_word byte other false is =
    ap (λ b. nat_eq b 1) (bit_at-zero (other % 64)) ∙ apart
  where
    apart : false ≡ nat_eq byte other
    apart = grind (arith, nat_tests)
same_word byte other true is = by (nat_eq byte other) refl
  where
    words : byte / 64 ≡ other / 64
    words = grind (arith, nat_tests)

    by : (t : Bool) → nat_eq byte other ≡ t → nat_eq (2 ^ (byte % 64) / 2 ^ (other % 64) % 2) 1 ≡ t
    by true same =
        let equal : byte ≡ other = grind (arith, nat_tests) in
        ap (λ b. nat_eq (2 ^ (byte % 64) / 2 ^ (b % 64) % 2) 1) (sym equal) ∙ ap (λ b. nat_eq b 1) (bit_at-pow_same (byte % 64))
    by false other_is = ap (λ b. nat_eq b 1) (bit_at-pow_other (byte % 64) (other % 64) (λ e. not_same e))
      where
        not_same : other % 64 ≡ byte % 64 → ⊥
        not_same e =
            let equal : byte ≡ other = omega (arith, e, words) in
            let yes : nat_eq byte other ≡ true = grind (arith, nat_tests) in
            let no_it : ⊥ = cc in no_it

pub one : (byte a b c d : ℕ) → a ≡ bit_of byte 0 → b ≡ bit_of byte 1 → c ≡ bit_of byte 2 → d ≡ bit_of byte 3
    → (other : ℕ) → other < 256 → has_byte (set_of a b c d) other ≡ nat_eq byte other
unfolding has_byte
one byte a b c d first second third fourth other less =
    let n : ℕ = other / 64 in
    let word : slice_index (set_of a b c d).words n ≡ bit_of byte n =
    by_word (λ n. slice_index (set_of a b c d).words n ≡ bit_of byte n) first second third fourth n (word_below other less) in
    ap (λ w. nat_eq (w / 2 ^ (other % 64) % 2) 1) word ∙ same_word byte other (nat_eq (byte / 64) n) refl

-- the bytes from 128 on

abbrev high_word : ℕ → ℕ
high_word n = if nat_le 2 n then 2 ^ 64 - 1 else 0

high_bit : (n i : ℕ) (t : Bool) → i < 64 → nat_eq ((if t then 2 ^ 64 - 1 else 0) / 2 ^ i % 2) 1 ≡ t
high_bit n i true less = ap (λ b. nat_eq b 1) (bit_at_ones 64 i less)
high_bit n i false less = ap (λ b. nat_eq b 1) (bit_at-zero i)

pub high : (byte : ℕ) → byte < 256 → has_byte (set_of 0 0 18446744073709551615 18446744073709551615) byte ≡ nat_le 128 byte
unfolding has_byte
high byte less =
    let n : ℕ = byte / 64 in
    let words : List ℕ = (set_of 0 0 18446744073709551615 18446744073709551615).words in
    let word : slice_index words n ≡ high_word n = by_word (λ n. slice_index words n ≡ high_word n) refl refl refl refl n (word_below byte less) in
    ap (λ w. nat_eq (w / 2 ^ (byte % 64) % 2) 1) word ∙ high_bit n (byte % 64) (nat_le 2 n) (omega arith) ∙ same
  where
    same : nat_le 2 (byte / 64) ≡ nat_le 128 byte
    same = grind (arith, nat_tests)
