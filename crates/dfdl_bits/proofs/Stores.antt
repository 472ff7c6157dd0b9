-- Whole bytes are written over others.
use Rattle.std.proofs.Common.{◌≡◌, ◌⊎◌, ℕ, zero, suc, ◌+◌, ◌-◌, ◌*◌, ◌/◌, ◌%◌, ◌^◌, ◌<◌, ◌≤◌, List, [], ◌∷◌, ◌++◌, length, take, drop, get_or, refl, ap, sym, ◌∙◌, inl, inr, arith, length-take-le, length-append}
use Rattle.std.specs.Int.{bit_at, w16, w32, w64, to_be_bytes, to_le_bytes, bytes_low_first, byte_at}
use Rattle.std.proofs.lemmas.List.{get_or-take, get_or-drop, get_or_append_left, get_or-append_right}
use Rattle.std.proofs.lemmas.Nat.{from_be_bytes-to_be_bytes_2, from_be_bytes-to_be_bytes_4, from_be_bytes-to_be_bytes_8, from_le_bytes-to_le_bytes_2, from_le_bytes-to_le_bytes_4, from_le_bytes-to_le_bytes_8}
use Rattle.dfdl_bits.specs.Bits.{number_of, data_bit, Puts}
use Rattle.dfdl_bits.specs.Words.{IsWord}
use Rattle.dfdl_forms.specs.declared.order.BitOrder.TheVariants.{MostFirst, LeastFirst}
use Rattle.dfdl_forms.specs.declared.order.ByteOrder.{ByteOrder}
use Rattle.dfdl_forms.specs.declared.order.ByteOrder.TheVariants.{Big, Little}
use Rattle.dfdl_bits.proofs.Numbers.{number_of-same, groups-whole, least_any}
use Rattle.dfdl_bits.proofs.Words.{word_be_16, word_le_16, word_be_32, word_le_32, word_be_64, word_le_64, whole_byte, byte_at_small, high_small, small_cons, small_none}

module _ (old new piece : List ℕ) (j n : ℕ) (size : length piece ≡ n) (room : j + n ≤ length old)
    (is : new ≡ take j old ++ piece ++ drop (j + n) old) where
  -- the piece stands there
  inside : (i : ℕ) → i < n → get_or new (j + i) 0 ≡ get_or piece i 0
  inside i within =
      let front : length (take j old) ≡ j = length-take-le j old (omega arith) in
      let grown : length (take j old ++ piece) ≡ j + n = rw (length-append (take j old) piece) (omega arith) in
      let place : j + i - j ≡ i = omega arith in
      ap (λ xs. get_or xs (j + i) 0) is
      ∙ get_or_append_left (take j old ++ piece) (drop (j + n) old) 0 (j + i) (omega arith)
      ∙ get_or-append_right (take j old) piece j (j + i) 0 front (omega arith)
      ∙ ap (λ k. get_or piece k 0) place

  -- all else is as before
  outside : (k : ℕ) → (k < j) ⊎ (j + n ≤ k) → get_or new k 0 ≡ get_or old k 0
  outside k (inl before) =
      let front : length (take j old) ≡ j = length-take-le j old (omega arith) in
      let grown : length (take j old ++ piece) ≡ j + n = rw (length-append (take j old) piece) (omega arith) in
      ap (λ xs. get_or xs k 0) is
      ∙ get_or_append_left (take j old ++ piece) (drop (j + n) old) 0 k (omega arith)
      ∙ get_or_append_left (take j old) piece 0 k (omega arith)
      ∙ get_or-take j old k 0 before
  outside k (inr behind) =
      let front : length (take j old) ≡ j = length-take-le j old (omega arith) in
      let grown : length (take j old ++ piece) ≡ j + n = rw (length-append (take j old) piece) (omega arith) in
      let place : j + n + (k - (j + n)) ≡ k = omega arith in
      ap (λ xs. get_or xs k 0) is
      ∙ get_or-append_right (take j old ++ piece) (drop (j + n) old) (j + n) k 0 grown (omega arith)
      ∙ get_or-drop (j + n) old (k - (j + n)) 0
      ∙ ap (λ m. get_or old m 0) place

  pub stored : (order : ByteOrder) (value : ℕ) → number_of piece 0 (8 * n) order MostFirst ≡ value
      → Puts order MostFirst old new (8 * j) (8 * n) value
  stored order value number = record {
    number =
        number_of-same new piece (8 * j) 0 (8 * n) order MostFirst (λ i within. here i within) ∙ number;
    kept = record {
      before = λ k h. ap (λ byte. bit_at byte (7 - k % 8)) (outside (k / 8) (inl (omega arith)));
      after = λ k h. ap (λ byte. bit_at byte (7 - k % 8)) (outside (k / 8) (inr (omega arith)));
    };
  }
    where
      here : (i : ℕ) → i < 8 * n → data_bit MostFirst new (8 * j + i) ≡ data_bit MostFirst piece (0 + i)
      here i within =
          let byte : (8 * j + i) / 8 ≡ j + i / 8 = omega arith in
          let place : (8 * j + i) % 8 ≡ i % 8 = omega arith in
          let none : 0 + i ≡ i = omega arith in
          rw (byte, place, none) (ap (λ b. bit_at b (7 - i % 8)) (inside (i / 8) (omega arith)))

-- each byte of a number is one, the least first
low_small : (k i v at : ℕ) → get_or (bytes_low_first i k v) at 0 < 256
low_small zero i v at = small_none at
low_small (suc k) i v at = small_cons (byte_at i v) (bytes_low_first (suc i) k v) at (byte_at_small i v) (low_small k (suc i) v)

module _ (old new : List ℕ) (j value : ℕ) (room : j + 2 ≤ length old) (fits : value < 2 ^ 16) where
  pub put_be_16 : new ≡ take j old ++ to_be_bytes w16 value ++ drop (j + 2) old → Puts Big MostFirst old new (8 * j) 16 value
  put_be_16 is =
      stored old new (to_be_bytes w16 value) j 2 refl room is Big value
      (word_be_16 (to_be_bytes w16 value) (high_small 2 value) ∙ from_be_bytes-to_be_bytes_2 value fits)

  pub put_le_16 : new ≡ take j old ++ to_le_bytes w16 value ++ drop (j + 2) old → Puts Little MostFirst old new (8 * j) 16 value
  put_le_16 is =
      stored old new (to_le_bytes w16 value) j 2 refl room is Little value
      (word_le_16 (to_le_bytes w16 value) (low_small 2 0 value) ∙ from_le_bytes-to_le_bytes_2 value fits)

module _ (old new : List ℕ) (j value : ℕ) (room : j + 4 ≤ length old) (fits : value < 2 ^ 32) where
  pub put_be_32 : new ≡ take j old ++ to_be_bytes w32 value ++ drop (j + 4) old → Puts Big MostFirst old new (8 * j) 32 value
  put_be_32 is =
      stored old new (to_be_bytes w32 value) j 4 refl room is Big value
      (word_be_32 (to_be_bytes w32 value) (high_small 4 value) ∙ from_be_bytes-to_be_bytes_4 value fits)

  pub put_le_32 : new ≡ take j old ++ to_le_bytes w32 value ++ drop (j + 4) old → Puts Little MostFirst old new (8 * j) 32 value
  put_le_32 is =
      stored old new (to_le_bytes w32 value) j 4 refl room is Little value
      (word_le_32 (to_le_bytes w32 value) (low_small 4 0 value) ∙ from_le_bytes-to_le_bytes_4 value fits)

module _ (old new : List ℕ) (j value : ℕ) (room : j + 8 ≤ length old) (fits : value < 2 ^ 64) where
  pub put_be_64 : new ≡ take j old ++ to_be_bytes w64 value ++ drop (j + 8) old → Puts Big MostFirst old new (8 * j) 64 value
  put_be_64 is =
      stored old new (to_be_bytes w64 value) j 8 refl room is Big value
      (word_be_64 (to_be_bytes w64 value) (high_small 8 value) ∙ from_be_bytes-to_be_bytes_8 value fits)

  pub put_le_64 : new ≡ take j old ++ to_le_bytes w64 value ++ drop (j + 8) old → Puts Little MostFirst old new (8 * j) 64 value
  put_le_64 is =
      stored old new (to_le_bytes w64 value) j 8 refl room is Little value
      (word_le_64 (to_le_bytes w64 value) (low_small 8 0 value) ∙ from_le_bytes-to_le_bytes_8 value fits)

-- one byte is written
pub put_byte : (old new : List ℕ) (j value : ℕ) (order : ByteOrder) → j + 1 ≤ length old → value < 256
    → new ≡ take j old ++ (value ∷ []) ++ drop (j + 1) old → Puts order MostFirst old new (8 * j) 8 value
put_byte old new j value order room fits is =
    stored old new (value ∷ []) j 1 refl room is order value (whole_byte (value ∷ []) 0 order fits)

-- a bit is counted from the other end of its byte
turned_back : (old new : List ℕ) (k : ℕ)
    → data_bit MostFirst new (8 * (k / 8) + (7 - k % 8)) ≡ data_bit MostFirst old (8 * (k / 8) + (7 - k % 8))
    → data_bit LeastFirst new k ≡ data_bit LeastFirst old k
turned_back old new k same =
    let here : (8 * (k / 8) + (7 - k % 8)) / 8 ≡ k / 8 = omega arith in
    let place : 7 - (8 * (k / 8) + (7 - k % 8)) % 8 ≡ k % 8 = omega arith in
    rw (here, place) at same

-- whole bytes in little endian are written alike under both bit orders
pub least_puts : (old new : List ℕ) (j n value : ℕ) (bytes_by : ByteOrder)
    → Puts Little MostFirst old new (8 * j) (8 * n) value → Puts bytes_by LeastFirst old new (8 * j) (8 * n) value
least_puts old new j n value bytes_by puts = record {
  number = least_any new (8 * j) (8 * n) bytes_by ∙ sym (groups-whole new j n) ∙ puts.number;
  kept = record {
    before = λ k h. turned_back old new k (puts.kept.before (8 * (k / 8) + (7 - k % 8)) (omega arith));
    after = λ k h. turned_back old new k (puts.kept.after (8 * (k / 8) + (7 - k % 8)) (omega arith));
  };
}

pub word_bytes : (len : ℕ) → IsWord len → len ≡ 8 * (len / 8)
word_bytes len (inl e) = omega arith
word_bytes len (inr (inl e)) = omega arith
word_bytes len (inr (inr (inl e))) = omega arith
word_bytes len (inr (inr (inr e))) = omega arith
