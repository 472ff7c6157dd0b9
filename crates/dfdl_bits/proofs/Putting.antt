-- How a range that is written goes on.
use Rattle.std.proofs.Common.{◌≡◌, ℕ, ◌+◌, ◌-◌, ◌*◌, ◌/◌, ◌%◌, ◌^◌, ◌<◌, ◌≤◌, List, length, get_or, set, get_or-set_other, get_or-set_same, refl, ap, ◌∙◌, subst, inl, inr, ◌⊎◌, arith, add-zero, zero-add}
use Rattle.std.specs.Int.{bit_at}
use Rattle.std.proofs.lemmas.Bool.{cases_eq}
use Rattle.std.proofs.lemmas.Nat.{shr-shr, shr_split, mod-pow-add}
use Rattle.dfdl_bits.specs.Bits.{number_of, data_bit, place_of, patched, KeepsOutside, Puts}
use Rattle.dfdl_forms.specs.declared.order.BitOrder.{BitOrder}
use Rattle.dfdl_forms.specs.declared.order.BitOrder.TheVariants.{MostFirst, LeastFirst}
use Rattle.dfdl_forms.specs.declared.order.ByteOrder.{ByteOrder}
use Rattle.dfdl_forms.specs.declared.order.ByteOrder.TheVariants.{Big, Little}
use Rattle.dfdl_bits.proofs.Numbers.{number_of-same, number_of-none, least_any, big-split, least-split, groups-split, groups-whole, one_group, big-in_byte, least-in_byte, big-byte, least-byte}
use Rattle.dfdl_bits.proofs.Patches.{patched_part, patched_below, patched_above}

-- the low k bits and the n above them
pub low_and_high : (value k n : ℕ) → value % 2 ^ k + value / 2 ^ k % 2 ^ n * 2 ^ k ≡ value % 2 ^ (k + n)
low_and_high value k n =
    let order : k + n ≡ n + k = omega arith in
    rw order (omega (arith, mod-pow-add value n k))

-- nothing is written yet
pub puts_none : (bytes_by : ByteOrder) (bits_by : BitOrder) (bytes : List ℕ) (b : ℕ) → Puts bytes_by bits_by bytes bytes b 0 0
puts_none bytes_by bits_by bytes b = record {
  number = number_of-none bytes b bytes_by bits_by;
  kept = record { before = λ k h. refl; after = λ k h. refl };
}

-- outside of two ranges that follow one another
kept_both : (bits_by : BitOrder) (old mid new : List ℕ) (b m n : ℕ)
    → KeepsOutside bits_by old mid b m → KeepsOutside bits_by mid new (b + m) n → KeepsOutside bits_by old new b (m + n)
kept_both bits_by old mid new b m n front rest = record {
  before = λ k h. rest.before k (omega arith) ∙ front.before k h;
  after = λ k h. rest.after k (omega arith) ∙ front.after k (omega arith);
}

-- the front keeps its number while the rest is written
front_stays : (bytes_by : ByteOrder) (bits_by : BitOrder) (mid new : List ℕ) (b m n : ℕ)
    → KeepsOutside bits_by mid new (b + m) n → number_of new b m bytes_by bits_by ≡ number_of mid b m bytes_by bits_by
front_stays bytes_by bits_by mid new b m n rest =
    number_of-same new mid b b m bytes_by bits_by (λ i h. rest.before (b + i) (omega arith))

module _ (old mid new : List ℕ) (b m n x y : ℕ) where
  pub falling_then : Puts Big MostFirst old mid b m x → Puts Big MostFirst mid new (b + m) n y → Puts Big MostFirst old new b (m + n) (x * 2 ^ n + y)
  falling_then front rest = record {
    number =
        big-split new b m n
        ∙ rw (front_stays Big MostFirst mid new b m n rest.kept, front.number, rest.number) refl;
    kept = kept_both MostFirst old mid new b m n front.kept rest.kept;
  }

  pub rising_then : Puts Little LeastFirst old mid b m x → Puts Little LeastFirst mid new (b + m) n y → Puts Little LeastFirst old new b (m + n) (x + y * 2 ^ m)
  rising_then front rest = record {
    number =
        least-split new b m n
        ∙ rw (front_stays Little LeastFirst mid new b m n rest.kept, front.number, rest.number) refl;
    kept = kept_both LeastFirst old mid new b m n front.kept rest.kept;
  }

pub grouped_then : (old mid new : List ℕ) (b g n x y : ℕ) → n ≤ 8
    → Puts Little MostFirst old mid b (8 * g) x → Puts Big MostFirst mid new (b + 8 * g) n y
    → Puts Little MostFirst old new b (8 * g + n) (x + y * 2 ^ (8 * g))
grouped_then old mid new b g n x y few front rest = record {
  number =
      groups-split new b g n
      ∙ rw (front_stays Little MostFirst mid new b (8 * g) n rest.kept, front.number, one_group new (b + 8 * g) n few, rest.number) refl;
  kept = kept_both MostFirst old mid new b (8 * g) n front.kept rest.kept;
}

-- a bit after byte j is set
set_bit : (bits_by : BitOrder) (bytes : List ℕ) (j x k : ℕ) → j < length bytes
    → (k / 8 ≡ j → bit_at x (place_of bits_by k) ≡ bit_at (get_or bytes j 0) (place_of bits_by k))
    → data_bit bits_by (set bytes j x) k ≡ data_bit bits_by bytes k
set_bit bits_by bytes j x k here same = elim (cases_eq (k / 8) j) [
  | inl e ↦
      rw (e, get_or-set_same bytes j x 0 here) (same e)
  | inr other ↦
      ap (λ (byte : ℕ). bit_at byte (place_of bits_by k)) (get_or-set_other bytes j (k / 8) x 0 other)
]

-- bits of one byte are written
module _ (bytes : List ℕ) (j s n part : ℕ) (here : j < length bytes) (inside : s + n ≤ 8) (fits : part < 2 ^ n) where
  pub falling_in_byte : Puts Big MostFirst bytes (set bytes j (patched (get_or bytes j 0) (8 - (s + n)) n part)) (8 * j + s) n part
  falling_in_byte =
      let byte : ℕ = get_or bytes j 0 in
      let low : ℕ = 8 - (s + n) in
      let x : ℕ = patched byte low n part in
      record {
        number =
            big-in_byte (set bytes j x) j s n inside
            ∙ rw (get_or-set_same bytes j x 0 here) (patched_part byte low n part fits);
        kept = record {
          before = λ k h. set_bit MostFirst bytes j x k here (λ e.
              patched_above byte low n part fits (7 - k % 8) (omega arith));
          after = λ k h. set_bit MostFirst bytes j x k here (λ e.
              patched_below byte low n part fits (7 - k % 8) (omega arith));
        };
      }

  pub rising_in_byte : Puts Little LeastFirst bytes (set bytes j (patched (get_or bytes j 0) s n part)) (8 * j + s) n part
  rising_in_byte =
      let byte : ℕ = get_or bytes j 0 in
      let x : ℕ = patched byte s n part in
      record {
        number =
            least-in_byte (set bytes j x) j s n inside
            ∙ rw (get_or-set_same bytes j x 0 here) (patched_part byte s n part fits);
        kept = record {
          before = λ k h. set_bit LeastFirst bytes j x k here (λ e.
              patched_below byte s n part fits (k % 8) (omega arith));
          after = λ k h. set_bit LeastFirst bytes j x k here (λ e.
              patched_above byte s n part fits (k % 8) (omega arith));
        };
      }

-- bits at the front of a byte are written
module _ (bytes : List ℕ) (j n part : ℕ) (here : j < length bytes) (few : n ≤ 8) (fits : part < 2 ^ n) where
  pub falling_front : Puts Big MostFirst bytes (set bytes j (patched (get_or bytes j 0) (8 - n) n part)) (8 * j) n part
  falling_front =
      subst (λ (m : ℕ). Puts Big MostFirst bytes (set bytes j (patched (get_or bytes j 0) (8 - m) n part)) (8 * j) n part) (zero-add n)
      (subst (λ (b : ℕ). Puts Big MostFirst bytes (set bytes j (patched (get_or bytes j 0) (8 - (0 + n)) n part)) b n part) (add-zero (8 * j))
      (falling_in_byte bytes j 0 n part here (omega arith) fits))

  pub rising_front : Puts Little LeastFirst bytes (set bytes j (patched (get_or bytes j 0) 0 n part)) (8 * j) n part
  rising_front =
      subst (λ (b : ℕ). Puts Little LeastFirst bytes (set bytes j (patched (get_or bytes j 0) 0 n part)) b n part) (add-zero (8 * j))
      (rising_in_byte bytes j 0 n part here (omega arith) fits)

-- a whole byte is written
module _ (bytes : List ℕ) (j x : ℕ) (here : j < length bytes) (is_byte : x < 2 ^ 8) where
  pub falling_byte : Puts Big MostFirst bytes (set bytes j x) (8 * j) 8 x
  falling_byte = record {
    number = big-byte (set bytes j x) j ∙ rw (get_or-set_same bytes j x 0 here) (omega arith);
    kept = record {
      before = λ k h. set_bit MostFirst bytes j x k here (λ e. absurd (omega arith));
      after = λ k h. set_bit MostFirst bytes j x k here (λ e. absurd (omega arith));
    };
  }

  pub rising_byte : Puts Little LeastFirst bytes (set bytes j x) (8 * j) 8 x
  rising_byte = record {
    number = least-byte (set bytes j x) j ∙ rw (get_or-set_same bytes j x 0 here) (omega arith);
    kept = record {
      before = λ k h. set_bit LeastFirst bytes j x k here (λ e. absurd (omega arith));
      after = λ k h. set_bit LeastFirst bytes j x k here (λ e. absurd (omega arith));
    };
  }

-- a bit is counted from the other end of its byte
turned : (old new : List ℕ) (k : ℕ)
    → data_bit LeastFirst new (8 * (k / 8) + (7 - k % 8)) ≡ data_bit LeastFirst old (8 * (k / 8) + (7 - k % 8))
    → data_bit MostFirst new k ≡ data_bit MostFirst old k
turned old new k same =
    let here : (8 * (k / 8) + (7 - k % 8)) / 8 ≡ k / 8 = omega arith in
    let place : (8 * (k / 8) + (7 - k % 8)) % 8 ≡ 7 - k % 8 = omega arith in
    rw (here, place) at same

-- whole bytes are little endian alike under both bit orders
pub whole_puts : (old new : List ℕ) (j n value : ℕ)
    → Puts Little LeastFirst old new (8 * j) (8 * n) value → Puts Little MostFirst old new (8 * j) (8 * n) value
whole_puts old new j n value puts = record {
  number = groups-whole new j n ∙ puts.number;
  kept = record {
    before = λ k h. turned old new k (puts.kept.before (8 * (k / 8) + (7 - k % 8)) (omega arith));
    after = λ k h. turned old new k (puts.kept.after (8 * (k / 8) + (7 - k % 8)) (omega arith));
  };
}

-- n bits more of a value, at the front of byte j
module _ (old mid new : List ℕ) (b j k n value : ℕ) where
  pub falling_step : (left : ℕ) → b + k ≡ 8 * j → Puts Big MostFirst old mid b k (value / 2 ^ (left + n))
      → Puts Big MostFirst mid new (8 * j) n (value / 2 ^ left % 2 ^ n) → Puts Big MostFirst old new b (k + n) (value / 2 ^ left)
  falling_step left place front rest =
      let joined : value / 2 ^ (left + n) * 2 ^ n + value / 2 ^ left % 2 ^ n ≡ value / 2 ^ left =
      rw (← shr-shr value left n) (shr_split (value / 2 ^ left) n) in
      subst (Puts Big MostFirst old new b (k + n)) joined
      (falling_then old mid new b k n _ _ front (rw place rest))

  pub rising_step : b + k ≡ 8 * j → Puts Little LeastFirst old mid b k (value % 2 ^ k)
      → Puts Little LeastFirst mid new (8 * j) n (value / 2 ^ k % 2 ^ n) → Puts Little LeastFirst old new b (k + n) (value % 2 ^ (k + n))
  rising_step place front rest =
      let joined : value % 2 ^ k + value / 2 ^ k % 2 ^ n * 2 ^ k ≡ value % 2 ^ (k + n) =
      low_and_high value k n in
      subst (Puts Little LeastFirst old new b (k + n)) joined
      (rising_then old mid new b k n _ _ front (rw place rest))

pub grouped_step : (old mid new : List ℕ) (b g n value : ℕ) → n ≤ 8
    → Puts Little MostFirst old mid b (8 * g) (value % 2 ^ (8 * g))
    → Puts Big MostFirst mid new (b + 8 * g) n (value / 2 ^ (8 * g) % 2 ^ n)
    → Puts Little MostFirst old new b (8 * g + n) (value % 2 ^ (8 * g + n))
grouped_step old mid new b g n value few front rest =
    subst (Puts Little MostFirst old new b (8 * g + n)) (low_and_high value (8 * g) n)
    (grouped_then old mid new b g n _ _ few front rest)

-- a range before or behind the one that is written keeps its number
pub range_stays : (bits_by : BitOrder) (old new : List ℕ) (bit len : ℕ) → KeepsOutside bits_by old new bit len
    → (b n : ℕ) (by : ByteOrder) → (b + n ≤ bit) ⊎ (bit + len ≤ b) → number_of new b n by bits_by ≡ number_of old b n by bits_by
range_stays bits_by old new bit len kept b n by (inl front) =
    number_of-same new old b b n by bits_by (λ i h. kept.before (b + i) (omega arith))
range_stays bits_by old new bit len kept b n by (inr behind) =
    number_of-same new old b b n by bits_by (λ i h. kept.after (b + i) (omega arith))

-- the byte order plays no part least significant bit first
pub rising_any : (bytes_by : ByteOrder) (old new : List ℕ) (b n value : ℕ) → Puts Little LeastFirst old new b n value → Puts bytes_by LeastFirst old new b n value
rising_any bytes_by old new b n value puts = record { number = least_any new b n bytes_by ∙ puts.number; kept = puts.kept }
