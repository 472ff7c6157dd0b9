-- The bits of a field by its number.
use Rattle.std.proofs.Common.{◌≡◌, ℕ, ◌+◌, ◌-◌, ◌*◌, ◌/◌, ◌%◌, ◌^◌, ◌<◌, ◌≤◌, min, List, length, get_or, replicate, sym, ap, ◌∙◌, arith, inl, inr, mod-eq_of_lt}
use Rattle.std.proofs.lemmas.Bool.{cases_lt, cond-true, cond-false, lt-ltb, le-ltb}
use Rattle.std.proofs.lemmas.List.FromFn.{fill_by_all, get_or-map-range_with_len}
use Rattle.std.proofs.lemmas.List.{get_or_past, get_or-replicate, length-replicate}
use Rattle.std.proofs.lemmas.Nat.Bits.{bit_at-zero, bit_at_cat_low, bit_at_cat_high}
use Rattle.std.specs.Int.{bit_at}
use Rattle.dfdl_bits.specs.Bits.{data_bit, group_len, KeepsOutside, number_of, place_of, weight_of}
use Rattle.dfdl_bits.proofs.Numbers.{big-byte, big-one, groups-split, least-byte, least-one, least_any, number_below, one_group}
use Rattle.dfdl_bits.proofs.Sums.{sum_below-same}
use Rattle.dfdl_bits.proofs.Words.{big_part, least_part}
use Rattle.dfdl_forms.specs.declared.order.BitOrder.{BitOrder}
use Rattle.dfdl_forms.specs.declared.order.BitOrder.TheVariants.{MostFirst, LeastFirst}
use Rattle.dfdl_forms.specs.declared.order.ByteOrder.{ByteOrder}
use Rattle.dfdl_forms.specs.declared.order.ByteOrder.TheVariants.{Big, Little}
use Rattle.dfdl_packed.specs.Packed.{nibbles_of}
use Rattle.dfdl_writings.specs.Bits.{bit_or_zero, byte_of, bytes_of, field, nibble_bit, number_bit}
use Rattle.dfdl_writings.specs.declared.form.Written.{Written}

big_bit : (bytes : List ℕ) (b len i : ℕ) → i < len
    → data_bit MostFirst bytes (b + i) ≡ bit_at (number_of bytes b len Big MostFirst) (len - 1 - i)
big_bit bytes b len i within =
    let size : i + 1 + (len - 1 - i) ≡ len = omega arith in
    sym (big-one bytes (b + i)) ∙ (big_part bytes b i 1 (len - 1 - i)
    ∙ ap (λ m. number_of bytes b m Big MostFirst / 2 ^ (len - 1 - i) % 2 ^ 1) size)

least_bit : (bytes : List ℕ) (b len i : ℕ) → i < len
    → data_bit LeastFirst bytes (b + i) ≡ bit_at (number_of bytes b len Little LeastFirst) i
least_bit bytes b len i within =
    let size : i + (1 + (len - (i + 1))) ≡ len = omega arith in
    sym (least-one bytes (b + i)) ∙ (least_part bytes b i 1 (len - (i + 1))
    ∙ ap (λ m. number_of bytes b m Little LeastFirst / 2 ^ i % 2 ^ 1) size)

-- in the first group of eight, or in the last one
first_group : (bytes : List ℕ) (b m r : ℕ) → r < 8 → r < m
    → data_bit MostFirst bytes (b + r) ≡ bit_at (number_of bytes b m Little MostFirst) (min 8 m - 1 - r)
first_group bytes b m r few within = elim (cases_lt 8 m) [ inl more ↦ many more | inr all ↦ one all ]
  where
    one : m ≤ 8 → data_bit MostFirst bytes (b + r) ≡ bit_at (number_of bytes b m Little MostFirst) (min 8 m - 1 - r)
    one all =
        let place : min 8 m - 1 - r ≡ m - 1 - r = omega arith in
        big_bit bytes b m r within ∙ (ap (λ n. bit_at n (m - 1 - r)) (sym (one_group bytes b m all))
        ∙ ap (bit_at (number_of bytes b m Little MostFirst)) (sym place))

    many : 8 < m → data_bit MostFirst bytes (b + r) ≡ bit_at (number_of bytes b m Little MostFirst) (min 8 m - 1 - r)
    many more =
        let place : min 8 m - 1 - r ≡ 7 - r = omega arith in
        let size : 8 * 1 + (m - 8) ≡ m = omega arith in
        let first : ℕ = number_of bytes b 8 Little MostFirst in
        let rest : ℕ = number_of bytes (b + 8 * 1) (m - 8) Little MostFirst in
        let split : number_of bytes b m Little MostFirst ≡ rest * 2 ^ 8 + first =
        ap (λ n. number_of bytes b n Little MostFirst) (sym size) ∙ (groups-split bytes b 1 (m - 8) ∙ omega arith) in
        big_bit bytes b 8 r few ∙ (ap (λ n. bit_at n (7 - r)) (sym (one_group bytes b 8 (omega arith)))
        ∙ (sym (bit_at_cat_low rest 8 first (7 - r) (omega arith)) ∙ (ap (λ n. bit_at n (7 - r)) (sym split)
        ∙ ap (bit_at (number_of bytes b m Little MostFirst)) (sym place))))

-- in a group behind others
group_bit : (bytes : List ℕ) (g m r : ℕ) → r < 8 → r < m
    → data_bit MostFirst bytes (8 * g + r) ≡ bit_at (number_of bytes 0 (8 * g + m) Little MostFirst) (8 * g + (min 8 m - 1 - r))
group_bit bytes g m r few within =
    let front : ℕ = number_of bytes 0 (8 * g) Little MostFirst in
    let rest : ℕ = number_of bytes (8 * g) m Little MostFirst in
    let at : 0 + 8 * g ≡ 8 * g = omega arith in
    let moved : number_of bytes (0 + 8 * g) m Little MostFirst ≡ rest = ap (λ b. number_of bytes b m Little MostFirst) at in
    let split : number_of bytes 0 (8 * g + m) Little MostFirst ≡ rest * 2 ^ (8 * g) + front =
    groups-split bytes 0 g m ∙ (ap (λ n. front + n * 2 ^ (8 * g)) moved ∙ omega arith) in
    let place : 8 * g + (min 8 m - 1 - r) - 8 * g ≡ min 8 m - 1 - r = omega arith in
    first_group bytes (8 * g) m r few within ∙ (ap (bit_at rest) (sym place)
    ∙ (sym (bit_at_cat_high rest (8 * g) front (8 * g + (min 8 m - 1 - r)) (number_below bytes 0 (8 * g) Little MostFirst) (omega arith))
    ∙ ap (λ n. bit_at n (8 * g + (min 8 m - 1 - r))) (sym split)))

little_bit : (bytes : List ℕ) (len i : ℕ) → i < len
    → data_bit MostFirst bytes i ≡ bit_at (number_of bytes 0 len Little MostFirst) (8 * (i / 8) + (group_len len (i / 8) - 1 - i % 8))
little_bit bytes len i within =
    let here : 8 * (i / 8) + i % 8 ≡ i = omega arith in
    let size : 8 * (i / 8) + (len - 8 * (i / 8)) ≡ len = omega arith in
    ap (data_bit MostFirst bytes) (sym here) ∙ (group_bit bytes (i / 8) (len - 8 * (i / 8)) (i % 8) (omega arith) (omega arith)
    ∙ ap (λ n. bit_at (number_of bytes 0 n Little MostFirst) (8 * (i / 8) + (group_len len (i / 8) - 1 - i % 8))) size)

-- the bits of a field that begins at bit 0
pub bits_of_number : (bytes_by : ByteOrder) (bits_by : BitOrder) (bytes : List ℕ) (len i : ℕ) → i < len
    → data_bit bits_by bytes i ≡ number_bit bytes_by bits_by len (number_of bytes 0 len bytes_by bits_by) i
bits_of_number Big MostFirst bytes len i within = ap (data_bit MostFirst bytes) (omega arith) ∙ big_bit bytes 0 len i within
bits_of_number Little MostFirst bytes len i within = little_bit bytes len i within
bits_of_number Big LeastFirst bytes len i within =
    ap (data_bit LeastFirst bytes) (omega arith) ∙ (least_bit bytes 0 len i within ∙ ap (λ n. bit_at n i) (sym (least_any bytes 0 len Big)))
bits_of_number Little LeastFirst bytes len i within = ap (data_bit LeastFirst bytes) (omega arith) ∙ least_bit bytes 0 len i within

-- a bit of four that begin anywhere
bit_of_four : (bits_by : BitOrder) (bytes : List ℕ) (b r : ℕ) → r < 4
    → data_bit bits_by bytes (b + r) ≡ number_bit Big bits_by 4 (number_of bytes b 4 Big bits_by) r
bit_of_four MostFirst bytes b r few = big_bit bytes b 4 r few
bit_of_four LeastFirst bytes b r few = least_bit bytes b 4 r few ∙ ap (λ n. bit_at n r) (sym (least_any bytes b 4 Big))

-- the bits of a field of nibbles
pub bits_of_nibbles : (bits_by : BitOrder) (bytes : List ℕ) (count i : ℕ) → i < 4 * count
    → data_bit bits_by bytes i ≡ nibble_bit bits_by (nibbles_of bits_by bytes 0 count) i
unfolding nibbles_of
bits_of_nibbles bits_by bytes count i within =
    let here : 4 * (i / 4) + i % 4 ≡ i = omega arith in
    let from : 0 + i / 4 ≡ i / 4 = omega arith in
    let at : 4 * (i / 4) ≡ 0 + 4 * (i / 4) = omega arith in
    let one = get_or-map-range_with_len (λ k. number_of bytes (0 + 4 * k) 4 Big bits_by) 0 count (i / 4) (i / 4) 0 (omega arith) from in
    ap (data_bit bits_by bytes) (sym here) ∙ (bit_of_four bits_by bytes (4 * (i / 4)) (i % 4) (omega arith)
    ∙ ap (λ n. number_bit Big bits_by 4 n (i % 4)) (ap (λ b. number_of bytes b 4 Big bits_by) at ∙ sym one))

byte_is : (order : BitOrder) (bytes : List ℕ) (k : ℕ) → get_or bytes k 0 < 256 → number_of bytes (8 * k) 8 Big order ≡ get_or bytes k 0
byte_is MostFirst bytes k small = big-byte bytes k ∙ mod-eq_of_lt small
byte_is LeastFirst bytes k small = least_any bytes (8 * k) 8 Big ∙ (least-byte bytes k ∙ mod-eq_of_lt small)

bit_is : (order : BitOrder) (len : ℕ) (bytes : List ℕ) (bit : ℕ → ℕ) → ((i : ℕ) → i < len → data_bit order bytes i ≡ bit i)
    → ((k : ℕ) → len ≤ k → data_bit order bytes k ≡ 0) → (k : ℕ) → data_bit order bytes k ≡ bit_or_zero len bit k
bit_is order len bytes bit is zeros k = elim (cases_lt k len) [
  | inl below ↦ is k below ∙ sym (cond-true _ _ _ (lt-ltb k len below))
  | inr past ↦ zeros k past ∙ sym (cond-false _ _ _ (le-ltb k len past))
]

-- bytes with these bits, and zeros behind them
pub bytes_are : (order : BitOrder) (len : ℕ) (bytes : List ℕ) (bit : ℕ → ℕ) → length bytes ≡ (len + 7) / 8 → ((k : ℕ) → get_or bytes k 0 < 256)
    → ((i : ℕ) → i < len → data_bit order bytes i ≡ bit i) → ((k : ℕ) → len ≤ k → data_bit order bytes k ≡ 0) → bytes ≡ bytes_of order len bit
unfolding bytes_of number_of
bytes_are order len bytes bit long small is zeros =
    fill_by_all (byte_of order len bit) bytes ((len + 7) / 8) 0 long (λ k below.
    sym (byte_is order bytes k (small k))
    ∙ sum_below-same 8 (λ i. data_bit order bytes (8 * k + i) * 2 ^ weight_of Big order 8 i) (λ i. bit_or_zero len bit (8 * k + i) * 2 ^ weight_of Big order 8 i)
    (λ i h. ap (λ b. b * 2 ^ weight_of Big order 8 i) (bit_is order len bytes bit is zeros (8 * k + i))))

abbrev zeros : ℕ → List ℕ
zeros count = replicate count 0

zero_count : (count : ℕ) → length (zeros count) ≡ count
zero_count count = length-replicate count _

zero_at : (count j : ℕ) → get_or (zeros count) j 0 ≡ 0
zero_at count j = elim (cases_lt j count) [
  | inl below ↦ get_or-replicate count j 0 0 below
  | inr past ↦ get_or_past (zeros count) j 0 (omega (arith, past, zero_count count))
]

zero_bit : (order : BitOrder) (count k : ℕ) → data_bit order (zeros count) k ≡ 0
zero_bit order count k =
    ap (λ (byte : ℕ). bit_at byte (place_of order k)) (zero_at count (k / 8)) ∙ bit_at-zero (place_of order k)

-- so many bits in bytes, and no fill
abbrev pub in_bytes : ℕ → List ℕ → Written
in_bytes len bytes = record { bytes = bytes; bits = len; fill = 0 }

-- a field that was written over zeros
pub field_is : (order : BitOrder) (len : ℕ) (bytes : List ℕ) (bit : ℕ → ℕ) → ((k : ℕ) → get_or bytes k 0 < 256) → length bytes ≡ (len + 7) / 8
    → KeepsOutside order (zeros ((len + 7) / 8)) bytes 0 len → ((i : ℕ) → i < len → data_bit order bytes i ≡ bit i)
    → in_bytes len bytes ≡ field order len bit
field_is order len bytes bit small long kept is =
    ap (in_bytes len) (bytes_are order len bytes bit long small is
    (λ k past. kept.after k (omega arith) ∙ zero_bit order ((len + 7) / 8) k))
