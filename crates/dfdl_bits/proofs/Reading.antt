-- How the number read so far goes on.
use Rattle.std.proofs.Common.{◌≡◌, ℕ, ◌+◌, ◌-◌, ◌*◌, ◌/◌, ◌%◌, ◌^◌, ◌<◌, ◌≤◌, List, get_or, bit_or, refl, sym, ◌∙◌, arith, add-zero, zero-add}
use Rattle.std.proofs.lemmas.Nat.{mod_below, pow_pos}
use Rattle.dfdl_bits.specs.Bits.{number_of}
use Rattle.dfdl_forms.specs.declared.order.BitOrder.TheVariants.{MostFirst, LeastFirst}
use Rattle.dfdl_forms.specs.declared.order.ByteOrder.TheVariants.{Big, Little}
use Rattle.dfdl_bits.proofs.Numbers.{big-split, least-split, groups-split, one_group, big-in_byte, least-in_byte, number_below}
use Rattle.dfdl_bits.proofs.Shifts.{shl_or, or_shl}

-- the bits of byte j from its bit s on
pub falling_first : (bytes : List ℕ) (j s : ℕ) → s < 8
    → get_or bytes j 0 / 2 ^ 0 % 2 ^ (8 - s) ≡ number_of bytes (8 * j + s) (8 - s) Big MostFirst
falling_first bytes j s h =
    let all : 8 - (s + (8 - s)) ≡ 0 = omega arith in
    sym (big-in_byte bytes j s (8 - s) (omega arith) ∙ rw all refl)

-- n bits more at the front of byte j, most significant first
pub falling_more : (bytes : List ℕ) (b j k n number part : ℕ) → number ≡ number_of bytes b k Big MostFirst
    → b + k ≡ 8 * j → n ≤ 8 → k + n ≤ 128 → part ≡ get_or bytes j 0 / 2 ^ (8 - n) % 2 ^ n
    → bit_or (number * 2 ^ n % 2 ^ 128) part ≡ number_of bytes b (k + n) Big MostFirst
falling_more bytes b j k n number part so_far place few fits is_part =
    let below : number < 2 ^ k = rw so_far (number_below bytes b k Big MostFirst) in
    let small : part < 2 ^ n = rw is_part (mod_below _ (2 ^ n) (pow_pos n)) in
    let last : number_of bytes (b + k) n Big MostFirst ≡ part =
    rw (place, ← add-zero (8 * j)) (big-in_byte bytes j 0 n (omega arith) ∙ rw (is_part, zero-add n) refl) in
    shl_or 128 number k n part below fits small ∙ rw (big-split bytes b k n, last, ← so_far) refl

-- n bits more at the front of byte j, least significant first
pub rising_more : (bytes : List ℕ) (b j k n number part : ℕ) → number ≡ number_of bytes b k Little LeastFirst
    → b + k ≡ 8 * j → n ≤ 8 → k + n ≤ 128 → part ≡ get_or bytes j 0 / 2 ^ 0 % 2 ^ n
    → bit_or number (part * 2 ^ k % 2 ^ 128) ≡ number_of bytes b (k + n) Little LeastFirst
rising_more bytes b j k n number part so_far place few fits is_part =
    let below : number < 2 ^ k = rw so_far (number_below bytes b k Little LeastFirst) in
    let small : part < 2 ^ n = rw is_part (mod_below _ (2 ^ n) (pow_pos n)) in
    let last : number_of bytes (b + k) n Little LeastFirst ≡ part =
    rw (place, ← add-zero (8 * j)) (least-in_byte bytes j 0 n (omega arith) ∙ sym is_part) in
    or_shl number part n k below small (omega arith) ∙ rw (least-split bytes b k n, last, ← so_far) refl

-- a group more
pub grouped_more : (bytes : List ℕ) (b g n number part : ℕ) → number ≡ number_of bytes b (8 * g) Little MostFirst
    → n ≤ 8 → 8 * g + n ≤ 128 → part ≡ number_of bytes (b + 8 * g) n Big MostFirst
    → bit_or number (part * 2 ^ (8 * g) % 2 ^ 128) ≡ number_of bytes b (8 * g + n) Little MostFirst
grouped_more bytes b g n number part so_far few fits is_part =
    let below : number < 2 ^ (8 * g) = rw so_far (number_below bytes b (8 * g) Little MostFirst) in
    let small : part < 2 ^ n = rw is_part (number_below bytes (b + 8 * g) n Big MostFirst) in
    or_shl number part n (8 * g) below small (omega arith)
    ∙ rw (groups-split bytes b g n, one_group bytes (b + 8 * g) n few, ← so_far, ← is_part) refl
