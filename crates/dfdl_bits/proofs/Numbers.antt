-- The number of a range, cut into parts.
use Rattle.std.proofs.Common.{◌≡◌, ℕ, zero, suc, ◌+◌, ◌-◌, ◌*◌, ◌/◌, ◌%◌, ◌^◌, ◌<◌, ◌≤◌, List, get_or, refl, ap, sym, ◌∙◌, subst, arith, add-one, add-zero, add_assoc, zero-add}
use Rattle.std.specs.Int.{bit_at}
use Rattle.std.proofs.lemmas.Nat.Bits.{bit_at-lt}
use Rattle.std.proofs.Math.Nat.{mul-le-mul_right}
use Rattle.std.proofs.lemmas.Nat.{pow-add, mod-pow-add, shr-shr}
use Rattle.dfdl_bits.specs.Bits.{sum_below, number_of, weight_of, group_len, data_bit}
use Rattle.dfdl_forms.specs.declared.order.BitOrder.{BitOrder}
use Rattle.dfdl_forms.specs.declared.order.BitOrder.TheVariants.{MostFirst, LeastFirst}
use Rattle.dfdl_forms.specs.declared.order.ByteOrder.{ByteOrder}
use Rattle.dfdl_forms.specs.declared.order.ByteOrder.TheVariants.{Big, Little}
use Rattle.dfdl_bits.proofs.Sums.{sum_below-same, sum_below-add, sum_below-mul}

-- two ranges whose bits have the same values and weights have one number
pub number_of-same : (xs ys : List ℕ) (b c n : ℕ) (bytes_by : ByteOrder) (bits_by : BitOrder)
    → ((i : ℕ) → i < n → data_bit bits_by xs (b + i) ≡ data_bit bits_by ys (c + i))
    → number_of xs b n bytes_by bits_by ≡ number_of ys c n bytes_by bits_by
unfolding number_of
number_of-same xs ys b c n bytes_by bits_by same =
    sum_below-same n _ _ (λ i h. ap (λ (bit : ℕ). bit * 2 ^ weight_of bytes_by bits_by n i) (same i h))

-- most significant bit first and big endian: the front counts more
pub big-split : (bytes : List ℕ) (b m n : ℕ)
    → number_of bytes b (m + n) Big MostFirst ≡ number_of bytes b m Big MostFirst * 2 ^ n + number_of bytes (b + m) n Big MostFirst
unfolding number_of
big-split bytes b m n =
    sum_below-add m n (λ i. data_bit MostFirst bytes (b + i) * 2 ^ (m + n - 1 - i))
    ∙ ap (λ (front : ℕ). front + sum_below n (λ i. data_bit MostFirst bytes (b + (m + i)) * 2 ^ (m + n - 1 - (m + i))))
    (sum_below-same m _ _ (λ i h. front i h) ∙ sum_below-mul m (2 ^ n) (λ i. data_bit MostFirst bytes (b + i) * 2 ^ (m - 1 - i)))
    ∙ ap (λ (rest : ℕ). sum_below m (λ i. data_bit MostFirst bytes (b + i) * 2 ^ (m - 1 - i)) * 2 ^ n + rest)
    (sum_below-same n _ _ (λ i h. rest i h))
  where
    front : (i : ℕ) → i < m → data_bit MostFirst bytes (b + i) * 2 ^ (m + n - 1 - i) ≡ data_bit MostFirst bytes (b + i) * 2 ^ (m - 1 - i) * 2 ^ n
    front i h =
        let exponent : m + n - 1 - i ≡ m - 1 - i + n = omega arith in
        rw (exponent, pow-add 2 (m - 1 - i) n) (omega arith)

    rest : (i : ℕ) → i < n → data_bit MostFirst bytes (b + (m + i)) * 2 ^ (m + n - 1 - (m + i)) ≡ data_bit MostFirst bytes (b + m + i) * 2 ^ (n - 1 - i)
    rest i h =
        let exponent : m + n - 1 - (m + i) ≡ n - 1 - i = omega arith in
        let place : b + (m + i) ≡ b + m + i = omega arith in
        rw (exponent, place) refl

-- least significant bit first: the front counts less
pub least-split : (bytes : List ℕ) (b m n : ℕ)
    → number_of bytes b (m + n) Little LeastFirst ≡ number_of bytes b m Little LeastFirst + number_of bytes (b + m) n Little LeastFirst * 2 ^ m
unfolding number_of
least-split bytes b m n =
    sum_below-add m n (λ i. data_bit LeastFirst bytes (b + i) * 2 ^ i)
    ∙ ap (λ (rest : ℕ). sum_below m (λ i. data_bit LeastFirst bytes (b + i) * 2 ^ i) + rest)
    (sum_below-same n _ _ (λ i h. rest i) ∙ sum_below-mul n (2 ^ m) (λ i. data_bit LeastFirst bytes (b + m + i) * 2 ^ i))
  where
    rest : (i : ℕ) → data_bit LeastFirst bytes (b + (m + i)) * 2 ^ (m + i) ≡ data_bit LeastFirst bytes (b + m + i) * 2 ^ i * 2 ^ m
    rest i =
        let place : b + (m + i) ≡ b + m + i = omega arith in
        rw (place, pow-add 2 m i) (omega arith)

-- the byte order plays no part there
pub least_any : (bytes : List ℕ) (b n : ℕ) (bytes_by : ByteOrder) → number_of bytes b n bytes_by LeastFirst ≡ number_of bytes b n Little LeastFirst
unfolding number_of
least_any bytes b n Big = refl
least_any bytes b n Little = refl

-- little endian: whole groups of eight at the front count less
pub groups-split : (bytes : List ℕ) (b g n : ℕ)
    → number_of bytes b (8 * g + n) Little MostFirst ≡ number_of bytes b (8 * g) Little MostFirst + number_of bytes (b + 8 * g) n Little MostFirst * 2 ^ (8 * g)
unfolding number_of
groups-split bytes b g n =
    sum_below-add (8 * g) n (λ i. data_bit MostFirst bytes (b + i) * 2 ^ weight_of Little MostFirst (8 * g + n) i)
    ∙ ap (λ (front : ℕ). front + sum_below n (λ i. data_bit MostFirst bytes (b + (8 * g + i)) * 2 ^ weight_of Little MostFirst (8 * g + n) (8 * g + i)))
    (sum_below-same (8 * g) _ _ (λ i h. front i h))
    ∙ ap (λ (rest : ℕ). sum_below (8 * g) (λ i. data_bit MostFirst bytes (b + i) * 2 ^ weight_of Little MostFirst (8 * g) i) + rest)
    (sum_below-same n _ _ (λ i h. rest i)
    ∙ sum_below-mul n (2 ^ (8 * g)) (λ i. data_bit MostFirst bytes (b + 8 * g + i) * 2 ^ weight_of Little MostFirst n i))
  where
    front : (i : ℕ) → i < 8 * g → data_bit MostFirst bytes (b + i) * 2 ^ weight_of Little MostFirst (8 * g + n) i ≡ data_bit MostFirst bytes (b + i) * 2 ^ weight_of Little MostFirst (8 * g) i
    front i h =
        let whole : group_len (8 * g + n) (i / 8) ≡ group_len (8 * g) (i / 8) = omega arith in
        ap (λ (size : ℕ). data_bit MostFirst bytes (b + i) * 2 ^ (8 * (i / 8) + (size - 1 - i % 8))) whole

    rest : (i : ℕ) → data_bit MostFirst bytes (b + (8 * g + i)) * 2 ^ weight_of Little MostFirst (8 * g + n) (8 * g + i) ≡ data_bit MostFirst bytes (b + 8 * g + i) * 2 ^ weight_of Little MostFirst n i * 2 ^ (8 * g)
    rest i =
        let weight : weight_of Little MostFirst (8 * g + n) (8 * g + i) ≡ 8 * g + weight_of Little MostFirst n i = omega arith in
        let place : b + (8 * g + i) ≡ b + 8 * g + i = omega arith in
        rw (place, weight, pow-add 2 (8 * g) (weight_of Little MostFirst n i)) (omega arith)

-- a group is a number as under big endian
pub one_group : (bytes : List ℕ) (b n : ℕ) → n ≤ 8 → number_of bytes b n Little MostFirst ≡ number_of bytes b n Big MostFirst
unfolding number_of
one_group bytes b n few = sum_below-same n _ _ (λ i h.
    let weight : weight_of Little MostFirst n i ≡ n - 1 - i = omega arith in
    ap (λ (w : ℕ). data_bit MostFirst bytes (b + i) * 2 ^ w) weight)

-- the number of no bit and of one bit
pub number_of-none : (bytes : List ℕ) (b : ℕ) (bytes_by : ByteOrder) (bits_by : BitOrder) → number_of bytes b 0 bytes_by bits_by ≡ 0
unfolding number_of sum_below
number_of-none bytes b bytes_by bits_by = refl

pub big-one : (bytes : List ℕ) (b : ℕ) → number_of bytes b 1 Big MostFirst ≡ data_bit MostFirst bytes b
unfolding number_of sum_below
big-one bytes b = rw add-zero (omega arith)

pub least-one : (bytes : List ℕ) (b : ℕ) → number_of bytes b 1 Little LeastFirst ≡ data_bit LeastFirst bytes b
unfolding number_of sum_below
least-one bytes b = rw add-zero (omega arith)

-- one bit more of a number, at its low end and at its high end
low_bit : (x low n : ℕ) → x / 2 ^ (low + 1) % 2 ^ n * 2 ^ 1 + x / 2 ^ low % 2 ≡ x / 2 ^ low % 2 ^ (n + 1)
low_bit x low n = rw (← shr-shr x low 1) (sym (mod-pow-add (x / 2 ^ low) n 1))

high_bit : (x s n : ℕ) → x / 2 ^ s % 2 ^ n + x / 2 ^ (s + n) % 2 * 2 ^ n ≡ x / 2 ^ s % 2 ^ (n + 1)
high_bit x s n =
    let both : x / 2 ^ s % 2 ^ (1 + n) ≡ x / 2 ^ s / 2 ^ n % 2 ^ 1 * 2 ^ n + x / 2 ^ s % 2 ^ n = mod-pow-add (x / 2 ^ s) 1 n in
    let apart : x / 2 ^ s / 2 ^ n ≡ x / 2 ^ (s + n) = shr-shr x s n in
    let order : n + 1 ≡ 1 + n = omega arith in
    rw (order, both, apart) (omega arith)

-- bit i of byte j
most_first_bit : (bytes : List ℕ) (j i : ℕ) → i < 8 → data_bit MostFirst bytes (8 * j + i) ≡ bit_at (get_or bytes j 0) (7 - i)
most_first_bit bytes j i h =
    let here : (8 * j + i) / 8 ≡ j = omega arith in
    let place : 7 - (8 * j + i) % 8 ≡ 7 - i = omega arith in
    rw (here, place) refl

least_first_bit : (bytes : List ℕ) (j i : ℕ) → i < 8 → data_bit LeastFirst bytes (8 * j + i) ≡ bit_at (get_or bytes j 0) i
least_first_bit bytes j i h =
    let here : (8 * j + i) / 8 ≡ j = omega arith in
    let place : (8 * j + i) % 8 ≡ i = omega arith in
    rw (here, place) refl

-- bits inside of one byte, most significant first
pub big-in_byte : (bytes : List ℕ) (j s n : ℕ) → s + n ≤ 8
    → number_of bytes (8 * j + s) n Big MostFirst ≡ get_or bytes j 0 / 2 ^ (8 - (s + n)) % 2 ^ n
big-in_byte bytes j s zero inside = number_of-none bytes _ Big MostFirst ∙ omega arith
big-in_byte bytes j s (suc n) inside =
    let byte = get_or bytes j 0 in
    let low : ℕ = 7 - (s + n) in
    let front : number_of bytes (8 * j + s) n Big MostFirst ≡ byte / 2 ^ (low + 1) % 2 ^ n =
    big-in_byte bytes j s n (omega arith) ∙ ap (λ (e : ℕ). byte / 2 ^ e % 2 ^ n) (omega arith) in
    let last : number_of bytes (8 * j + s + n) 1 Big MostFirst ≡ byte / 2 ^ low % 2 =
    big-one bytes (8 * j + s + n) ∙ ap (data_bit MostFirst bytes) (add_assoc (8 * j) s n)
    ∙ most_first_bit bytes j (s + n) (omega arith) in
    let all : number_of bytes (8 * j + s) (n + 1) Big MostFirst ≡ byte / 2 ^ low % 2 ^ (n + 1) =
    big-split bytes (8 * j + s) n 1 ∙ rw (front, last) (low_bit byte low n) in
    let end : low ≡ 8 - (s + suc n) = omega arith in
    rw (← end, ← add-one n) all

-- bits inside of one byte, least significant first
pub least-in_byte : (bytes : List ℕ) (j s n : ℕ) → s + n ≤ 8
    → number_of bytes (8 * j + s) n Little LeastFirst ≡ get_or bytes j 0 / 2 ^ s % 2 ^ n
least-in_byte bytes j s zero inside = number_of-none bytes _ Little LeastFirst ∙ omega arith
least-in_byte bytes j s (suc n) inside =
    let byte = get_or bytes j 0 in
    let front : number_of bytes (8 * j + s) n Little LeastFirst ≡ byte / 2 ^ s % 2 ^ n =
    least-in_byte bytes j s n (omega arith) in
    let last : number_of bytes (8 * j + s + n) 1 Little LeastFirst ≡ byte / 2 ^ (s + n) % 2 =
    least-one bytes (8 * j + s + n) ∙ ap (data_bit LeastFirst bytes) (add_assoc (8 * j) s n)
    ∙ least_first_bit bytes j (s + n) (omega arith) in
    let all : number_of bytes (8 * j + s) (n + 1) Little LeastFirst ≡ byte / 2 ^ s % 2 ^ (n + 1) =
    least-split bytes (8 * j + s) n 1 ∙ rw (front, last) (high_bit byte s n) in
    rw (← add-one n) all

-- a byte whose bits are whole
pub big-byte : (bytes : List ℕ) (j : ℕ) → number_of bytes (8 * j) 8 Big MostFirst ≡ get_or bytes j 0 % 2 ^ 8
big-byte bytes j = rw (← add-zero (8 * j)) (big-in_byte bytes j 0 8 (omega arith) ∙ omega arith)

pub least-byte : (bytes : List ℕ) (j : ℕ) → number_of bytes (8 * j) 8 Little LeastFirst ≡ get_or bytes j 0 % 2 ^ 8
least-byte bytes j = rw (← add-zero (8 * j)) (least-in_byte bytes j 0 8 (omega arith) ∙ omega arith)

-- whole bytes are little endian alike under both bit orders
pub groups-whole : (bytes : List ℕ) (j n : ℕ)
    → number_of bytes (8 * j) (8 * n) Little MostFirst ≡ number_of bytes (8 * j) (8 * n) Little LeastFirst
groups-whole bytes j zero = number_of-none bytes _ Little MostFirst ∙ sym (number_of-none bytes _ Little LeastFirst)
groups-whole bytes j (suc n) =
    let more : 8 * suc n ≡ 8 * n + 8 = omega arith in
    let place : 8 * j + 8 * n ≡ 8 * (j + n) = omega arith in
    let last : number_of bytes (8 * j + 8 * n) 8 Little MostFirst ≡ number_of bytes (8 * j + 8 * n) 8 Little LeastFirst =
    rw place (one_group bytes _ 8 (omega arith) ∙ big-byte bytes (j + n) ∙ sym (least-byte bytes (j + n))) in
    rw (more, groups-split bytes (8 * j) n 8, least-split bytes (8 * j) (8 * n) 8, groups-whole bytes j n, last) refl

-- a number of n bits is below 2 ^ n
big-lt : (bytes : List ℕ) (b n : ℕ) → number_of bytes b n Big MostFirst < 2 ^ n
big-lt bytes b zero = rw (number_of-none bytes b Big MostFirst) (omega arith)
big-lt bytes b (suc n) =
    let all : number_of bytes b (n + 1) Big MostFirst ≡ number_of bytes b n Big MostFirst * 2 ^ 1 + number_of bytes (b + n) 1 Big MostFirst = big-split bytes b n 1 in
    let bit : number_of bytes (b + n) 1 Big MostFirst < 2 = rw (big-one bytes (b + n)) (bit_at-lt _ _) in
    let power : 2 ^ (n + 1) ≡ 2 ^ n * 2 ^ 1 = pow-add 2 n 1 in
    rw (← add-one n) (omega (arith, big-lt bytes b n))

least-lt : (bytes : List ℕ) (b n : ℕ) → number_of bytes b n Little LeastFirst < 2 ^ n
least-lt bytes b zero = rw (number_of-none bytes b Little LeastFirst) (omega arith)
least-lt bytes b (suc n) =
    let bit : number_of bytes (b + n) 1 Little LeastFirst ≤ 1 = rw (least-one bytes (b + n)) (omega (arith, bit_at-lt (get_or bytes ((b + n) / 8) 0) ((b + n) % 8))) in
    let high : number_of bytes (b + n) 1 Little LeastFirst * 2 ^ n ≤ 1 * 2 ^ n = mul-le-mul_right (2 ^ n) bit in
    let all : number_of bytes b (n + 1) Little LeastFirst ≡ number_of bytes b n Little LeastFirst + number_of bytes (b + n) 1 Little LeastFirst * 2 ^ n = least-split bytes b n 1 in
    let power : 2 ^ (n + 1) ≡ 2 ^ n * 2 ^ 1 = pow-add 2 n 1 in
    rw (← add-one n) (omega (arith, least-lt bytes b n))

groups-lt : (bytes : List ℕ) (g r b : ℕ) → r ≤ 8 → number_of bytes b (8 * g + r) Little MostFirst < 2 ^ (8 * g + r)
groups-lt bytes zero r b few = rw (zero-add, one_group bytes b r few) (big-lt bytes b r)
groups-lt bytes (suc g) r b few =
    let more : 8 * suc g + r ≡ 8 * 1 + (8 * g + r) = omega arith in
    let front : number_of bytes b 8 Little MostFirst < 2 ^ 8 = rw (one_group bytes b 8 (omega arith)) (big-lt bytes b 8) in
    let rest : number_of bytes (b + 8) (8 * g + r) Little MostFirst + 1 ≤ 2 ^ (8 * g + r) = omega (arith, groups-lt bytes g r (b + 8) few) in
    let power : 2 ^ (8 * 1 + (8 * g + r)) ≡ 2 ^ 8 * 2 ^ (8 * g + r) = pow-add 2 8 (8 * g + r) in
    rw (more, groups-split bytes b 1 (8 * g + r)) (omega arith)

pub number_below : (bytes : List ℕ) (b n : ℕ) (bytes_by : ByteOrder) (bits_by : BitOrder) → number_of bytes b n bytes_by bits_by < 2 ^ n
number_below bytes b n Big MostFirst = big-lt bytes b n
number_below bytes b n Little LeastFirst = least-lt bytes b n
number_below bytes b n Big LeastFirst = rw (least_any bytes b n Big) (least-lt bytes b n)
number_below bytes b n Little MostFirst =
    let cut : n ≡ 8 * (n / 8) + n % 8 = omega arith in
    subst (λ (k : ℕ). number_of bytes b k Little MostFirst < 2 ^ k) (sym cut) (groups-lt bytes (n / 8) (n % 8) b (omega arith))
