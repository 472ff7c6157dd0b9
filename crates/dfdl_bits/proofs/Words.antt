-- A range inside of a longer one.
use Rattle.std.proofs.Common.{◌≡◌, ℕ, zero, suc, ◌+◌, ◌-◌, ◌*◌, ◌/◌, ◌%◌, ◌^◌, ◌<◌, ◌≤◌, List, [], ◌∷◌, get_or, refl, ap, sym, ◌∙◌, arith, add-zero, zero-add, div-one, mod-eq_of_lt}
use Rattle.std.proofs.lemmas.Nat.{shr_high, mod_low, shr_below, mod_below, shl_whole, pow_pos, from_be_bytes-to_be_bytes_8}
use Rattle.dfdl_bits.specs.Bits.{number_of, data_bit}
use Rattle.dfdl_forms.specs.declared.order.BitOrder.TheVariants.{MostFirst, LeastFirst}
use Rattle.dfdl_forms.specs.declared.order.ByteOrder.{ByteOrder}
use Rattle.dfdl_forms.specs.declared.order.ByteOrder.TheVariants.{Big, Little}
use Rattle.std.specs.Int.{w16, w32, w64, from_be_bytes, from_le_bytes, to_be_bytes, byte_at, bytes_high_first}
use Rattle.dfdl_bits.proofs.Loads.{big_2, big_4, big_8, little_2, little_4, little_8}
use Rattle.dfdl_bits.proofs.Numbers.{big-split, least-split, groups-split, groups-whole, one_group, least_any, big-one, big-in_byte, big-byte, number_of-same, number_below}

-- n bits behind s of a range with r behind them
pub big_part : (bytes : List ℕ) (b s n r : ℕ)
    → number_of bytes (b + s) n Big MostFirst ≡ number_of bytes b (s + n + r) Big MostFirst / 2 ^ r % 2 ^ n
big_part bytes b s n r =
    let high : number_of bytes b (s + n + r) Big MostFirst / 2 ^ r ≡ number_of bytes b (s + n) Big MostFirst =
    ap (λ x. x / 2 ^ r) (big-split bytes b (s + n) r) ∙ shr_high _ r _ (number_below bytes (b + (s + n)) r Big MostFirst) in
    sym (rw (high, big-split bytes b s n) (mod_low _ n _ (number_below bytes (b + s) n Big MostFirst)))

pub least_part : (bytes : List ℕ) (b s n r : ℕ)
    → number_of bytes (b + s) n Little LeastFirst ≡ number_of bytes b (s + (n + r)) Little LeastFirst / 2 ^ s % 2 ^ n
least_part bytes b s n r =
    let low : number_of bytes b (s + (n + r)) Little LeastFirst ≡ number_of bytes (b + s) (n + r) Little LeastFirst * 2 ^ s + number_of bytes b s Little LeastFirst =
    omega (arith, least-split bytes b s (n + r)) in
    let high : number_of bytes b (s + (n + r)) Little LeastFirst / 2 ^ s ≡ number_of bytes (b + s) (n + r) Little LeastFirst =
    ap (λ x. x / 2 ^ s) low ∙ shr_high _ s _ (number_below bytes b s Little LeastFirst) in
    let front : number_of bytes (b + s) (n + r) Little LeastFirst ≡ number_of bytes (b + s + n) r Little LeastFirst * 2 ^ n + number_of bytes (b + s) n Little LeastFirst =
    omega (arith, least-split bytes (b + s) n r) in
    sym (rw (high, front) (mod_low _ n _ (number_below bytes (b + s) n Little LeastFirst)))

-- ranges with one number in big endian have the same bits
pub same_bits : (xs ys : List ℕ) (b c n i : ℕ) → number_of xs b n Big MostFirst ≡ number_of ys c n Big MostFirst → i < n
    → data_bit MostFirst xs (b + i) ≡ data_bit MostFirst ys (c + i)
same_bits xs ys b c n i same within =
    let size : i + 1 + (n - i - 1) ≡ n = omega arith in
    let left : number_of xs (b + i) 1 Big MostFirst ≡ number_of xs b n Big MostFirst / 2 ^ (n - i - 1) % 2 ^ 1 =
    big_part xs b i 1 (n - i - 1) ∙ ap (λ m. number_of xs b m Big MostFirst / 2 ^ (n - i - 1) % 2 ^ 1) size in
    let right : number_of ys (c + i) 1 Big MostFirst ≡ number_of ys c n Big MostFirst / 2 ^ (n - i - 1) % 2 ^ 1 =
    big_part ys c i 1 (n - i - 1) ∙ ap (λ m. number_of ys c m Big MostFirst / 2 ^ (n - i - 1) % 2 ^ 1) size in
    sym (big-one xs (b + i)) ∙ left ∙ ap (λ m. m / 2 ^ (n - i - 1) % 2 ^ 1) same ∙ sym right ∙ big-one ys (c + i)

-- so they have one number in little endian
pub same_groups : (xs ys : List ℕ) (b c n : ℕ) → number_of xs b n Big MostFirst ≡ number_of ys c n Big MostFirst
    → number_of xs b n Little MostFirst ≡ number_of ys c n Little MostFirst
same_groups xs ys b c n same = number_of-same xs ys b c n Little MostFirst (λ i within. same_bits xs ys b c n i same within)

-- all bits of two, four and eight bytes
module _ (bytes : List ℕ) (small : (i : ℕ) → get_or bytes i 0 < 256) where
  pub word_be_16 : number_of bytes 0 16 Big MostFirst ≡ from_be_bytes w16 bytes
  word_be_16 = big_2 bytes small 0 ∙ omega arith

  pub word_le_16 : number_of bytes 0 16 Little MostFirst ≡ from_le_bytes w16 bytes
  word_le_16 = little_2 bytes small 0 ∙ omega arith

  pub word_be_32 : number_of bytes 0 32 Big MostFirst ≡ from_be_bytes w32 bytes
  word_be_32 = big_4 bytes small 0 ∙ omega arith

  pub word_le_32 : number_of bytes 0 32 Little MostFirst ≡ from_le_bytes w32 bytes
  word_le_32 = little_4 bytes small 0 ∙ omega arith

  pub word_be_64 : number_of bytes 0 64 Big MostFirst ≡ from_be_bytes w64 bytes
  word_be_64 = big_8 bytes small 0 ∙ omega arith

  pub word_le_64 : number_of bytes 0 64 Little MostFirst ≡ from_le_bytes w64 bytes
  word_le_64 = little_8 bytes small 0 ∙ omega arith

  -- whole groups at the front
  pub front_groups : (g : ℕ) → g ≤ 8 → number_of bytes 0 (8 * g) Little MostFirst ≡ from_le_bytes w64 bytes % 2 ^ (8 * g)
  front_groups g few =
      let size : 0 + (8 * g + (64 - 8 * g)) ≡ 64 = omega arith in
      let all : number_of bytes 0 64 Little LeastFirst ≡ from_le_bytes w64 bytes = sym (groups-whole bytes 0 8) ∙ word_le_64 in
      groups-whole bytes 0 g ∙ least_part bytes 0 0 (8 * g) (64 - 8 * g)
      ∙ ap (λ m. number_of bytes 0 m Little LeastFirst / 1 % 2 ^ (8 * g)) size
      ∙ rw (all, div-one) refl

  -- and what is left behind them
  pub last_group : (g r : ℕ) → r ≤ 8 → number_of bytes (8 * g) r Little MostFirst ≡ get_or bytes g 0 / 2 ^ (8 - r)
  last_group g r few =
      let eight : r + (8 - r) ≡ 8 = omega arith in
      let byte : get_or bytes g 0 < 2 ^ (r + (8 - r)) = rw eight (small g) in
      one_group bytes (8 * g) r few
      ∙ ap (λ b. number_of bytes b r Big MostFirst) (sym (add-zero (8 * g)))
      ∙ big-in_byte bytes g 0 r (omega arith)
      ∙ ap (λ m. get_or bytes g 0 / 2 ^ (8 - m) % 2 ^ r) (zero-add r)
      ∙ mod-eq_of_lt (shr_below (get_or bytes g 0) r (8 - r) byte)

-- a number that is put to the front of eight bytes
pub shifted_front : (bytes : List ℕ) (small : (i : ℕ) → get_or bytes i 0 < 256) (number len : ℕ) → len ≤ 64 → number < 2 ^ len
    → bytes ≡ to_be_bytes w64 (number * 2 ^ (64 - len) % 2 ^ 64) → number_of bytes 0 len Big MostFirst ≡ number
shifted_front bytes small number len few fits is =
    let size : 0 + len + (64 - len) ≡ 64 = omega arith in
    let whole : number * 2 ^ (64 - len) % 2 ^ 64 ≡ number * 2 ^ (64 - len) = shl_whole number len (64 - len) 64 fits (omega arith) in
    let word : number_of bytes 0 64 Big MostFirst ≡ number * 2 ^ (64 - len) + 0 =
    word_be_64 bytes small ∙ ap (from_be_bytes w64) is ∙ from_be_bytes-to_be_bytes_8 _ (omega arith) ∙ whole ∙ omega arith in
    big_part bytes 0 0 len (64 - len)
    ∙ ap (λ m. number_of bytes 0 m Big MostFirst / 2 ^ (64 - len) % 2 ^ len) size
    ∙ rw (word, shr_high number (64 - len) 0 (pow_pos (64 - len))) (mod-eq_of_lt fits)

-- each byte of a number is one
pub small_cons : (x : ℕ) (xs : List ℕ) (i : ℕ) → x < 256 → ((j : ℕ) → get_or xs j 0 < 256) → get_or (x ∷ xs) i 0 < 256
small_cons x xs zero here rest = here
small_cons x xs (suc i) here rest = rest i

pub small_none : (i : ℕ) → get_or [] i 0 < 256
small_none i = omega arith

low_byte : (n : ℕ) → n % 256 < 256
low_byte n = mod_below n 256 (omega arith)

pub byte_at_small : (k v : ℕ) → byte_at k v < 256
byte_at_small zero v = low_byte v
byte_at_small (suc k) v = low_byte (v / 256 ^ suc k)

pub high_small : (k v i : ℕ) → get_or (bytes_high_first k v) i 0 < 256
high_small zero v i = small_none i
high_small (suc k) v i = small_cons (byte_at k v) (bytes_high_first k v) i (byte_at_small k v) (high_small k v)

pub be_small : (v i : ℕ) → get_or (to_be_bytes w64 v) i 0 < 256
be_small v i = high_small 8 v i

-- the groups of a number, by the eight bytes to whose front it is put
pub regrouped_is : (number len bit : ℕ) (bytes ys : List ℕ) → len ≤ 64 → number ≡ number_of bytes bit len Big MostFirst
    → ys ≡ to_be_bytes w64 (number * 2 ^ (64 - len) % 2 ^ 64)
    → number_of ys 0 len Little MostFirst ≡ number_of bytes bit len Little MostFirst
regrouped_is number len bit bytes ys few is word =
    let small : (i : ℕ) → get_or ys i 0 < 256 = (λ i. rw word (be_small _ i)) in
    let fits : number < 2 ^ len = rw is (number_below bytes bit len Big MostFirst) in
    same_groups ys bytes 0 bit len (shifted_front ys small number len few fits word ∙ is)

pub parts_of_groups : (ys : List ℕ) (small : (i : ℕ) → get_or ys i 0 < 256) (len : ℕ) → len ≤ 64
    → number_of ys 0 len Little MostFirst ≡ from_le_bytes w64 ys % 2 ^ (8 * (len / 8)) + get_or ys (len / 8) 0 / 2 ^ (8 - len % 8) * 2 ^ (8 * (len / 8))
parts_of_groups ys small len few =
    let g : ℕ = len / 8 in
    let r : ℕ = len % 8 in
    let size : 8 * g + r ≡ len = omega arith in
    ap (λ m. number_of ys 0 m Little MostFirst) (sym size)
    ∙ groups-split ys 0 g r
    ∙ rw (zero-add, front_groups ys small g (omega arith), last_group ys small g r (omega arith)) refl

-- a range that lies in eight bytes
pub big_in_word : (bytes : List ℕ) (b s n : ℕ) → s + n ≤ 64
    → number_of bytes b 64 Big MostFirst / 2 ^ (64 - s - n) % 2 ^ n ≡ number_of bytes (b + s) n Big MostFirst
big_in_word bytes b s n fits =
    let size : s + n + (64 - s - n) ≡ 64 = omega arith in
    sym (big_part bytes b s n (64 - s - n) ∙ ap (λ m. number_of bytes b m Big MostFirst / 2 ^ (64 - s - n) % 2 ^ n) size)

pub least_in_word : (bytes : List ℕ) (j s n : ℕ) (bytes_by : ByteOrder) → s + n ≤ 64
    → number_of bytes (8 * j) 64 Little MostFirst / 2 ^ s % 2 ^ n ≡ number_of bytes (8 * j + s) n bytes_by LeastFirst
least_in_word bytes j s n bytes_by fits =
    let size : s + (n + (64 - s - n)) ≡ 64 = omega arith in
    sym (least_any bytes (8 * j + s) n bytes_by
    ∙ least_part bytes (8 * j) s n (64 - s - n)
    ∙ ap (λ m. number_of bytes (8 * j) m Little LeastFirst / 2 ^ s % 2 ^ n) size
    ∙ ap (λ m. m / 2 ^ s % 2 ^ n) (sym (groups-whole bytes j 8)))

-- a whole byte, in either order
pub whole_byte : (bytes : List ℕ) (j : ℕ) (order : ByteOrder) → get_or bytes j 0 < 256 → number_of bytes (8 * j) 8 order MostFirst ≡ get_or bytes j 0
whole_byte bytes j Big small = big-byte bytes j ∙ mod-eq_of_lt small
whole_byte bytes j Little small = one_group bytes (8 * j) 8 (omega arith) ∙ big-byte bytes j ∙ mod-eq_of_lt small
