-- The number of two, four and eight whole bytes, byte by byte.
use Rattle.std.proofs.Common.{◌≡◌, ℕ, ◌+◌, ◌*◌, ◌^◌, ◌<◌, List, get_or, subst, arith}
use Rattle.dfdl_bits.specs.Bits.{number_of}
use Rattle.dfdl_forms.specs.declared.order.BitOrder.TheVariants.{MostFirst}
use Rattle.dfdl_forms.specs.declared.order.ByteOrder.TheVariants.{Big, Little}
use Rattle.dfdl_bits.proofs.Numbers.{number_of-none}
use Rattle.dfdl_bits.proofs.Whole.{big_first, little_first}

module _ (bytes : List ℕ) (small : (i : ℕ) → get_or bytes i 0 < 256) where
  -- a byte, and those behind it from the place `next` on
  big_then : (at next count : ℕ) → at + 1 ≡ next
      → number_of bytes (8 * at) (8 * (count + 1)) Big MostFirst ≡ get_or bytes at 0 * 256 ^ count + number_of bytes (8 * next) (8 * count) Big MostFirst
  big_then at next count is =
      subst (λ n. number_of bytes (8 * at) (8 * (count + 1)) Big MostFirst ≡ get_or bytes at 0 * 256 ^ count + number_of bytes (8 * n) (8 * count) Big MostFirst) is
      (big_first bytes at count (small at))

  little_then : (at next count : ℕ) → at + 1 ≡ next
      → number_of bytes (8 * at) (8 * (count + 1)) Little MostFirst ≡ get_or bytes at 0 + 256 * number_of bytes (8 * next) (8 * count) Little MostFirst
  little_then at next count is =
      subst (λ n. number_of bytes (8 * at) (8 * (count + 1)) Little MostFirst ≡ get_or bytes at 0 + 256 * number_of bytes (8 * n) (8 * count) Little MostFirst) is
      (little_first bytes at count (small at))

  pub big_2 : (j : ℕ) → number_of bytes (8 * j) 16 Big MostFirst ≡ get_or bytes j 0 * 256 + get_or bytes (j + 1) 0
  big_2 j =
      omega (arith, big_then j (j + 1) 1 (omega arith), big_then (j + 1) (j + 2) 0 (omega arith), number_of-none bytes (8 * (j + 2)) Big MostFirst)

  pub little_2 : (j : ℕ) → number_of bytes (8 * j) 16 Little MostFirst ≡ get_or bytes j 0 + get_or bytes (j + 1) 0 * 256
  little_2 j =
      omega (arith, little_then j (j + 1) 1 (omega arith), little_then (j + 1) (j + 2) 0 (omega arith), number_of-none bytes (8 * (j + 2)) Little MostFirst)

  pub big_4 : (j : ℕ) → number_of bytes (8 * j) 32 Big MostFirst
      ≡ get_or bytes j 0 * 16777216 + get_or bytes (j + 1) 0 * 65536 + get_or bytes (j + 2) 0 * 256 + get_or bytes (j + 3) 0
  big_4 j =
      omega (
        arith,
        big_then j (j + 1) 3 (omega arith),
        big_then (j + 1) (j + 2) 2 (omega arith),
        big_then (j + 2) (j + 3) 1 (omega arith),
        big_then (j + 3) (j + 4) 0 (omega arith),
        number_of-none bytes (8 * (j + 4)) Big MostFirst,
      )

  pub little_4 : (j : ℕ) → number_of bytes (8 * j) 32 Little MostFirst
      ≡ get_or bytes j 0 + get_or bytes (j + 1) 0 * 256 + get_or bytes (j + 2) 0 * 65536 + get_or bytes (j + 3) 0 * 16777216
  little_4 j =
      omega (
        arith,
        little_then j (j + 1) 3 (omega arith),
        little_then (j + 1) (j + 2) 2 (omega arith),
        little_then (j + 2) (j + 3) 1 (omega arith),
        little_then (j + 3) (j + 4) 0 (omega arith),
        number_of-none bytes (8 * (j + 4)) Little MostFirst,
      )

  pub big_8 : (j : ℕ) → number_of bytes (8 * j) 64 Big MostFirst
      ≡ get_or bytes j 0 * 72057594037927936 + get_or bytes (j + 1) 0 * 281474976710656 + get_or bytes (j + 2) 0 * 1099511627776
      + get_or bytes (j + 3) 0 * 4294967296 + get_or bytes (j + 4) 0 * 16777216 + get_or bytes (j + 5) 0 * 65536 + get_or bytes (j + 6) 0 * 256
      + get_or bytes (j + 7) 0
  big_8 j =
      omega (
        arith,
        big_then j (j + 1) 7 (omega arith),
        big_then (j + 1) (j + 2) 6 (omega arith),
        big_then (j + 2) (j + 3) 5 (omega arith),
        big_then (j + 3) (j + 4) 4 (omega arith),
        big_then (j + 4) (j + 5) 3 (omega arith),
        big_then (j + 5) (j + 6) 2 (omega arith),
        big_then (j + 6) (j + 7) 1 (omega arith),
        big_then (j + 7) (j + 8) 0 (omega arith),
        number_of-none bytes (8 * (j + 8)) Big MostFirst,
      )

  pub little_8 : (j : ℕ) → number_of bytes (8 * j) 64 Little MostFirst
      ≡ get_or bytes j 0 + get_or bytes (j + 1) 0 * 256 + get_or bytes (j + 2) 0 * 65536 + get_or bytes (j + 3) 0 * 16777216
      + get_or bytes (j + 4) 0 * 4294967296 + get_or bytes (j + 5) 0 * 1099511627776 + get_or bytes (j + 6) 0 * 281474976710656
      + get_or bytes (j + 7) 0 * 72057594037927936
  little_8 j =
      omega (
        arith,
        little_then j (j + 1) 7 (omega arith),
        little_then (j + 1) (j + 2) 6 (omega arith),
        little_then (j + 2) (j + 3) 5 (omega arith),
        little_then (j + 3) (j + 4) 4 (omega arith),
        little_then (j + 4) (j + 5) 3 (omega arith),
        little_then (j + 5) (j + 6) 2 (omega arith),
        little_then (j + 6) (j + 7) 1 (omega arith),
        little_then (j + 7) (j + 8) 0 (omega arith),
        number_of-none bytes (8 * (j + 8)) Little MostFirst,
      )
