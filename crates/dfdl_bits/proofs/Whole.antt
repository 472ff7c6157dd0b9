-- The number of whole bytes, by its first byte.
use Rattle.std.proofs.Common.{◌≡◌, ℕ, ◌+◌, ◌*◌, ◌%◌, ◌^◌, ◌<◌, List, get_or, refl, ◌∙◌, arith}
use Rattle.dfdl_lemmas.proofs.Powers.{eight_bits}
use Rattle.dfdl_bits.specs.Bits.{number_of}
use Rattle.dfdl_forms.specs.declared.order.BitOrder.TheVariants.{MostFirst}
use Rattle.dfdl_forms.specs.declared.order.ByteOrder.TheVariants.{Big, Little}
use Rattle.dfdl_bits.proofs.Numbers.{big-split, groups-split, one_group, big-byte}

pub big_first : (bytes : List ℕ) (at count : ℕ) → get_or bytes at 0 < 256
    → number_of bytes (8 * at) (8 * (count + 1)) Big MostFirst ≡ get_or bytes at 0 * 256 ^ count + number_of bytes (8 * (at + 1)) (8 * count) Big MostFirst
big_first bytes at count small =
    let more : 8 * (count + 1) ≡ 8 + 8 * count = omega arith in
    let place : 8 * at + 8 ≡ 8 * (at + 1) = omega arith in
    let byte : get_or bytes at 0 % 2 ^ 8 ≡ get_or bytes at 0 = omega arith in
    rw (more, big-split bytes (8 * at) 8 (8 * count), big-byte bytes at, byte, eight_bits count, place) refl

pub little_first : (bytes : List ℕ) (at count : ℕ) → get_or bytes at 0 < 256
    → number_of bytes (8 * at) (8 * (count + 1)) Little MostFirst ≡ get_or bytes at 0 + 256 * number_of bytes (8 * (at + 1)) (8 * count) Little MostFirst
little_first bytes at count small =
    let more : 8 * (count + 1) ≡ 8 * 1 + 8 * count = omega arith in
    let place : 8 * at + 8 * 1 ≡ 8 * (at + 1) = omega arith in
    let byte : get_or bytes at 0 % 2 ^ 8 ≡ get_or bytes at 0 = omega arith in
    let front : number_of bytes (8 * at) (8 * 1) Little MostFirst ≡ get_or bytes at 0 = one_group bytes (8 * at) 8 (omega arith) ∙ big-byte bytes at ∙ byte in
    rw (more, groups-split bytes (8 * at) 1 (8 * count), front, place) (omega arith)
