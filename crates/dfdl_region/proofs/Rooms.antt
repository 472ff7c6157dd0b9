-- The room for characters that are put one after the other.
use Rattle.std.proofs.Common.{◌≡◌, ℕ, ◌+◌, ◌*◌, ◌<◌, ◌≤◌, ◌++◌, [], ◌∷◌, List, length, drop, get_or, encode_utf8, ap, ◌∙◌, arith}
use Rattle.std.proofs.lemmas.List.{length-append}
use Rattle.std.proofs.lemmas.Str.{length-encode, len_utf8_bounds}
use Rattle.dfdl_lemmas.proofs.Lists.{left_at}
use Rattle.dfdl_region.specs.Bytes.{utf8_of}

-- where what was put, and the characters from one on, are all, there is room for that one
pub room_for : (put begun all : List ℕ) (i c room : ℕ) → i < length all → c ≡ get_or all i c
    → put ++ utf8_of (drop i all) ≡ begun ++ utf8_of all → length begun + length (utf8_of all) ≤ room
    → length put + length (encode_utf8 c) ≤ room
room_for put begun all i c room within is same fits =
    let left : length (put ++ utf8_of (drop i all)) ≡ length put + length (utf8_of (drop i all)) = length-append put (utf8_of (drop i all)) in
    let whole : length (begun ++ utf8_of all) ≡ length begun + length (utf8_of all) = length-append begun (utf8_of all) in
    let equal : length (put ++ utf8_of (drop i all)) ≡ length (begun ++ utf8_of all) = ap length same in
    let next : length (utf8_of (drop i all)) ≡ length (encode_utf8 c) + length (utf8_of (drop (i + 1) all)) =
    ap (λ (cs : List ℕ). length (utf8_of cs)) (left_at all i c within is)
    ∙ length-append (encode_utf8 c) (utf8_of (drop (i + 1) all)) in
    omega (arith, left, whole, equal, next)

-- a character has at most four bytes
pub at_most_four : (characters : List ℕ) → length (utf8_of characters) ≤ 4 * length characters
at_most_four [] = omega arith
at_most_four (c ∷ characters) =
    let own : length (encode_utf8 c) ≤ 4 = at_most_four_of c in
    let rest = at_most_four characters in
    let both : length (utf8_of (c ∷ characters)) ≡ length (encode_utf8 c) + length (utf8_of characters) = length-append (encode_utf8 c) (utf8_of characters) in
    omega (arith, own, rest, both)
  where
    at_most_four_of : (c : ℕ) → length (encode_utf8 c) ≤ 4
    at_most_four_of c =
        let size = length-encode c in
        let bound = (len_utf8_bounds c).1 in
        omega (arith, size, bound)
