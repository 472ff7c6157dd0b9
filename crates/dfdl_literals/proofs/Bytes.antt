-- The bytes of the characters up to one of them.
use Rattle.std.proofs.Common.{◌≡◌, ℕ, ◌+◌, ◌<◌, ◌≤◌, List, [], ◌∷◌, ◌++◌, length, take, drop, get_or, ap, ◌∙◌, arith, length-append}
use Rattle.std.proofs.lemmas.List.{append-nil, take_more, take-append-drop}
use Rattle.std.proofs.lemmas.Str.{encodes-append}
use Rattle.std.specs.Str.{encode_utf8_all}
use Rattle.std.specs.Char.{encode_utf8}

pub bytes_more : (cs : List ℕ) (n d : ℕ) → n < length cs
    → length (encode_utf8_all (take (n + 1) cs)) ≡ length (encode_utf8_all (take n cs)) + length (encode_utf8 (get_or cs n d))
bytes_more cs n d less =
    ap (λ l. length (encode_utf8_all l)) (take_more cs n d less)
    ∙ ap length (encodes-append (take n cs) (get_or cs n d ∷ []))
    ∙ length-append (encode_utf8_all (take n cs)) (encode_utf8_all (get_or cs n d ∷ []))
    ∙ ap (λ l. length (encode_utf8_all (take n cs)) + length l) (append-nil (encode_utf8 (get_or cs n d)))

pub bytes_within : (cs : List ℕ) (m : ℕ) → length (encode_utf8_all (take m cs)) ≤ length (encode_utf8_all cs)
bytes_within cs m =
    let whole : length (encode_utf8_all (take m cs ++ drop m cs)) ≡ length (encode_utf8_all cs) = ap (λ l. length (encode_utf8_all l)) (take-append-drop m cs) in
    let split : length (encode_utf8_all (take m cs ++ drop m cs)) ≡ length (encode_utf8_all (take m cs) ++ encode_utf8_all (drop m cs)) = ap length (encodes-append (take m cs) (drop m cs)) in
    let sum = length-append (encode_utf8_all (take m cs)) (encode_utf8_all (drop m cs)) in
    omega (arith, whole, split, sum)
