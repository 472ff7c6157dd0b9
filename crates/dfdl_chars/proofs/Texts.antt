-- The bytes of characters one after the other.
use Rattle.std.proofs.Common.{◌≡◌, ℕ, zero, suc, ◌+◌, ◌<◌, List, [], ◌∷◌, ◌++◌, length, take, get_or, Option, Some, None, refl, ap, sym, ◌∙◌, arith, append_assoc}
use Rattle.std.specs.Str.{encode_utf8_all, IsAscii}
use Rattle.std.proofs.lemmas.Bool.{cond-true, lt-ltb}
use Rattle.std.proofs.lemmas.List.{take_more, append-nil}
use Rattle.dfdl_forms.specs.declared.encoding.Encoding.{Encoding}
use Rattle.dfdl_forms.specs.declared.encoding.Encoding.TheVariants.{Utf8, UsAscii, Iso88591}
use Rattle.dfdl_chars.specs.Encodings.{encoded_of, encoded_text, joined}

joined_assoc : (a b c : Option (List ℕ)) → joined a (joined b c) ≡ joined (joined a b) c
joined_assoc None b c = refl
joined_assoc (Some x) None c = refl
joined_assoc (Some x) (Some y) None = refl
joined_assoc (Some x) (Some y) (Some z) = ap Some (sym (append_assoc x y z))

joined_none : (a : Option (List ℕ)) → joined a None ≡ None
joined_none None = refl
joined_none (Some x) = refl

one_char : (a : Option (List ℕ)) → joined a (Some []) ≡ joined (Some []) a
one_char None = refl
one_char (Some x) = ap Some (append-nil x)

-- a character more
text_push : (enc : Encoding) (cs : List ℕ) (c : ℕ) → encoded_text enc (cs ++ c ∷ []) ≡ joined (encoded_text enc cs) (encoded_of enc c)
text_push enc [] c = one_char (encoded_of enc c)
text_push enc (x ∷ xs) c =
    ap (joined (encoded_of enc x)) (text_push enc xs c) ∙ joined_assoc (encoded_of enc x) (encoded_text enc xs) (encoded_of enc c)

pub text_more : (enc : Encoding) (cs : List ℕ) (i c : ℕ) (old new : List ℕ) (bytes : List ℕ) → i < length cs → c ≡ get_or cs i c
    → encoded_of enc c ≡ Some bytes → joined (Some old) (encoded_text enc (take i cs)) ≡ Some new
    → joined (Some old) (encoded_text enc (take (i + 1) cs)) ≡ Some (new ++ bytes)
text_more enc cs i c old new bytes within here is so_far =
    ap (λ xs. joined (Some old) (encoded_text enc xs)) (take_more cs i c within)
    ∙ ap (joined (Some old)) (text_push enc (take i cs) (get_or cs i c))
    ∙ joined_assoc (Some old) (encoded_text enc (take i cs)) (encoded_of enc (get_or cs i c))
    ∙ ap (λ a. joined a (encoded_of enc (get_or cs i c))) so_far
    ∙ ap (λ x. joined (Some new) (encoded_of enc x)) (sym here)
    ∙ ap (joined (Some new)) is

-- a character that the encoding lacks
pub text_lacks : (enc : Encoding) (cs : List ℕ) (i c : ℕ) → i < length cs → c ≡ get_or cs i c → encoded_of enc c ≡ None
    → encoded_text enc cs ≡ None
text_lacks enc [] i c within here none = absurd (omega arith)
text_lacks enc (x ∷ xs) zero c within here none =
    ap (λ y. joined (encoded_of enc y) (encoded_text enc xs)) (sym here) ∙ ap (λ a. joined a (encoded_text enc xs)) none
text_lacks enc (x ∷ xs) (suc i) c within here none =
    ap (joined (encoded_of enc x)) (text_lacks enc xs i c (omega arith) here none) ∙ joined_none (encoded_of enc x)

-- in UTF-8 they are those of the text
pub utf8_text : (cs : List ℕ) → encoded_text Utf8 cs ≡ Some (encode_utf8_all cs)
utf8_text [] = refl
utf8_text (c ∷ cs) = ap (joined (encoded_of Utf8 c)) (utf8_text cs)

-- and where each is ASCII
pub ascii_text : (cs : List ℕ) → IsAscii cs → encoded_text UsAscii cs ≡ Some cs
ascii_text [] ascii = refl
ascii_text (c ∷ cs) ascii =
    ap (λ a. joined a (encoded_text UsAscii cs)) (cond-true _ _ _ (lt-ltb c 128 (ascii 0)))
    ∙ ap (joined (Some (c ∷ []))) (ascii_text cs (λ i. ascii (suc i)))

pub latin_text : (cs : List ℕ) → IsAscii cs → encoded_text Iso88591 cs ≡ Some cs
latin_text [] ascii = refl
latin_text (c ∷ cs) ascii =
    let small : c < 256 = omega (arith, ascii 0) in
    ap (λ a. joined a (encoded_text Iso88591 cs)) (cond-true _ _ _ (lt-ltb c 256 small))
    ∙ ap (joined (Some (c ∷ []))) (latin_text cs (λ i. ascii (suc i)))
