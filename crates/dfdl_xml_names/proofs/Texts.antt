-- Texts as characters: they are alike exactly where their bytes are.
use Rattle.std.specs.Prelude.{◌≡◌, ℕ, Bool, true, false, List, ◌++◌, ◌∷◌, [], String}
use Rattle.std.specs.Prelude.{Result, Ok, Err, IfOk, OnOk, length, ◌==◌, suc}
use Rattle.std.specs.Str.{bytes_eq, chars, IsUtf8, encode_utf8_all}
use Rattle.std.specs.String.{string_bytes}
use Rattle.dfdl_markup.specs.Values.{xml_prefix, xmlns_prefix}
use Rattle.std.proofs.Common.{refl, sym, ap, ◌∙◌, append_assoc, arith}
use Rattle.std.proofs.lemmas.Bool.Decides.{nat_tests}
use Rattle.std.proofs.lemmas.Str.{encodes-chars, chars-append, chars-nil, IsUtf8-had}
use Rattle.std.proofs.lemmas.Str.{IsUtf8-append}
use Rattle.std.proofs.lemmas.Slice.Eq.{bytes_eq-Decides}

-- the bytes of a text are UTF-8
pub is_text : {A : Type 0} (s : String A) → IsUtf8 (string_bytes s)
is_text s = IsUtf8-had (string_bytes s) s.ok

-- two tests are one, if each gives the other
pub same_test : (a b : Bool) → (a ≡ true → b ≡ true) → (b ≡ true → a ≡ true) → a ≡ b
same_test true true there back = refl
same_test false false there back = refl
same_test true false there back = sym (there refl)
same_test false true there back = back refl

-- characters are alike where bytes are
pub same_chars : (xs ys : List ℕ) → IsUtf8 xs → IsUtf8 ys → bytes_eq (chars xs) (chars ys) ≡ bytes_eq xs ys
same_chars xs ys u v =
    same_test _ _
    (λ e. (bytes_eq-Decides xs ys).1
    (sym (encodes-chars xs u) ∙ (ap encode_utf8_all ((bytes_eq-Decides (chars xs) (chars ys)).0 e) ∙ encodes-chars ys v)))
    (λ e. (bytes_eq-Decides (chars xs) (chars ys)).1 (ap chars ((bytes_eq-Decides xs ys).0 e)))

-- no bytes spell no characters
pub no_characters : chars [] ≡ []
no_characters = chars-nil

-- the words of namespaces, as characters and as bytes
xml_chars : chars xml_prefix ≡ xml_prefix
unfolding chars xml_prefix
xml_chars = refl

xmlns_chars : chars xmlns_prefix ≡ xmlns_prefix
unfolding chars xmlns_prefix
xmlns_chars = refl

xml_is_utf8 : IsUtf8 xml_prefix
unfolding xml_prefix lib.Utf8.encode
xml_is_utf8 = (xml_prefix, (refl, refl))

xmlns_is_utf8 : IsUtf8 xmlns_prefix
unfolding xmlns_prefix lib.Utf8.encode
xmlns_is_utf8 = (xmlns_prefix, (refl, refl))

pub is_xml : (xs : List ℕ) → IsUtf8 xs → bytes_eq (chars xs) xml_prefix ≡ bytes_eq xs xml_prefix
is_xml xs u = ap (bytes_eq (chars xs)) (sym xml_chars) ∙ same_chars xs xml_prefix u xml_is_utf8

pub is_xmlns : (xs : List ℕ) → IsUtf8 xs → bytes_eq (chars xs) xmlns_prefix ≡ bytes_eq xs xmlns_prefix
is_xmlns xs u = ap (bytes_eq (chars xs)) (sym xmlns_chars) ∙ same_chars xs xmlns_prefix u xmlns_is_utf8

pub colon_is_utf8 : IsUtf8 (58 ∷ [])
unfolding lib.Utf8.encode
colon_is_utf8 = (58 ∷ [], (refl, refl))

colon_chars : chars (58 ∷ []) ≡ 58 ∷ []
unfolding chars
colon_chars = refl

-- the characters of two texts with a `:` between
pub joined_chars : (xs ys : List ℕ) → IsUtf8 xs → IsUtf8 ys → chars ((xs ++ 58 ∷ []) ++ ys) ≡ chars xs ++ 58 ∷ chars ys
joined_chars xs ys u v =
    chars-append (xs ++ 58 ∷ []) ys (IsUtf8-append xs (58 ∷ []) u colon_is_utf8)
    ∙ ap (λ l. l ++ chars ys) (chars-append xs (58 ∷ []) u ∙ ap (λ l. chars xs ++ l) colon_chars)
    ∙ append_assoc (chars xs) (58 ∷ []) (chars ys)

-- what follows from facts of an answer that is Ok
pub on_ok : {T E : Type 0} {P Q : Type 0} (r : Result T E) → OnOk r P → (P → Q) → OnOk r Q
on_ok (Ok x) p f = f p
on_ok (Err e) p f = tt

pub on_both : {T E : Type 0} {P Q R : Type 0} (r : Result T E) → OnOk r P → OnOk r Q → (P → Q → R) → OnOk r R
on_both (Ok x) p q f = f p q
on_both (Err e) p q f = tt

pub if_ok : {T E : Type 0} {P Q : T → Type 0} (r : Result T E) → IfOk r P → ((x : T) → P x → Q x) → IfOk r Q
if_ok (Ok x) p f = f x p
if_ok (Err e) p f = tt

pub not_none : (n : ℕ) → (suc n == 0) ≡ false
not_none n = grind (arith, nat_tests)

pub none_there : {A : Type 0} (xs : List A) → (length xs == 0) ≡ true → xs ≡ []
none_there [] is = refl
none_there (x ∷ xs) is = let apart = not_none (length xs) in absurd (cc)

-- a text has a character exactly where it has a byte
pub none_alike : (xs : List ℕ) → IsUtf8 xs → (length xs == 0) ≡ (length (chars xs) == 0)
none_alike [] u = ap (λ l. length l == 0) (sym chars-nil)
none_alike (x ∷ xs) u = some (chars (x ∷ xs)) (λ e. cons≢nil (sym (encodes-chars (x ∷ xs) u) ∙ ap encode_utf8_all e))
  where
    cons≢nil : x ∷ xs ≡ [] → ⊥
    cons≢nil e = absurd (cc)

    some : (cs : List ℕ) → (cs ≡ [] → ⊥) → (length (x ∷ xs) == 0) ≡ (length cs == 0)
    some [] h = absurd (h refl)
    some (c ∷ cs) h = not_none (length xs) ∙ sym (not_none (length cs))
