-- Texts of characters behind their first byte.
use Rattle.std.proofs.Common.{◌≡◌, ℕ, zero, suc, ◌≤◌, List, [], ◌∷◌, length, Option, Some, None, Bool, true, false, cond, ◌&&◌, ◌||◌, ◌==◌, if◌then◌else◌, nat_lt, refl, sym, ap, subst, ◌∙◌, arith, encode_utf8, flat_map}
use Rattle.std.proofs.lemmas.List.{append-nil}
use Rattle.std.proofs.lemmas.Str.{length-encode, len_utf8_bounds}
use Rattle.dfdl_forms.specs.declared.order.ByteOrder.{ByteOrder}
use Rattle.dfdl_forms.specs.declared.order.ByteOrder.TheVariants.{Big, Little}
use Rattle.dfdl_forms.specs.declared.encoding.Encoding.{Encoding}
use Rattle.dfdl_forms.specs.declared.encoding.Encoding.TheVariants.{Utf8, UsAscii, Iso88591, Utf16Be, Utf16Le}
use Rattle.dfdl_chars.specs.Encodings.{encoded_of, encoded_text, joined, unit_bytes_of}
use Rattle.dfdl_literal_texts.specs.Texts.{after_any, after_bytes, after_encoded, after_most, after_one, one_each}
use Rattle.dfdl_delims.specs.declared.left.Left.{Left}
use Rattle.dfdl_delims.specs.declared.left.Left.TheVariants.{Done, One, Two, Three}
use Rattle.dfdl_delims.specs.Candidates.{after_left, left_behind, left_bytes, left_of}

-- a text, if there is one, has from one to four bytes
abbrev pub HasBytes : Option (List ℕ) → Type 0
HasBytes o = (text : List ℕ) → o ≡ Some text → (1 ≤ length text) × (length text ≤ 4)

some_same : (xs ys : List ℕ) → Some xs ≡ Some ys → xs ≡ ys
some_same xs ys is = cc

pub has_bytes : (xs : List ℕ) → 1 ≤ length xs → length xs ≤ 4 → HasBytes (Some xs)
has_bytes xs least most = λ text is. (
  subst (λ l. 1 ≤ length l) (some_same xs text is) least,
  subst (λ l. length l ≤ 4) (some_same xs text is) most,
)

units_bytes : (order : ByteOrder) (t : Bool) (a b c : ℕ) → HasBytes (Some (flat_map (unit_bytes_of order) (cond t (a ∷ []) (b ∷ c ∷ []))))
units_bytes Big true a b c = has_bytes _ (omega arith) (omega arith)
units_bytes Big false a b c = has_bytes _ (omega arith) (omega arith)
units_bytes Little true a b c = has_bytes _ (omega arith) (omega arith)
units_bytes Little false a b c = has_bytes _ (omega arith) (omega arith)

narrow_bytes : (t : Bool) (c : ℕ) → HasBytes (cond t (Some (c ∷ [])) None)
narrow_bytes true c = has_bytes (c ∷ []) (omega arith) (omega arith)
narrow_bytes false c = λ text is. (let no_it : ⊥ = cc in absurd no_it)

utf8_bytes : (c : ℕ) → HasBytes (Some (encode_utf8 c))
utf8_bytes c =
    let is = length-encode c in
    let bounds = len_utf8_bounds c in
    has_bytes (encode_utf8 c) (omega (arith, is, bounds.0)) (omega (arith, is, bounds.1))

pub char_bytes : (encoding : Encoding) (c : ℕ) → HasBytes (encoded_of encoding c)
char_bytes Utf8 c = utf8_bytes c
char_bytes UsAscii c = narrow_bytes (nat_lt c 128) c
char_bytes Iso88591 c = narrow_bytes (nat_lt c 256) c
char_bytes Utf16Be c = units_bytes Big (nat_lt c 0x10000) _ _ _
char_bytes Utf16Le c = units_bytes Little (nat_lt c 0x10000) _ _ _

one_bytes : (o : Option (List ℕ)) → HasBytes o → HasBytes (joined o (Some []))
one_bytes None has = has
one_bytes (Some xs) has = subst (λ l. HasBytes (Some l)) (sym (append-nil xs)) has

pub text_bytes : (encoding : Encoding) (c : ℕ) → HasBytes (encoded_text encoding (c ∷ []))
text_bytes encoding c = one_bytes (encoded_of encoding c) (char_bytes encoding c)

pub pair_bytes : (encoding : Encoding) → HasBytes (encoded_text encoding (0xD ∷ 0xA ∷ []))
unfolding lib.Utf8.encode
pair_bytes Utf8 = has_bytes (0xD ∷ 0xA ∷ []) (omega arith) (omega arith)
pair_bytes UsAscii = has_bytes (0xD ∷ 0xA ∷ []) (omega arith) (omega arith)
pair_bytes Iso88591 = has_bytes (0xD ∷ 0xA ∷ []) (omega arith) (omega arith)
pair_bytes Utf16Be = has_bytes (0 ∷ 0xD ∷ 0 ∷ 0xA ∷ []) (omega arith) (omega arith)
pair_bytes Utf16Le = has_bytes (0xD ∷ 0 ∷ 0xA ∷ 0 ∷ []) (omega arith) (omega arith)

pub left_has : (left : Left) → (left ≡ Done → ⊥) → HasBytes (Some (left_bytes left))
left_has Done some = absurd (some refl)
left_has (One a) some = has_bytes (a ∷ []) (omega arith) (omega arith)
left_has (Two a b) some = has_bytes (a ∷ b ∷ []) (omega arith) (omega arith)
left_has (Three a b c) some = has_bytes (a ∷ b ∷ c ∷ []) (omega arith) (omega arith)

-- what is left of a text behind its first byte

of_text : (t : Bool) (text : List ℕ) (go : List ℕ → Bool) (rest : List ℕ) → length text ≤ 3
    → (t && after_bytes text go rest) ≡ after_left (if t then left_of text else None) go rest
of_text false text go rest few = refl
of_text true [] go rest few = refl
of_text true (a ∷ []) go rest few = refl
of_text true (a ∷ b ∷ []) go rest few = refl
of_text true (a ∷ b ∷ c ∷ []) go rest few = refl
of_text true (a ∷ b ∷ c ∷ d ∷ text) go rest few = absurd (omega (arith, few))

pub after_first : (o : Option (List ℕ)) → HasBytes o → (go : List ℕ → Bool) (byte : ℕ) (rest : List ℕ)
    → after_encoded o go (byte ∷ rest) ≡ after_left (left_behind o byte) go rest
after_first None has go byte rest = refl
after_first (Some []) has go byte rest = let is = (has [] refl).0 in absurd (omega (arith, is))
after_first (Some (a ∷ text)) has go byte rest = let is = (has (a ∷ text) refl).1 in of_text (a == byte) text go rest (omega (arith, is))

pub one_text : (o : Option (List ℕ)) (go : List ℕ → Bool) (bytes : List ℕ) → after_encoded (joined o (Some [])) go bytes ≡ after_encoded o go bytes
one_text None go bytes = refl
one_text (Some xs) go bytes = ap (λ l. after_bytes l go bytes) (append-nil xs)

-- texts of characters before two rests that agree on shorter bytes

same_after : (front : List ℕ) (go others : List ℕ → Bool) (bytes : List ℕ) → ((l : List ℕ) → length l ≤ length bytes → go l ≡ others l)
    → after_bytes front go bytes ≡ after_bytes front others bytes
same_after [] go others bytes same = same bytes (omega arith)
same_after (a ∷ front) go others [] same = refl
same_after (a ∷ front) go others (b ∷ bytes) same =
    ap (λ t. (a == b) && t) (same_after front go others bytes (λ l less. same l (omega (arith, less))))

same_encoded : (o : Option (List ℕ)) → HasBytes o → (go others : List ℕ → Bool) (byte : ℕ) (rest : List ℕ)
    → ((l : List ℕ) → length l ≤ length rest → go l ≡ others l) → after_encoded o go (byte ∷ rest) ≡ after_encoded o others (byte ∷ rest)
same_encoded None has go others byte rest same = refl
same_encoded (Some []) has go others byte rest same = let is = (has [] refl).0 in absurd (omega (arith, is))
same_encoded (Some (a ∷ text)) has go others byte rest same = ap (λ t. (a == byte) && t) (same_after text go others rest same)

same_one : (encoding : Encoding) (characters : List ℕ) (go others : List ℕ → Bool) (byte : ℕ) (rest : List ℕ)
    → ((l : List ℕ) → length l ≤ length rest → go l ≡ others l)
    → after_one encoding (one_each characters) go (byte ∷ rest) ≡ after_one encoding (one_each characters) others (byte ∷ rest)
unfolding after_one
same_one encoding [] go others byte rest same = refl
same_one encoding (c ∷ characters) go others byte rest same =
    ap (λ t. t || after_one encoding (one_each characters) go (byte ∷ rest))
    (same_encoded (encoded_text encoding (c ∷ [])) (text_bytes encoding c) go others byte rest same)
    ∙ ap (λ t. after_encoded (encoded_text encoding (c ∷ [])) others (byte ∷ rest) || t) (same_one encoding characters go others byte rest same)

no_encoded : (o : Option (List ℕ)) → HasBytes o → (go : List ℕ → Bool) → after_encoded o go [] ≡ false
no_encoded None has go = refl
no_encoded (Some []) has go = let is = (has [] refl).0 in absurd (omega (arith, is))
no_encoded (Some (a ∷ text)) has go = refl

pub no_one : (encoding : Encoding) (characters : List ℕ) (go : List ℕ → Bool) → after_one encoding (one_each characters) go [] ≡ false
unfolding after_one
no_one encoding [] go = refl
no_one encoding (c ∷ characters) go =
    ap (λ t. t || after_one encoding (one_each characters) go []) (no_encoded (encoded_text encoding (c ∷ [])) (text_bytes encoding c) go)
    ∙ no_one encoding characters go

pub no_pair : (encoding : Encoding) (go : List ℕ → Bool) → after_encoded (encoded_text encoding (0xD ∷ 0xA ∷ [])) go [] ≡ false
no_pair encoding go = no_encoded (encoded_text encoding (0xD ∷ 0xA ∷ [])) (pair_bytes encoding) go

or_none : (a b : Bool) → b ≡ false → (a || b) ≡ a
or_none true b is = refl
or_none false b is = is

most_same : (encoding : Encoding) (characters : List ℕ) (go : List ℕ → Bool) (m k : ℕ) (bytes : List ℕ) → length bytes ≤ m → length bytes ≤ k
    → after_most encoding (one_each characters) m go bytes ≡ after_most encoding (one_each characters) k go bytes
unfolding after_most
most_same encoding characters go zero zero bytes first second = refl
most_same encoding characters go zero (suc k) [] first second = sym (or_none (go []) _ (no_one encoding characters _))
most_same encoding characters go zero (suc k) (b ∷ bytes) first second = absurd (omega (arith, first))
most_same encoding characters go (suc m) zero [] first second = or_none (go []) _ (no_one encoding characters _)
most_same encoding characters go (suc m) zero (b ∷ bytes) first second = absurd (omega (arith, second))
most_same encoding characters go (suc m) (suc k) [] first second =
    or_none (go []) _ (no_one encoding characters _) ∙ sym (or_none (go []) _ (no_one encoding characters _))
most_same encoding characters go (suc m) (suc k) (b ∷ bytes) first second =
    ap (λ t. go (b ∷ bytes) || t)
    (same_one encoding characters (after_most encoding (one_each characters) m go) (after_most encoding (one_each characters) k go) b bytes
    (λ l less. most_same encoding characters go m k l (omega (arith, first, less)) (omega (arith, second, less))))

-- none of them, or one and then any number
pub any_first : (encoding : Encoding) (characters : List ℕ) (go : List ℕ → Bool) (byte : ℕ) (rest : List ℕ)
    → after_any encoding (one_each characters) go (byte ∷ rest)
    ≡ (go (byte ∷ rest) || after_one encoding (one_each characters) (after_any encoding (one_each characters) go) (byte ∷ rest))
unfolding after_most
any_first encoding characters go byte rest =
    ap (λ t. go (byte ∷ rest) || t)
    (same_one encoding characters (after_most encoding (one_each characters) (length rest) go) (after_any encoding (one_each characters) go) byte rest
    (λ l less. most_same encoding characters go (length rest) (length l) l less (omega arith)))
