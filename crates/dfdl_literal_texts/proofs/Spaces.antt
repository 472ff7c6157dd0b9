-- Any number of characters one after the other.
use Rattle.std.proofs.Common.{◌≡◌, ℕ, zero, suc, ◌+◌, ◌-◌, ◌<◌, ◌≤◌, List, [], ◌∷◌, length, set, get_or, take, drop, Option, Some, None, Bool, true, false, cond, ◌||◌, nat_lt, refl, sym, ap, subst, ◌∙◌, arith, eqb, encode_utf8, flat_map}
use Rattle.std.proofs.lemmas.Bool.{and_parts}
use Rattle.std.proofs.lemmas.List.{drop-drop, length-drop, take_rest}
use Rattle.std.proofs.lemmas.Str.{length-encode, len_utf8_bounds}
use Rattle.std.specs.List.{starts_with}
use Rattle.dfdl_forms.specs.declared.order.ByteOrder.{ByteOrder}
use Rattle.dfdl_forms.specs.declared.order.ByteOrder.TheVariants.{Big, Little}
use Rattle.dfdl_forms.specs.declared.encoding.Encoding.{Encoding}
use Rattle.dfdl_forms.specs.declared.encoding.Encoding.TheVariants.{Utf8, UsAscii, Iso88591, Utf16Be, Utf16Le}
use Rattle.dfdl_forms.specs.declared.literals.Piece.TheVariants.{MaybeSpaces}
use Rattle.dfdl_chars.specs.Encodings.{encoded_of, encoded_text, unit_bytes_of}
use Rattle.dfdl_literal_texts.specs.Texts.{after_any, after_most, after_one, one_each, spaces, white_space}
use Rattle.dfdl_literal_texts.specs.Places.{at_front, front_of, piece_front, rest_at, some_front, some_marked, split}
use Rattle.dfdl_literal_texts.proofs.Marks.{or_assoc, split_behind, split_kept, split_stays}
use Rattle.dfdl_literal_texts.proofs.Ends.{after_some, cond_some, one_front}

-- a character has bytes

units_some : (order : ByteOrder) (t : Bool) (a b c : ℕ) → 1 ≤ length (flat_map (unit_bytes_of order) (cond t (a ∷ []) (b ∷ c ∷ [])))
units_some Big true a b c = omega arith
units_some Big false a b c = omega arith
units_some Little true a b c = omega arith
units_some Little false a b c = omega arith

some_same : (xs ys : List ℕ) → Some xs ≡ Some ys → xs ≡ ys
some_same xs ys is = cc

narrow_some : (t : Bool) (c : ℕ) (xs : List ℕ) → cond t (Some (c ∷ [])) None ≡ Some xs → 1 ≤ length xs
narrow_some true c xs is = subst (λ l. 1 ≤ length l) (some_same (c ∷ []) xs is) (omega arith)
narrow_some false c xs is = let no_it : ⊥ = cc in absurd no_it

utf8_some : (c : ℕ) → 1 ≤ length (encode_utf8 c)
utf8_some c = let is = length-encode c in let bounds = len_utf8_bounds c in omega (arith, is, bounds.0)

encoded_some : (encoding : Encoding) (c : ℕ) (xs : List ℕ) → encoded_of encoding c ≡ Some xs → 1 ≤ length xs
encoded_some Utf8 c xs is = subst (λ l. 1 ≤ length l) (some_same _ xs is) (utf8_some c)
encoded_some UsAscii c xs is = narrow_some (nat_lt c 128) c xs is
encoded_some Iso88591 c xs is = narrow_some (nat_lt c 256) c xs is
encoded_some Utf16Be c xs is = subst (λ l. 1 ≤ length l) (some_same _ xs is) (units_some Big (nat_lt c 0x10000) _ _ _)
encoded_some Utf16Le c xs is = subst (λ l. 1 ≤ length l) (some_same _ xs is) (units_some Little (nat_lt c 0x10000) _ _ _)

begins_within : (xs bytes : List ℕ) → starts_with eqb bytes xs ≡ true → length xs ≤ length bytes
begins_within [] bytes is = omega arith
begins_within (x ∷ xs) [] is = let no_it : ⊥ = cc in absurd no_it
begins_within (x ∷ xs) (b ∷ bytes) is =
    let within = begins_within xs bytes (and_parts (eqb x b) (starts_with eqb bytes xs) is).1 in
    omega (arith, within)

-- where a character at the front ends
pub front_bounds : (encoding : Encoding) (c : ℕ) (bytes : List ℕ) (n : ℕ) → front_of (encoded_of encoding c) bytes ≡ Some n → (1 ≤ n) × (n ≤ length bytes)
front_bounds encoding c bytes n is = by (encoded_of encoding c) refl is
  where
    by : (o : Option (List ℕ)) → encoded_of encoding c ≡ o → front_of o bytes ≡ Some n → (1 ≤ n) × (n ≤ length bytes)
    by None it some = let no_it : ⊥ = cc in absurd no_it
    by (Some xs) it some =
        let ends = cond_some (starts_with eqb bytes xs) (length xs) n (sym some) in
        let least = encoded_some encoding c xs it in
        let most = begins_within xs bytes ends.0 in
        (omega (arith, ends.1, least), omega (arith, ends.1, most))

at_same : (o : Option ℕ) (first second : ℕ → Bool) → ((n : ℕ) → o ≡ Some n → first n ≡ second n) → at_front o first ≡ at_front o second
at_same None first second same = refl
at_same (Some n) first second same = same n refl

-- tests that are the same where a character can end
pub each_same : (encoding : Encoding) (characters bytes : List ℕ) (first second : ℕ → Bool)
    → ((n : ℕ) → 1 ≤ n → n ≤ length bytes → first n ≡ second n)
    → some_front encoding (one_each characters) bytes first ≡ some_front encoding (one_each characters) bytes second
each_same encoding [] bytes first second same = refl
each_same encoding (c ∷ characters) bytes first second same =
    ap (λ b. b || some_front encoding (one_each characters) bytes first)
    (at_same (front_of (encoded_text encoding (c ∷ [])) bytes) first second
    (λ n is.
    (let bounds = front_bounds encoding c bytes n (sym (one_front (encoded_of encoding c) bytes) ∙ is) in
    same n bounds.0 bounds.1)))
    ∙ ap (λ b. at_front (front_of (encoded_text encoding (c ∷ [])) bytes) second || b) (each_same encoding characters bytes first second same)

none_front : (encoding : Encoding) (texts : List (List ℕ)) (bytes : List ℕ) → some_front encoding texts bytes (λ n. false) ≡ false
none_front encoding [] bytes = refl
none_front encoding (text ∷ texts) bytes = ap (λ b. b || some_front encoding texts bytes (λ n. false)) (none (front_of (encoded_text encoding text) bytes)) ∙ none_front encoding texts bytes
  where
    none : (o : Option ℕ) → at_front o (λ n. false) ≡ false
    none None = refl
    none (Some n) = refl

or_false : (b : Bool) → (b || false) ≡ b
or_false true = refl
or_false false = refl

-- behind the end of the bytes stands no character
none_past : (encoding : Encoding) (characters bytes : List ℕ) (go : List ℕ → Bool) → length bytes ≤ 0 → after_one encoding (one_each characters) go bytes ≡ false
none_past encoding characters bytes go past =
    after_some encoding (one_each characters) bytes go
    ∙ each_same encoding characters bytes (λ n. go (drop n bytes)) (λ n. false) (λ n least most. absurd (omega (arith, least, most, past)))
    ∙ none_front encoding (one_each characters) bytes

-- how many there may be at most doesn't matter, if the bytes are no more
most_same : (encoding : Encoding) (characters : List ℕ) (go : List ℕ → Bool) (m k : ℕ) (bytes : List ℕ) → length bytes ≤ m → length bytes ≤ k
    → after_most encoding (one_each characters) m go bytes ≡ after_most encoding (one_each characters) k go bytes
unfolding after_most
most_same encoding characters go zero zero bytes first second = refl
most_same encoding characters go zero (suc k) bytes first second =
    sym (ap (λ b. go bytes || b) (none_past encoding characters bytes (after_most encoding (one_each characters) k go) first) ∙ or_false (go bytes))
most_same encoding characters go (suc m) zero bytes first second =
    ap (λ b. go bytes || b) (none_past encoding characters bytes (after_most encoding (one_each characters) m go) second) ∙ or_false (go bytes)
most_same encoding characters go (suc m) (suc k) bytes first second =
    ap (λ b. go bytes || b)
    (after_some encoding (one_each characters) bytes (after_most encoding (one_each characters) m go)
    ∙ each_same encoding characters bytes (λ n. after_most encoding (one_each characters) m go (drop n bytes)) (λ n. after_most encoding (one_each characters) k go (drop n bytes))
    (λ n least most.
    (let less = length-drop n bytes in
    most_same encoding characters go m k (drop n bytes) (omega (arith, less, least, most, first)) (omega (arith, less, least, most, second))))
    ∙ sym (after_some encoding (one_each characters) bytes (after_most encoding (one_each characters) k go)))

-- none, or one and any number
pub any_step : (encoding : Encoding) (characters : List ℕ) (go : List ℕ → Bool) (bytes : List ℕ)
    → after_any encoding (one_each characters) go bytes
    ≡ (go bytes || some_front encoding (one_each characters) bytes (λ n. after_any encoding (one_each characters) go (drop n bytes)))
unfolding after_most
any_step encoding characters go bytes =
    most_same encoding characters go (length bytes) (suc (length bytes)) bytes (omega arith) (omega arith)
    ∙ ap (λ b. go bytes || b)
    (after_some encoding (one_each characters) bytes (after_most encoding (one_each characters) (length bytes) go)
    ∙ each_same encoding characters bytes (λ n. after_most encoding (one_each characters) (length bytes) go (drop n bytes))
    (λ n. after_any encoding (one_each characters) go (drop n bytes))
    (λ n least most.
    (let less = length-drop n bytes in
    most_same encoding characters go (length bytes) (length (drop n bytes)) (drop n bytes) (omega (arith, less, least, most)) (omega arith))))

or_last : (all some none here there more other : Bool) → all ≡ (some || other) → some ≡ (none || here) → there ≡ (here || more) → other ≡ more
    → all ≡ (none || there)
or_last all some none here there more other is last step same = rw (is, last, step, same) (sym (or_assoc none here more))

-- a mark is spread
pub spread_marked : (encoding : Encoding) (is_rest : List ℕ → Bool) (bytes : List ℕ) (places new : List Bool) (at : ℕ)
    → at < length places → get_or places at false ≡ true
    → ((passes : ℕ → Bool) → some_marked new passes
    ≡ (some_marked places passes || piece_front encoding false MaybeSpaces (take (length bytes - at) (drop at bytes)) (λ n. passes (at + n))))
    → some_marked new (split (at + 1) (rest_at is_rest bytes) (rest_at (after_any encoding spaces is_rest) bytes))
    ≡ some_marked places (split at (rest_at is_rest bytes) (rest_at (after_any encoding spaces is_rest) bytes))
unfolding piece_front rest_at spaces
spread_marked encoding is_rest bytes places new at within marked moved =
    let first : ℕ → Bool = rest_at is_rest bytes in
    let second : ℕ → Bool = rest_at (after_any encoding spaces is_rest) bytes in
    let texts : List (List ℕ) = one_each white_space in
    or_last (some_marked new (split (at + 1) first second)) (some_marked places (split (at + 1) first second))
    (some_marked (set places at false) (split (at + 1) first second)) (first at) (second at)
    (some_front encoding texts (drop at bytes) (λ n. after_any encoding texts is_rest (drop n (drop at bytes))))
    (some_front encoding texts (drop at bytes) (λ n. split (at + 1) first second (at + n)))
    (moved (split (at + 1) first second)
    ∙ ap (λ l. some_marked places (split (at + 1) first second) || some_front encoding texts l (λ n. split (at + 1) first second (at + n))) (take_rest bytes at))
    (split_stays places at first second within marked)
    (any_step encoding white_space is_rest (drop at bytes))
    (each_same encoding white_space (drop at bytes) (λ n. split (at + 1) first second (at + n)) (λ n. after_any encoding texts is_rest (drop n (drop at bytes)))
    (λ n least most. split_behind (at + 1) first second (at + n) (omega (arith, least)) ∙ ap (after_any encoding texts is_rest) (sym (drop-drop n at bytes))))
    ∙ sym (split_kept places at first second within marked)
