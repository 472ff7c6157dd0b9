-- How many bytes characters have that fit in so many bits.
use Rattle.std.proofs.Common.{◌≡◌, ℕ, zero, suc, ◌+◌, ◌-◌, ◌*◌, ◌<◌, ◌≤◌, List, [], ◌∷◌, ◌++◌, length, take, drop, reverse, Option, Some, None, refl, sym, ap, ◌∙◌, subst, arith, inl, inr}
use Rattle.std.proofs.lemmas.Bool.{cases_lt, cond-true, cond-false, le-leb, lt-leb}
use Rattle.std.proofs.lemmas.List.{length-append, length-drop, length-reverse, reverse-append, take-append-drop, take_all, take_at}
use Rattle.dfdl_chars.specs.Encodings.{count_of, encoded_of, encoded_text, joined, width_in}
use Rattle.dfdl_forms.specs.declared.encoding.Encoding.{Encoding}
use Rattle.dfdl_forms.specs.declared.text.Justify.{Justify}
use Rattle.dfdl_forms.specs.declared.text.Justify.TheVariants.{Left, Right, Center}
use Rattle.dfdl_writings.specs.Cuts.{cut_to, from_side, front_count}

-- how many bytes characters have together
abbrev pub text_size : Encoding → List ℕ → ℕ
text_size encoding [] = 0
text_size encoding (c ∷ cs) = width_in encoding c + text_size encoding cs

size_append : (encoding : Encoding) (xs ys : List ℕ) → text_size encoding (xs ++ ys) ≡ text_size encoding xs + text_size encoding ys
size_append encoding [] ys = omega arith
size_append encoding (x ∷ xs) ys = omega (arith, size_append encoding xs ys)

size_reverse : (encoding : Encoding) (xs : List ℕ) → text_size encoding (reverse xs) ≡ text_size encoding xs
size_reverse encoding [] = refl
size_reverse encoding (x ∷ xs) =
    let turned = ap (text_size encoding) (reverse-append (x ∷ []) xs) ∙ size_append encoding (reverse xs) (x ∷ []) in
    omega (arith, turned, size_reverse encoding xs)

no_bytes : (bytes : List ℕ) → ◌≡◌ {A = Option (List ℕ)} None (Some bytes) → ⊥
no_bytes bytes is = cc

-- the bytes of both
parts : (a b : Option (List ℕ)) (bytes : List ℕ) → joined a b ≡ Some bytes
    → (ys : List ℕ) × (b ≡ Some ys) × (length bytes ≡ count_of a + length ys)
parts None b bytes is = absurd (no_bytes bytes is)
parts (Some xs) None bytes is = absurd (no_bytes bytes is)
parts (Some xs) (Some ys) bytes is =
    (ys, refl, sym (ap count_of is) ∙ length-append xs ys)

pub encoded_size : (encoding : Encoding) (cs bytes : List ℕ) → encoded_text encoding cs ≡ Some bytes → length bytes ≡ text_size encoding cs
encoded_size encoding [] bytes is = sym (ap count_of is)
encoded_size encoding (c ∷ cs) bytes is =
    let both = parts (encoded_of encoding c) (encoded_text encoding cs) bytes is in
    omega (arith, both.2, encoded_size encoding cs both.0 both.1)

more_fit : (encoding : Encoding) (bits c : ℕ) (cs : List ℕ) → 8 * width_in encoding c ≤ bits
    → front_count encoding bits (c ∷ cs) ≡ suc (front_count encoding (bits - 8 * width_in encoding c) cs)
unfolding front_count
more_fit encoding bits c cs fits = cond-true _ _ _ (le-leb _ _ fits)

none_fits : (encoding : Encoding) (bits c : ℕ) (cs : List ℕ) → bits < 8 * width_in encoding c → front_count encoding bits (c ∷ cs) ≡ 0
unfolding front_count
none_fits encoding bits c cs wide = cond-false _ _ _ (lt-leb _ _ wide)

-- no more characters than fit
front_fits : (encoding : Encoding) (k bits : ℕ) (cs : List ℕ) → k ≤ front_count encoding bits cs → 8 * text_size encoding (take k cs) ≤ bits
front_fits encoding zero bits cs few = omega arith
front_fits encoding (suc k) bits [] few = omega arith
front_fits encoding (suc k) bits (c ∷ cs) few = elim (cases_lt bits (8 * width_in encoding c)) [
  | inl wide ↦ absurd (omega (arith, few, none_fits encoding bits c cs wide))
  | inr fits ↦ omega (arith, fits, front_fits encoding k (bits - 8 * width_in encoding c) cs (omega (arith, few, more_fit encoding bits c cs fits)))
]

-- the last characters are the first ones of the reversed text
last_ones : (k : ℕ) (cs : List ℕ) → k ≤ length cs → take k (reverse cs) ≡ reverse (drop (length cs - k) cs)
last_ones k cs few =
    let front : List ℕ = take (length cs - k) cs in
    let back : List ℕ = drop (length cs - k) cs in
    let split : reverse cs ≡ reverse back ++ reverse front = ap reverse (sym (take-append-drop (length cs - k) cs)) ∙ reverse-append front back in
    let size : length (reverse back) ≡ k = omega (arith, few, length-reverse back, length-drop (length cs - k) cs) in
    ap (take k) split ∙ take_at (reverse back) (reverse front) k size

-- so many characters that are kept have no more bits than they fit in
pub cut_fits : (encoding : Encoding) (justify : Justify) (k bits : ℕ) (cs : List ℕ) → k ≤ length cs
    → k ≤ front_count encoding bits (from_side justify cs) → 8 * text_size encoding (cut_to justify k cs) ≤ bits
cut_fits encoding Left k bits cs few fits = front_fits encoding k bits cs fits
cut_fits encoding Center k bits cs few fits = front_fits encoding k bits cs fits
cut_fits encoding Right k bits cs few fits =
    let back : List ℕ = drop (length cs - k) cs in
    let all : take k back ≡ back = take_all k back (omega (arith, few, length-drop (length cs - k) cs)) in
    let same = ap (text_size encoding) (last_ones k cs few) ∙ size_reverse encoding back in
    omega (arith, front_fits encoding k bits (reverse cs) fits, same, ap (text_size encoding) all)

-- all of them
pub all_fit : (encoding : Encoding) (justify : Justify) (bits : ℕ) (cs : List ℕ)
    → length cs ≤ front_count encoding bits (from_side justify cs) → 8 * text_size encoding cs ≤ bits
all_fit encoding Left bits cs fits =
    subst (λ xs. 8 * text_size encoding xs ≤ bits) (take_all (length cs) cs (omega arith)) (front_fits encoding (length cs) bits cs fits)
all_fit encoding Center bits cs fits =
    subst (λ xs. 8 * text_size encoding xs ≤ bits) (take_all (length cs) cs (omega arith)) (front_fits encoding (length cs) bits cs fits)
all_fit encoding Right bits cs fits =
    let all : take (length cs) (reverse cs) ≡ reverse cs = take_all (length cs) (reverse cs) (omega (arith, length-reverse cs)) in
    omega (arith, front_fits encoding (length cs) bits (reverse cs) fits, ap (text_size encoding) all, size_reverse encoding cs)
