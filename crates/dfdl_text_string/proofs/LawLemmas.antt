-- What is written is read back, and what is padded is trimmed again.
use Rattle.std.proofs.Common.{◌≡◌, ℕ, zero, suc, ◌-◌, ◌<◌, Bool, true, false, ◌&&◌, ◌==◌, nat_lt, if◌then◌else◌, ◌⊎◌, inl, inr, List, [], ◌∷◌, ◌++◌, length, replicate, Option, Some, None, refl, sym, ap, ◌∙◌, arith}
use Rattle.std.proofs.lemmas.Bool.{and_from, or_left, eq-eqb, ne_eqb, lt-ltb}
use Rattle.std.specs.List.{list_all}
use Rattle.std.proofs.lemmas.List.Folds.{list_all-append}
use Rattle.dfdl_text_string.proofs.PaddingLemmas.{none_leading, none_trailing}
use Rattle.std.proofs.lemmas.List.{append-nil, length-append}
use Rattle.dfdl_forms.specs.declared.text.Justify.{Justify}
use Rattle.dfdl_forms.specs.declared.text.Justify.TheVariants.{Left, Right, Center}
use Rattle.dfdl_forms.specs.declared.text.PadForm.{PadForm}
use Rattle.dfdl_forms.specs.declared.text.TruthForm.{TruthForm}
use Rattle.dfdl_text_string.specs.Truths.{is_same, is_same_text, is_among, truth_of, first_text, written_truth}
use Rattle.dfdl_text_string.specs.Padding.{IsBare, Survives, bare, keeps_one, begins_with, ends_with, last_is, front_trimmed, end_trimmed, is_trim, missing_before, surrounded, padded, trimmed}
use Rattle.dfdl_lemmas.specs.Trimmed.{before_rest, without_leading, without_trailing}

same_as_itself : (fold : Bool) (c : ℕ) → is_same fold c c ≡ true
same_as_itself true c = eq-eqb _ _ refl
same_as_itself false c = eq-eqb c c refl

text_matches : (fold : Bool) (text : List ℕ) → is_same_text fold text text ≡ true
text_matches fold [] = refl
text_matches fold (c ∷ text) = and_from (is_same fold c c) (is_same_text fold text text) (same_as_itself fold c) (text_matches fold text)

first_matches : (fold : Bool) (texts : List (List ℕ)) → 0 < length texts → is_among fold texts (first_text texts) ≡ true
first_matches fold [] some = absurd (omega (arith, some))
first_matches fold (text ∷ texts) some = or_left _ _ (text_matches fold text)

decide : Bool → Bool → Option Bool
decide truth falsity = if truth then Some true else if falsity then Some false else None

pub true_read_back : (form : TruthForm) → 0 < length form.truths → truth_of form (written_truth form true) ≡ Some true
unfolding decide
true_read_back form some =
    let text = written_truth form true in
    ap (λ b. decide b (is_among form.fold form.falses text)) (first_matches form.fold form.truths some)

pub false_read_back : (form : TruthForm) → 0 < length form.falses → is_among form.fold form.truths (written_truth form false) ≡ false → truth_of form (written_truth form false) ≡ Some false
unfolding decide
false_read_back form some other =
    let text = written_truth form false in
    ap (λ b. decide b (is_among form.fold form.falses text)) other ∙ ap (λ b. decide false b) (first_matches form.fold form.falses some)

leading_dropped : (p : ℕ → Bool) (pad n : ℕ) (text : List ℕ) → p pad ≡ true → without_leading p (replicate n pad ++ text) ≡ without_leading p text
leading_dropped p pad zero text is = refl
leading_dropped p pad (suc n) text is = ap (λ b. if b then without_leading p (replicate n pad ++ text) else pad ∷ (replicate n pad ++ text)) is ∙ leading_dropped p pad n text is

trailing_all : (p : ℕ → Bool) (pad n : ℕ) → p pad ≡ true → without_trailing p (replicate n pad) ≡ []
trailing_all p pad zero is = refl
trailing_all p pad (suc n) is = ap (before_rest p pad) (trailing_all p pad n is) ∙ ap (λ b. if b then [] else pad ∷ []) is

trailing_dropped : (p : ℕ → Bool) (pad n : ℕ) (text : List ℕ) → p pad ≡ true → without_trailing p (text ++ replicate n pad) ≡ without_trailing p text
trailing_dropped p pad n [] is = trailing_all p pad n is
trailing_dropped p pad n (c ∷ text) is = ap (before_rest p c) (trailing_dropped p pad n text is)

leading_none : (pad : ℕ) (text : List ℕ) → begins_with pad text ≡ false → without_leading (is_trim (Some pad)) text ≡ text
leading_none pad [] other = refl
leading_none pad (c ∷ text) other = ap (λ b. if b then without_leading (is_trim (Some pad)) text else c ∷ text) other

trailing_none_behind : (pad c : ℕ) (text : List ℕ) → last_is pad c text ≡ false → without_trailing (is_trim (Some pad)) (c ∷ text) ≡ c ∷ text
trailing_none_behind pad c [] other = ap (λ b. if b then [] else c ∷ []) other
trailing_none_behind pad c (d ∷ text) other = ap (before_rest (is_trim (Some pad)) c) (trailing_none_behind pad d text other)

trailing_none : (pad : ℕ) (text : List ℕ) → ends_with pad text ≡ false → without_trailing (is_trim (Some pad)) text ≡ text
trailing_none pad [] other = refl
trailing_none pad (c ∷ text) other = trailing_none_behind pad c text other

pad_is_trim : (pad : ℕ) → is_trim (Some pad) pad ≡ true
pad_is_trim pad = eq-eqb pad pad refl

-- a text in the center, without the pad characters before it
center_front : (pad : ℕ) (text : List ℕ) (n : ℕ) → begins_with pad text ≡ false → without_trailing (is_trim (Some pad)) (without_leading (is_trim (Some pad)) (text ++ replicate n pad)) ≡ without_trailing (is_trim (Some pad)) text
center_front pad [] n other =
    ap (λ l. without_trailing (is_trim (Some pad)) (without_leading (is_trim (Some pad)) l)) (sym (append-nil (replicate n pad)))
    ∙ ap (without_trailing (is_trim (Some pad))) (leading_dropped (is_trim (Some pad)) pad n [] (pad_is_trim pad))
center_front pad (c ∷ text) n other =
    ap (without_trailing (is_trim (Some pad))) (leading_none pad (c ∷ (text ++ replicate n pad)) other)
    ∙ trailing_dropped (is_trim (Some pad)) pad n (c ∷ text) (pad_is_trim pad)

surrounded_trimmed : (justify : Justify) (pad : ℕ) (text : List ℕ) (missing : ℕ) → IsBare justify pad text
    → end_trimmed justify (is_trim (Some pad)) (front_trimmed justify (is_trim (Some pad)) (surrounded pad (missing_before justify missing) text (missing - missing_before justify missing))) ≡ text
surrounded_trimmed Left pad text missing bare =
    trailing_dropped (is_trim (Some pad)) pad (missing - 0) text (pad_is_trim pad) ∙ trailing_none pad text bare
surrounded_trimmed Right pad text missing bare =
    let none : missing - missing ≡ 0 = omega arith in
    leading_dropped (is_trim (Some pad)) pad missing (text ++ replicate (missing - missing) pad) (pad_is_trim pad)
    ∙ ap (λ n. without_leading (is_trim (Some pad)) (text ++ replicate n pad)) none ∙ ap (without_leading (is_trim (Some pad))) (append-nil text) ∙ leading_none pad text bare
surrounded_trimmed Center pad text missing bare =
    ap (without_trailing (is_trim (Some pad)))
    (leading_dropped (is_trim (Some pad)) pad (missing_before Center missing) (text ++ replicate (missing - missing_before Center missing) pad) (pad_is_trim pad))
    ∙ center_front pad text (missing - missing_before Center missing) bare.0 ∙ trailing_none pad text bare.1

bare_padded : (form : PadForm) (pad : ℕ) (text : List ℕ) (size : ℕ) → form.trim ≡ Some pad → IsBare form.justify pad text → bare form (padded form.justify pad text size) ≡ text
bare_padded form pad text size is none =
    ap (λ t. end_trimmed form.justify (is_trim t) (front_trimmed form.justify (is_trim t) (padded form.justify pad text size))) is
    ∙ surrounded_trimmed form.justify pad text (size - length text) none

last_false : (a b c d : Bool) → d ≡ false → (a && (b && (c && d))) ≡ false
last_false true true true d e = e
last_false true true false d e = refl
last_false true false c d e = refl
last_false false b c d e = refl

not_kept : (form : PadForm) (xs text : List ℕ) → bare form xs ≡ text → (0 < length text) ⊎ (form.keeps_zero ≡ false) → keeps_one form xs ≡ false
not_kept form xs text e (inl some) =
    let other : (length (bare form xs) == 0) ≡ false = ap (λ l. length l == 0) e ∙ ne_eqb (length text) 0 (λ none. omega (arith, some, none)) in
    last_false form.keeps_zero (is_trim form.trim 48) (nat_lt 0 (length xs)) (length (bare form xs) == 0) other
not_kept form xs text e (inr never) = ap (λ b. b && (is_trim form.trim 48 && (nat_lt 0 (length xs) && (length (bare form xs) == 0)))) never

all_zeros : (n : ℕ) → list_all (is_trim (Some 48)) (replicate n 48) ≡ true
all_zeros zero = refl
all_zeros (suc n) = all_zeros n

all_around : (n m : ℕ) → list_all (is_trim (Some 48)) (surrounded 48 n (48 ∷ []) m) ≡ true
all_around n m =
    list_all-append (is_trim (Some 48)) (replicate n 48) (48 ∷ replicate m 48) ∙ and_from _ _ (all_zeros n) (all_zeros m)

none_bare : (justify : Justify) (p : ℕ → Bool) (xs : List ℕ) → list_all p xs ≡ true → end_trimmed justify p (front_trimmed justify p xs) ≡ []
none_bare Left p xs all = none_trailing p xs all
none_bare Right p xs all = none_leading p xs all
none_bare Center p xs all = ap (without_trailing p) (none_leading p xs all)

kept : (form : PadForm) (n m : ℕ) → form.trim ≡ Some 48 → form.keeps_zero ≡ true → keeps_one form (surrounded 48 n (48 ∷ []) m) ≡ true
kept form n m is keeps =
    let xs = surrounded 48 n (48 ∷ []) m in
    let some : 0 < length xs = omega (arith, length-append {A = ℕ} (replicate n 48) (48 ∷ replicate m 48)) in
    let none : bare form xs ≡ [] =
    ap (λ t. end_trimmed form.justify (is_trim t) (front_trimmed form.justify (is_trim t) xs)) is ∙ none_bare form.justify (is_trim (Some 48)) xs (all_around n m) in
    and_from _ _ keeps (and_from _ _ (ap (λ t. is_trim t 48) is) (and_from _ _ (lt-ltb _ _ some) (ap (λ l. length l == 0) none)))

pub padded_trimmed : (form : PadForm) (pad : ℕ) (text : List ℕ) (size : ℕ) → form.trim ≡ Some pad → Survives form pad text → trimmed form (padded form.justify pad text size) ≡ text
padded_trimmed form pad text size is (inl s) =
    let xs = padded form.justify pad text size in
    let same : bare form xs ≡ text = bare_padded form pad text size is s.0 in
    ap (λ b. if b then 48 ∷ [] else bare form xs) (not_kept form xs text same s.1) ∙ same
padded_trimmed form pad text size is (inr s) =
    let before = missing_before form.justify (size - length text) in
    let all : padded form.justify pad text size ≡ surrounded 48 before (48 ∷ []) (size - length text - before) =
    ap (λ p. surrounded p before text (size - length text - before)) s.1 ∙ ap (λ t. surrounded 48 before t (size - length text - before)) s.2 in
    ap (trimmed form) all
    ∙ ap (λ b. if b then 48 ∷ [] else bare form (surrounded 48 before (48 ∷ []) (size - length text - before))) (kept form before (size - length text - before) (is ∙ ap Some s.1) s.0)
    ∙ sym s.2
