-- Lemmas on texts that are trimmed and padded.
use Rattle.std.proofs.Common.{◌≡◌, ℕ, ◌+◌, ◌-◌, ◌<◌, ◌≤◌, Bool, true, false, List, [], ◌∷◌, ◌++◌, length, get_or, take, drop, replicate, refl, sym, ap, ◌∙◌, arith, suc, ◌&&◌, if◌then◌else◌, Option, Some, None}
use Rattle.std.proofs.Math.Seq.{take-length}
use Rattle.std.proofs.lemmas.Bool.{cond_both, both_ways, and_from, eqb-true}
use Rattle.std.proofs.lemmas.List.Folds.{list_all_at}
use Rattle.std.specs.List.{list_all}
use Rattle.dfdl_lemmas.proofs.Bools.{both}
use Rattle.std.proofs.lemmas.List.{append-nil, nil_from_length, drop_more, drop_all, take-append-drop, drop-drop, drop_at, take-replicate, drop-replicate, length-append, length-replicate, length-take-le, length-drop}
use Rattle.std.proofs.lemmas.Slice.{take-put_mid, drop-put_mid}
use borrow.Rule.Slice.PartMut.{put_mid}
use Rattle.dfdl_forms.specs.declared.text.Justify.{Justify}
use Rattle.dfdl_forms.specs.declared.text.Justify.TheVariants.{Left, Right, Center}
use Rattle.dfdl_text_string.specs.Padding.{surrounded, padded, missing_before, front_trimmed, end_trimmed, is_trim}
use Rattle.dfdl_lemmas.specs.Trimmed.{before_rest, without_leading, without_trailing}

pub length-without_leading : (p : ℕ → Bool) (xs : List ℕ) → length (without_leading p xs) ≤ length xs
length-without_leading p [] = omega arith
length-without_leading p (x ∷ xs) =
    cond_both (p x) (without_leading p xs) (x ∷ xs) (λ l. length l ≤ length (x ∷ xs)) (λ is. omega (arith, length-without_leading p xs)) (λ other. omega arith)

length-before_rest : (p : ℕ → Bool) (x : ℕ) (xs : List ℕ) → length (before_rest p x xs) ≤ length xs + 1
length-before_rest p x [] = cond_both (p x) [] (x ∷ []) (λ l. length l ≤ 0 + 1) (λ is. omega arith) (λ other. omega arith)
length-before_rest p x (y ∷ ys) = omega arith

pub length-without_trailing : (p : ℕ → Bool) (xs : List ℕ) → length (without_trailing p xs) ≤ length xs
length-without_trailing p [] = omega arith
length-without_trailing p (x ∷ xs) = omega (arith, length-before_rest p x (without_trailing p xs), length-without_trailing p xs)

-- the front of the list is what is left without its end
take-before_rest : (p : ℕ → Bool) (x : ℕ) (xs ys : List ℕ) → take (length ys) xs ≡ ys → take (length (before_rest p x ys)) (x ∷ xs) ≡ before_rest p x ys
take-before_rest p x xs [] e = cond_both (p x) [] (x ∷ []) (λ l. take (length l) (x ∷ xs) ≡ l) (λ is. refl) (λ other. refl)
take-before_rest p x xs (y ∷ ys) e = ap (λ l. x ∷ l) e

pub take-without_trailing : (p : ℕ → Bool) (xs : List ℕ) → take (length (without_trailing p xs)) xs ≡ without_trailing p xs
take-without_trailing p [] = refl
take-without_trailing p (x ∷ xs) = take-before_rest p x xs (without_trailing p xs) (take-without_trailing p xs)

-- the end of the list is what is left without its front
drop-one_more : (x : ℕ) (xs ys : List ℕ) → length ys ≤ length xs → drop (length xs - length ys) xs ≡ ys → drop (length (x ∷ xs) - length ys) (x ∷ xs) ≡ ys
drop-one_more x xs ys short e =
    let one : length (x ∷ xs) - length ys ≡ suc (length xs - length ys) = omega arith in
    ap (λ n. drop n (x ∷ xs)) one ∙ e

drop-none : (xs : List ℕ) → drop (length xs - length xs) xs ≡ xs
drop-none xs = let none : length xs - length xs ≡ 0 = omega arith in ap (λ n. drop n xs) none

pub drop-without_leading : (p : ℕ → Bool) (xs : List ℕ) → drop (length xs - length (without_leading p xs)) xs ≡ without_leading p xs
drop-without_leading p [] = refl
drop-without_leading p (x ∷ xs) =
    cond_both (p x) (without_leading p xs) (x ∷ xs) (λ l. drop (length (x ∷ xs) - length l) (x ∷ xs) ≡ l)
    (λ is. drop-one_more x xs (without_leading p xs) (length-without_leading p xs) (drop-without_leading p xs))
    (λ other. drop-none (x ∷ xs))

pub length-front_trimmed : (justify : Justify) (p : ℕ → Bool) (xs : List ℕ) → length (front_trimmed justify p xs) ≤ length xs
length-front_trimmed Left p xs = omega arith
length-front_trimmed Right p xs = length-without_leading p xs
length-front_trimmed Center p xs = length-without_leading p xs

pub length-end_trimmed : (justify : Justify) (p : ℕ → Bool) (xs : List ℕ) → length (end_trimmed justify p xs) ≤ length xs
length-end_trimmed Left p xs = length-without_trailing p xs
length-end_trimmed Right p xs = omega arith
length-end_trimmed Center p xs = length-without_trailing p xs

pub drop-front_trimmed : (justify : Justify) (p : ℕ → Bool) (xs : List ℕ) → drop (length xs - length (front_trimmed justify p xs)) xs ≡ front_trimmed justify p xs
drop-front_trimmed Left p xs = drop-none xs
drop-front_trimmed Right p xs = drop-without_leading p xs
drop-front_trimmed Center p xs = drop-without_leading p xs

pub take-end_trimmed : (justify : Justify) (p : ℕ → Bool) (xs : List ℕ) → take (length (end_trimmed justify p xs)) xs ≡ end_trimmed justify p xs
take-end_trimmed Left p xs = take-without_trailing p xs
take-end_trimmed Right p xs = take-length xs
take-end_trimmed Center p xs = take-without_trailing p xs

-- the range keeps the text that is trimmed at both sides
pub range_trimmed : (justify : Justify) (p : ℕ → Bool) (xs : List ℕ) (begin end : ℕ) → begin ≡ length xs - length (front_trimmed justify p xs)
    → end ≡ begin + length (end_trimmed justify p (front_trimmed justify p xs)) → take (end - begin) (drop begin xs) ≡ end_trimmed justify p (front_trimmed justify p xs)
range_trimmed justify p xs begin end b e =
    let size : end - begin ≡ length (end_trimmed justify p (front_trimmed justify p xs)) = omega arith in
    ap (λ n. take n (drop begin xs)) size
    ∙ ap (λ n. take (length (end_trimmed justify p (front_trimmed justify p xs))) (drop n xs)) b
    ∙ ap (λ l. take (length (end_trimmed justify p (front_trimmed justify p xs))) l) (drop-front_trimmed justify p xs)
    ∙ take-end_trimmed justify p (front_trimmed justify p xs)

pub range_within : (justify : Justify) (p : ℕ → Bool) (xs : List ℕ) (begin end : ℕ) → begin ≡ length xs - length (front_trimmed justify p xs)
    → end ≡ begin + length (end_trimmed justify p (front_trimmed justify p xs)) → end ≤ length xs
range_within justify p xs begin end b e =
    omega (arith, b, e, length-front_trimmed justify p xs, length-end_trimmed justify p (front_trimmed justify p xs))

take-append-more : (xs ys : List ℕ) (n : ℕ) → take (length xs + n) (xs ++ ys) ≡ xs ++ take n ys
take-append-more [] ys n = let none : 0 + n ≡ n = omega arith in ap (λ m. take m ys) none
take-append-more (x ∷ xs) ys n =
    let one : length (x ∷ xs) + n ≡ suc (length xs + n) = omega arith in
    ap (λ m. take m (x ∷ (xs ++ ys))) one ∙ ap (λ l. x ∷ l) (take-append-more xs ys n)

-- pad characters behind a text, of which some come before it by a rotation
pub rotated : (pad : ℕ) (text : List ℕ) (missing before at : ℕ) → before ≤ missing → at ≡ length text + (missing - before)
    → drop at (text ++ replicate missing pad) ++ take at (text ++ replicate missing pad) ≡ replicate before pad ++ (text ++ replicate (missing - before) pad)
rotated pad text missing before at within is =
    let all = replicate missing pad in
    let rest : missing - (missing - before) ≡ before = omega arith in
    let front : drop at (text ++ all) ≡ replicate before pad =
    ap (λ n. drop n (text ++ all)) is ∙ sym (drop-drop (missing - before) (length text) (text ++ all))
    ∙ ap (λ l. drop (missing - before) l) (drop_at text all (length text) refl)
    ∙ drop-replicate (missing - before) missing pad ∙ ap (λ n. replicate n pad) rest in
    let end : take at (text ++ all) ≡ text ++ replicate (missing - before) pad =
    ap (λ n. take n (text ++ all)) is ∙ take-append-more text all (missing - before)
    ∙ ap (λ l. text ++ l) (take-replicate (missing - before) missing pad (omega arith)) in
    ap (λ l. l ++ take at (text ++ all)) front ∙ ap (λ l. replicate before pad ++ l) end

-- a slice whose end was filled, and that was turned then
pub filled_and_turned : (pad : ℕ) (old filled turned : List ℕ) (size before : ℕ) → size ≤ length old → before ≤ length old - size
    → filled ≡ take size old ++ replicate (length old - size) pad
    → turned ≡ drop (length filled - before) filled ++ take (length filled - before) filled
    → turned ≡ surrounded pad before (take size old) (length old - size - before)
filled_and_turned pad old filled turned size before within part is turns =
    let front : length (take size old) ≡ size = length-take-le size old within in
    let all : length filled ≡ length old = ap length is ∙ length-append (take size old) (replicate (length old - size) pad) ∙ omega (arith, front, length-replicate (length old - size) pad) in
    turns ∙ ap (λ l. drop (length filled - before) l ++ take (length filled - before) l) is
    ∙ rotated pad (take size old) (length old - size) before (length filled - before) part (omega (arith, front, all))

-- a slice whose end was filled
pub filled_end : (pad : ℕ) (old new : List ℕ) (size : ℕ) → size ≤ length old → new ≡ replicate (length (take (length old - size) (drop size old))) pad
    → put_mid size (length old - size) old new ≡ take size old ++ replicate (length old - size) pad
filled_end pad old new size within is =
    let rest : length (drop size old) ≡ length old - size = length-drop size old in
    let mid : length (take (length old - size) (drop size old)) ≡ length old - size = length-take-le (length old - size) (drop size old) (omega arith) in
    let same : new ≡ replicate (length old - size) pad = is ∙ ap (λ n. replicate n pad) mid in
    let some : length new ≡ length old - size = ap length same ∙ length-replicate (length old - size) pad in
    let all = put_mid size (length old - size) old new in
    sym (take-append-drop (length old) all)
    ∙ ap (λ l. l ++ drop (length old) all) (take-put_mid size (length old - size) old new (length old) (omega arith) within ∙ ap (λ l. take size old ++ l) same)
    ∙ ap (λ l. (take size old ++ replicate (length old - size) pad) ++ l)
    (drop-put_mid size (length old - size) old new (length old) (omega arith) within some ∙ drop_all (length old) old (omega arith))
    ∙ append-nil (take size old ++ replicate (length old - size) pad)

-- the text with the pad characters around it
pub padded_is : (justify : Justify) (pad : ℕ) (old new : List ℕ) (size before : ℕ) → size ≤ length old → before ≡ missing_before justify (length old - size)
    → new ≡ surrounded pad before (take size old) (length old - size - before) → new ≡ padded justify pad (take size old) (length old)
padded_is justify pad old new size before within is e =
    let front : length (take size old) ≡ size = length-take-le size old within in
    e ∙ ap (λ b. surrounded pad b (take size old) (length old - size - b)) is
    ∙ ap (λ n. surrounded pad (missing_before justify (length old - n)) (take size old) (length old - n - missing_before justify (length old - n))) (sym front)

-- ---- texts of nothing but trim characters

all_leading : (p : ℕ → Bool) (xs : List ℕ) → list_all p (without_leading p xs) ≡ true → list_all p xs ≡ true
all_leading p [] h = refl
all_leading p (x ∷ xs) h =
    cond_both (p x) (without_leading p xs) (x ∷ xs) (λ l. list_all p l ≡ true → list_all p (x ∷ xs) ≡ true)
    (λ is k. and_from (p x) (list_all p xs) is (all_leading p xs k)) (λ other k. k) h

all_trailing : (p : ℕ → Bool) (xs : List ℕ) → list_all p (without_trailing p xs) ≡ true → list_all p xs ≡ true
all_trailing p [] h = refl
all_trailing p (x ∷ xs) h = more (without_trailing p xs) (all_trailing p xs) h
  where
    more : (kept : List ℕ) → (list_all p kept ≡ true → list_all p xs ≡ true) → list_all p (before_rest p x kept) ≡ true → list_all p (x ∷ xs) ≡ true
    more [] rest k =
        cond_both (p x) [] (x ∷ []) (λ l. list_all p l ≡ true → list_all p (x ∷ xs) ≡ true)
        (λ is e. and_from (p x) (list_all p xs) is (rest refl)) (λ other e. absurd (both_ways (p x) other (both (p x) true e).0)) k
    more (y ∷ ys) rest k = let t = both (p x) (list_all p (y ∷ ys)) k in and_from (p x) (list_all p xs) t.0 (rest t.1)

all_end : (justify : Justify) (p : ℕ → Bool) (xs : List ℕ) → list_all p (end_trimmed justify p xs) ≡ true → list_all p xs ≡ true
all_end Left p xs h = all_trailing p xs h
all_end Right p xs h = h
all_end Center p xs h = all_trailing p xs h

all_front : (justify : Justify) (p : ℕ → Bool) (xs : List ℕ) → list_all p (front_trimmed justify p xs) ≡ true → list_all p xs ≡ true
all_front Left p xs h = h
all_front Right p xs h = all_leading p xs h
all_front Center p xs h = all_leading p xs h

-- where nothing is left, each character is a trim character
all_bare : (justify : Justify) (p : ℕ → Bool) (xs : List ℕ) → length (end_trimmed justify p (front_trimmed justify p xs)) ≡ 0 → list_all p xs ≡ true
all_bare justify p xs none =
    all_front justify p xs (all_end justify p (front_trimmed justify p xs) (ap (list_all p) (nil_from_length _ none)))

passes_at : (p : ℕ → Bool) (xs : List ℕ) (at d : ℕ) → at < length xs → list_all p xs ≡ true → p (get_or xs at d) ≡ true
passes_at p xs at d less all = by_test (p (get_or xs at d)) refl
  where
    by_test : (b : Bool) → p (get_or xs at d) ≡ b → b ≡ true
    by_test true e = refl
    by_test false e = absurd (both_ways (list_all p xs) (list_all_at p xs at d less e) all)

is_zero_trim : (trim : Option ℕ) (c : ℕ) → is_trim trim 48 ≡ true → is_trim trim c ≡ true → c ≡ 48
is_zero_trim None c zero is = absurd (both_ways false refl is)
is_zero_trim (Some t) c zero is = eqb-true c t is ∙ sym (eqb-true 48 t zero)

-- a zero is kept at each place of a text of nothing but zeros
pub zero_at : (justify : Justify) (trim : Option ℕ) (xs : List ℕ) (at : ℕ) → is_trim trim 48 ≡ true → at < length xs
    → length (end_trimmed justify (is_trim trim) (front_trimmed justify (is_trim trim) xs)) ≡ 0 → take (at + 1 - at) (drop at xs) ≡ 48 ∷ []
zero_at justify trim xs at zero less none =
    let one : at + 1 - at ≡ 1 = omega arith in
    let is : get_or xs at 0 ≡ 48 = is_zero_trim trim (get_or xs at 0) zero (passes_at (is_trim trim) xs at 0 less (all_bare justify (is_trim trim) xs none)) in
    ap (λ n. take n (drop at xs)) one ∙ ap (λ l. take 1 l) (drop_more xs at 0 less) ∙ ap (λ c. c ∷ []) is

-- the parts of the test that a zero is kept
pub zero_tests : (a b c d : Bool) → (a && (b && (c && d))) ≡ true → (b ≡ true) × (c ≡ true) × (d ≡ true)
zero_tests true true true d e = (refl, refl, e)
zero_tests true true false d e = absurd (both_ways false refl e)
zero_tests true false c d e = absurd (both_ways false refl e)
zero_tests false b c d e = absurd (both_ways false refl e)

pub none_leading : (p : ℕ → Bool) (xs : List ℕ) → list_all p xs ≡ true → without_leading p xs ≡ []
none_leading p [] all = refl
none_leading p (x ∷ xs) all =
    let t = both (p x) (list_all p xs) all in
    ap (λ b. if b then without_leading p xs else x ∷ xs) t.0 ∙ none_leading p xs t.1

pub none_trailing : (p : ℕ → Bool) (xs : List ℕ) → list_all p xs ≡ true → without_trailing p xs ≡ []
none_trailing p [] all = refl
none_trailing p (x ∷ xs) all =
    let t = both (p x) (list_all p xs) all in
    ap (before_rest p x) (none_trailing p xs t.1) ∙ ap (λ b. if b then [] else x ∷ []) t.0

pub ruleset lengths = (length-without_leading, length-without_trailing)
