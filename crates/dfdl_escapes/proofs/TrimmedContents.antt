-- Lemmas on contents that are trimmed.
use Rattle.std.proofs.Common.{◌≡◌, ℕ, suc, ◌-◌, ◌+◌, ◌<◌, ◌≤◌, Bool, true, false, ◌&&◌, not, ◌==◌, nat_lt, List, [], ◌∷◌, ◌++◌, length, map, get_or, take, drop, refl, sym, ap, ◌∙◌, arith, if◌then◌else◌, Option, Some, None}
use Rattle.std.specs.List.{list_all}
use Rattle.std.proofs.Math.Seq.{take-length}
use Rattle.std.proofs.lemmas.Bool.{cond_both, both_ways, and_from, eqb-true}
use Rattle.std.proofs.lemmas.List.{nil_from_length, drop_more, take_more}
use Rattle.std.proofs.lemmas.List.Folds.{list_all_at}
use Rattle.dfdl_lemmas.proofs.Bools.{both}
use Rattle.dfdl_lemmas.specs.Trimmed.{without_leading, without_trailing, before_rest as before_others}
use Rattle.dfdl_forms.specs.declared.text.Justify.{Justify}
use Rattle.dfdl_forms.specs.declared.text.Justify.TheVariants.{Left, Right, Center}
use Rattle.dfdl_forms.specs.declared.text.PadForm.{PadForm}
use Rattle.dfdl_text_string.specs.Padding.{bare, bare_from, is_trim, keeps_one, trimmed, trimmed_from, front_trimmed as text_front, end_trimmed as text_end}
use Rattle.dfdl_escapes.specs.declared.character.Character.{Character}
use Rattle.dfdl_escapes.specs.Trims.{bare_content, bare_content_from, before_pads, before_rest, behind_pads, end_trimmed, front_trimmed, is_pad, keeps_one_zero, only_escaped, trimmed_content, trimmed_content_from, unescaped}

-- ---- what is left is a part of the content

pub length-behind_pads : (trim : Option ℕ) (xs : List Character) → length (behind_pads trim xs) ≤ length xs
length-behind_pads trim [] = omega arith
length-behind_pads trim (x ∷ xs) =
    cond_both (is_pad trim x) (behind_pads trim xs) (x ∷ xs) (λ (l : List Character). length l ≤ length (x ∷ xs)) (λ is. omega (arith, length-behind_pads trim xs)) (λ other. omega arith)

length-before_rest : (trim : Option ℕ) (x : Character) (xs : List Character) → length (before_rest trim x xs) ≤ length xs + 1
length-before_rest trim x [] = cond_both (is_pad trim x) [] (x ∷ []) (λ (l : List Character). length l ≤ 0 + 1) (λ is. omega arith) (λ other. omega arith)
length-before_rest trim x (y ∷ ys) = omega arith

pub length-before_pads : (trim : Option ℕ) (xs : List Character) → length (before_pads trim xs) ≤ length xs
length-before_pads trim [] = omega arith
length-before_pads trim (x ∷ xs) = omega (arith, length-before_rest trim x (before_pads trim xs), length-before_pads trim xs)

take-before_rest : (trim : Option ℕ) (x : Character) (xs ys : List Character) → take (length ys) xs ≡ ys
    → take (length (before_rest trim x ys)) (x ∷ xs) ≡ before_rest trim x ys
take-before_rest trim x xs [] e =
    cond_both (is_pad trim x) [] (x ∷ []) (λ (l : List Character). take (length l) (x ∷ xs) ≡ l) (λ is. refl) (λ other. refl)
take-before_rest trim x xs (y ∷ ys) e = ap (λ (l : List Character). x ∷ l) e

take-before_pads : (trim : Option ℕ) (xs : List Character) → take (length (before_pads trim xs)) xs ≡ before_pads trim xs
take-before_pads trim [] = refl
take-before_pads trim (x ∷ xs) = take-before_rest trim x xs (before_pads trim xs) (take-before_pads trim xs)

drop-one_more : (x : Character) (xs ys : List Character) → length ys ≤ length xs → drop (length xs - length ys) xs ≡ ys
    → drop (length (x ∷ xs) - length ys) (x ∷ xs) ≡ ys
drop-one_more x xs ys short e =
    let one : length (x ∷ xs) - length ys ≡ suc (length xs - length ys) = omega arith in
    ap (λ (n : ℕ). drop n (x ∷ xs)) one ∙ e

drop-none : (xs : List Character) → drop (length xs - length xs) xs ≡ xs
drop-none xs = let none : length xs - length xs ≡ 0 = omega arith in ap (λ (n : ℕ). drop n xs) none

drop-behind_pads : (trim : Option ℕ) (xs : List Character) → drop (length xs - length (behind_pads trim xs)) xs ≡ behind_pads trim xs
drop-behind_pads trim [] = refl
drop-behind_pads trim (x ∷ xs) =
    cond_both (is_pad trim x) (behind_pads trim xs) (x ∷ xs) (λ (l : List Character). drop (length (x ∷ xs) - length l) (x ∷ xs) ≡ l)
    (λ is. drop-one_more x xs (behind_pads trim xs) (length-behind_pads trim xs) (drop-behind_pads trim xs))
    (λ other. drop-none (x ∷ xs))

drop-front : (justify : Justify) (trim : Option ℕ) (xs : List Character) → drop (length xs - length (front_trimmed justify trim xs)) xs ≡ front_trimmed justify trim xs
drop-front Left trim xs = drop-none xs
drop-front Right trim xs = drop-behind_pads trim xs
drop-front Center trim xs = drop-behind_pads trim xs

take-end : (justify : Justify) (trim : Option ℕ) (xs : List Character) → take (length (end_trimmed justify trim xs)) xs ≡ end_trimmed justify trim xs
take-end Left trim xs = take-before_pads trim xs
take-end Right trim xs = take-length xs
take-end Center trim xs = take-before_pads trim xs

-- the range keeps what is trimmed at both sides
pub range_kept : (form : PadForm) (xs : List Character) (begin end : ℕ) → begin ≡ bare_content_from form xs
    → end ≡ begin + length (bare_content form xs) → take (end - begin) (drop begin xs) ≡ bare_content form xs
range_kept form xs begin end b e =
    let size : end - begin ≡ length (bare_content form xs) = omega arith in
    ap (λ (n : ℕ). take n (drop begin xs)) size
    ∙ ap (λ (n : ℕ). take (length (bare_content form xs)) (drop n xs)) b
    ∙ ap (λ (l : List Character). take (length (bare_content form xs)) l) (drop-front form.justify form.trim xs)
    ∙ take-end form.justify form.trim (front_trimmed form.justify form.trim xs)

-- ---- pad characters at the end

before_pads-passes : (trim : Option ℕ) (xs : List Character) (x : Character) → is_pad trim x ≡ true → before_pads trim (xs ++ x ∷ []) ≡ before_pads trim xs
before_pads-passes trim [] x h = ap (λ (b : Bool). if b then [] else x ∷ []) h
before_pads-passes trim (y ∷ ys) x h = ap (before_rest trim y) (before_pads-passes trim ys x h)

before_rest-push : (trim : Option ℕ) (y : Character) (ys : List Character) (x : Character) → before_rest trim y (ys ++ x ∷ []) ≡ y ∷ (ys ++ x ∷ [])
before_rest-push trim y [] x = refl
before_rest-push trim y (z ∷ zs) x = refl

before_pads-stops : (trim : Option ℕ) (xs : List Character) (x : Character) → is_pad trim x ≡ false → before_pads trim (xs ++ x ∷ []) ≡ xs ++ x ∷ []
before_pads-stops trim [] x h = ap (λ (b : Bool). if b then [] else x ∷ []) h
before_pads-stops trim (y ∷ ys) x h = ap (before_rest trim y) (before_pads-stops trim ys x h) ∙ before_rest-push trim y ys x

-- the front of a content is a shorter front, and the character behind that
front_split : (xs : List Character) (end : ℕ) (d : Character) → 0 < end → end ≤ length xs → take end xs ≡ take (end - 1) xs ++ get_or xs (end - 1) d ∷ []
front_split xs end d some within =
    let e : end ≡ end - 1 + 1 = omega arith in
    ap (λ (n : ℕ). take n xs) e ∙ take_more xs (end - 1) d (omega arith)

-- the last character of a front is a pad character
pub last_passes : (trim : Option ℕ) (xs : List Character) (end : ℕ) (d : Character) → 0 < end → end ≤ length xs → is_pad trim (get_or xs (end - 1) d) ≡ true
    → before_pads trim (take (end - 1) xs) ≡ before_pads trim (take end xs)
last_passes trim xs end d some within h =
    sym (ap (before_pads trim) (front_split xs end d some within) ∙ before_pads-passes trim (take (end - 1) xs) _ h)

-- it isn't
pub last_stops : (trim : Option ℕ) (xs : List Character) (end : ℕ) (d : Character) → 0 < end → end ≤ length xs → is_pad trim (get_or xs (end - 1) d) ≡ false
    → before_pads trim (take end xs) ≡ take end xs
last_stops trim xs end d some within h =
    ap (before_pads trim) (front_split xs end d some within) ∙ before_pads-stops trim (take (end - 1) xs) _ h ∙ sym (front_split xs end d some within)

-- ---- contents of nothing but zeros

all_behind : (trim : Option ℕ) (xs : List Character) → list_all (is_pad trim) (behind_pads trim xs) ≡ true → list_all (is_pad trim) xs ≡ true
all_behind trim [] h = refl
all_behind trim (x ∷ xs) h =
    cond_both (is_pad trim x) (behind_pads trim xs) (x ∷ xs) (λ (l : List Character). list_all (is_pad trim) l ≡ true → list_all (is_pad trim) (x ∷ xs) ≡ true)
    (λ is k. and_from (is_pad trim x) (list_all (is_pad trim) xs) is (all_behind trim xs k)) (λ other k. k) h

all_before : (trim : Option ℕ) (xs : List Character) → list_all (is_pad trim) (before_pads trim xs) ≡ true → list_all (is_pad trim) xs ≡ true
all_before trim [] h = refl
all_before trim (x ∷ xs) h = more (before_pads trim xs) (all_before trim xs) h
  where
    more : (kept : List Character) → (list_all (is_pad trim) kept ≡ true → list_all (is_pad trim) xs ≡ true)
        → list_all (is_pad trim) (before_rest trim x kept) ≡ true → list_all (is_pad trim) (x ∷ xs) ≡ true
    more [] rest k =
        cond_both (is_pad trim x) [] (x ∷ []) (λ (l : List Character). list_all (is_pad trim) l ≡ true → list_all (is_pad trim) (x ∷ xs) ≡ true)
        (λ is e. and_from (is_pad trim x) (list_all (is_pad trim) xs) is (rest refl))
        (λ other e. absurd (both_ways (is_pad trim x) other (both (is_pad trim x) true e).0)) k
    more (y ∷ ys) rest k =
        let t = both (is_pad trim x) (list_all (is_pad trim) (y ∷ ys)) k in and_from (is_pad trim x) (list_all (is_pad trim) xs) t.0 (rest t.1)

all_end : (justify : Justify) (trim : Option ℕ) (xs : List Character) → list_all (is_pad trim) (end_trimmed justify trim xs) ≡ true → list_all (is_pad trim) xs ≡ true
all_end Left trim xs h = all_before trim xs h
all_end Right trim xs h = h
all_end Center trim xs h = all_before trim xs h

all_front : (justify : Justify) (trim : Option ℕ) (xs : List Character) → list_all (is_pad trim) (front_trimmed justify trim xs) ≡ true → list_all (is_pad trim) xs ≡ true
all_front Left trim xs h = h
all_front Right trim xs h = all_behind trim xs h
all_front Center trim xs h = all_behind trim xs h

-- where nothing is left, each character is a pad character
all_bare : (form : PadForm) (xs : List Character) → length (bare_content form xs) ≡ 0 → list_all (is_pad form.trim) xs ≡ true
all_bare form xs none =
    all_front form.justify form.trim xs
    (all_end form.justify form.trim (front_trimmed form.justify form.trim xs) (ap (list_all (is_pad form.trim)) (nil_from_length _ none)))

pad_at : (trim : Option ℕ) (xs : List Character) (at : ℕ) (d : Character) → at < length xs → list_all (is_pad trim) xs ≡ true → is_pad trim (get_or xs at d) ≡ true
pad_at trim xs at d less all = by_test (is_pad trim (get_or xs at d)) refl
  where
    by_test : (b : Bool) → is_pad trim (get_or xs at d) ≡ b → b ≡ true
    by_test true e = refl
    by_test false e = absurd (both_ways (list_all (is_pad trim) xs) (list_all_at (is_pad trim) xs at d less e) all)

is_zero_trim : (trim : Option ℕ) (c : ℕ) → is_trim trim 48 ≡ true → is_trim trim c ≡ true → c ≡ 48
is_zero_trim None c zero is = absurd (both_ways false refl is)
is_zero_trim (Some t) c zero is = eqb-true c t is ∙ sym (eqb-true 48 t zero)

not_escaped : (escaped : Bool) → not escaped ≡ true → escaped ≡ false
not_escaped false e = refl
not_escaped true e = absurd (both_ways false refl e)

zero_pad : (trim : Option ℕ) (x : Character) → is_trim trim 48 ≡ true → is_pad trim x ≡ true → x ≡ unescaped 48
zero_pad trim x zero is =
    let t = both (not x.is_escaped) (is_trim trim x.c) is in
    ap (λ (c : ℕ). record { c = c; is_escaped = x.is_escaped }) (is_zero_trim trim x.c zero t.1)
    ∙ ap (λ (e : Bool). record { c = 48; is_escaped = e }) (not_escaped x.is_escaped t.0)

-- a zero is kept at each place of a content of nothing but zeros
pub zero_at : (form : PadForm) (xs : List Character) (at : ℕ) → is_trim form.trim 48 ≡ true → at < length xs → length (bare_content form xs) ≡ 0
    → take (at + 1 - at) (drop at xs) ≡ unescaped 48 ∷ []
zero_at form xs at zero less none =
    let one : at + 1 - at ≡ 1 = omega arith in
    let is : get_or xs at (unescaped 0) ≡ unescaped 48 =
    zero_pad form.trim (get_or xs at (unescaped 0)) zero (pad_at form.trim xs at (unescaped 0) less (all_bare form xs none)) in
    ap (λ (n : ℕ). take n (drop at xs)) one ∙ ap (λ (l : List Character). take 1 l) (drop_more xs at (unescaped 0) less)
    ∙ ap (λ (x : Character). x ∷ []) is

-- the parts of the test that a zero is kept
pub zero_tests : (a b c d : Bool) → (a && (b && (c && d))) ≡ true → (b ≡ true) × (c ≡ true) × (d ≡ true)
zero_tests true true true d e = (refl, refl, e)
zero_tests true true false d e = absurd (both_ways false refl e)
zero_tests true false c d e = absurd (both_ways false refl e)
zero_tests false b c d e = absurd (both_ways false refl e)

pub ruleset lengths = (length-behind_pads, length-before_pads)

-- ---- contents without escaped characters

length-bare : (text : List ℕ) → length (map unescaped text) ≡ length text
length-bare [] = refl
length-bare (c ∷ cs) = ap suc (length-bare cs)

behind-text : (trim : Option ℕ) (text : List ℕ) → behind_pads trim (map unescaped text) ≡ map unescaped (without_leading (is_trim trim) text)
behind-text trim [] = refl
behind-text trim (c ∷ cs) = by_test (is_trim trim c) (behind-text trim cs)
  where
    by_test : (b : Bool) → behind_pads trim (map unescaped cs) ≡ map unescaped (without_leading (is_trim trim) cs)
        → (if b then behind_pads trim (map unescaped cs) else unescaped c ∷ map unescaped cs)
        ≡ map unescaped (if b then without_leading (is_trim trim) cs else c ∷ cs)
    by_test true rest = rest
    by_test false rest = refl

before_rest-text : (trim : Option ℕ) (c : ℕ) (kept : List ℕ) → before_rest trim (unescaped c) (map unescaped kept) ≡ map unescaped (before_others (is_trim trim) c kept)
before_rest-text trim c [] = by_test (is_trim trim c)
  where
    by_test : (b : Bool) → (if b then [] else unescaped c ∷ []) ≡ map unescaped (if b then [] else c ∷ [])
    by_test true = refl
    by_test false = refl
before_rest-text trim c (d ∷ ds) = refl

before-text : (trim : Option ℕ) (text : List ℕ) → before_pads trim (map unescaped text) ≡ map unescaped (without_trailing (is_trim trim) text)
before-text trim [] = refl
before-text trim (c ∷ cs) =
    ap (before_rest trim (unescaped c)) (before-text trim cs) ∙ before_rest-text trim c (without_trailing (is_trim trim) cs)

front-text : (justify : Justify) (trim : Option ℕ) (text : List ℕ) → front_trimmed justify trim (map unescaped text) ≡ map unescaped (text_front justify (is_trim trim) text)
front-text Left trim text = refl
front-text Right trim text = behind-text trim text
front-text Center trim text = behind-text trim text

end-text : (justify : Justify) (trim : Option ℕ) (text : List ℕ) → end_trimmed justify trim (map unescaped text) ≡ map unescaped (text_end justify (is_trim trim) text)
end-text Left trim text = before-text trim text
end-text Right trim text = refl
end-text Center trim text = before-text trim text

bare-text : (form : PadForm) (text : List ℕ) → bare_content form (map unescaped text) ≡ map unescaped (bare form text)
bare-text form text =
    ap (end_trimmed form.justify form.trim) (front-text form.justify form.trim text)
    ∙ end-text form.justify form.trim (text_front form.justify (is_trim form.trim) text)

from-text : (form : PadForm) (text : List ℕ) → bare_content_from form (map unescaped text) ≡ bare_from form text
from-text form text =
    let left : length (front_trimmed form.justify form.trim (map unescaped text)) ≡ length (text_front form.justify (is_trim form.trim) text) =
    ap (λ (l : List Character). length l) (front-text form.justify form.trim text) ∙ length-bare (text_front form.justify (is_trim form.trim) text) in
    let all : length (map unescaped text) ≡ length text = length-bare text in
    ap (λ (n : ℕ). n - length (front_trimmed form.justify form.trim (map unescaped text))) all ∙ ap (λ (n : ℕ). length text - n) left

keeps-text : (form : PadForm) (text : List ℕ) → keeps_one_zero form (map unescaped text) ≡ keeps_one form text
keeps-text form text =
    let left : length (bare_content form (map unescaped text)) ≡ length (bare form text) =
    ap (λ (l : List Character). length l) (bare-text form text) ∙ length-bare (bare form text) in
    ap (λ (n : ℕ). form.keeps_zero && (is_trim form.trim 48 && (nat_lt 0 n && (length (bare_content form (map unescaped text)) == 0)))) (length-bare text)
    ∙ ap (λ (n : ℕ). form.keeps_zero && (is_trim form.trim 48 && (nat_lt 0 (length text) && (n == 0)))) left

pub trimmed-text : (form : PadForm) (text : List ℕ) → trimmed_content form (map unescaped text) ≡ map unescaped (trimmed form text)
trimmed-text form text =
    ap (λ (b : Bool). if b then unescaped 48 ∷ [] else bare_content form (map unescaped text)) (keeps-text form text)
    ∙ by_test (keeps_one form text)
  where
    by_test : (b : Bool) → (if b then unescaped 48 ∷ [] else bare_content form (map unescaped text)) ≡ map unescaped (if b then 48 ∷ [] else bare form text)
    by_test true = refl
    by_test false = bare-text form text

pub trimmed_from-text : (form : PadForm) (text : List ℕ) → trimmed_content_from form (map unescaped text) ≡ trimmed_from form text
trimmed_from-text form text =
    ap (λ (b : Bool). if b then bare_content_from form (map unescaped text) - 1 else bare_content_from form (map unescaped text)) (keeps-text form text)
    ∙ ap (λ (n : ℕ). if keeps_one form text then n - 1 else n) (from-text form text)

-- ---- escaped characters stay

escaped-pad : (trim : Option ℕ) (x : Character) (xs : List Character) → is_pad trim x ≡ true → only_escaped (x ∷ xs) ≡ only_escaped xs
escaped-pad trim x xs is =
    ap (λ (b : Bool). if b then x ∷ only_escaped xs else only_escaped xs) (not_escaped x.is_escaped (both (not x.is_escaped) (is_trim trim x.c) is).0)

escaped-behind : (trim : Option ℕ) (xs : List Character) → only_escaped (behind_pads trim xs) ≡ only_escaped xs
escaped-behind trim [] = refl
escaped-behind trim (x ∷ xs) =
    cond_both (is_pad trim x) (behind_pads trim xs) (x ∷ xs) (λ (l : List Character). only_escaped l ≡ only_escaped (x ∷ xs))
    (λ is. escaped-behind trim xs ∙ sym (escaped-pad trim x xs is)) (λ other. refl)

escaped-more : (x : Character) (xs ys : List Character) → only_escaped xs ≡ only_escaped ys → only_escaped (x ∷ xs) ≡ only_escaped (x ∷ ys)
escaped-more x xs ys same = ap (λ (l : List Character). if x.is_escaped then x ∷ l else l) same

escaped-rest : (trim : Option ℕ) (x : Character) (xs : List Character) → only_escaped (before_rest trim x xs) ≡ only_escaped (x ∷ xs)
escaped-rest trim x [] =
    cond_both (is_pad trim x) [] (x ∷ []) (λ (l : List Character). only_escaped l ≡ only_escaped (x ∷ []))
    (λ is. sym (escaped-pad trim x [] is)) (λ other. refl)
escaped-rest trim x (y ∷ ys) = refl

escaped-before : (trim : Option ℕ) (xs : List Character) → only_escaped (before_pads trim xs) ≡ only_escaped xs
escaped-before trim [] = refl
escaped-before trim (x ∷ xs) = escaped-rest trim x (before_pads trim xs) ∙ escaped-more x (before_pads trim xs) xs (escaped-before trim xs)

escaped-front : (justify : Justify) (trim : Option ℕ) (xs : List Character) → only_escaped (front_trimmed justify trim xs) ≡ only_escaped xs
escaped-front Left trim xs = refl
escaped-front Right trim xs = escaped-behind trim xs
escaped-front Center trim xs = escaped-behind trim xs

escaped-end : (justify : Justify) (trim : Option ℕ) (xs : List Character) → only_escaped (end_trimmed justify trim xs) ≡ only_escaped xs
escaped-end Left trim xs = escaped-before trim xs
escaped-end Right trim xs = refl
escaped-end Center trim xs = escaped-before trim xs

escaped-bare : (form : PadForm) (xs : List Character) → only_escaped (bare_content form xs) ≡ only_escaped xs
escaped-bare form xs =
    escaped-end form.justify form.trim (front_trimmed form.justify form.trim xs) ∙ escaped-front form.justify form.trim xs

pub escaped-stay : (form : PadForm) (xs : List Character) → only_escaped (trimmed_content form xs) ≡ only_escaped xs
escaped-stay form xs =
    cond_both (keeps_one_zero form xs) (unescaped 48 ∷ []) (bare_content form xs) (λ (l : List Character). only_escaped l ≡ only_escaped xs)
    (λ is. let t = zero_tests form.keeps_zero (is_trim form.trim 48) (nat_lt 0 (length xs)) (length (bare_content form xs) == 0) is in
    let none : bare_content form xs ≡ [] = nil_from_length _ (eqb-true (length (bare_content form xs)) 0 t.2) in
    ap only_escaped (sym none) ∙ escaped-bare form xs)
    (λ other. escaped-bare form xs)
