-- Characters that are put into a text, in groups, and without zeros at their end.
use Rattle.std.proofs.Common.{◌≡◌, ◌≢◌, ℕ, suc, ◌+◌, ◌*◌, ◌/◌, ◌%◌, ◌^◌, ◌==◌, ◌&&◌, ◌<◌, ◌≤◌, Bool, true, false, not, cond, nat_lt, List, [], ◌∷◌, ◌++◌, map, length, take, drop, set, refl, ap, sym, ◌∙◌, append_assoc, length-append, length-take-le, add-one, inl, inr, ◌-◌, zero, arith}
use Rattle.std.proofs.lemmas.List.{set_split, take_at, take-append-drop, drop-drop, drop_at, append-nil, map-append, take_all, drop_all, take-append-le, drop-append-le, take-take}
use Rattle.std.proofs.lemmas.Bool.{cases_lt, cases_eq, eq-eqb, ne_eqb, lt-ltb}
use Rattle.std.proofs.lemmas.Bool.Decides.{nat_tests}
use Rattle.std.proofs.lemmas.Nat.{div-add-mod', div-mul-add, mod-mul-add}
use Rattle.std.proofs.Math.Nat.{mod-lt, add-mul, le-div_iff_mul-le}
use Rattle.dfdl_value.specs.Texts.{is_zero}
use Rattle.dfdl_lemmas.specs.Trimmed.{before_rest, without_trailing}
use Rattle.dfdl_number_text.specs.Digits.{digits_at, digit_character}
use Rattle.dfdl_number_text.specs.Writing.{fraction_digits, grouped}
use Rattle.dfdl_number_text.specs.Written.{IsPut, digit_text, separator_behind, separators_between}
use Rattle.dfdl_number_text.specs.declared.digits.Groups.{Groups}
use Rattle.dfdl_number_text.proofs.DigitLemmas.{digits_last, digits_none, digits_more, length-characters}

-- ---- characters that are put into a text
pub put_none : (xs : List ℕ) (at : ℕ) → IsPut xs at [] xs
put_none xs at =
    let here : at + 0 ≡ at = omega arith in
    rw here (sym (take-append-drop at xs))

pub put_one : (xs : List ℕ) (at c : ℕ) → at < length xs → IsPut xs at (c ∷ []) (set xs at c)
put_one xs at c within = set_split xs at c within ∙ ap (λ (k : ℕ). take at xs ++ c ∷ drop k xs) (sym (add-one at))

pub put_joined : (a b c : List ℕ) (at next : ℕ) (p q : List ℕ) → at ≤ length a → next ≡ at + length p
    → IsPut a at p b → IsPut b next q c → IsPut a at (p ++ q) c
put_joined a b c at next p q within here first second =
    let long : length (take at a ++ p) ≡ next = simp length-append (rw (length-take-le at a within) (sym here)) in
    let together : b ≡ (take at a ++ p) ++ drop (at + length p) a = first ∙ sym (append_assoc (take at a) p (drop (at + length p) a)) in
    let front : take next b ≡ take at a ++ p = ap (take next) together ∙ take_at (take at a ++ p) (drop (at + length p) a) next long in
    let behind : drop next b ≡ drop (at + length p) a = ap (drop next) together ∙ drop_at (take at a ++ p) (drop (at + length p) a) next long in
    let place : at + length (p ++ q) ≡ at + length p + length q = simp length-append (omega arith) in
    let rest : drop (next + length q) b ≡ drop (at + length (p ++ q)) a =
    sym (drop-drop (length q) next b) ∙ ap (drop (length q)) behind ∙ drop-drop (length q) (at + length p) a ∙ ap (λ (k : ℕ). drop k a) (sym place) in
    second ∙ rw (front, rest) (append_assoc (take at a) p (q ++ drop (at + length (p ++ q)) a) ∙ ap (λ (ys : List ℕ). take at a ++ ys) (sym (append_assoc p q (drop (at + length (p ++ q)) a))))

-- characters in front of those that were put
pub put_before : (a b c : List ℕ) (at next : ℕ) (p q : List ℕ) → next + length q ≤ length a → at + length p ≡ next
    → IsPut a next q b → IsPut b at p c → IsPut a at (p ++ q) c
put_before a b c at next p q inside here first second =
    let front : take at b ≡ take at a = ap (take at) first ∙ take-append-le at (take next a) (q ++ drop (next + length q) a) (omega (arith, length-take-le next a (omega (arith, inside)))) ∙ take-take at next a (omega arith) in
    let behind : drop next b ≡ q ++ drop (next + length q) a = ap (drop next) first ∙ drop_at (take next a) (q ++ drop (next + length q) a) next (length-take-le next a (omega (arith, inside))) in
    let same : drop (at + length p) b ≡ q ++ drop (next + length q) a = ap (λ (k : ℕ). drop k b) here ∙ behind in
    let end : next + length q ≡ at + length (p ++ q) = omega (arith, here, length-append p q) in
    second ∙ rw (front, same, end) (ap (λ (ys : List ℕ). take at a ++ ys) (sym (append_assoc p q (drop (at + length (p ++ q)) a))))

-- ---- groups
-- one more digit needs a separator where a whole number of groups stands behind it
more_separators : (group k : ℕ) → 0 < group → (suc k) / group ≡ k / group + cond (suc k % group == 0) 1 0
more_separators group k some = elim (cases_lt (k % group + 1) group) [
  | inl less ↦
      let next : suc k ≡ k / group * group + (k % group + 1) = omega (arith, div-add-mod' k group) in
      let quotient : suc k / group ≡ k / group = ap (λ (n : ℕ). n / group) next ∙ div-mul-add (k / group) group (k % group + 1) less in
      let rest : suc k % group ≡ k % group + 1 = ap (λ (n : ℕ). n % group) next ∙ mod-mul-add (k / group) group (k % group + 1) less in
      let test : (suc k % group == 0) ≡ false = ne_eqb (suc k % group) 0 (λ none. omega (arith, rest, none)) in
      quotient ∙ rw test (omega arith)
  | inr full ↦
      let top : k % group < group = mod-lt k some in
      let next : suc k ≡ (k / group + 1) * group + 0 = omega (arith, div-add-mod' k group, add-mul (k / group) 1 group) in
      let quotient : suc k / group ≡ k / group + 1 = ap (λ (n : ℕ). n / group) next ∙ div-mul-add (k / group + 1) group 0 some in
      let rest : suc k % group ≡ 0 = ap (λ (n : ℕ). n % group) next ∙ mod-mul-add (k / group + 1) group 0 some in
      let test : (suc k % group == 0) ≡ true = eq-eqb (suc k % group) 0 rest in
      quotient ∙ rw test refl
]

pub grouped_more : (separator group digit : ℕ) (rest : List ℕ)
    → grouped separator group (digit ∷ rest) ≡ (digit ∷ separator_behind separator group (length rest)) ++ grouped separator group rest
grouped_more separator group digit rest = by_test (not (group == 0) && (nat_lt 0 (length rest) && (length rest % group == 0)))
  where
    by_test : (b : Bool) → cond b (digit ∷ (separator ∷ grouped separator group rest)) (digit ∷ grouped separator group rest)
        ≡ (digit ∷ cond b (separator ∷ []) []) ++ grouped separator group rest
    by_test true = refl
    by_test false = refl

one_more : (group k : ℕ) → 0 < group
    → cond (not (group == 0) && (nat_lt 0 k && (k % group == 0))) 1 0 + (k - 1) / group ≡ (suc k - 1) / group
one_more group zero some = rw (ne_eqb group 0 (λ none. omega (arith, some, none))) (omega arith)
one_more group (suc j) some =
    let here : suc j - 1 ≡ j = omega arith in
    let next : suc (suc j) - 1 ≡ suc j = omega arith in
    rw (ne_eqb group 0 (λ none. omega (arith, some, none)), lt-ltb 0 (suc j) (omega arith), here, next) (omega (arith, more_separators group j some))

grouped_length : (separator group : ℕ) (xs : List ℕ) → 0 < group → length (grouped separator group xs) ≡ length xs + (length xs - 1) / group
grouped_length separator group [] some = omega arith
grouped_length separator group (x ∷ xs) some =
    let test : Bool = not (group == 0) && (nat_lt 0 (length xs) && (length xs % group == 0)) in
    let rest = grouped_length separator group xs some in
    let more = one_more group (length xs) some in
    let here = by_test test in
    omega (arith, here, rest, more)
  where
    by_test : (b : Bool) → length (cond b (x ∷ (separator ∷ grouped separator group xs)) (x ∷ grouped separator group xs)) ≡ 1 + cond b 1 0 + length (grouped separator group xs)
    by_test true = omega arith
    by_test false = omega arith

pub grouped_none : (separator : ℕ) (xs : List ℕ) → grouped separator 0 xs ≡ xs
grouped_none separator [] = refl
grouped_none separator (x ∷ xs) = ap (λ (ys : List ℕ). x ∷ ys) (grouped_none separator xs)

pub grouped_long : (separator group : ℕ) (xs : List ℕ) → length (grouped separator group xs) ≤ 2 * length xs
grouped_long separator group [] = omega arith
grouped_long separator group (x ∷ xs) = by_test (not (group == 0) && (nat_lt 0 (length xs) && (length xs % group == 0))) (grouped_long separator group xs)
  where
    by_test : (b : Bool) → length (grouped separator group xs) ≤ 2 * length xs
        → length (cond b (x ∷ (separator ∷ grouped separator group xs)) (x ∷ grouped separator group xs)) ≤ 2 * suc (length xs)
    by_test true less = omega arith
    by_test false less = omega arith

-- ---- zeros at the end
without_trailing_zero : (xs : List ℕ) → without_trailing is_zero (xs ++ 48 ∷ []) ≡ without_trailing is_zero xs
without_trailing_zero [] = refl
without_trailing_zero (y ∷ ys) = ap (before_rest is_zero y) (without_trailing_zero ys)

before_some : (xs : List ℕ) (y x : ℕ) → before_rest is_zero y (xs ++ x ∷ []) ≡ y ∷ (xs ++ x ∷ [])
before_some [] y x = refl
before_some (z ∷ xs) y x = refl

without_trailing_other : (xs : List ℕ) (x : ℕ) → is_zero x ≡ false → without_trailing is_zero (xs ++ x ∷ []) ≡ xs ++ x ∷ []
without_trailing_other [] x other = rw other refl
without_trailing_other (y ∷ ys) x other = ap (before_rest is_zero y) (without_trailing_other ys x other) ∙ before_some ys y x

-- a zero at the end is left away
pub zero_off : (least count n : ℕ) → least ≤ count → n % 10 ≡ 0 → fraction_digits least (suc count) n ≡ fraction_digits least count (n / 10)
zero_off least count n fits ends =
    let front : List ℕ = map digit_character (digits_at 10 count (n / 10)) in
    let all : map digit_character (digits_at 10 (suc count) n) ≡ front ++ 48 ∷ [] =
    ap (map digit_character) (digits_last 10 count n)
    ∙ map-append digit_character (digits_at 10 count (n / 10)) (n % 10 ∷ [])
    ∙ ap (λ (d : ℕ). front ++ digit_character d ∷ []) ends in
    let long : least ≤ length front = rw (length-characters 10 count (n / 10)) fits in
    rw (all, take-append-le least front (48 ∷ []) long, drop-append-le least front (48 ∷ []) long)
    (ap (λ (ys : List ℕ). take least front ++ ys) (without_trailing_zero (drop least front)))

-- digits of which the last isn't zero
pub none_off : (least count n : ℕ) → least ≤ count → n % 10 ≢ 0 → fraction_digits least (suc count) n ≡ map digit_character (digits_at 10 (suc count) n)
none_off least count n fits other =
    let front : List ℕ = map digit_character (digits_at 10 count (n / 10)) in
    let last : ℕ = digit_character (n % 10) in
    let all : map digit_character (digits_at 10 (suc count) n) ≡ front ++ last ∷ [] =
    ap (map digit_character) (digits_last 10 count n)
    ∙ map-append digit_character (digits_at 10 count (n / 10)) (n % 10 ∷ []) in
    let long : least ≤ length front = rw (length-characters 10 count (n / 10)) fits in
    rw (all, take-append-le least front (last ∷ []) long, drop-append-le least front (last ∷ []) long)
    (ap (λ (ys : List ℕ). take least front ++ ys) (without_trailing_other (drop least front) last (not_zero (n % 10) (omega arith) other))
    ∙ sym (append_assoc (take least front) (drop least front) (last ∷ []))
    ∙ ap (λ (ys : List ℕ). ys ++ last ∷ []) (take-append-drop least front))
  where
    not_zero : (d : ℕ) → d < 10 → d ≢ 0 → is_zero (digit_character d) ≡ false
    not_zero d small other = grind (arith, nat_tests)

-- the least number of digits
pub least_digits : (least n : ℕ) → fraction_digits least least n ≡ map digit_character (digits_at 10 least n)
least_digits least n =
    let digits : List ℕ = map digit_character (digits_at 10 least n) in
    let long : length digits ≤ least = rw (length-characters 10 least n) (omega arith) in
    rw (take_all least digits long, drop_all least digits long) (append-nil digits)

-- ---- digits in groups
pub text_none : (groups : Groups) (base n : ℕ) → digit_text groups base 0 n ≡ []
text_none groups base n = ap (λ (ds : List ℕ). grouped groups.separator groups.size (map digit_character ds)) (digits_none base n)

pub text_more : (groups : Groups) (base len n : ℕ)
    → digit_text groups base (len + 1) n ≡ (digit_character (n / base ^ len % base) ∷ separator_behind groups.separator groups.size len) ++ digit_text groups base len n
text_more groups base len n =
    let digit : ℕ = digit_character (n / base ^ len % base) in
    let rest : List ℕ = map digit_character (digits_at base len n) in
    ap (λ (ds : List ℕ). grouped groups.separator groups.size (map digit_character ds)) (digits_more base len n)
    ∙ grouped_more groups.separator groups.size digit rest
    ∙ ap (λ (k : ℕ). (digit ∷ separator_behind groups.separator groups.size k) ++ grouped groups.separator groups.size rest) (length-characters base len n)

-- the same in front of a digit
pub text_front : (groups : Groups) (base len behind n : ℕ) → len ≡ behind + 1
    → digit_text groups base len n ≡ (digit_character (n / base ^ behind % base) ∷ separator_behind groups.separator groups.size behind) ++ digit_text groups base behind n
text_front groups base len behind n here = ap (λ (k : ℕ). digit_text groups base k n) here ∙ text_more groups base behind n

pub text_length : (groups : Groups) (base len behind n : ℕ) → len ≡ behind + 1
    → length (digit_text groups base len n) ≡ suc (length (separator_behind groups.separator groups.size behind)) + length (digit_text groups base behind n)
text_length groups base len behind n here =
    ap length (text_front groups base len behind n here)
    ∙ length-append (digit_character (n / base ^ behind % base) ∷ separator_behind groups.separator groups.size behind) (digit_text groups base behind n)

-- so many digits with their separators
pub text_size : (groups : Groups) (base count n : ℕ) → length (digit_text groups base count n) ≡ count + separators_between count groups.size
text_size groups base count n = elim (cases_eq groups.size 0) [
  | inl none ↦
      let digits : List ℕ = map digit_character (digits_at base count n) in
      let all : length (digit_text groups base count n) ≡ count =
      ap (λ (size : ℕ). length (grouped groups.separator size digits)) none ∙ ap length (grouped_none groups.separator digits) ∙ length-characters base count n in
      rw (eq-eqb groups.size 0 none) (omega (arith, all))
  | inr some ↦
      let digits : List ℕ = map digit_character (digits_at base count n) in
      let all = grouped_length groups.separator groups.size digits (omega (arith, some)) in
      rw (ne_eqb groups.size 0 some) (all ∙ ap (λ (k : ℕ). k + (k - 1) / groups.size) (length-characters base count n))
]

quotient_less : (group few count : ℕ) → 0 < group → few ≤ count → few / group ≤ count / group
quotient_less group few count some less =
    (le-div_iff_mul-le {x = few / group} {y = count} some).1 (omega (arith, div-add-mod' few group, less))

separators_less : (group few count : ℕ) → few ≤ count → separators_between few group ≤ separators_between count group
separators_less group few count less = elim (cases_eq group 0) [
  | inl none ↦ rw (eq-eqb group 0 none) (omega arith)
  | inr some ↦ rw (ne_eqb group 0 some) (quotient_less group (few - 1) (count - 1) (omega (arith, some)) (omega (arith, less)))
]

pub text_longer : (groups : Groups) (base few count n : ℕ) → few ≤ count → length (digit_text groups base few n) ≤ length (digit_text groups base count n)
text_longer groups base few count n less =
    omega (arith, text_size groups base few n, text_size groups base count n, separators_less groups.size few count less, less)
