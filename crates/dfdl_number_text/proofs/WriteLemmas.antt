-- The parts of a written number.
use Rattle.std.proofs.Common.{◌≡◌, ◌≢◌, ℕ, ◌+◌, ◌*◌, ◌/◌, ◌^◌, ◌<◌, ◌≤◌, max, nat_eq, ◌&&◌, not, Bool, true, false, if◌then◌else◌, List, [], ◌∷◌, ◌++◌, map, length, drop, Option, Some, None, Result, Ok, Err, IfOk, option_map, option_and_then, unsigned_abs, zero-mul, refl, ap, sym, ◌∙◌, arith}
use Rattle.std.proofs.lemmas.Bool.{ne_eqb}
use Rattle.std.proofs.lemmas.List.{drop_at}
use Rattle.std.proofs.lemmas.Nat.{div-mul-add}
use Rattle.std.proofs.Math.Nat.{mul-le-mul_left}
use Rattle.dfdl_decimal.specs.Decimal.{DecimalNumber}
use Rattle.dfdl_forms.specs.declared.number.NumberForm.{NumberForm}
use Rattle.dfdl_forms.specs.declared.number.Rounding.{Rounding}
use Rattle.dfdl_forms.specs.declared.number_pattern.NumberPattern.{NumberPattern}
use Rattle.dfdl_number_text.specs.Rounding.{rounded}
use Rattle.dfdl_forms.specs.declared.fault.NoFit.{NoFit}
use Rattle.dfdl_number_text.specs.declared.rounding.Number.{Number}
use Rattle.dfdl_number_text.specs.declared.rounding.Size.{Size}
use Rattle.dfdl_number_text.specs.Digits.{digits_at, digit_count, digit_character}
use Rattle.dfdl_number_text.specs.Writing.{behind_integer, body_text, fraction_digits, grouped, integer_digits, least_digits, written_fraction, is_below_zero, pattern_text, places_of, signed_text, size_at, with_separator}
use Rattle.dfdl_number_text.specs.Written.{IsFront, IsWritten, ShowsNumber, ShowsSize, digit_text}
use Rattle.dfdl_number_text.specs.declared.digits.Groups.{Groups}
use Rattle.dfdl_number_text.proofs.RoundingLemmas.{ten_some}
use Rattle.dfdl_number_text.proofs.DigitLemmas.{digits_behind, length-characters, digit_count_few}
use Rattle.dfdl_number_text.proofs.WriteLists.{grouped_none, grouped_long}

-- ---- zero
pub zero_whole : (whole fraction places : ℕ) → whole ≡ 0 → nat_eq (whole * 10 ^ places + fraction) 0 ≡ nat_eq fraction 0
zero_whole whole fraction places none =
    let zero : whole * 10 ^ places ≡ 0 = ap (λ (n : ℕ). n * 10 ^ places) none ∙ zero-mul (10 ^ places) in
    ap (λ (n : ℕ). nat_eq n 0) (omega arith)

pub some_whole : (whole fraction places : ℕ) → whole ≢ 0 → nat_eq (whole * 10 ^ places + fraction) 0 ≡ false
some_whole whole fraction places some =
    let large : whole * 1 ≤ whole * 10 ^ places = mul-le-mul_left whole (ten_some places) in
    ne_eqb _ 0 (λ none. some (omega arith))

-- ---- plain digits
pub plain_text : (base count n : ℕ) (groups : Groups) → groups.size ≡ 0 → digit_text groups base count n ≡ map digit_character (digits_at base count n)
plain_text base count n groups none =
    ap (λ (size : ℕ). grouped groups.separator size (map digit_character (digits_at base count n))) none
    ∙ grouped_none groups.separator (map digit_character (digits_at base count n))

-- ---- the integer digits
pub integer_text : (groups : Groups) (least whole base count n : ℕ) → base ≡ 10 → n ≡ whole → count ≡ max least (digit_count 10 39 whole)
    → digit_text groups base count n ≡ grouped groups.separator groups.size (integer_digits least whole)
integer_text groups least whole base count n ten same counted = rw (ten, same, counted) refl

pub integer_of_size : (whole places fraction : ℕ) → fraction < 10 ^ places → (whole * 10 ^ places + fraction) / 10 ^ places ≡ whole
integer_of_size whole places fraction small = div-mul-add whole (10 ^ places) fraction small

-- at most 39 of them, in groups
pub integer_long : (groups : Groups) (least whole : ℕ) → least ≤ 38 → length (grouped groups.separator groups.size (integer_digits least whole)) ≤ 78
integer_long groups least whole few =
    let count : ℕ = max least (digit_count 10 39 whole) in
    let most : count ≤ 39 = omega (arith, digit_count_few 10 39 whole) in
    let long = grouped_long groups.separator groups.size (map digit_character (digits_at 10 count whole)) in
    omega (arith, long, most, length-characters 10 count whole)

-- ---- the fraction digits
pub fraction_of_size : (least places whole fraction : ℕ) → fraction_digits least places (whole * 10 ^ places + fraction) ≡ fraction_digits least places fraction
fraction_of_size least places whole fraction = rw (digits_behind 10 places places whole fraction (omega arith) (omega arith)) refl

pub with_separator_is : (places decimal : ℕ) (xs : List ℕ)
    → with_separator places decimal xs ≡ (if nat_eq (length xs) 0 && not (nat_eq places 0) then [] else decimal ∷ xs)
with_separator_is places decimal (x ∷ xs) =
    ap (λ (b : Bool). if b && not (nat_eq places 0) then [] else decimal ∷ (x ∷ xs)) (sym (ne_eqb (length (x ∷ xs)) 0 (λ none. omega (arith, none))))
with_separator_is places decimal [] = by (nat_eq places 0)
  where
    by : (none : Bool) → (if none then decimal ∷ [] else []) ≡ (if true && not none then [] else decimal ∷ [])
    by true = refl
    by false = refl

-- the digits that stand behind a separator
pub fraction_is : (places decimal count n : ℕ) (left : Bool) → left ≡ (nat_eq count 0 && not (nat_eq places 0))
    → with_separator places decimal (map digit_character (digits_at 10 count n)) ≡ (if left then [] else decimal ∷ map digit_character (digits_at 10 count n))
fraction_is places decimal count n left told =
    let digits : List ℕ = map digit_character (digits_at 10 count n) in
    with_separator_is places decimal digits
    ∙ ap (λ (k : ℕ). if nat_eq k 0 && not (nat_eq places 0) then [] else decimal ∷ digits) (length-characters 10 count n)
    ∙ ap (λ (b : Bool). if b then [] else decimal ∷ digits) (sym told)

-- ---- the body
pub body_is : (form : NumberForm) (pattern : NumberPattern) (whole fraction least count n : ℕ) → fraction < 10 ^ places_of pattern pattern.point
    → written_fraction pattern pattern.point (whole * 10 ^ places_of pattern pattern.point + fraction) ≡ map digit_character (digits_at 10 count n)
    → least ≡ least_digits pattern count
    → body_text form pattern (whole * 10 ^ places_of pattern pattern.point + fraction)
    ≡ grouped form.grouping pattern.group_size (integer_digits least whole)
    ++ behind_integer form pattern pattern.point (map digit_character (digits_at 10 count n))
body_is form pattern whole fraction least count n small told is =
    rw (told, integer_of_size whole (places_of pattern pattern.point) fraction small, length-characters 10 count n, is) refl

-- ---- a text that is written
pub written_inside : (r : Result ℕ NoFit) (o : Option (List ℕ)) (before after : List ℕ) → IsWritten r o before after
    → IfOk r (λ count. drop count after ≡ drop count before)
written_inside (Ok count) (Some text) before after front =
    rw front.count_is (at_front text before after (length text) refl front.put)
  where
    at_front : (text before after : List ℕ) (n : ℕ) → length text ≡ n → after ≡ text ++ drop (0 + length text) before → drop n after ≡ drop n before
    at_front text before after n long put =
        let place : 0 + length text ≡ n = omega arith in
        let all : after ≡ text ++ drop n before = rw place at put in
        ap (drop n) all ∙ drop_at text (drop n before) n long
written_inside (Ok count) None before after front = absurd front
written_inside (Err fault) o before after front = tt

-- the text of a number by a pattern
pub written_number : (form : NumberForm) (pattern : NumberPattern) (o : Option DecimalNumber) (number : Number) (mode : Rounding) (size : Size) (count : ℕ) (before after : List ℕ)
    → ShowsNumber (Some number) o
    → ((places : ℕ) → (d : DecimalNumber) → size_at form.rounding pattern.point places d ≡ rounded mode (is_below_zero d) (unsigned_abs d.mantissa * 10 ^ places) (10 ^ d.scale))
    → ShowsSize (places_of pattern pattern.point) (Some size) (rounded mode number.negative (number.magnitude * 10 ^ places_of pattern pattern.point) (10 ^ number.scale))
    → IsFront count (signed_text form pattern number.negative (size.whole * 10 ^ places_of pattern pattern.point + size.fraction)) before after
    → IsWritten (Ok count) (option_and_then (pattern_text form pattern) o) before after
written_number form pattern None number mode size count before after shows same sized front = absurd shows
written_number form pattern (Some d) number mode size count before after shows same sized front =
    let places : ℕ = places_of pattern pattern.point in
    rw (same places d, ← shows.negative, ← shows.magnitude, ← shows.scale) (by_size (rounded mode number.negative (number.magnitude * 10 ^ places) (10 ^ number.scale)) sized)
  where
    by_size : (o : Option ℕ) → ShowsSize (places_of pattern pattern.point) (Some size) o
        → IsWritten (Ok count) (option_map (signed_text form pattern number.negative) o) before after
    by_size None none = absurd none
    by_size (Some n) is = rw is.value at front
