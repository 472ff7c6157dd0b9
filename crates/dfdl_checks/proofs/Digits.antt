-- Numbers in decimal digits that are too long for a machine's number.
use Rattle.std.proofs.Common.{◌≡◌, sym, ap, ◌∙◌, ℕ, ◌<◌, ◌≤◌, ◌^◌, ◌*◌, ◌-◌, min, length, List, Some, None, Result, Ok, Err, Bool, true, false, ◌&&◌, if◌then◌else◌, nat_le, arith}
use Rattle.std.specs.Result.{OkIff}
use Rattle.std.specs.Str.{all_ascii_digits}
use Rattle.std.specs.Str.Parse.{digits_value, ParsesUnsigned}
use Rattle.std.proofs.lemmas.Str.Parse.{numerals_by_value, parse_digits, tells_all_ascii_digits}
use Rattle.std.proofs.lemmas.Bool.{lt-leb}
use Rattle.std.proofs.Math.Bool.{and-false}
use Rattle.std.proofs.Math.Nat.{le-mul_of_pos_right, min-eq_right}
use Rattle.dfdl_terms.specs.Rows.{most_length}
use Rattle.dfdl_checks.specs.Boxes.{units_within}
use Rattle.dfdl_checks.specs.Lengths.{length_in, number_of_digits, size_within}
use Rattle.dfdl_checks.specs.Numbers.{places_of_digits}
use Rattle.dfdl_checks.specs.Values.{is_number, is_within, number_within}
use Rattle.dfdl_checks.specs.Writings.{least_of}

-- a number has a digit, and digits alone
pub number-digits : (text : List ℕ) → is_number text ≡ true → (0 < length text) × (all_ascii_digits text ≡ true)
number-digits text at = grind (arith, at)

-- what is no machine's number is longer than each one
no-value : {E : Type 0} (k : ℕ) (text : List ℕ) (r : Result ℕ E) (e : E) → OkIff r ((0 < length text) × (digits_value 10 text < 2 ^ k)) (digits_value 10 text)
    → 0 < length text → r ≡ Err e → 2 ^ k ≤ digits_value 10 text
no-value k text (Ok n) e h some is = grind (arith, is)
no-value k text (Err x) e h some is = grind (arith, h, some)

-- digits that are no machine's number
long-number : {E : Type 0} (k : ℕ) (text : List ℕ) (r : Result ℕ E) (e : E) → is_number text ≡ true → ParsesUnsigned k 10 text r → r ≡ Err e
    → 2 ^ k ≤ digits_value 10 text
long-number k text r e at h is =
    let number = number-digits text at in
    no-value k text r e (parse_digits (numerals_by_value (λ ds. all_ascii_digits ds ≡ true) tells_all_ascii_digits) k text r h number.1) number.0 is

-- a number that is longer than each machine's number is in no range of these
pub too-long : {E : Type 0} (least most : ℕ) (text : List ℕ) (r : Result ℕ E) (e : E) → most < 2 ^ 64 → is_number text ≡ true
    → ParsesUnsigned 64 10 text r → r ≡ Err e → false ≡ is_within least most text
too-long least most text r e few at h is =
    let long : 2 ^ 64 ≤ digits_value 10 text = long-number 64 text r e at h is in
    let past : nat_le (digits_value 10 text) most ≡ false = lt-leb (digits_value 10 text) most (omega (arith, few, long)) in
    sym (ap (λ b. is_number text && (nat_le least (digits_value 10 text) && b)) past
    ∙ (ap (λ b. is_number text && b) (and-false (nat_le least (digits_value 10 text))) ∙ and-false (is_number text)))

-- a length with a bit at least in each unit that is longer than each machine's number is that of no field
pub too-many : {E : Type 0} (most unit : ℕ) (text : List ℕ) (r : Result ℕ E) (e : E) → most < 2 ^ 32 → 1 ≤ unit → is_number text ≡ true
    → ParsesUnsigned 64 10 text r → r ≡ Err e → None ≡ size_within most (length_in unit (number_of_digits text))
too-many most unit text r e few some at h is =
    let long : 2 ^ 64 ≤ digits_value 10 text = long-number 64 text r e at h is in
    let longer : digits_value 10 text ≤ digits_value 10 text * unit = le-mul_of_pos_right (digits_value 10 text) some in
    let past : nat_le (digits_value 10 text * unit) most ≡ false = lt-leb (digits_value 10 text * unit) most (omega (arith, few, long, longer)) in
    sym (ap (λ b. size_within most (length_in unit (if b then Some (digits_value 10 text) else None))) at
    ∙ ap (λ b. if b then Some (digits_value 10 text * unit) else None)
    (ap (λ b. nat_le 1 (digits_value 10 text * unit) && b) past ∙ and-false (nat_le 1 (digits_value 10 text * unit))))

-- units with a bit at least in each, longer than each machine's number, are past the greatest length
pub too-far : {E : Type 0} (unit : ℕ) (text : List ℕ) (r : Result ℕ E) (e : E) → 1 ≤ unit → is_number text ≡ true
    → ParsesUnsigned 64 10 text r → r ≡ Err e → None ≡ units_within unit (number_of_digits text)
too-far unit text r e some at h is =
    let long : 2 ^ 64 ≤ digits_value 10 text = long-number 64 text r e at h is in
    let longer : digits_value 10 text ≤ digits_value 10 text * unit = le-mul_of_pos_right (digits_value 10 text) some in
    let past : nat_le (digits_value 10 text * unit) most_length ≡ false = lt-leb (digits_value 10 text * unit) most_length (omega (arith, long, longer)) in
    sym (ap (λ b. units_within unit (if b then Some (digits_value 10 text) else None)) at
    ∙ ap (λ b. if b then Some (digits_value 10 text) else None) past)

-- a number that is in a range is not past its end
not-past : (least most : ℕ) (text : List ℕ) → is_within least most text ≡ true → (is_number text ≡ true) × (nat_le (digits_value 10 text) most ≡ true)
not-past least most text at = both (is_number text) (nat_le least (digits_value 10 text)) (nat_le (digits_value 10 text) most) at
  where
    both : (a b c : Bool) → (a && (b && c)) ≡ true → (a ≡ true) × (c ≡ true)
    both a b c h = (grind (arith, h), grind (arith, h))

-- what is no number of 32 bits is in no range of these
pub too-wide : {E : Type 0} (least most : ℕ) (text : List ℕ) (r : Result ℕ E) (e : E) → most < 2 ^ 32 → is_within least most text ≡ true
    → ParsesUnsigned 32 10 text r → r ≡ Err e → None ≡ number_within least most text
too-wide least most text r e few at h is =
    let parts = not-past least most text at in
    let long : 2 ^ 32 ≤ digits_value 10 text = long-number 32 text r e parts.0 h is in
    let past : nat_le (digits_value 10 text) most ≡ false = lt-leb (digits_value 10 text) most (omega (arith, few, long)) in
    absurd (true-not-false (sym parts.1 ∙ past))
  where
    true-not-false : true ≡ false → ⊥
    true-not-false h = grind (arith, h)

-- what is no number of eight bits is no number of digits behind a point
pub too-deep : {E : Type 0} (text : List ℕ) (r : Result ℕ E) (e : E) → is_within 0 38 text ≡ true → ParsesUnsigned 8 10 text r → r ≡ Err e
    → None ≡ places_of_digits text
too-deep text r e at h is =
    let parts = both (is_number text) (nat_le 0 (digits_value 10 text)) (nat_le (digits_value 10 text) 38) at in
    let long : 2 ^ 8 ≤ digits_value 10 text = long-number 8 text r e parts.0 h is in
    let past : nat_le (digits_value 10 text) 38 ≡ false = lt-leb (digits_value 10 text) 38 (omega (arith, long)) in
    absurd (true-not-false (sym parts.1 ∙ past))
  where
    both : (a b c : Bool) → (a && (b && c)) ≡ true → (a ≡ true) × (c ≡ true)
    both a b c h = (grind (arith, h), grind (arith, h))

    true-not-false : true ≡ false → ⊥
    true-not-false h = grind (arith, h)

-- what is no number of 64 bits counts as the greatest of these
pub too-large : {E : Type 0} (text : List ℕ) (r : Result ℕ E) (e : E) → is_number text ≡ true → ParsesUnsigned 64 10 text r → r ≡ Err e
    → 2 ^ 64 - 1 ≡ least_of text
unfolding least_of
too-large text r e at h is =
    let long : 2 ^ 64 ≤ digits_value 10 text = long-number 64 text r e at h is in
    sym (ap (λ b. if b then min (digits_value 10 text) (2 ^ 64 - 1) else 0) at ∙ min-eq_right (omega (arith, long)))
