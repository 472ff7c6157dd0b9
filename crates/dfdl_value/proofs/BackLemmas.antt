-- The text of a value is read as that value.
use Rattle.std.proofs.Common.{◌≡◌, ℕ, zero, suc, ◌-◌, ◌^◌, ◌<◌, ◌≤◌, Bool, true, false, not, ◌&&◌, ◌||◌, ◌==◌, if◌then◌else◌, List, [], ◌∷◌, refl, sym, ap, ◌∙◌, arith, rules, ℤ, pos, negsuc, neg_ℤ, ◌≤ℤ◌, unsigned_abs, Some, Ok, Err}
use Rattle.std.specs.Char.{is_ascii_digit}
use Rattle.std.specs.Fmt.{decimal, signed_decimal}
use Rattle.std.specs.List.{list_all}
use Rattle.std.proofs.lemmas.List.Sums.{list_all-from_AllPass}
use Rattle.hex.specs.Hex.{is_hex_digit, decode_of, encode_upper, IsBytes}
use Rattle.hex.proofs.HexLemmas.{decode_of-encode_upper, decode_of-ok}
use Rattle.std.proofs.lemmas.Fmt.{decimal_is_IsNumeral_wide}
use Rattle.std.proofs.lemmas.Str.Parse.{IsNumeralModel, numerals_by_fold}
use Rattle.std.proofs.lemmas.Bool.{lt-ltb, le-leb}
use Rattle.std.proofs.lemmas.Bool.Decides.{nat_tests}
use Rattle.std.proofs.Math.Pow.{pow_mono}
use Rattle.std.proofs.Math.Dec.{T}
use Rattle.std.proofs.lemmas.Int.{ints}
use Rattle.dfdl_value.specs.declared.read.NoValue.TheVariants.{PastType}
use Rattle.dfdl_forms.specs.declared.simple.Form.TheVariants.{Signed, Unsigned}
use Rattle.dfdl_value.specs.declared.value.Value.TheVariants.{Int, Uns, Bytes}
use Rattle.dfdl_value.specs.Types.{HasForm}
use Rattle.dfdl_value.specs.ReadValues.{form_reading, signed_reading, unsigned_reading, bytes_reading}
use Rattle.dfdl_value.specs.Writing.{text_of}
use Rattle.dfdl_value.proofs.TextLemmas.{integer_of-numeral}
use Rattle.dfdl_value.specs.Texts.{is_xml_space, trimmed, is_negative, unsigned_part, is_numeral, number_after, number_of, integer_of}
use Rattle.dfdl_lemmas.proofs.Bools.{both}
use Rattle.dfdl_lemmas.specs.Trimmed.{before_rest, without_leading, without_trailing}
use Rattle.dfdl_decimal.specs.Decimal.{with_sign}

-- digits as std has them
pub own : IsNumeralModel (λ ds. list_all is_ascii_digit ds ≡ true) number_of
own = numerals_by_fold _ (search rules) number_after (search rules)

-- the text of a number is a numeral of it
pub is_numeral-decimal : (n : ℕ) → n < 10 ^ 64 → is_numeral (decimal n) ≡ true
is_numeral-decimal n small =
    let wide = decimal_is_IsNumeral_wide n small in
    ap (λ b. b && list_all is_ascii_digit (decimal n)) (lt-ltb _ _ wide.0.0) ∙ own.from (decimal n) wide.0.1

pub number_of-decimal : (n : ℕ) → n < 10 ^ 64 → number_of (decimal n) ≡ n
number_of-decimal n small =
    let wide = decimal_is_IsNumeral_wide n small in own.same (decimal n) wide.0.1 ∙ wide.1

-- a digit is no white space and no sign
pub is_xml_space-digit : (c : ℕ) → is_ascii_digit c ≡ true → is_xml_space c ≡ false
is_xml_space-digit c h = grind (arith, nat_tests)

pub is_sign-digit : (c : ℕ) → is_ascii_digit c ≡ true → ((c == 43) || (c == 45)) ≡ false
is_sign-digit c h = grind (arith, nat_tests)

pub is_minus-digit : (c : ℕ) → is_ascii_digit c ≡ true → (c == 45) ≡ false
is_minus-digit c h = grind (arith, nat_tests)

-- no byte of the text is white space
abbrev pub no_space : List ℕ → Bool
no_space = list_all (λ c. not (is_xml_space c))

pub not_space : (c : ℕ) → not (is_xml_space c) ≡ true → is_xml_space c ≡ false
not_space c h = not_true (is_xml_space c) h
  where
    not_true : (b : Bool) → not b ≡ true → b ≡ false
    not_true true e = cc
    not_true false e = refl

without_trailing-no_space : (xs : List ℕ) → no_space xs ≡ true → without_trailing is_xml_space xs ≡ xs
without_trailing-no_space [] h = refl
without_trailing-no_space (x ∷ xs) h =
    let parts = both _ _ h in
    ap (before_rest is_xml_space x) (without_trailing-no_space xs parts.1) ∙ first x xs (not_space x parts.0)
  where
    first : (x : ℕ) (xs : List ℕ) → is_xml_space x ≡ false → before_rest is_xml_space x xs ≡ x ∷ xs
    first x [] e = ap (λ b. if b then [] else x ∷ []) e
    first x (y ∷ ys) e = refl

pub trimmed-no_space : (xs : List ℕ) → no_space xs ≡ true → trimmed xs ≡ xs
trimmed-no_space [] h = refl
trimmed-no_space (x ∷ xs) h =
    let parts = both _ _ h in
    ap (λ b. without_trailing is_xml_space (if b then without_leading is_xml_space xs else x ∷ xs)) (not_space x parts.0) ∙ without_trailing-no_space (x ∷ xs) h

pub no_space-digits : (ds : List ℕ) → list_all is_ascii_digit ds ≡ true → no_space ds ≡ true
no_space-digits [] h = refl
no_space-digits (c ∷ cs) h =
    let parts = both _ _ h in
    ap (λ b. not b && no_space cs) (is_xml_space-digit c parts.0) ∙ no_space-digits cs parts.1

pub unsigned_part-digits : (ds : List ℕ) → list_all is_ascii_digit ds ≡ true → unsigned_part ds ≡ ds
unsigned_part-digits [] h = refl
unsigned_part-digits (c ∷ cs) h = ap (λ b. if b then cs else c ∷ cs) (is_sign-digit c (both _ _ h).0)

pub is_negative-digits : (ds : List ℕ) → list_all is_ascii_digit ds ≡ true → is_negative ds ≡ false
is_negative-digits [] h = refl
is_negative-digits (c ∷ cs) h = is_minus-digit c (both _ _ h).0

-- ---- whole numbers

with_digits : (ds : List ℕ) → is_numeral ds ≡ true → integer_of (trimmed ds) ≡ Some (pos (number_of ds))
with_digits ds numeral =
    let digits = (both _ _ numeral).1 in
    ap integer_of (trimmed-no_space ds (no_space-digits ds digits))
    ∙ integer_of-numeral ds ds (sym (unsigned_part-digits ds digits)) numeral
    ∙ ap (λ b. Some (with_sign b (number_of ds))) (is_negative-digits ds digits)

with_minus : (ds : List ℕ) → is_numeral ds ≡ true → integer_of (trimmed (45 ∷ ds)) ≡ Some (neg_ℤ (pos (number_of ds)))
with_minus ds numeral =
    let digits = (both _ _ numeral).1 in
    ap integer_of (trimmed-no_space (45 ∷ ds) (no_space-digits ds digits))
    ∙ integer_of-numeral (45 ∷ ds) ds refl numeral

pub integer_of-signed_decimal : (z : ℤ) → unsigned_abs z < 10 ^ 64 → integer_of (trimmed (signed_decimal z)) ≡ Some z
integer_of-signed_decimal (pos n) small =
    with_digits (decimal n) (is_numeral-decimal n small) ∙ ap (λ k. Some (pos k)) (number_of-decimal n small)
integer_of-signed_decimal (negsuc n) small =
    with_minus (decimal (suc n)) (is_numeral-decimal (suc n) small) ∙ ap (λ k. Some (neg_ℤ (pos k))) (number_of-decimal (suc n) small)

pub integer_of-decimal : (n : ℕ) → n < 10 ^ 64 → integer_of (trimmed (decimal n)) ≡ Some (pos n)
integer_of-decimal n small = with_digits (decimal n) (is_numeral-decimal n small) ∙ ap (λ k. Some (pos k)) (number_of-decimal n small)

-- a number between these bounds has no greater magnitude
abs-within : (half : ℕ) (z : ℤ) → neg_ℤ (pos half) ≤ℤ z → z ≤ℤ pos (half - 1) → unsigned_abs z ≤ half
abs-within half (pos n) low high = omega (arith, ints)
abs-within zero (negsuc n) low high = absurd (omega (arith, ints))
abs-within (suc h) (negsuc n) low high = omega (arith, ints)

pub signed_back : (bits : ℕ) (z : ℤ) → bits ≤ 128 → HasForm (Signed bits) (Int z) → form_reading (Signed bits) (text_of (Int z)) ≡ Ok (Int z)
signed_back bits z few within =
    let fewer : bits - 1 ≤ 127 = omega arith in
    let small : unsigned_abs z < 10 ^ 64 = omega (arith, abs-within (2 ^ (bits - 1)) z within.0 within.1, pow_mono fewer) in
    ap (signed_reading bits) (integer_of-signed_decimal z small)
    ∙ ap (λ b. if b then Ok (Int z) else Err PastType) (tests _ _ within.0.le within.1.le)
  where
    tests : (a b : Bool) → T a → T b → (a && b) ≡ true
    tests true true p q = refl
    tests true false p q = absurd q
    tests false b p q = absurd p

pub unsigned_back : (bits n : ℕ) → bits ≤ 128 → n < 2 ^ bits → form_reading (Unsigned bits) (text_of (Uns n)) ≡ Ok (Uns n)
unsigned_back bits n few within =
    let small : n < 10 ^ 64 = omega (arith, pow_mono few) in
    ap (unsigned_reading bits) (integer_of-decimal n small) ∙ ap (λ b. if b then Ok (Uns n) else Err PastType) (tests _ _ (le-leb 0 n (omega arith)) (lt-ltb _ _ within))
  where
    tests : (a b : Bool) → a ≡ true → b ≡ true → (a && b) ≡ true
    tests a b p q = ap (λ t. t && b) p ∙ q

-- ---- bytes

no_space-hex : (text : List ℕ) → list_all is_hex_digit text ≡ true → no_space text ≡ true
no_space-hex [] h = refl
no_space-hex (c ∷ cs) h =
    let parts = both _ _ h in
    ap (λ b. not b && no_space cs) (is_xml_space-hex c parts.0) ∙ no_space-hex cs parts.1
  where
    is_xml_space-hex : (c : ℕ) → is_hex_digit c ≡ true → is_xml_space c ≡ false
    is_xml_space-hex c digit = grind (arith, nat_tests)

pub bytes_back : (bytes : List ℕ) → IsBytes bytes → bytes_reading (decode_of (trimmed (encode_upper bytes))) ≡ Ok (Bytes bytes)
bytes_back bytes fits =
    let back = decode_of-encode_upper bytes fits in
    let digits = list_all-from_AllPass is_hex_digit (encode_upper bytes) (decode_of-ok (encode_upper bytes) bytes back).1 in
    ap (λ t. bytes_reading (decode_of t)) (trimmed-no_space (encode_upper bytes) (no_space-hex (encode_upper bytes) digits))
    ∙ ap bytes_reading back
