-- The characters of a number are read as that number.
use Rattle.std.proofs.Common.{◌≡◌, ℕ, suc, ◌+◌, ◌-◌, ◌*◌, ◌^◌, ◌<◌, ◌≤◌, ◌&&◌, ℤ, pos, negsuc, unsigned_abs, Bool, true, false, nat_lt, List, [], ◌∷◌, ◌++◌, length, take, slice_index, map, fold, Some, refl, ap, sym, ◌∙◌, length-append, arith}
use Rattle.std.specs.Char.{is_ascii_digit}
use Rattle.std.proofs.lemmas.Bool.{and_parts}
use Rattle.std.proofs.lemmas.Bool.Decides.{nat_tests}
use Rattle.std.proofs.lemmas.List.{take_at, get_or_at}
use Rattle.std.proofs.lemmas.List.Folds.{list_all-append}
use Rattle.std.proofs.lemmas.List.Sums.{fold-append}
use Rattle.dfdl_forms.specs.declared.simple.Form.{Form}
use Rattle.dfdl_forms.specs.declared.simple.Form.TheVariants.{Signed, Unsigned, Fixed}
use Rattle.dfdl_forms.specs.declared.packed.ZonedForm.{ZonedForm}
use Rattle.dfdl_forms.specs.declared.packed.ZonedStyle.{ZonedStyle}
use Rattle.dfdl_forms.specs.declared.packed.ZonedStyle.TheVariants.{AsciiStandard, TranslatedEbcdic}
use Rattle.dfdl_packed.specs.Digits.{digits_number, are_digits, padded_digits}
use Rattle.dfdl_packed.specs.Packed.{is_negative}
use Rattle.dfdl_packed.specs.Zoned.{are_plain, number_behind, sign_digit, number_around, zoned_number, plain_char, sign_char, char_in, signed_chars}
use Rattle.dfdl_packed.proofs.DigitLemmas.{padded_are_digits, digits_back, last_apart}
use Rattle.dfdl_packed.proofs.FillLemmas.{length-padded_digits}
use Rattle.dfdl_packed.proofs.PackedBack.{FitsKind}

-- ---- plain digits
plain_digits : (ds : List ℕ) → are_digits ds ≡ true → are_plain (map plain_char ds) ≡ true
plain_digits [] is = refl
plain_digits (d ∷ ds) is =
    let parts = and_parts (nat_lt d 10) (are_digits ds) is in
    let low : d < 10 = grind (arith, nat_tests, parts.0) in
    let plain : is_ascii_digit (48 + d) ≡ true = grind (arith, nat_tests) in
    rw (plain, plain_digits ds parts.1) refl

plain_number : (ds : List ℕ) (n : ℕ) → number_behind n (map plain_char ds) ≡ fold (λ n digit. n * 10 + digit) n ds
plain_number [] n = refl
plain_number (d ∷ ds) n =
    let same : 48 + d - 48 ≡ d = omega arith in
    ap (λ (digit : ℕ). number_behind (n * 10 + digit) (map plain_char ds)) same ∙ plain_number ds (n * 10 + d)

-- ---- the digit with the sign
digit_of_sign : (style : ZonedStyle) (negative : Bool) (d : ℕ) → d < 10 → sign_digit style (sign_char style negative d) ≡ Some (negative, d)
digit_of_sign AsciiStandard false d low = grind (arith, nat_tests)
digit_of_sign AsciiStandard true d low = grind (arith, nat_tests)
digit_of_sign TranslatedEbcdic false d low = grind (arith, nat_tests)
digit_of_sign TranslatedEbcdic true d low = grind (arith, nat_tests)

char_back : (kind : Form) (style : ZonedStyle) (z : ℤ) (d : ℕ) → FitsKind kind z → d < 10
    → sign_digit style (char_in kind style (is_negative z) d) ≡ Some (is_negative z, d)
char_back (Unsigned bits) AsciiStandard (pos n) d fits low = digit_of_sign AsciiStandard false d low
char_back (Unsigned bits) TranslatedEbcdic (pos n) d fits low = grind (arith, nat_tests)
char_back (Unsigned bits) style (negsuc n) d fits low = absurd fits
char_back (Signed bits) style z d fits low = digit_of_sign style (is_negative z) d low
char_back Fixed style z d fits low = digit_of_sign style (is_negative z) d low
char_back kind style z d fits low = absurd fits

-- the characters before the last, and that one
last_is : (form : ZonedForm) (front : List ℕ) (char : ℕ) → form.first ≡ false
    → zoned_number form (front ++ char ∷ []) ≡ number_around front (sign_digit form.style char) []
last_is form [] char last = rw last refl
last_is form (x ∷ xs) char last =
    let long : length (xs ++ char ∷ []) ≡ suc (length xs) = simp length-append (omega arith) in
    let before : take (suc (length xs)) ((x ∷ xs) ++ char ∷ []) ≡ x ∷ xs = take_at (x ∷ xs) (char ∷ []) (suc (length xs)) refl in
    let at : slice_index ((x ∷ xs) ++ char ∷ []) (suc (length xs)) ≡ char = get_or_at (x ∷ xs) char [] 0 (suc (length xs)) refl in
    rw (last, long, before, at) refl

signed_last : (kind : Form) (form : ZonedForm) (negative : Bool) (d : ℕ) (ds : List ℕ) → form.first ≡ false
    → signed_chars kind form negative (d ∷ ds)
    ≡ map plain_char (take (length ds) (d ∷ ds)) ++ char_in kind form.style negative (slice_index (d ∷ ds) (length ds)) ∷ []
signed_last kind form negative d ds told = rw told refl

module _ (kind : Form) (form : ZonedForm) (z : ℤ) (fits : FitsKind kind z) where
  first_back : (d : ℕ) (ds : List ℕ) → are_digits (d ∷ ds) ≡ true
      → number_around [] (sign_digit form.style (char_in kind form.style (is_negative z) d)) (map plain_char ds) ≡ Some (is_negative z, digits_number (d ∷ ds))
  first_back d ds are =
      let parts = and_parts (nat_lt d 10) (are_digits ds) are in
      let low : d < 10 = grind (arith, nat_tests, parts.0) in
      rw (char_back kind form.style z d fits low, plain_digits ds parts.1, plain_number ds (0 * 10 + d)) refl

  last_back : (front : List ℕ) (d : ℕ) → are_digits (front ++ d ∷ []) ≡ true
      → number_around (map plain_char front) (sign_digit form.style (char_in kind form.style (is_negative z) d)) [] ≡ Some (is_negative z, digits_number (front ++ d ∷ []))
  last_back front d are =
      let parts = and_parts (are_digits front) (nat_lt d 10 && true) (sym (list_all-append (λ digit. nat_lt digit 10) front (d ∷ [])) ∙ are) in
      let low : d < 10 = grind (arith, nat_tests, parts.1) in
      let all : digits_number (front ++ d ∷ []) ≡ digits_number front * 10 + d = fold-append (λ n digit. n * 10 + digit) 0 front (d ∷ []) in
      rw (char_back kind form.style z d fits low, plain_digits front parts.0, plain_number front 0, all) refl

  pub digits_with_sign : (ds : List ℕ) → are_digits ds ≡ true → 1 ≤ length ds
      → zoned_number form (signed_chars kind form (is_negative z) ds) ≡ Some (is_negative z, digits_number ds)
  digits_with_sign [] are some = absurd (omega arith)
  digits_with_sign (d ∷ ds) are some = by form.first refl
    where
      by : (first : Bool) → form.first ≡ first → zoned_number form (signed_chars kind form (is_negative z) (d ∷ ds)) ≡ Some (is_negative z, digits_number (d ∷ ds))
      by true told = rw told (first_back d ds are)
      by false told =
          let front : List ℕ = take (length ds) (d ∷ ds) in
          let last : ℕ = slice_index (d ∷ ds) (length ds) in
          let whole : front ++ last ∷ [] ≡ d ∷ ds = last_apart (d ∷ ds) (length ds) (omega arith) in
          ap (zoned_number form) (signed_last kind form (is_negative z) d ds told)
          ∙ (last_is form (map plain_char front) (char_in kind form.style (is_negative z) last) told
          ∙ last_back front last (ap are_digits whole ∙ are)
          ∙ ap (λ (xs : List ℕ). Some (is_negative z, digits_number xs)) whole)

-- the digits of an integer with their sign
pub zoned_back : (kind : Form) (form : ZonedForm) (z : ℤ) (count : ℕ) → FitsKind kind z → 1 ≤ count → unsigned_abs z < 10 ^ count
    → zoned_number form (signed_chars kind form (is_negative z) (padded_digits count (unsigned_abs z))) ≡ Some (is_negative z, unsigned_abs z)
zoned_back kind form z count fits some small =
    let ds : List ℕ = padded_digits count (unsigned_abs z) in
    digits_with_sign kind form z fits ds (padded_are_digits count (unsigned_abs z)) (omega (arith, length-padded_digits count (unsigned_abs z)))
    ∙ ap (λ (n : ℕ). Some (is_negative z, n)) (digits_back count (unsigned_abs z) small)
