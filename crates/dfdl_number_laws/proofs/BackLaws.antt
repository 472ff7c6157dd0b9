-- What a number is written as by a pattern is read as that number.
use Rattle.std.proofs.Common.{◌≡◌, ◌≢◌, ℕ, ◌+◌, ◌*◌, ◌/◌, ◌^◌, ◌<◌, ◌≤◌, ◌==◌, ◌&&◌, max, nat_eq, nat_lt, Bool, true, false, not, if◌then◌else◌, ℤ, List, [], ◌++◌, length, filter, map, Option, Some, None, option_map, option_and_then, Result, Ok, is_ok, inl, inr, refl, ap, sym, subst, ◌∙◌, arith}
use Rattle.std.specs.Char.{is_ascii_digit}
use Rattle.std.specs.List.{list_all}
use Rattle.std.proofs.Math.Nat.{div-one}
use Rattle.std.proofs.lemmas.Bool.{cases_lt, cases_eq, eq-eqb, eqb-true, lt-ltb, and_parts}
use Rattle.std.proofs.lemmas.List.{length-map}
use Rattle.dfdl_decimal.specs.Decimal.{DecimalNumber, with_sign}
use Rattle.dfdl_value.specs.Numbers.{number_reading}
use Rattle.dfdl_value.specs.Texts.{number_after, number_of}
use Rattle.dfdl_forms.specs.Types.{form_of}
use Rattle.dfdl_forms.proofs.KindLemmas.{few_bits}
use Rattle.dfdl_value.specs.Types.{IsOfType}
use Rattle.dfdl_forms.specs.declared.simple.Simple.{Simple}
use Rattle.dfdl_value.specs.declared.value.Value.{Value}
use Rattle.dfdl_value.proofs.DecimalLemmas.{number_after-append}
use Rattle.dfdl_forms.specs.NumberForms.{IsNumberForm}
use Rattle.dfdl_forms.specs.declared.number.NumberForm.{NumberForm}
use Rattle.dfdl_forms.specs.declared.number_pattern.NumberPattern.{NumberPattern}
use Rattle.dfdl_forms.specs.declared.number_pattern.Point.{Point}
use Rattle.dfdl_forms.specs.declared.number_pattern.Point.TheVariants.{Absent, Written, Implied}
use Rattle.dfdl_number_text.specs.declared.fault.NumberFault.{NumberFault}
use Rattle.dfdl_number_text.specs.Body.{Parts, parts_at, are_grouped, separator_of, body_number}
use Rattle.dfdl_number_text.specs.Digits.{digits_at, digit_character}
use Rattle.dfdl_number_laws.specs.ReadBack.{NeedsNoRounding, IsNotPositive, HasOneSign}
use Rattle.dfdl_number_laws.proofs.BackPlain.{HasPlainGrouping, HasPlainDecimal, HasPlainSeparators, plain_separators}
use Rattle.dfdl_number_text.specs.NumberReading.{reading, reading_by, of_value, number_if, or_else, signed_number}
use Rattle.dfdl_number_text.specs.Writing.{number_of_value, is_below_zero, places_of, size_at, grouped, integer_digits, least_digits, written_fraction, behind_integer, body_text, signed_text, pattern_text, writing, writing_by}
use Rattle.dfdl_number_laws.proofs.BackDigits.{decimal_digits, digits_behind, integer_number, integer_length, length-digits_at}
use Rattle.dfdl_number_laws.proofs.BackGroups.{grouped_longer, separated_are_grouped, separated_digits, separated_without}
use Rattle.dfdl_number_laws.proofs.BackNumbers.{IsKept, kept_digits, kept_are_digits, kept_number, exact_size, small_integer, small_magnitude, zeros_say_nothing, value_back}
use Rattle.dfdl_number_laws.proofs.BackRounded.{rounded_is_value}
use Rattle.dfdl_number_laws.proofs.BackSigns.{signs_law}
use Rattle.dfdl_number_laws.proofs.BackParts.{absent_parts, written_parts, implied_parts, between_affixes}

-- a body's parts write a number of this size, which counts the last of so many fraction digits, but for zeros at its end
record AreParts (separator : Option ℕ) (size places : ℕ) (parts : Parts) : Type 0 where
  zeros : ℕ
  whole : are_grouped separator false parts.whole ≡ true
  fraction : list_all is_ascii_digit parts.fraction ≡ true
  size_is : size ≡ number_of (filter is_ascii_digit parts.whole ++ parts.fraction) * 10 ^ zeros
  places_is : places ≡ parts.scale + zeros
  some : 0 < length parts.whole + length parts.fraction

-- one digit stands at least
digits_some : (pattern : NumberPattern) (separator whole count : ℕ)
    → 0 < length (grouped separator pattern.group_size (integer_digits (least_digits pattern count) whole)) + count
digits_some pattern separator whole count =
    elim (cases_eq count 0) [
      | inl none ↦
          let least : 1 ≤ least_digits pattern 0 = one_at_least (nat_eq pattern.greatest_integer 0) in
          let digits = integer_length (least_digits pattern 0) whole in
          let long = grouped_longer separator pattern.group_size (integer_digits (least_digits pattern 0) whole) in
          rw none (omega (arith, least, digits, long))
      | inr some ↦ omega (arith, some)
    ]
  where
    one_at_least : (b : Bool) → 1 ≤ (if b && nat_lt 0 0 then 0 else max 1 pattern.least_integer)
    one_at_least true = omega arith
    one_at_least false = omega arith

module _ (form : NumberForm) (pattern : NumberPattern) (group : HasPlainGrouping form pattern) (size : ℕ) where
  abbrev fraction_at : Point → List ℕ
  fraction_at point = written_fraction pattern point size

  abbrev integers : Point → List ℕ
  integers point = integer_digits (least_digits pattern (length (fraction_at point))) (size / 10 ^ places_of pattern point)

  abbrev front : Point → List ℕ
  front point = grouped form.grouping pattern.group_size (integers point)

  abbrev body_at : Point → List ℕ
  body_at point = front point ++ behind_integer form pattern point (fraction_at point)

  abbrev are_integers : (point : Point) → list_all is_ascii_digit (integers point) ≡ true
  are_integers point = decimal_digits _ (size / 10 ^ places_of pattern point)

  front_grouped : (point : Point) → are_grouped (separator_of form pattern) false (front point) ≡ true
  front_grouped point = separated_are_grouped form.grouping pattern.group_size (integers point) group (are_integers point)

  -- fraction digits stand behind the integer part
  front_number : (point : Point) (fraction : List ℕ) → size / 10 ^ places_of pattern point < 10 ^ 39
      → number_of (filter is_ascii_digit (front point) ++ fraction) ≡ number_after (size / 10 ^ places_of pattern point) fraction
  front_number point fraction small =
      ap (λ (ds : List ℕ). number_of (ds ++ fraction)) (separated_digits form.grouping pattern.group_size (integers point) group (are_integers point))
      ∙ number_after-append 0 (integers point) fraction
      ∙ ap (λ (n : ℕ). number_after n fraction) (integer_number (least_digits pattern (length (fraction_at point))) (size / 10 ^ places_of pattern point) small)

  abbrev Splits : Point → Parts → Type 0
  Splits point parts = AreParts (separator_of form pattern) size (places_of pattern point) parts

  parts_are : (point : Point) → HasPlainDecimal form pattern point → size / 10 ^ places_of pattern point < 10 ^ 39
      → Splits point (parts_at point form.decimal pattern.implied (body_at point))
  parts_are Absent decimal small = subst (Splits Absent) (sym (absent_parts form.decimal pattern.implied (front Absent))) (record {
    zeros = 0;
    whole = front_grouped Absent;
    fraction = refl;
    size_is = omega (arith, front_number Absent [] small ∙ div-one size);
    places_is = refl;
    some = digits_some pattern form.grouping (size / 10 ^ 0) 0;
  })
  parts_are Written decimal small =
      let places : ℕ = pattern.greatest_fraction in
      let digits : List ℕ = map digit_character (digits_at 10 places size) in
      let kept : List ℕ = kept_digits pattern.least_fraction digits in
      let count : length digits ≡ places = omega (arith, length-map (digits_at 10 places size) digit_character, length-digits_at 10 places size) in
      let without = separated_without form.grouping pattern.group_size (integers Written) group (are_integers Written) form.decimal decimal.0 decimal.1 in
      let is : IsKept (size / 10 ^ places) size places kept = kept_number pattern.least_fraction (size / 10 ^ places) size places digits count (digits_behind places size) in
      subst (Splits Written) (sym (written_parts form.decimal (front Written) without pattern.implied places kept)) (record {
        zeros = is.zeros;
        whole = front_grouped Written;
        fraction = kept_are_digits pattern.least_fraction digits (decimal_digits places size);
        size_is = is.size_is ∙ ap (λ (n : ℕ). n * 10 ^ is.zeros) (sym (front_number Written kept small));
        places_is = is.places_is;
        some = digits_some pattern form.grouping (size / 10 ^ places) (length kept);
      })
  parts_are Implied decimal small =
      let places : ℕ = pattern.implied in
      let digits : List ℕ = map digit_character (digits_at 10 places size) in
      let count : length digits ≡ places = omega (arith, length-map (digits_at 10 places size) digit_character, length-digits_at 10 places size) in
      subst (Splits Implied) (sym (implied_parts form.decimal places (front Implied) digits count)) (record {
        zeros = 0;
        whole = front_grouped Implied;
        fraction = decimal_digits places size;
        size_is = omega (arith, front_number Implied digits small ∙ digits_behind places size);
        places_is = omega arith;
        some = digits_some pattern form.grouping (size / 10 ^ places) (length digits);
      })

-- the number that a body is read as
record IsNumber (form : NumberForm) (pattern : NumberPattern) (size places : ℕ) (body : List ℕ) : Type 0 where
  n : ℕ
  scale : ℕ
  zeros : ℕ
  is : (negative : Bool) → body_number form pattern negative body ≡ Some (record { mantissa = with_sign negative n; scale = scale })
  size_is : size ≡ n * 10 ^ zeros
  places_is : places ≡ scale + zeros

body_back : (form : NumberForm) (pattern : NumberPattern) (size : ℕ) → HasPlainSeparators form pattern → size / 10 ^ places_of pattern pattern.point < 10 ^ 39
    → IsNumber form pattern size (places_of pattern pattern.point) (body_text form pattern size)
body_back form pattern size plain small = record {
  n = number_of (filter is_ascii_digit parts.whole ++ parts.fraction);
  scale = parts.scale;
  zeros = are.zeros;
  is = λ negative. picked _ _ _ are.whole are.fraction (lt-ltb _ _ are.some);
  size_is = are.size_is;
  places_is = are.places_is;
}
  where
    parts : Parts
    parts = parts_at pattern.point form.decimal pattern.implied (body_text form pattern size)

    are : AreParts (separator_of form pattern) size (places_of pattern pattern.point) parts
    are = parts_are form pattern plain.0 size pattern.point plain.1 small

    picked : (a b c : Bool) {x : DecimalNumber} → a ≡ true → b ≡ true → c ≡ true → (if (a && b) && c then Some x else None) ≡ Some x
    picked a b c p q r = rw (p, q, r) refl

-- ---- signs
no_not : (b : Bool) → not b ≡ true → b ≡ true → ⊥
no_not true h e = absurd cc
no_not false h e = absurd cc

zero_signs : (t : Bool) → with_sign t 0 ≡ with_sign true 0
zero_signs true = refl
zero_signs false = refl

-- the sign that is written is that of the number, but for zero
sign_is : (negative : Bool) (size : ℕ) (t : Bool) → (negative && not (size == 0)) ≡ t → with_sign t size ≡ with_sign negative size
sign_is false size t e = ap (λ (b : Bool). with_sign b size) (sym e)
sign_is true size t e = by (size == 0) refl e
  where
    by : (zero : Bool) → (size == 0) ≡ zero → not zero ≡ t → with_sign t size ≡ with_sign true size
    by false told h = ap (λ (b : Bool). with_sign b size) (sym h)
    by true told h = let none : size ≡ 0 = eqb-true size 0 told in rw none (zero_signs t)

module _ (form : NumberForm) (pattern : NumberPattern) (kind : Simple) (value : Value) (number : DecimalNumber) (text : List ℕ)
    (sound : IsNumberForm form) (has : form.pattern ≡ Some pattern) (of : IsOfType kind value) (is : number_of_value value ≡ Some number) where
  abbrev prefix : List ℕ
  prefix = pattern.prefix

  abbrev suffix : List ℕ
  suffix = pattern.suffix

  abbrev negative_prefix : List ℕ
  negative_prefix = pattern.negative_prefix

  abbrev negative_suffix : List ℕ
  negative_suffix = pattern.negative_suffix

  abbrev size_of : Option ℕ
  size_of = size_at form.rounding pattern.point (places_of pattern pattern.point) number

  -- the reading of a number of this size
  abbrev sized_reading : ℕ → Result Value NumberFault
  sized_reading size = of_value (number_reading (form_of kind) (record { mantissa = with_sign (is_below_zero number) size; scale = places_of pattern pattern.point }))

  sized : (size : ℕ) → size_of ≡ Some size → (is_below_zero number ≡ true → size ≢ 0 → HasOneSign form pattern text)
      → signed_text form pattern (is_below_zero number) size ≡ text → reading_by form (Some pattern) (form_of kind) text ≡ sized_reading size
  sized size told one written = by (is_below_zero number && not (size == 0)) refl written
    where
      places : ℕ
      places = places_of pattern pattern.point

      small : size / 10 ^ places < 10 ^ 39
      small = small_integer form.rounding pattern.point places number size told (small_magnitude (form_of kind) value number (few_bits kind) of is)

      body : IsNumber form pattern size places (body_text form pattern size)
      body = body_back form pattern size (plain_separators form pattern sound has) small

      -- the number between a prefix and a suffix
      inside : (negative : Bool) (front back : List ℕ) → front ++ (body_text form pattern size ++ back) ≡ text
          → signed_number form pattern negative front back text ≡ Some (record { mantissa = with_sign negative body.n; scale = body.scale })
      inside negative front back e =
          ap (signed_number form pattern negative front back) (sym e)
          ∙ ap (option_and_then (body_number form pattern negative)) (between_affixes front back (body_text form pattern size))
          ∙ body.is negative

      value_is : (t : Bool) → (is_below_zero number && not (size == 0)) ≡ t
          → number_if (form_of kind) (Some (record { mantissa = with_sign t body.n; scale = body.scale })) ≡ sized_reading size
      value_is t sign =
          ap of_value (zeros_say_nothing (form_of kind) t body.n body.scale body.zeros size places body.size_is body.places_is)
          ∙ ap (λ (z : ℤ). of_value (number_reading (form_of kind) (record { mantissa = z; scale = places }))) (sign_is (is_below_zero number) size t sign)

      by : (t : Bool) → (is_below_zero number && not (size == 0)) ≡ t
          → (if t then negative_prefix ++ (body_text form pattern size ++ negative_suffix) else prefix ++ (body_text form pattern size ++ suffix)) ≡ text
          → reading_by form (Some pattern) (form_of kind) text ≡ sized_reading size
      by false sign e =
          ap (λ (o : Option DecimalNumber). number_if (form_of kind) (or_else o (signed_number form pattern true negative_prefix negative_suffix text))) (inside false prefix suffix e)
          ∙ value_is false sign
      by true sign e =
          let not_positive : HasOneSign form pattern text → IsNotPositive form pattern text = λ one_sign. elim one_sign [
            | inl told ↦ subst (IsNotPositive form pattern) e (signs_law form pattern (body_text form pattern size) told)
            | inr other ↦ other
          ] in
          let parts = and_parts (is_below_zero number) (not (size == 0)) sign in
          let some : size ≢ 0 = λ none. no_not (size == 0) parts.1 (eq-eqb size 0 none) in
          ap (λ (o : Option DecimalNumber). number_if (form_of kind) (or_else o (signed_number form pattern true negative_prefix negative_suffix text))) (not_positive (one parts.0 some))
          ∙ ap (number_if (form_of kind)) (inside true negative_prefix negative_suffix e)
          ∙ value_is true sign

  -- a number that is written has a size
  record IsSized : Type 0 where
    size : ℕ
    told : size_of ≡ Some size
    written : signed_text form pattern (is_below_zero number) size ≡ text

  size_is : writing form value ≡ Some text → IsSized
  size_is written =
      by size_of refl (ap (option_and_then (pattern_text form pattern)) (sym is) ∙ ap (λ (o : Option NumberPattern). writing_by form o value) (sym has) ∙ written)
    where
      by : (o : Option ℕ) → size_of ≡ o → option_map (signed_text form pattern (is_below_zero number)) o ≡ Some text → IsSized
      by None told h = absurd cc
      by (Some size) told h = record { size = size; told = told; written = cc }

  abbrev by_pattern : reading form kind text ≡ reading_by form (Some pattern) (form_of kind) text
  by_pattern = ap (λ (o : Option NumberPattern). reading_by form o (form_of kind) text) has

  pub rounded_law : (size : ℕ) → size_of ≡ Some size → (is_below_zero number ≡ true → size ≢ 0 → HasOneSign form pattern text)
      → writing form value ≡ Some text → reading form kind text ≡ sized_reading size
  rounded_law size told one written =
      let has_size : IsSized = size_is written in
      let same : has_size.size ≡ size = some_same (sym has_size.told ∙ told) in
      by_pattern ∙ sized size told one (ap (signed_text form pattern (is_below_zero number)) (sym same) ∙ has_size.written)
    where
      some_same : {x y : ℕ} → Some x ≡ Some y → x ≡ y
      some_same e = cc

  pub exact_law : NeedsNoRounding pattern pattern.point number → (is_below_zero number ≡ true → HasOneSign form pattern text) → writing form value ≡ Some text → reading form kind text ≡ Ok value
  exact_law few one written =
      let has_size : IsSized = size_is written in
      let exact = exact_size form.rounding pattern pattern.point number has_size.size few has_size.told in
      by_pattern
      ∙ sized has_size.size has_size.told (λ below _. one below) has_size.written
      ∙ ap of_value (value_back (form_of kind) value number has_size.size (places_of pattern pattern.point) of is exact)

  pub value_law : (size : ℕ) → size_of ≡ Some size → (is_below_zero number ≡ true → size ≢ 0 → HasOneSign form pattern text)
      → writing form value ≡ Some text → is_ok (reading form kind text) ≡ true
  value_law size told one written = ap is_ok (rounded_law size told one written) ∙ elim (cases_lt (places_of pattern pattern.point) number.scale) [
    | inl less ↦ rounded_is_value form.rounding pattern.point (form_of kind) value number (is_below_zero number) size (places_of pattern pattern.point) of is less told
    | inr few ↦
        let exact = exact_size form.rounding pattern pattern.point number size (needs_none pattern.point few) told in
        ap (λ reading. is_ok (of_value reading)) (value_back (form_of kind) value number size (places_of pattern pattern.point) of is exact)
  ]
    where
      needs_none : (point : Point) → number.scale ≤ places_of pattern point → NeedsNoRounding pattern point number
      needs_none Absent few = few
      needs_none Written few = few
      needs_none Implied few = tt
