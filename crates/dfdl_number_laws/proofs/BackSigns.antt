-- Where the negative prefix or suffix tells the sign, no text between these is read as a positive number.
use Rattle.std.proofs.Common.{◌≡◌, ℕ, ◌+◌, ◌-◌, ◌≤◌, ◌==◌, ◌&&◌, ◌||◌, not, Bool, true, false, nat_le, if◌then◌else◌, List, [], ◌∷◌, ◌++◌, length, get_or, take, drop, reverse, Option, Some, None, option_and_then, ◌⊎◌, inl, inr, refl, ap, sym, ◌∙◌, append_assoc, arith}
use Rattle.std.specs.Char.{is_ascii_digit}
use Rattle.std.specs.List.{list_all, position_or_len, before_first, after_first}
use Rattle.std.specs.Str.{bytes_eq}
use Rattle.std.proofs.Math.Bool.{or-true}
use Rattle.std.proofs.Math.Seq.{take-nil, drop-nil}
use Rattle.std.proofs.lemmas.Bool.{cases_lt, eq-eqb, eqb-true, and_parts, not-true}
use Rattle.std.proofs.lemmas.Bool.Decides.{nat_tests}
use Rattle.std.proofs.lemmas.List.{take-append-drop, take_all, drop-drop, reverse-append, length-reverse, nil_from_length}
use Rattle.std.proofs.lemmas.List.Folds.{list_all-append}
use Rattle.std.proofs.lemmas.List.Sums.{split_at_first, prefix_len_stops}
use Rattle.std.proofs.lemmas.Slice.Eq.{bytes_eq-Decides}
use Rattle.dfdl_forms.specs.declared.number.NumberForm.{NumberForm}
use Rattle.dfdl_forms.specs.declared.number_pattern.NumberPattern.{NumberPattern}
use Rattle.dfdl_forms.specs.declared.number_pattern.Point.{Point}
use Rattle.dfdl_forms.specs.declared.number_pattern.Point.TheVariants.{Absent, Written, Implied}
use Rattle.dfdl_number_text.specs.Body.{Parts, parts_at, parts_of, are_grouped, are_digits, begins_with_digit, is_separator, separator_of, between, body_number, parts_number}
use Rattle.dfdl_number_laws.specs.ReadBack.{IsNotPositive, is_decimal, is_of_body, tells, tells_sign}

no_both : (b : Bool) → b ≡ true → b ≡ false → ⊥
no_both true e h = absurd cc
no_both false e h = absurd cc

-- ---- the characters of a body
module _ (form : NumberForm) (pattern : NumberPattern) where
  abbrev of_body : ℕ → Bool
  of_body c = is_of_body form pattern c

  digit_is : (c : ℕ) → is_ascii_digit c ≡ true → of_body c ≡ true
  digit_is c e = rw e refl

  separator_is : (c : ℕ) → is_separator (separator_of form pattern) c ≡ true → of_body c ≡ true
  separator_is c e = rw (e, or-true (is_ascii_digit c)) refl

  grouped_of : (behind : Bool) (xs : List ℕ) → are_grouped (separator_of form pattern) behind xs ≡ true → list_all of_body xs ≡ true
  grouped_of behind [] are = refl
  grouped_of behind (c ∷ rest) are = by (is_ascii_digit c) refl (grouped_of true rest) (grouped_of false rest) are
    where
      apart : Bool
      apart = is_separator (separator_of form pattern) c && (behind && begins_with_digit rest)

      by : (b : Bool) → is_ascii_digit c ≡ b
          → (are_grouped (separator_of form pattern) true rest ≡ true → list_all of_body rest ≡ true)
          → (are_grouped (separator_of form pattern) false rest ≡ true → list_all of_body rest ≡ true)
          → (if b then are_grouped (separator_of form pattern) true rest
          else apart && are_grouped (separator_of form pattern) false rest) ≡ true
          → list_all of_body (c ∷ rest) ≡ true
      by true told more less h = ap (λ b. b && list_all of_body rest) (digit_is c told) ∙ more h
      by false told more less h =
          let parts = and_parts apart (are_grouped (separator_of form pattern) false rest) h in
          let is = and_parts (is_separator (separator_of form pattern) c) (behind && begins_with_digit rest) parts.0 in
          ap (λ b. b && list_all of_body rest) (separator_is c is.0) ∙ less parts.1

  fraction_of : (xs : List ℕ) → list_all is_ascii_digit xs ≡ true → list_all of_body xs ≡ true
  fraction_of [] are = refl
  fraction_of (c ∷ rest) are =
      let parts = and_parts (is_ascii_digit c) (list_all is_ascii_digit rest) are in
      ap (λ b. b && list_all of_body rest) (digit_is c parts.0) ∙ fraction_of rest parts.1

joined : (p : ℕ → Bool) (xs ys : List ℕ) → list_all p xs ≡ true → list_all p ys ≡ true → list_all p (xs ++ ys) ≡ true
joined p xs ys first second = list_all-append p xs ys ∙ ap (λ b. b && list_all p ys) first ∙ second

split_of : (p : ℕ → Bool) (decimal : ℕ) (xs : List ℕ) → p decimal ≡ true → list_all p (before_first (λ c. c == decimal) xs) ≡ true
    → list_all p (after_first (λ c. c == decimal) xs) ≡ true → list_all p xs ≡ true
split_of p decimal xs is first second = elim (cases_lt (position_or_len (λ c. c == decimal) xs) (length xs)) [
  | inl inside ↦
      let at : ℕ = get_or xs (position_or_len (λ c. c == decimal) xs) 0 in
      let same : at ≡ decimal = eqb-true at decimal (not_false (at == decimal) (prefix_len_stops (λ c. not (c == decimal)) xs 0 inside)) in
      let at_is : p at ≡ true = ap p same ∙ is in
      ap (list_all p) (split_at_first (λ c. c == decimal) xs 0 inside)
      ∙ joined p (before_first (λ c. c == decimal) xs) (at ∷ after_first (λ c. c == decimal) xs) first (ap (λ b. b && list_all p (after_first (λ c. c == decimal) xs)) at_is ∙ second)
  | inr all ↦ ap (list_all p) (sym (take_all (position_or_len (λ c. c == decimal) xs) xs all)) ∙ first
]
  where
    not_false : (b : Bool) → not b ≡ false → b ≡ true
    not_false true e = refl
    not_false false e = cc

module _ (form : NumberForm) (pattern : NumberPattern) where
  decimal_is : pattern.point ≡ Written → is_of_body form pattern form.decimal ≡ true
  decimal_is written =
      let separator : Bool = is_separator (separator_of form pattern) form.decimal in
      let digit : Bool = is_ascii_digit form.decimal in
      ap (λ (point : Point). digit || (separator || is_decimal point form.decimal form.decimal)) written
      ∙ ap (λ (b : Bool). digit || (separator || b)) (eq-eqb form.decimal form.decimal refl)
      ∙ ap (λ (b : Bool). digit || b) (or-true separator) ∙ or-true digit

  parts_of_body : (point : Point) (body : List ℕ) → pattern.point ≡ point → list_all (is_of_body form pattern) (parts_at point form.decimal pattern.implied body).whole ≡ true
      → list_all (is_of_body form pattern) (parts_at point form.decimal pattern.implied body).fraction ≡ true → list_all (is_of_body form pattern) body ≡ true
  parts_of_body Absent body is whole fraction = whole
  parts_of_body Written body is whole fraction = split_of (is_of_body form pattern) form.decimal body (decimal_is is) whole fraction
  parts_of_body Implied body is whole fraction =
      ap (list_all (is_of_body form pattern)) (sym (take-append-drop (length body - pattern.implied) body))
      ∙ joined (is_of_body form pattern) (take (length body - pattern.implied) body) (drop (length body - pattern.implied) body) whole fraction

  no_body : (body : List ℕ) → list_all (is_of_body form pattern) body ≡ false → body_number form pattern false body ≡ None
  no_body body other = by (are_digits (separator_of form pattern) (parts_of form pattern body)) refl
    where
      parts : Parts
      parts = parts_of form pattern body

      by : (b : Bool) → are_digits (separator_of form pattern) parts ≡ b → (if b then Some (parts_number false parts) else None) ≡ None
      by false told = refl
      by true told =
          let digits = and_parts (are_grouped (separator_of form pattern) false parts.whole) (list_all is_ascii_digit parts.fraction) (and_parts _ _ told).0 in
          let all : list_all (is_of_body form pattern) body ≡ true =
          parts_of_body pattern.point body refl (grouped_of form pattern false parts.whole digits.0) (fraction_of form pattern parts.fraction digits.1) in
          absurd (no_both (list_all (is_of_body form pattern) body) all other)

  no_characters : body_number form pattern false [] ≡ None
  no_characters = by pattern.point
    where
      by : (point : Point) → (if are_digits (separator_of form pattern) (parts_at point form.decimal pattern.implied []) then Some (parts_number false (parts_at point form.decimal pattern.implied [])) else None) ≡ None
      by Absent = refl
      by Written = refl
      by Implied = rw (take-nil (0 - pattern.implied), drop-nil (0 - pattern.implied)) refl

-- ---- the affixes
pub tells_apart : (of_body : ℕ → Bool) (positive negative behind more : List ℕ) → tells of_body positive negative ≡ true → negative ++ behind ≡ positive ++ more
    → (c : ℕ) × (cs : List ℕ) × (more ≡ c ∷ cs) × (of_body c ≡ false)
tells_apart of_body [] [] behind more told e = absurd cc
tells_apart of_body [] (c ∷ negative) behind more told e = (c, negative ++ behind, sym e, not-true (of_body c) told)
tells_apart of_body (p ∷ positive) [] behind more told e = absurd cc
tells_apart of_body (p ∷ positive) (c ∷ negative) behind more told e =
    let heads : c ≡ p = cc in
    let tails : negative ++ behind ≡ positive ++ more = cc in
    let rest : tells of_body positive negative ≡ true = ap (λ (b : Bool). not b || tells of_body positive negative) (sym (eq-eqb p c (sym heads))) ∙ told in
    tells_apart of_body positive negative behind more rest tails

-- what fits between a prefix and a suffix makes up the text with them
fits_apart : (prefix suffix text body : List ℕ) → between prefix suffix text ≡ Some body → text ≡ prefix ++ (body ++ suffix)
fits_apart prefix suffix text body e = by (nat_le (length prefix + length suffix) (length text)) (bytes_eq (take (length prefix) text) prefix)
    (bytes_eq (drop (length text - length suffix) text) suffix) refl refl refl e
  where
    inside : List ℕ
    inside = take (length text - length suffix - length prefix) (drop (length prefix) text)

    by : (a b c : Bool) → nat_le (length prefix + length suffix) (length text) ≡ a → bytes_eq (take (length prefix) text) prefix ≡ b
        → bytes_eq (drop (length text - length suffix) text) suffix ≡ c → (if a && (b && c) then Some inside else None) ≡ Some body → text ≡ prefix ++ (body ++ suffix)
    by true true true fits front back h =
        let enough : length prefix + length suffix ≤ length text = grind (arith, nat_tests) in
        let before : take (length prefix) text ≡ prefix = (bytes_eq-Decides (take (length prefix) text) prefix).0 front in
        let behind : drop (length text - length suffix) text ≡ suffix = (bytes_eq-Decides (drop (length text - length suffix) text) suffix).0 back in
        let is : inside ≡ body = cc in
        let count : ℕ = length text - length suffix - length prefix in
        let at : length prefix + count ≡ length text - length suffix = omega arith in
        let rest : drop (length prefix) text ≡ body ++ suffix =
        sym (take-append-drop count (drop (length prefix) text))
        ∙ ap (λ (xs : List ℕ). xs ++ drop count (drop (length prefix) text)) is
        ∙ ap (λ (xs : List ℕ). body ++ xs) (drop-drop count (length prefix) text ∙ ap (λ (n : ℕ). drop n text) at ∙ behind) in
        sym (take-append-drop (length prefix) text) ∙ ap (λ (xs : List ℕ). xs ++ drop (length prefix) text) before ∙ ap (λ (xs : List ℕ). prefix ++ xs) rest
    by false b c fits front back h = absurd cc
    by true false c fits front back h = absurd cc
    by true true false fits front back h = absurd cc

reverse_more : (x : ℕ) (xs : List ℕ) → reverse (x ∷ xs) ≡ reverse xs ++ x ∷ []
reverse_more x xs = reverse-append (x ∷ []) xs

list_all-reverse : (p : ℕ → Bool) (xs : List ℕ) → list_all p xs ≡ true → list_all p (reverse xs) ≡ true
list_all-reverse p [] all = refl
list_all-reverse p (x ∷ xs) all =
    let parts = and_parts (p x) (list_all p xs) all in
    ap (list_all p) (reverse_more x xs) ∙ joined p (reverse xs) (x ∷ []) (list_all-reverse p xs parts.1) (ap (λ b. b && true) parts.0)

-- a list that begins so doesn't pass
fails_first : (p : ℕ → Bool) (xs ys cs : List ℕ) (c : ℕ) → xs ++ ys ≡ c ∷ cs → p c ≡ false → (xs ≡ []) ⊎ (list_all p xs ≡ false)
fails_first p [] ys cs c e other = inl refl
fails_first p (x ∷ xs) ys cs c e other = let same : x ≡ c = cc in inr (ap (λ b. b && list_all p xs) (ap p same ∙ other))

fails_from_reverse : (p : ℕ → Bool) (xs : List ℕ) → list_all p (reverse xs) ≡ false → list_all p xs ≡ false
fails_from_reverse p xs other = by (list_all p xs) refl
  where
    by : (b : Bool) → list_all p xs ≡ b → list_all p xs ≡ false
    by true told = absurd (no_both (list_all p (reverse xs)) (list_all-reverse p xs told) other)
    by false told = told

module _ (form : NumberForm) (pattern : NumberPattern) (body : List ℕ) (told : tells_sign form pattern ≡ true) where
  abbrev of : ℕ → Bool
  of c = is_of_body form pattern c

  abbrev prefix : List ℕ
  prefix = pattern.prefix

  abbrev suffix : List ℕ
  suffix = pattern.suffix

  abbrev negative_prefix : List ℕ
  negative_prefix = pattern.negative_prefix

  abbrev negative_suffix : List ℕ
  negative_suffix = pattern.negative_suffix

  abbrev text : List ℕ
  text = negative_prefix ++ (body ++ negative_suffix)

  none_of : (inside : List ℕ) → (inside ≡ []) ⊎ (list_all (is_of_body form pattern) inside ≡ false) → body_number form pattern false inside ≡ None
  none_of inside (inl e) = ap (body_number form pattern false) e ∙ no_characters form pattern
  none_of inside (inr e) = no_body form pattern inside e

  by_prefix : (inside : List ℕ) → tells (is_of_body form pattern) prefix negative_prefix ≡ true → text ≡ prefix ++ (inside ++ suffix) → body_number form pattern false inside ≡ None
  by_prefix inside front e =
      let first = tells_apart (is_of_body form pattern) prefix negative_prefix (body ++ negative_suffix) (inside ++ suffix) front e in
      none_of inside (fails_first (is_of_body form pattern) inside suffix first.1 first.0 first.2 first.3)

  by_suffix : (inside : List ℕ) → tells (is_of_body form pattern) (reverse suffix) (reverse negative_suffix) ≡ true → text ≡ prefix ++ (inside ++ suffix)
      → body_number form pattern false inside ≡ None
  by_suffix inside back e =
      let backwards : reverse negative_suffix ++ reverse (negative_prefix ++ body) ≡ reverse suffix ++ (reverse inside ++ reverse prefix) =
      sym (reverse-append (negative_prefix ++ body) negative_suffix)
      ∙ ap reverse (append_assoc negative_prefix body negative_suffix ∙ e ∙ sym (append_assoc prefix inside suffix))
      ∙ reverse-append (prefix ++ inside) suffix
      ∙ ap (λ (xs : List ℕ). reverse suffix ++ xs) (reverse-append prefix inside) in
      let last = tells_apart (is_of_body form pattern) (reverse suffix) (reverse negative_suffix) (reverse (negative_prefix ++ body)) (reverse inside ++ reverse prefix) back backwards in
      none_of inside (forwards inside (fails_first (is_of_body form pattern) (reverse inside) (reverse prefix) last.1 last.0 last.2 last.3))
    where
      forwards : (inside : List ℕ) → (reverse inside ≡ []) ⊎ (list_all (is_of_body form pattern) (reverse inside) ≡ false) → (inside ≡ []) ⊎ (list_all (is_of_body form pattern) inside ≡ false)
      forwards inside (inl none) = inl (nil_from_length inside (sym (length-reverse inside) ∙ ap length none))
      forwards inside (inr other) = inr (fails_from_reverse (is_of_body form pattern) inside other)

  pub signs_law : IsNotPositive form pattern text
  signs_law = by (between prefix suffix text) refl
    where
      either : (a b : Bool) → (a || b) ≡ true → (a ≡ true) ⊎ (b ≡ true)
      either true b e = inl refl
      either false b e = inr e

      by : (o : Option (List ℕ)) → between prefix suffix text ≡ o → option_and_then (body_number form pattern false) o ≡ None
      by None fits = refl
      by (Some inside) fits = elim (either _ _ told) [
        | inl front ↦ by_prefix inside front (fits_apart prefix suffix text inside fits)
        | inr back ↦ by_suffix inside back (fits_apart prefix suffix text inside fits)
      ]

-- ---- a minus before the positive prefix
minus_tells : (of_body : ℕ → Bool) (prefix : List ℕ) → of_body 45 ≡ false → tells of_body prefix (45 ∷ prefix) ≡ true
minus_tells of_body [] other = ap not other
minus_tells of_body (x ∷ prefix) other = by (x == 45) refl (minus_tells of_body prefix other)
  where
    by : (b : Bool) → (x == 45) ≡ b → tells of_body prefix (45 ∷ prefix) ≡ true → (not b || tells of_body prefix (x ∷ prefix)) ≡ true
    by false told rest = refl
    by true told rest = let same : x ≡ 45 = eqb-true x 45 told in ap (λ (c : ℕ). tells of_body prefix (c ∷ prefix)) same ∙ rest

pub minus_law : (form : NumberForm) (pattern : NumberPattern) → pattern.negative_prefix ≡ 45 ∷ pattern.prefix → is_of_body form pattern 45 ≡ false
    → tells_sign form pattern ≡ true
minus_law form pattern front other =
    let prefix : List ℕ = pattern.prefix in
    let is : pattern.negative_prefix ≡ 45 ∷ prefix = front in
    let told : tells (is_of_body form pattern) prefix pattern.negative_prefix ≡ true =
    ap (tells (is_of_body form pattern) prefix) is ∙ minus_tells (is_of_body form pattern) prefix other in
    ap (λ b. b || tells (is_of_body form pattern) (reverse pattern.suffix) (reverse pattern.negative_suffix)) told
