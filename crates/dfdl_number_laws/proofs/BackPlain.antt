-- The separators of a form whose parts go together.
use Rattle.std.proofs.Common.{◌≡◌, ◌≢◌, ℕ, ◌<◌, ◌==◌, Bool, true, false, not, ◌||◌, Option, Some, refl, subst, arith}
use Rattle.std.specs.Char.{is_ascii_digit}
use Rattle.std.proofs.lemmas.Bool.{eq-eqb, ne_eqb, and_parts}
use Rattle.dfdl_forms.specs.NumberForms.{IsNumberForm, are_plain, is_plain_decimal, is_plain_grouping}
use Rattle.dfdl_forms.specs.declared.number.NumberForm.{NumberForm}
use Rattle.dfdl_forms.specs.declared.number_pattern.NumberPattern.{NumberPattern}
use Rattle.dfdl_forms.specs.declared.number_pattern.Point.{Point}
use Rattle.dfdl_forms.specs.declared.number_pattern.Point.TheVariants.{Absent, Written, Implied}

-- the grouping separator, where the pattern groups digits, is no digit
abbrev pub HasPlainGrouping : NumberForm → NumberPattern → Type 0
HasPlainGrouping form pattern = 0 < pattern.group_size → is_ascii_digit form.grouping ≡ false

-- the decimal separator, where the pattern writes one, is no digit and no grouping separator
abbrev pub HasPlainDecimal : NumberForm → NumberPattern → Point → Type 0
HasPlainDecimal form pattern Written = (is_ascii_digit form.decimal ≡ false) × (0 < pattern.group_size → form.decimal ≢ form.grouping)
HasPlainDecimal form pattern point = Unit {0}

abbrev pub HasPlainSeparators : NumberForm → NumberPattern → Type 0
HasPlainSeparators form pattern = HasPlainGrouping form pattern × HasPlainDecimal form pattern pattern.point

-- where the first part is false, the second isn't
negated : (a b : Bool) → (a || not b) ≡ true → a ≡ false → b ≡ false
negated true b e f = absurd cc
negated false true e f = absurd cc
negated false false e f = refl

not_true : (b : Bool) → not b ≡ true → b ≡ false
not_true true e = absurd cc
not_true false e = refl

some_group : (group : ℕ) → 0 < group → (group == 0) ≡ false
some_group group some = ne_eqb group 0 (λ none. omega (arith, some, none))

decimal_is : (form : NumberForm) (pattern : NumberPattern) (point : Point) → is_plain_decimal point pattern.group_size form.decimal form.grouping ≡ true
    → HasPlainDecimal form pattern point
decimal_is form pattern Absent e = tt
decimal_is form pattern Implied e = tt
decimal_is form pattern Written e =
    let parts = and_parts (not (is_ascii_digit form.decimal)) (pattern.group_size == 0 || not (form.decimal == form.grouping)) e in
    (not_true (is_ascii_digit form.decimal) parts.0, λ some same. differ (negated _ _ parts.1 (some_group pattern.group_size some)) same)
  where
    differ : (form.decimal == form.grouping) ≡ false → form.decimal ≡ form.grouping → ⊥
    differ other same = let is = eq-eqb form.decimal form.grouping same in absurd cc

pub plain_separators : (form : NumberForm) (pattern : NumberPattern) → IsNumberForm form → form.pattern ≡ Some pattern → HasPlainSeparators form pattern
plain_separators form pattern sound has =
    let all : are_plain (Some pattern) form.decimal form.grouping ≡ true = subst (λ (o : Option NumberPattern). are_plain o form.decimal form.grouping ≡ true) has sound.plain in
    let parts = and_parts (is_plain_grouping pattern.group_size form.grouping) (is_plain_decimal pattern.point pattern.group_size form.decimal form.grouping) all in
    ((λ some. negated _ _ parts.0 (some_group pattern.group_size some)), decimal_is form pattern pattern.point parts.1)
