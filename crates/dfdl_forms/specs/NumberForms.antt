-- The forms of text numbers. 'Properties Specific to Number with Text Representation'.
use Rattle.std.specs.Prelude.{ℕ, ◌+◌, ◌≤◌, ◌==◌, Bool, true, not, ◌&&◌, ◌||◌, IsTrue, Option, Some, None}
use Rattle.std.specs.Char.{is_ascii_digit}
use Rattle.dfdl_forms.specs.declared.number.NumberForm.{NumberForm}
use Rattle.dfdl_forms.specs.declared.number_pattern.NumberPattern.{NumberPattern}
use Rattle.dfdl_forms.specs.declared.number_pattern.Point.{Point}
use Rattle.dfdl_forms.specs.declared.number_pattern.Point.TheVariants.{Absent, Written, Implied}

-- a text number may have this base
abbrev pub is_base : ℕ → Bool
is_base b = b == 2 || b == 8 || b == 10 || b == 16

-- the grouping separator, where integer digits stand in groups, is no digit
abbrev pub is_plain_grouping : ℕ → ℕ → Bool
is_plain_grouping group_size grouping = group_size == 0 || not (is_ascii_digit grouping)

-- the decimal separator, where one is written, is no digit, and no grouping separator where that is used
abbrev pub is_plain_decimal : Point → ℕ → ℕ → ℕ → Bool
is_plain_decimal Written group_size decimal grouping = not (is_ascii_digit decimal) && (group_size == 0 || not (decimal == grouping))
is_plain_decimal Absent group_size decimal grouping = true
is_plain_decimal Implied group_size decimal grouping = true

-- the separators that a pattern uses are no digits, and differ
abbrev pub are_plain : Option NumberPattern → ℕ → ℕ → Bool
are_plain None decimal grouping = true
are_plain (Some p) decimal grouping = is_plain_grouping p.group_size grouping && is_plain_decimal p.point p.group_size decimal grouping

-- a pattern stands exactly in base 10
abbrev pub goes_with : ℕ → Option NumberPattern → Bool
goes_with base None = not (base == 10)
goes_with base (Some p) = base == 10

-- parts go together in a form: a base of text numbers, with a pattern exactly in base 10, and plain separators
abbrev pub is_form : ℕ → Option NumberPattern → ℕ → ℕ → Bool
is_form base pattern decimal grouping = is_base base && (goes_with base pattern && are_plain pattern decimal grouping)

-- a pattern has at most 38 signs, no more digits are written at least than there are signs, and a group has no more
pub record IsNumberPattern (p : NumberPattern) : Type 0 where
  pub few : p.greatest_integer + p.greatest_fraction + p.implied ≤ 38
  pub least_integer_within : p.least_integer ≤ p.greatest_integer
  pub least_fraction_within : p.least_fraction ≤ p.greatest_fraction
  pub group_within : p.group_size ≤ 38

-- the same, where there is a pattern
abbrev pub HasPattern : Option NumberPattern → Type 0
HasPattern None = Unit {0}
HasPattern (Some p) = IsNumberPattern p

-- the parts of the form of a text number go together
pub record IsNumberForm (form : NumberForm) : Type 0 where
  pub based : IsTrue (is_base form.base)
  pub patterned : IsTrue (goes_with form.base form.pattern)
  pub plain : IsTrue (are_plain form.pattern form.decimal form.grouping)
  pub bounded : HasPattern form.pattern
