-- The parts of the form of a text number, and how much room a number in it takes.
use Rattle.std.specs.Prelude.{◌≡◌, ℕ, ◌+◌, max, length, Option, Some, None}
use Rattle.dfdl_forms.specs.declared.number.NumberForm.{NumberForm}
use Rattle.dfdl_forms.specs.declared.number.Rounding.{Rounding}
use Rattle.dfdl_forms.specs.declared.number_pattern.NumberPattern.{NumberPattern}

-- the form has these parts
pub record IsFormOf (form : NumberForm) (base : ℕ) (pattern : Option NumberPattern) (decimal grouping : ℕ) (rounding : Rounding) : Type 0 where
  pub base_is : form.base ≡ base
  pub pattern_is : form.pattern ≡ pattern
  pub decimal_is : form.decimal ≡ decimal
  pub grouping_is : form.grouping ≡ grouping
  pub rounding_is : form.rounding ≡ rounding

-- 128, and the characters of the longer prefix and of the longer suffix
abbrev pub room_with : Option NumberPattern → ℕ
room_with None = 128
room_with (Some p) =
    max (length p.prefix) (length p.negative_prefix) + max (length p.suffix) (length p.negative_suffix) + 128

-- how many characters a number in the form may take
abbrev pub room_of : NumberForm → ℕ
room_of form = room_with form.pattern
