-- Number patterns: what they mean, and how they are spelled.
use Rattle.std.specs.Prelude.{◌≡◌, ℕ, ◌+◌, true, ◌⊎◌, chars, List, ◌∷◌, ◌++◌}
use Rattle.dfdl_number_pattern.specs.declared.quote.Quote.{Quote}
use Rattle.dfdl_number_pattern.specs.declared.digits.Digits.{Digits}
use Rattle.dfdl_number_pattern.specs.declared.digits.Part.{Part}
use Rattle.dfdl_number_pattern.specs.declared.digits.Part.TheVariants.{Integer, Fraction, Implied}
use Rattle.dfdl_forms.specs.declared.number_pattern.Point.{Point}
use Rattle.dfdl_forms.specs.declared.number_pattern.Point.TheVariants as point
use Rattle.dfdl_forms.specs.declared.number_pattern.NumberPattern.{NumberPattern}
use Rattle.dfdl_number_pattern.specs.Affix.{IsAffix, is_whole}
use Rattle.dfdl_number_pattern.specs.Digits.{IsDigits, is_complete, group_size}

-- a sub-pattern is a prefix, digits and a suffix
pub record IsSubpattern (prefix suffix : List ℕ) (d : Digits) (text : List ℕ) : Type 0 where
  pub before : List ℕ
  pub digits : List ℕ
  pub behind : List ℕ
  pub ends_prefix : Quote
  pub ends_suffix : Quote
  pub spelled : text ≡ before ++ (digits ++ behind)
  pub is_prefix : IsAffix ends_prefix prefix before
  pub prefix_whole : is_whole ends_prefix ≡ true
  pub is_digits : IsDigits d digits
  pub complete : is_complete d ≡ true
  pub is_suffix : IsAffix ends_suffix suffix behind
  pub suffix_whole : is_whole ends_suffix ≡ true

-- how the fraction of digits is written
abbrev pub point_of : Part → Point
point_of Integer = point.Absent
point_of Fraction = point.Written
point_of Implied = point.Implied

-- the pattern of these digits and affixes, which are texts in UTF-8
abbrev pub pattern_of : Digits → List ℕ → List ℕ → List ℕ → List ℕ → NumberPattern
pattern_of d prefix suffix negative_prefix negative_suffix =
    record {
      prefix = chars prefix;
      suffix = chars suffix;
      negative_prefix = chars negative_prefix;
      negative_suffix = chars negative_suffix;
      least_integer = d.zeros;
      greatest_integer = d.hashes + d.zeros;
      group_size = group_size d.groups;
      point = point_of d.part;
      least_fraction = d.fraction_zeros;
      greatest_fraction = d.fraction_zeros + d.fraction_hashes;
      implied = d.implied;
    }

-- one sub-pattern: the negative prefix is `-` before the positive one
pub record SpellsOne (p : NumberPattern) (text : List ℕ) : Type 0 where
  pub prefix : List ℕ
  pub suffix : List ℕ
  pub digits : Digits
  pub is_only : IsSubpattern prefix suffix digits text
  pub means : p ≡ pattern_of digits prefix suffix (45 ∷ prefix) suffix

-- two sub-patterns, divided by `;`: the second one gives the negative prefix and suffix alone
pub record SpellsTwo (p : NumberPattern) (text : List ℕ) : Type 0 where
  pub first : List ℕ
  pub second : List ℕ
  pub prefix : List ℕ
  pub suffix : List ℕ
  pub digits : Digits
  pub negative_prefix : List ℕ
  pub negative_suffix : List ℕ
  pub other : Digits
  pub spelled : text ≡ first ++ 59 ∷ second
  pub is_first : IsSubpattern prefix suffix digits first
  pub is_second : IsSubpattern negative_prefix negative_suffix other second
  pub means : p ≡ pattern_of digits prefix suffix negative_prefix negative_suffix

-- the text spells the pattern
abbrev pub Spells : NumberPattern → List ℕ → Type 0
Spells p text = SpellsOne p text ⊎ SpellsTwo p text

-- the text is a pattern
abbrev pub IsPattern : List ℕ → Type 0
IsPattern text = (p : NumberPattern) × Spells p text
