-- How text numbers are read ('Simple Types', on text number representation, and 'The DFDL Number Pattern').
use Rattle.std.specs.Prelude.{ℕ, List, [], ◌∷◌, ◌+◌, ◌==◌, ◌||◌, Bool, true, false, Option, Some, None, option_map, codes, if◌then◌else◌}
use Rattle.std.specs.List.{list_all}
use Rattle.dfdl_forms.specs.NumberForms.{is_form}
use Rattle.dfdl_forms.specs.declared.number.NumberForm.{NumberForm}
use Rattle.dfdl_forms.specs.declared.number.Rounding.{Rounding}
use Rattle.dfdl_forms.specs.declared.number.Rounding.TheVariants as rounding
use Rattle.dfdl_forms.specs.declared.number_pattern.NumberPattern.{NumberPattern}
use Rattle.dfdl_forms.specs.declared.packed.ZonedForm.{ZonedForm}
use Rattle.dfdl_forms.specs.declared.packed.ZonedStyle.{ZonedStyle}
use Rattle.dfdl_forms.specs.declared.packed.ZonedStyle.TheVariants.{AsciiStandard, TranslatedEbcdic}
use Rattle.dfdl_forms.specs.declared.simple.Simple.{Simple}
use Rattle.dfdl_literals.specs.declared.pad.PadCharacter.{PadCharacter}
use Rattle.dfdl_number_pattern.specs.Read.{pattern_read}
use Rattle.dfdl_scope.specs.Expressions.{is_expression, literal}
use Rattle.dfdl_scope.specs.Scoping.{Told, Value, Absent, Twice}
use Rattle.dfdl_checks.specs.Judged.{Judged}
use Rattle.dfdl_checks.specs.Pads.{character_told, single}
use Rattle.dfdl_checks.specs.Subjects.{is_told, is_word, told_at}

-- the base that is told, ten where none is
abbrev pub base_told : Told → ℕ
base_told told =
    if is_word (codes "2") told then 2 else if is_word (codes "8") told then 8 else if is_word (codes "16") told then 16 else 10

-- the base of the component's digits
abbrev pub base_of : Judged → ℕ
base_of subject = base_told (told_at subject (codes "textStandardBase"))

-- the decimal separator of the component, a point where none is told
abbrev pub decimal_at : Judged → PadCharacter
decimal_at subject = character_told 46 (told_at subject (codes "textStandardDecimalSeparator"))

-- the grouping separator of the component, a comma where none is told
abbrev pub grouping_at : Judged → PadCharacter
grouping_at subject = character_told 44 (told_at subject (codes "textStandardGroupingSeparator"))

-- the rounding mode that is told; to the even neighbour where none is
abbrev pub mode_told : Told → Rounding
mode_told told =
    if is_word (codes "roundCeiling") told then rounding.Ceiling
    else if is_word (codes "roundFloor") told then rounding.Floor
    else if is_word (codes "roundDown") told then rounding.Down
    else if is_word (codes "roundUp") told then rounding.Up
    else if is_word (codes "roundHalfDown") told then rounding.HalfDown
    else if is_word (codes "roundHalfUp") told then rounding.HalfUp
    else if is_word (codes "roundUnnecessary") told then rounding.Unnecessary
    else rounding.HalfEven

-- how the component's numbers are rounded: by its mode where that is asked for
abbrev pub rounding_of : Judged → Rounding
rounding_of subject =
    if is_told subject (codes "textNumberRounding") (codes "explicit") then mode_told (told_at subject (codes "textNumberRoundingMode"))
    else rounding.HalfEven

-- the text of a pattern that is told, by no expression
abbrev pub pattern_text : Told → Option (List ℕ)
pattern_text (Value written) = if is_expression written then None else Some (literal written)
pattern_text Absent = None
pattern_text (Twice place) = None

-- the pattern that a text spells, if it is told and spells one
abbrev pub pattern_of : Option (List ℕ) → Option NumberPattern
pattern_of None = None
pattern_of (Some text) = pattern_read text

-- the text of the component's pattern
abbrev pub pattern_at : Judged → Option (List ℕ)
pattern_at subject = pattern_text (told_at subject (codes "textNumberPattern"))

-- the pattern of a number in a base: only digits in base ten have one
abbrev pub pattern_in : ℕ → Judged → Option NumberPattern
pattern_in base subject = if base == 10 then pattern_of (pattern_at subject) else None

-- a form with these parts, if they go together
abbrev pub form_by : ℕ → Option NumberPattern → Option ℕ → Option ℕ → Rounding → Option NumberForm
form_by base pattern (Some decimal) (Some grouping) rounding =
    if is_form base pattern decimal grouping
    then Some (record { base = base; pattern = pattern; decimal = decimal; grouping = grouping; rounding = rounding })
    else None
form_by base pattern _ _ rounding = None

-- the form of the component's numbers
abbrev pub number_form_of : Judged → Option NumberForm
number_form_of subject =
    form_by (base_of subject) (pattern_in (base_of subject) subject) (single (decimal_at subject)) (single (grouping_at subject)) (rounding_of subject)

-- which characters carry the sign of a zoned number
abbrev pub style_told : Told → ZonedStyle
style_told told = if is_word (codes "asciiTranslatedEBCDIC") told then TranslatedEbcdic else AsciiStandard

-- a character of the pattern of a zoned number: `0`, `#`, `V` or `+`
abbrev pub is_zoned_sign : ℕ → Bool
is_zoned_sign c = c == 48 || c == 35 || c == 86 || c == 43

-- whether the first digit carries the sign, by what stands before and behind the digits of a pattern: a `+` names the digit
abbrev pub is_sign_first : List ℕ → List ℕ → Option Bool
is_sign_first [] [] = Some false
is_sign_first [] (c ∷ []) = Some false
is_sign_first (c ∷ []) [] = Some true
is_sign_first _ _ = None

-- a zoned number of these parts
abbrev pub zoned_with : ZonedStyle → Simple → NumberPattern → Bool → ZonedForm
zoned_with style simple p first =
    record { style = style; first = first; width = p.least_integer + p.implied; point = p.implied; kind = simple }

-- a zoned number by a pattern
abbrev pub zoned_by : ZonedStyle → Simple → Option NumberPattern → Option ZonedForm
zoned_by style simple None = None
zoned_by style simple (Some p) = option_map (zoned_with style simple p) (is_sign_first p.prefix p.suffix)

-- a zoned number by the text of a pattern, which holds those characters alone
abbrev pub zoned_spelled : ZonedStyle → Simple → Option (List ℕ) → Option ZonedForm
zoned_spelled style simple None = None
zoned_spelled style simple (Some text) = if list_all is_zoned_sign text then zoned_by style simple (pattern_read text) else None

-- the form of the component's zoned numbers
abbrev pub zoned_form_of : Judged → Simple → Option ZonedForm
zoned_form_of subject simple = zoned_spelled (style_told (told_at subject (codes "textZonedSignStyle"))) simple (pattern_at subject)
