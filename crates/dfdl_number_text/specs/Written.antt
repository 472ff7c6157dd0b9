-- What the parts of the unparser answer.
use Rattle.std.specs.Prelude.{◌≡◌, ℕ, ◌+◌, ◌-◌, ◌*◌, ◌^◌, ◌/◌, ◌%◌, ◌<◌, ◌≤◌, ◌==◌, ◌&&◌, not, nat_lt, Bool, if◌then◌else◌, List, [], ◌∷◌, ◌++◌, length, take, drop, map, Option, Some, None, Result, Ok, Err, unsigned_abs}
use Rattle.dfdl_decimal.specs.Decimal.{DecimalNumber}
use Rattle.dfdl_forms.specs.declared.fault.NoFit.{NoFit}
use Rattle.dfdl_number_text.specs.Digits.{digits_at, digit_character}
use Rattle.dfdl_number_text.specs.Writing.{grouped, is_below_zero}
use Rattle.dfdl_number_text.specs.declared.digits.Groups.{Groups}
use Rattle.dfdl_number_text.specs.declared.rounding.Number.{Number}
use Rattle.dfdl_number_text.specs.declared.rounding.Size.{Size}

-- the number as a sign, a size and a scale
pub record IsNumber (number : Number) (d : DecimalNumber) : Type 0 where
  pub negative : number.negative ≡ is_below_zero d
  pub magnitude : number.magnitude ≡ unsigned_abs d.mantissa
  pub scale : number.scale ≡ d.scale

-- the number that a value has, if it has one
abbrev pub ShowsNumber : Option Number → Option DecimalNumber → Type 0
ShowsNumber None None = Unit {0}
ShowsNumber (Some number) (Some d) = IsNumber number d
ShowsNumber _ _ = ⊥

-- the size as an integer part and so many fraction digits
pub record IsSize (places : ℕ) (size : Size) (n : ℕ) : Type 0 where
  pub value : size.whole * 10 ^ places + size.fraction ≡ n
  pub fraction : size.fraction < 10 ^ places

-- the size that a rounding gave, if it was allowed
abbrev pub ShowsSize : ℕ → Option Size → Option ℕ → Type 0
ShowsSize places None None = Unit {0}
ShowsSize places (Some size) (Some n) = IsSize places size n
ShowsSize places _ _ = ⊥

-- so many digits of a base are what a number needs; 0 needs none
pub record HasDigits (base n count : ℕ) : Type 0 where
  pub below : n < base ^ count
  pub above : 0 < count → base ^ (count - 1) ≤ n

-- characters are put into a text from a place on
abbrev pub IsPut : List ℕ → ℕ → List ℕ → List ℕ → Type 0
IsPut before at characters after = after ≡ take at before ++ (characters ++ drop (at + length characters) before)

-- the separator behind a digit that has so many digits behind it, where a group ends there
abbrev pub separator_behind : ℕ → ℕ → ℕ → List ℕ
separator_behind separator group behind = if not (group == 0) && (nat_lt 0 behind && (behind % group == 0)) then separator ∷ [] else []

-- the separator, where a group ends
abbrev pub separator_if : Bool → ℕ → List ℕ
separator_if ends separator = if ends then separator ∷ [] else []

-- Of so many digits so many stand in front of the separator that was put last, or all where none was.
pub record IsInGroup (size behind count : ℕ) : Type 0 where
  pub few : count ≤ behind
  pub some : 0 < behind → 0 < count
  pub within : 0 < size → count ≤ size
  pub same : 0 < size → behind % size ≡ count % size

-- how many separators stand between so many digits in groups
abbrev pub separators_between : ℕ → ℕ → ℕ
separators_between count group = if group == 0 then 0 else (count - 1) / group

-- the characters of the last digits of a number in a base, in groups
abbrev pub digit_text : Groups → ℕ → ℕ → ℕ → List ℕ
digit_text groups base count n = grouped groups.separator groups.size (map digit_character (digits_at base count n))

-- the text stands at the front of the room, and what was behind it there still does
pub record IsFront (count : ℕ) (text before after : List ℕ) : Type 0 where
  pub count_is : count ≡ length text
  pub inside : count ≤ length before
  pub put : IsPut before 0 text after

-- a text is written if there is one, and otherwise nothing
abbrev pub IsWritten : Result ℕ NoFit → Option (List ℕ) → List ℕ → List ℕ → Type 0
IsWritten (Ok count) (Some text) before after = IsFront count text before after
IsWritten (Err fault) None before after = after ≡ before
IsWritten _ _ before after = ⊥
