-- How the reader goes over the bytes of a pattern. The grammar is in Pattern; public contracts cite this by Read alone.
use Rattle.std.specs.Prelude.{ℕ, ◌+◌, ◌==◌, Bool, true, false, ◌&&◌, ◌||◌, not, if◌then◌else◌, Option, Some, None, List, [], ◌∷◌, ◌++◌}
use Rattle.dfdl_number_pattern.specs.declared.quote.Quote.{Quote}
use Rattle.dfdl_number_pattern.specs.declared.quote.Quote.TheVariants.{Bare, AfterC2, AfterE2, AfterE280, Opened, Quoted, Closed}
use Rattle.dfdl_number_pattern.specs.declared.digits.Part.{Part}
use Rattle.dfdl_number_pattern.specs.declared.digits.Part.TheVariants.{Integer, Fraction, Implied}
use Rattle.dfdl_number_pattern.specs.declared.digits.Groups.{Groups}
use Rattle.dfdl_number_pattern.specs.declared.digits.Digits.{Digits}
use Rattle.dfdl_number_pattern.specs.declared.reader.Place.{Place}
use Rattle.dfdl_number_pattern.specs.declared.reader.Place.TheVariants.{Prefix, Number, Suffix}
use Rattle.dfdl_forms.specs.declared.number_pattern.NumberPattern.{NumberPattern}
use Rattle.dfdl_number_pattern.specs.Affix.{is_plain, is_whole}
use Rattle.dfdl_number_pattern.specs.Digits.{none, sign_count, may_sign, may_group, group_more, group_next, may_end, is_complete}
use Rattle.dfdl_number_pattern.specs.Pattern.{pattern_of}

-- outside of quoted text, between characters
abbrev pub plain_next : ℕ → Option Quote
plain_next b = if b == 194 then Some AfterC2 else (if b == 226 then Some AfterE2 else (if is_plain b then Some Bare else None))

-- by a byte that is no apostrophe
abbrev pub character_next : Quote → ℕ → Option Quote
character_next Bare b = plain_next b
character_next Closed b = plain_next b
character_next AfterC2 b = if b == 164 then None else Some Bare
character_next AfterE2 b = if b == 128 then Some AfterE280 else Some Bare
character_next AfterE280 b = if b == 176 then None else Some Bare
character_next Opened b = Some Quoted
character_next Quoted b = Some Quoted

-- by an apostrophe
abbrev pub apostrophe_next : Quote → Option Quote
apostrophe_next Bare = Some Opened
apostrophe_next Opened = Some Bare
apostrophe_next Quoted = Some Closed
apostrophe_next Closed = Some Quoted
apostrophe_next AfterC2 = None
apostrophe_next AfterE2 = None
apostrophe_next AfterE280 = None

-- the state of quotes behind one more byte of an affix
unfoldable pub quote_next : Quote → ℕ → Option Quote
quote_next q b = if b == 39 then apostrophe_next q else character_next q b

-- an apostrophe that stands for itself here
abbrev pub doubles : Quote → Bool
doubles Opened = true
doubles Closed = true
doubles _ = false

-- the byte is one of the meaning
unfoldable pub says : Quote → ℕ → Bool
says q b = not (b == 39) || doubles q

-- the meaning with this byte, if it is one of it
abbrev pub told : Quote → ℕ → List ℕ → List ℕ
told q b w = if says q b then w ++ b ∷ [] else w

-- the digits with one more `#`
abbrev pub hash_next : Digits → Option Digits
hash_next d =
    if (d.zeros == 0 && may_group d.groups) && may_sign d then Some (record d { hashes = d.hashes + 1; groups = group_more d.groups })
    else None

-- the digits with one more `0`
abbrev pub zero_next : Digits → Option Digits
zero_next d = if may_group d.groups && may_sign d then Some (record d { zeros = d.zeros + 1; groups = group_more d.groups }) else None

-- the digits with these groups, if there are some
abbrev pub with_groups : Option Groups → Digits → Option Digits
with_groups None d = None
with_groups (Some g) d = Some (record d { groups = g })

-- the digits with one more `,`
abbrev pub comma_next : Digits → Option Digits
comma_next d = with_groups (group_next (sign_count d) d.groups) d

-- the digits where another part begins
abbrev pub part_next : Part → Digits → Option Digits
part_next part d = if may_end d.groups then Some (record d { part = part }) else None

-- the digits with one more byte of the integer part
unfoldable pub integer_next : Digits → ℕ → Option Digits
integer_next d b =
    if b == 35 then hash_next d
    else (if b == 48 then zero_next d
    else (if b == 44 then comma_next d
    else (if b == 46 then part_next Fraction d else (if b == 86 then part_next Implied d else None))))

-- the digits with one more byte behind the point
unfoldable pub fraction_next : Digits → ℕ → Option Digits
fraction_next d b =
    if b == 48 then (if d.fraction_hashes == 0 && may_sign d then Some (record d { fraction_zeros = d.fraction_zeros + 1 }) else None)
    else (if b == 35 && may_sign d then Some (record d { fraction_hashes = d.fraction_hashes + 1 }) else None)

-- the digits with one more byte behind the implied point
unfoldable pub implied_next : Digits → ℕ → Option Digits
implied_next d b = if b == 48 && may_sign d then Some (record d { implied = d.implied + 1 }) else None

-- the digits with one more byte of this part
abbrev pub digit_of : Part → Digits → ℕ → Option Digits
digit_of Integer d b = integer_next d b
digit_of Fraction d b = fraction_next d b
digit_of Implied d b = implied_next d b

-- the digits with one more byte
abbrev pub digit_next : Digits → ℕ → Option Digits
digit_next d b = digit_of d.part d b

-- a sub-pattern that was read
pub record Subpattern : Type 0 where
  pub prefix : List ℕ
  pub suffix : List ℕ
  pub digits : Digits

-- where the reader stands, what it has read of the sub-pattern, and the one before the `;`
pub record State : Type 0 where
  pub place : Place
  pub prefix : List ℕ
  pub suffix : List ℕ
  pub digits : Digits
  pub first : Option Subpattern

-- nothing was read
abbrev pub start : State
start = record { place = Prefix Bare; prefix = []; suffix = []; digits = none; first = None }

-- the second sub-pattern begins
abbrev pub second_after : Option Subpattern → State → Option State
second_after (Some f) s = None
second_after None s =
    Some (record { place = Prefix Bare; prefix = []; suffix = []; digits = none; first = Some (record { prefix = s.prefix; suffix = s.suffix; digits = s.digits }) })

-- the second sub-pattern begins
unfoldable pub second_next : State → Option State
second_next s = second_after s.first s

-- the digits go on
abbrev pub with_digits : Option Digits → State → Option State
with_digits None s = None
with_digits (Some d) s = Some (record s { place = Number; digits = d })

-- the prefix goes on, or the digits begin
abbrev pub prefix_or : Option Quote → Quote → State → ℕ → Option State
prefix_or (Some r) q s b = Some (record s { place = Prefix r; prefix = told q b s.prefix })
prefix_or None q s b = if is_whole q then with_digits (digit_next s.digits b) s else None

-- one more byte where a prefix can go on
unfoldable pub prefix_next : Quote → State → ℕ → Option State
prefix_next q s b = prefix_or (quote_next q b) q s b

-- the suffix begins, or the digits go on
abbrev pub number_or : Option Quote → State → ℕ → Option State
number_or (Some r) s b = if is_complete s.digits then Some (record s { place = Suffix r; suffix = told Bare b s.suffix }) else None
number_or None s b = if b == 59 then (if is_complete s.digits then second_next s else None) else with_digits (digit_next s.digits b) s

-- one more byte where digits can go on
unfoldable pub number_next : State → ℕ → Option State
number_next s b = number_or (quote_next Bare b) s b

-- the suffix goes on, or the second sub-pattern begins
abbrev pub suffix_or : Option Quote → Quote → State → ℕ → Option State
suffix_or (Some r) q s b = Some (record s { place = Suffix r; suffix = told q b s.suffix })
suffix_or None q s b = if b == 59 && is_whole q then second_next s else None

-- one more byte where a suffix can go on
unfoldable pub suffix_next : Quote → State → ℕ → Option State
suffix_next q s b = suffix_or (quote_next q b) q s b

-- one more byte at a place
abbrev pub step_from : Place → State → ℕ → Option State
step_from (Prefix q) s b = prefix_next q s b
step_from Number s b = number_next s b
step_from (Suffix q) s b = suffix_next q s b

-- one more byte
abbrev pub step : State → ℕ → Option State
step s b = step_from s.place s b

-- a pattern may end here
abbrev pub accepts_at : Place → Digits → Bool
accepts_at (Prefix q) d = false
accepts_at Number d = is_complete d
accepts_at (Suffix q) d = is_whole q

-- a pattern can end here
abbrev pub accepts : State → Bool
accepts s = accepts_at s.place s.digits

-- the pattern that was read
abbrev pub value_after : Option Subpattern → State → NumberPattern
value_after None s = pattern_of s.digits s.prefix s.suffix (45 ∷ s.prefix) s.suffix
value_after (Some f) s = pattern_of f.digits f.prefix f.suffix s.prefix s.suffix

-- the pattern that was read
abbrev pub value : State → NumberPattern
value s = value_after s.first s
