-- How often elements occur ('Arrays and Optional Elements').
use Rattle.std.specs.Prelude.{ℕ, ◌==◌, ◌&&◌, ◌||◌, ◌-◌, Bool, true, false, not, min, Option, Some, None, codes, if◌then◌else◌}
use Rattle.dfdl_terms.specs.Occurs.{occurs_once, required_times}
use Rattle.dfdl_terms.specs.declared.occurs.Occurs.{Occurs}
use Rattle.dfdl_checks.specs.Judged.{Judged}
use Rattle.dfdl_checks.specs.Subjects.{is_element, is_told}
use Rattle.dfdl_checks.specs.declared.occurring.Bounds.{Bounds}
use Rattle.dfdl_checks.specs.declared.purpose.Purpose.{Purpose}
use Rattle.dfdl_checks.specs.declared.purpose.Purpose.TheVariants.{Parsing, Unparsing}

-- the greatest number of occurrences is this one
abbrev pub is_most : Option ℕ → ℕ → Bool
is_most None number = false
is_most (Some most) number = most == number

-- both bounds are 1
abbrev pub is_once : Bounds → Bool
is_once bounds = bounds.least == 1 && is_most bounds.most 1

-- both bounds are one number
abbrev pub are_same : Bounds → Bool
are_same bounds = is_most bounds.most bounds.least

-- an element with other bounds than 1 and 1
abbrev pub is_counted : Judged → Bool
is_counted subject = is_element subject.kind && not (is_once subject.facts.bounds)

-- the number of occurrences is fixed
abbrev pub is_fixed : Judged → Bool
is_fixed subject = is_told subject (codes "occursCountKind") (codes "fixed")

-- 32: an element that never occurs, or one that occurs a fixed number of times and whose bounds differ
abbrev pub are_bounds_unfit : Judged → Bool
are_bounds_unfit subject =
    is_element subject.kind && (is_most subject.facts.bounds.most 0 || (is_fixed subject && not (are_same subject.facts.bounds)))

-- the data tell how often the element occurs, whatever its bounds are
abbrev pub is_parsed : Judged → Bool
is_parsed subject = is_told subject (codes "occursCountKind") (codes "parsed")

-- an expression tells how often the element occurs, whatever its bounds are
abbrev pub is_count_asked : Judged → Bool
is_count_asked subject = is_told subject (codes "occursCountKind") (codes "expression")

-- an element with other bounds than 1 and 1 that occurs as often as an expression tells
abbrev pub is_counted_by_expression : Judged → Bool
is_counted_by_expression subject = is_counted subject && is_count_asked subject

-- So many required occurrences. Past 32 bits they are the greatest number of these: each occurrence is an element of the infoset, and
-- there are never so many.
abbrev pub within_word : ℕ → ℕ
within_word count = min count 4294967295

-- the same of a number of occurrences that may be unbounded, and then stands for one
abbrev pub count_of : Option ℕ → ℕ
count_of None = 1
count_of (Some most) = within_word most

-- how many more there can be than any number: the greatest number of 64 bits, which no data reach
abbrev pub unbounded : ℕ
unbounded = 18446744073709551615

-- how many more there are at most than the least number
abbrev pub further_than : ℕ → Option ℕ → ℕ
further_than least None = unbounded
further_than least (Some most) = most - least

-- as often as the bounds say, where those up to the least number are required: an element that occurs once at most is no item
abbrev pub occurs_within : Bounds → Occurs
occurs_within bounds = record {
  least = within_word bounds.least;
  further = further_than bounds.least bounds.most;
  is_item = not (is_most bounds.most 1);
}

-- any number of times, none of which is required
abbrev pub occurs_any : Occurs
occurs_any = record { least = 0; further = unbounded; is_item = true }

-- as often as an expression tells: no bounds require an occurrence, and none is tried
abbrev pub occurs_told : Occurs
occurs_told = record { least = 0; further = 0; is_item = true }

-- how often an element occurs whose bounds aren't both 1, by the kind of its count: implicit, where it is none of the others
abbrev pub occurrences_by_kind : Judged → Occurs
occurrences_by_kind subject =
    if is_fixed subject then required_times (count_of subject.facts.bounds.most)
    else if is_parsed subject then occurs_any
    else if is_count_asked subject then occurs_told
    else occurs_within subject.facts.bounds

-- how often an element occurs, where it breaks no rule: for unparsing once
abbrev pub occurrences_for : Purpose → Judged → Occurs
occurrences_for Parsing subject = if is_once subject.facts.bounds then occurs_once else occurrences_by_kind subject
occurrences_for Unparsing subject = occurs_once

-- the same for the component's purpose
abbrev pub occurrences_of : Judged → Occurs
occurrences_of subject = occurrences_for subject.purpose subject

-- those of the component's occurrences that are tried are of kind parsed
abbrev pub is_parsed_for : Purpose → Judged → Bool
is_parsed_for Parsing subject = not (is_once subject.facts.bounds) && is_parsed subject
is_parsed_for Unparsing subject = false

-- the same for the component's purpose
abbrev pub is_count_parsed : Judged → Bool
is_count_parsed subject = is_parsed_for subject.purpose subject
