-- How often a part occurs in the group that it stands in.
use Rattle.std.specs.Prelude.{ℕ, Bool, true, false, not, ◌||◌, nat_lt, List, Option, None, Some, is_some}
use Rattle.std.specs.List.{list_any}
use Rattle.dfdl_terms.specs.declared.occurs.Occurs.{Occurs}
use Rattle.dfdl_rows.specs.declared.component.Counted.{Counted}
use Rattle.dfdl_rows.specs.declared.component.Counted.TheVariants.{ByBounds, Parsed, Told}
use Rattle.dfdl_rows.specs.declared.times.Times.{Times}

-- so many times, each of which is required
abbrev pub required_times : ℕ → Times
required_times count = record { least = count; further = 0; is_item = nat_lt 1 count; is_parsed = false; question = None }

-- as often as the bounds of an element say, of occursCountKind parsed or not
abbrev pub bounded_times : Occurs → Bool → Times
bounded_times occurs parsed = record { least = occurs.least; further = occurs.further; is_item = occurs.is_item; is_parsed = parsed; question = None }

-- as often as this question tells: no occurrence is required before it is asked, and none is tried
abbrev pub told_times : ℕ → Times
told_times question = record { least = 0; further = 0; is_item = true; is_parsed = false; question = Some question }

-- as often as an element occurs
abbrev pub times_of : Occurs → Counted → Times
times_of occurs ByBounds = bounded_times occurs false
times_of occurs Parsed = bounded_times occurs true
times_of occurs (Told question) = told_times question

-- the question that tells how often an element occurs, where one does
abbrev pub question_of : Counted → Option ℕ
question_of ByBounds = None
question_of Parsed = None
question_of (Told question) = Some question

-- some of the occurrences are tried
abbrev pub has_tried : Times → Bool
has_tried n = nat_lt 0 n.further

-- some of the occurrences of some part are tried
abbrev pub have_tried : List Times → Bool
have_tried slots = list_any has_tried slots

-- a question tells how often a part occurs
abbrev pub is_told : Times → Bool
is_told n = is_some n.question

-- it tells how often some part does
abbrev pub have_told : List Times → Bool
have_told slots = list_any is_told slots

-- the part has no slot: it has no occurrence that is required, none that is tried, and no question tells how many there are
abbrev pub is_slotless : Times → Bool
is_slotless n = not (nat_lt 0 n.least || has_tried n || is_told n)
