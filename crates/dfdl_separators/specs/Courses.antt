-- In which order the facts of a slot are asked for, and when its verdict is given.
use Rattle.std.specs.Prelude.{◌≡◌, ◌≢◌, Bool, true, false, not, ◌&&◌, ◌⊎◌, if◌then◌else◌}
use Rattle.dfdl_separators.specs.declared.course.Known.{Known}
use Rattle.dfdl_separators.specs.declared.course.Known.TheVariants.{Begun, Begins, Occurred, Closed}
use Rattle.dfdl_separators.specs.declared.moves.SlotMove.{SlotMove}
use Rattle.dfdl_separators.specs.declared.moves.SlotMove.TheVariants.{TakeSeparator, LookForSeparator, Parse, Keep, Drop, EndArray, EndGroup, Fail}
use Rattle.dfdl_separators.specs.declared.verdict.Here.{Here}
use Rattle.dfdl_separators.specs.declared.verdict.Tried.{Tried}
use Rattle.dfdl_separators.specs.Verdicts.{Facts, verdict, by_tried, missing, begins, ends, is_past, is_taken, lacks}

-- A separator behind the slot is asked for where the slot is taken with one, and isn't without.
abbrev pub needs_behind : Here → Tried → Bool
needs_behind here tried = is_taken (by_tried here tried true) && not (is_taken (by_tried here tried false))

-- a separator that the slot ends with is passed over, and another one only looked at
abbrev pub ask_behind : Here → SlotMove
ask_behind here = if ends here then TakeSeparator else LookForSeparator

-- The next fact that is asked for, or the verdict: first the separator that the slot begins with, then the occurrence, then a
-- separator behind it.
abbrev pub course : Here → Known → SlotMove
course here Begun = if is_past here then missing here.rule else if begins here then TakeSeparator else Parse
course here (Begins found) = if found then Parse else missing here.rule
course here (Occurred tried) = if needs_behind here tried then ask_behind here else by_tried here tried true
course here (Closed tried found) = by_tried here tried found

-- what is known of a slot once a separator was sought
abbrev pub with_separator : Known → Bool → Known
with_separator Begun found = Begins found
with_separator (Begins other) found = Begins found
with_separator (Occurred tried) found = Closed tried found
with_separator (Closed tried other) found = Closed tried found

-- a move that asks for a separator
abbrev pub AsksSeparator : SlotMove → Type 0
AsksSeparator move = (move ≡ TakeSeparator) ⊎ (move ≡ LookForSeparator)

-- the facts of a slot are such as is known of them
abbrev pub Agrees : Here → Known → Facts → Type 0
Agrees here Begun facts = Unit {0}
Agrees here (Begins found) facts = (is_past here ≡ false) × (lacks here facts.before ≡ not found)
Agrees here (Occurred tried) facts = (is_past here ≡ false) × (lacks here facts.before ≡ false) × (facts.tried ≡ tried)
Agrees here (Closed tried found) facts = (is_past here ≡ false) × (lacks here facts.before ≡ false) × (facts.tried ≡ tried) × (facts.behind ≡ found)

-- a move that asks for nothing about the slot
abbrev pub is_verdict : SlotMove → Bool
is_verdict Keep = true
is_verdict Drop = true
is_verdict EndArray = true
is_verdict EndGroup = true
is_verdict (Fail fault) = true
is_verdict TakeSeparator = false
is_verdict LookForSeparator = false
is_verdict Parse = false

-- What is known leaves the verdict open: there are facts such as these with one verdict, and others with another.
pub record IsOpen (here : Here) (known : Known) : Type 0 where
  pub some : Facts
  pub other : Facts
  pub agrees : Agrees here known some
  pub agrees_too : Agrees here known other
  pub apart : verdict here some ≢ verdict here other
