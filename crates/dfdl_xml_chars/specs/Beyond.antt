-- What a place of a reader does with characters past ASCII, and what it then does with the bytes of
-- one that is not whole.
use Rattle.std.specs.Prelude.{◌≡◌, ◌≢◌, ℕ, ◌≤◌, Bool, true, false, List, Option, Some, None, Result}
use Rattle.std.specs.Prelude.{Ok, Err, if◌then◌else◌}
use Rattle.dfdl_xml_chars.specs.Characters.{Row, is_in, is_allowed, char_rows, meets, begins}
use Rattle.dfdl_xml_chars.specs.Characters.{are_proper, are_inside}

-- what a place does with characters past ASCII that XML allows
pub data Beyond : Type 0 where
  -- each goes on
  All : Beyond
  -- those of the rows go on, and any other breaks this rule
  Only : (rows : List Row) (other : ℕ) → Beyond
  -- this one goes on; of the others those of the rows break the first rule, and the rest the second
  One : (c : ℕ) (rows : List Row) (unlike other : ℕ) → Beyond
  -- none goes on: those of the rows break the first rule, and the rest the second
  Never : (rows : List Row) (unlike other : ℕ) → Beyond

-- the first rule at a character of the rows, and the second at any other
abbrev pub by_test : Bool → ℕ → ℕ → ℕ
by_test is unlike other = if is then unlike else other

-- some character that begins so goes on, or else the rule that is broken
abbrev pub could_by : Beyond → List ℕ → Option ℕ
could_by All bytes = None
could_by (Only rows other) bytes = if meets rows bytes then None else Some other
could_by (One c rows unlike other) bytes =
    if begins bytes c then None else Some (by_test (meets rows bytes) unlike other)
could_by (Never rows unlike other) bytes = Some (by_test (meets rows bytes) unlike other)

-- the step went on
abbrev pub GoesOn : {S : Type 0} → Result S ℕ → Type 0
GoesOn {S} r = (t : S) × (r ≡ Ok t)

-- the answer at a character past ASCII is that of the place
abbrev pub Does : {S : Type 0} → Beyond → ℕ → Result S ℕ → Type 0
Does All c r = GoesOn r
Does (Only rows other) c r =
    (is_in rows c ≡ true → GoesOn r) × (is_in rows c ≡ false → r ≡ Err other)
Does (One d rows unlike other) c r =
    (c ≡ d → GoesOn r) × (c ≢ d → r ≡ Err (by_test (is_in rows c) unlike other))
Does (Never rows unlike other) c r = r ≡ Err (by_test (is_in rows c) unlike other)

-- the rows are intervals of characters that XML allows
pub record AreAllowed (rows : List Row) : Type 0 where
  pub proper : are_proper rows ≡ true
  pub allowed : are_inside rows char_rows ≡ true

-- the place's rules stand behind the one that characters are allowed, and what it names is allowed
abbrev pub FitsBehind : ℕ → Beyond → Type 0
FitsBehind rule All = Unit {0}
FitsBehind rule (Only rows other) = AreAllowed rows × (rule ≤ other)
FitsBehind rule (One c rows unlike other) =
    AreAllowed rows × (is_allowed c ≡ true) × (rule ≤ other) × (other ≤ unlike)
FitsBehind rule (Never rows unlike other) = AreAllowed rows × (rule ≤ other) × (other ≤ unlike)
