-- What the reading of a content comes to, and what is left of one.
use Rattle.std.specs.Prelude.{◌≡◌, ℕ, ◌≤◌, Bool, List}
use Rattle.dfdl_bits.specs.declared.window.Seen.{Seen}
use Rattle.dfdl_looks.specs.Asks.{Reached, Told, TooFar, Missing, Reading, ask}
use Rattle.dfdl_looks.specs.Tallies.{Tally}
use Rattle.dfdl_delims.specs.Lists.{Opened}
use Rattle.dfdl_escapes.specs.declared.character.Character.{Character}
use Rattle.dfdl_escapes.specs.declared.ending.Ending.{Ending}
use Rattle.dfdl_escapes.specs.declared.ending.Ending.TheVariants.{Ends, EndOfBox, Broken, NotYet, Over}
use Rattle.dfdl_escapes.specs.declared.ending.Passed.{Passed}
use Rattle.dfdl_escapes.specs.declared.ending.Passed.TheVariants.{Gives, Mark, Stops}
use Rattle.dfdl_escapes.specs.declared.ending.Read.{Read}
use Rattle.dfdl_escapes.specs.declared.form.Form.{Form}
use Rattle.dfdl_escapes.specs.declared.form.Stand.{Stand}
use Rattle.dfdl_escapes.specs.declared.reading.Progress.{Progress}
use Rattle.dfdl_escapes.specs.declared.reading.Progress.TheVariants.{Goes, Halts}
use Rattle.dfdl_escapes.specs.Steps.{Step, Takes, Passes, Closes, RunsOut, Fails}
use Rattle.dfdl_escapes.specs.Contents.{Content, content_from}

-- how a reading ends that has read these characters and stands there
abbrev pub ending_shown : List Character → Stand → Ending → Reached Content
ending_shown read at (Ends which) = Told (record { characters = read; last = at; ends = Closes which })
ending_shown read at EndOfBox = Told (record { characters = read; last = at; ends = RunsOut })
ending_shown read at (Broken cause) = Told (record { characters = read; last = at; ends = Fails cause })
ending_shown read at NotYet = Missing
ending_shown read at Over = TooFar

-- the answer, with the characters that were read and where the scan stands, is this reading, in so many looks
pub record IsRead (reading : Reading Content) (read : List Character) (at : Stand) (answer : Read) (looks_made : ℕ) : Type 0 where
  pub reached : reading.reached ≡ ending_shown read at answer.ending
  pub looks : reading.tally.looks ≡ looks_made
  pub far : reading.tally.far ≡ answer.far

-- how a step ends a reading
abbrev pub ending_step : Ending → Reached Step
ending_step (Ends which) = Told (Closes which)
ending_step EndOfBox = Told RunsOut
ending_step (Broken cause) = Told (Fails cause)
ending_step NotYet = Missing
ending_step Over = TooFar

-- what a step passes that leads there, or how it ends a reading
abbrev pub passed_shown : Stand → Passed → Reached Step
passed_shown at (Gives character) = Told (Takes character.c character.is_escaped at)
passed_shown at Mark = Told (Passes at)
passed_shown at (Stops ending) = ending_step ending

-- a scan goes on within the data before byte last where a step passes something, and stands as it stood where it ends a reading
abbrev pub PassesTo : Passed → Stand → Stand → ℕ → Type 0
PassesTo (Gives character) old new last = (old.byte ≤ new.byte) × (new.byte ≤ last)
PassesTo Mark old new last = (old.byte ≤ new.byte) × (new.byte ≤ last)
PassesTo (Stops ending) old new last = new ≡ old

-- what a reading comes to, its looks, and how far they have gone
pub record Sum : Type 0 where
  pub reached : Reached Content
  pub looks : ℕ
  pub far : ℕ

-- the same of a reading with its whole cost
abbrev pub sum_of : Reading Content → Sum
sum_of reading = record { reached = reading.reached; looks = reading.tally.looks; far = reading.tally.far }

-- the cost of so many looks that have gone so far
abbrev pub spent : ℕ → ℕ → Tally
spent looks far = record { rows = 0; looks = looks; far = far; tail = 0; anchor = 0 }

-- what a content still comes to, behind these characters and so many looks
abbrev pub left_of : (ℕ → Seen) → (List ℕ → Bool) → List Opened → Form → ℕ → List Character → Stand → ℕ → ℕ → Sum
left_of look goes_on lists form more read at looks far = sum_of (ask look (content_from goes_on lists form more read at) (spent looks far))

-- what one step makes of the reading that is left: it goes on, or ends
abbrev pub TurnsTo : (ℕ → Seen) → (List ℕ → Bool) → List Opened → Form → Sum → ℕ → List Character → Stand → ℕ → Progress → Type 0
TurnsTo look goes_on lists form sum more read at looks (Goes far) = sum ≡ left_of look goes_on lists form more read at looks far
TurnsTo look goes_on lists form sum more read at looks (Halts answer) = sum ≡ record { reached = ending_shown read at answer.ending; looks = looks; far = answer.far }
