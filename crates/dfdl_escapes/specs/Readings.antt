-- What the answer of a step says of its reading.
use Rattle.std.specs.Prelude.{◌≡◌, ℕ, ◌+◌, ◌≤◌, true, false, List, Bool, Option, Some, None, max}
use Rattle.dfdl_bits.specs.declared.window.Seen.{Seen}
use Rattle.dfdl_looks.specs.Asks.{Answer, Reached, Told, TooFar, Missing, Reading, ask, and_then}
use Rattle.dfdl_looks.specs.Tallies.{Tally}
use Rattle.dfdl_texts.specs.Units.{Piece, Holds, Broken, NoMore as NothingThere}
use Rattle.dfdl_delims.specs.Lists.{Opened}
use Rattle.dfdl_report.specs.declared.cause.ParseCause.TheVariants.{BadCharacter}
use Rattle.dfdl_escapes.specs.declared.form.Form.{Form}
use Rattle.dfdl_escapes.specs.declared.form.Stand.{Stand}
use Rattle.dfdl_escapes.specs.declared.scanned.Glance.{Glance}
use Rattle.dfdl_escapes.specs.declared.scanned.Scanned.{Scanned}
use Rattle.dfdl_escapes.specs.declared.scanned.Scanned.TheVariants.{Content, Escaped, Skipped, Ends, EndOfBox, Broken as IsBroken, NotYet, Over}
use Rattle.dfdl_escapes.specs.declared.unit.Unit.{Unit as AnyUnit}
use Rattle.dfdl_escapes.specs.declared.unit.Unit.TheVariants.{Holds as UnitHolds, Bad as UnitBad, NoMore, NotYet as UnitNotYet, Over as UnitOver}
use Rattle.dfdl_escapes.specs.declared.end.End.{End}
use Rattle.dfdl_escapes.specs.declared.end.End.TheVariants.{None as NoEnd, At, NotYet as EndNotYet, Over as EndOver}
use Rattle.dfdl_escapes.specs.declared.turn.Rest.{Rest}
use Rattle.dfdl_escapes.specs.declared.turn.Rest.TheVariants.{Taken, Bad}
use Rattle.dfdl_escapes.specs.declared.turn.Last.{Last}
use Rattle.dfdl_escapes.specs.declared.turn.Last.TheVariants.{Gives, Unless}
use Rattle.dfdl_escapes.specs.declared.turn.First.{First}
use Rattle.dfdl_escapes.specs.declared.turn.First.TheVariants.{Settled, Pair, BlockPair}
use Rattle.dfdl_escapes.specs.Steps.{Step, Takes, Passes, Closes, RunsOut, Fails, pair_case, piece_at, unless_markup, in_block_escaped}

-- what was scanned, as what the step comes to, where the scan stands so behind it
abbrev pub step_shown : Stand → Scanned → Reached Step
step_shown at (Content c) = Told (Takes c false at)
step_shown at (Escaped c) = Told (Takes c true at)
step_shown at Skipped = Told (Passes at)
step_shown at (Ends which) = Told (Closes which)
step_shown at EndOfBox = Told RunsOut
step_shown at (IsBroken cause) = Told (Fails cause)
step_shown at NotYet = Missing
step_shown at Over = TooFar

-- the answer is this reading, in so many looks, where the scan stands so behind the step
pub record Answers (reading : Reading Step) (at : Stand) (glance : Glance) (looks_made : ℕ) : Type 0 where
  pub reached : reading.reached ≡ step_shown at glance.scanned
  pub looks : reading.tally.looks ≡ looks_made
  pub far : reading.tally.far ≡ glance.far

-- the scan goes on behind a character or a mark, in the data before byte last, and else stands as it stood
abbrev pub GoesTo : Scanned → Stand → Stand → ℕ → Type 0
GoesTo (Content c) old new last = (old.byte ≤ new.byte) × (new.byte ≤ last)
GoesTo (Escaped c) old new last = (old.byte ≤ new.byte) × (new.byte ≤ last)
GoesTo Skipped old new last = (old.byte ≤ new.byte) × (new.byte ≤ last)
GoesTo _ old new last = new ≡ old

-- a reading behind a cost comes to this, in so many looks more, which have gone so far
pub record Comes {F : Type 0} (before : Tally) (reading : Reading F) (to : Reached F) (looks_made far_seen : ℕ) : Type 0 where
  pub reached : reading.reached ≡ to
  pub looks : reading.tally.looks ≡ before.looks + looks_made
  pub far : reading.tally.far ≡ max before.far far_seen

-- what stands at a byte, as what the program comes to
abbrev pub unit_shown : AnyUnit → Reached Piece
unit_shown (UnitHolds c bytes) = Told (Holds c bytes)
unit_shown (UnitBad bytes) = Told (Broken bytes)
unit_shown NoMore = Told NothingThere
unit_shown UnitNotYet = Missing
unit_shown UnitOver = TooFar

-- a character or a bad unit at byte k lies in the bytes before byte last
abbrev pub UnitFits : AnyUnit → ℕ → ℕ → Type 0
UnitFits (UnitHolds c bytes) k last = k + bytes ≤ last
UnitFits _ k last = Unit {0}

-- what was found of terminating markup
abbrev pub end_shown : End → Reached (Option ℕ)
end_shown NoEnd = Told None
end_shown (At which) = Told (Some which)
end_shown EndNotYet = Missing
end_shown EndOver = TooFar

-- what comes where no terminating markup does
abbrev pub rest_shown : Rest → Step
rest_shown (Taken c at) = Takes c false at
rest_shown Bad = Fails BadCharacter

-- the reading of what is left of a step behind a tally: it is told, or told unless terminating markup stands there
abbrev pub last_reading : (ℕ → Seen) → (List ℕ → Bool) → List Opened → Form → Stand → Last → Tally → Reading Step
last_reading look goes_on lists form at (Gives turn) t = record { reached = step_shown turn.at turn.scanned; tally = t }
last_reading look goes_on lists form at (Unless rest) t =
    ask look (unless_markup goes_on lists form at.byte (Answer (rest_shown rest))) t

-- the same where what stands behind a character may be asked first
abbrev pub first_reading : (ℕ → Seen) → (List ℕ → Bool) → List Opened → Form → Stand → First → Tally → Reading Step
first_reading look goes_on lists form at (Settled last) t = last_reading look goes_on lists form at last t
first_reading look goes_on lists form at (Pair c next) t =
    ask look (and_then (piece_at form next) (λ piece. pair_case goes_on lists form at.byte c next piece)) t
first_reading look goes_on lists form at (BlockPair c next) t =
    ask look (and_then (piece_at form next) (λ piece. Answer (in_block_escaped form c next piece))) t

-- what is left of a step leads no further than to the data before byte last
abbrev pub LastWithin : Stand → Last → ℕ → Type 0
LastWithin at (Gives turn) last = GoesTo turn.scanned at turn.at last
LastWithin at (Unless (Taken c to)) last = (at.byte ≤ to.byte) × (to.byte ≤ last)
LastWithin at (Unless Bad) last = Unit {0}

-- the same where what stands behind a character may be asked first
abbrev pub FirstWithin : Stand → First → ℕ → Type 0
FirstWithin at (Settled left) last = LastWithin at left last
FirstWithin at (Pair c next) last = (at.byte ≤ next) × (next ≤ last)
FirstWithin at (BlockPair c next) last = (at.byte ≤ next) × (next ≤ last)
