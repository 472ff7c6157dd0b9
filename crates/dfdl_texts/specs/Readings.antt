-- What a reading of a text comes to, and what is left of one.
use Rattle.std.specs.Prelude.{◌≡◌, ℕ, ◌+◌, ◌/◌, ◌≤◌, ◌<◌, List, max}
use Rattle.dfdl_bits.specs.declared.window.Seen.{Seen}
use Rattle.dfdl_bits.specs.Window.{Held, end_of, seen_at}
use Rattle.dfdl_looks.specs.Asks.{Ask, Reached, Told, TooFar, Missing, Reading, ask}
use Rattle.dfdl_looks.specs.Tallies.{Tally}
use Rattle.dfdl_chars.specs.declared.decode.Chars.{Chars}
use Rattle.dfdl_chars.specs.declared.decode.Chars.TheVariants.{Char, Bad}
use Rattle.dfdl_texts.specs.declared.found.Found.{Found}
use Rattle.dfdl_texts.specs.declared.found.Found.TheVariants.{Reads as DoesRead, HasBad as FoundBad, IsCut as FoundCut, IsBoxed as FoundBoxed, TooFar as Past, NotYet}
use Rattle.dfdl_texts.specs.declared.found.Glance.{Glance}
use Rattle.dfdl_texts.specs.declared.spot.Spot.{Spot}
use Rattle.dfdl_texts.specs.declared.spot.Task.{Task}
use Rattle.dfdl_texts.specs.declared.spot.Turn.{Turn}
use Rattle.dfdl_texts.specs.declared.spot.Turn.TheVariants.{Goes, Ends}
use Rattle.dfdl_texts.specs.declared.spot.Verdict.{Verdict}
use Rattle.dfdl_texts.specs.declared.spot.Verdict.TheVariants.{Takes, Stops}
use Rattle.dfdl_texts.specs.Texts.{Text, Reads, HasBad, IsCut, IsBoxed, text_from}

-- what was found, where the characters that were read are these
abbrev pub found_shown : List ℕ → Found → Reached Text
found_shown chars (DoesRead end) = Told (Reads chars end)
found_shown chars FoundBad = Told HasBad
found_shown chars FoundCut = Told IsCut
found_shown chars FoundBoxed = Told IsBoxed
found_shown chars Past = TooFar
found_shown chars NotYet = Missing

-- the answer, with the characters that were read, is this reading, in so many looks
pub record Answers (reading : Reading Text) (chars : List ℕ) (glance : Glance) (looks_made : ℕ) : Type 0 where
  pub reached : reading.reached ≡ found_shown chars glance.found
  pub looks : reading.tally.looks ≡ looks_made
  pub far : reading.tally.far ≡ glance.far

-- a text from a byte on that is read ends no later than it begins, or than what has come
abbrev pub EndsWithin : Found → ℕ → ℕ → Type 0
EndsWithin (DoesRead end) byte last = (byte ≤ end) × (end ≤ max byte last)
EndsWithin FoundBad byte last = Unit {0}
EndsWithin FoundCut byte last = Unit {0}
EndsWithin FoundBoxed byte last = Unit {0}
EndsWithin Past byte last = Unit {0}
EndsWithin NotYet byte last = Unit {0}

-- a character or a bad unit at byte k lies in the bytes before byte last
abbrev pub Fits : Chars → ℕ → ℕ → Type 0
Fits (Char c bits) k last = k + bits / 8 ≤ last
Fits (Bad bits) k last = k + bits / 8 ≤ last
Fits _ k last = Unit {0}

-- what a reading comes to, its looks, and how far they have gone
pub record Sum : Type 0 where
  pub reached : Reached Text
  pub looks : ℕ
  pub far : ℕ

-- the same of a reading with its whole cost
abbrev pub sum_of : Reading Text → Sum
sum_of reading = record { reached = reading.reached; looks = reading.tally.looks; far = reading.tally.far }

-- the cost of so many looks that have gone so far
abbrev pub spent : ℕ → ℕ → Tally
spent looks far = record { rows = 0; looks = looks; far = far; tail = 0; anchor = 0 }

-- what a text still comes to at a spot of it, behind these characters and so many looks
abbrev pub left_of : Held → Task → Spot → List ℕ → ℕ → Sum
left_of held task spot chars looks =
    sum_of (ask (seen_at held) (text_from task.enc task.replaces task.extent task.stop spot.left chars spot.place) (spent looks spot.far))

-- what is made of a unit: a character and its bytes, with which the text goes on, or the end of the reading
abbrev pub verdict_shown : (ℕ → Seen) → List ℕ → (ℕ → ℕ → Ask Text) → Tally → Verdict → Reading Text
verdict_shown look chars go t (Takes c bytes) = ask look (go c bytes) t
verdict_shown look chars go t (Stops found) = record { reached = found_shown chars found; tally = t }

-- a unit at byte k with which the text goes on lies in the bytes before byte last
abbrev pub TakesWithin : Verdict → ℕ → ℕ → Type 0
TakesWithin (Takes c bytes) k last = k + bytes ≤ last
TakesWithin (Stops found) k last = Unit {0}

-- a spot lies behind another one, in what has come, and fewer characters may follow
pub record IsBehind (old new : Spot) (last : ℕ) : Type 0 where
  pub place : old.place ≤ new.place
  pub come : new.place ≤ max old.place last
  pub left : new.left ≤ old.left

-- what one unit makes of the reading that is left: it goes on at a later spot, or ends
abbrev pub Turns : Held → Task → Sum → Spot → List ℕ → ℕ → Turn → Type 0
Turns held task sum spot chars looks (Goes next) =
    (sum ≡ left_of held task next chars looks) × IsBehind spot next (end_of held) × (next.left < spot.left)
Turns held task sum spot chars looks (Ends glance) = sum ≡ record { reached = found_shown chars glance.found; looks = looks; far = glance.far }
