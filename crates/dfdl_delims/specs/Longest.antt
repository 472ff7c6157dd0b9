-- The longest text of open lists that the data at a place begins with, as a program over looks. 'Framing' (separators and
-- terminators): of the texts that the data begins with, the longest is taken.
use Rattle.std.specs.Prelude.{◌≡◌, ℕ, zero, suc, ◌+◌, ◌-◌, ◌*◌, ◌/◌, Bool, if◌then◌else◌, List, [], ◌∷◌, ◌++◌, length, Option, Some, None}
use Rattle.dfdl_looks.specs.Asks.{Ask, Answer, Look, Reached, Told, TooFar, Missing, Reading}
use Rattle.dfdl_delims.specs.declared.found.Found.{Found}
use Rattle.dfdl_delims.specs.declared.found.Found.TheVariants.{Match, None as NoMatch, NotYet, Over}
use Rattle.dfdl_delims.specs.declared.found.Glance.{Glance}
use Rattle.dfdl_delims.specs.Lists.{Opened, innermost}

-- what is found: a text of the list at a place, of so many bits, or none
pub data Longest : Type 0 where
  Text : ℕ → ℕ → Longest
  NoText : Longest

-- a text of so many bytes, if these are one of some list, and else what was found before
abbrev pub better : Option ℕ → ℕ → Longest → Longest
better None count found = found
better (Some place) count found = Text place (8 * count)

-- What is found from byte k on, behind these bytes and what was found in them, where so many bytes more are in the box: a byte
-- more is looked at while a text is longer.
abbrev pub longest_from : (List ℕ → Bool) → List Opened → ℕ → List ℕ → Longest → ℕ → Ask Longest
longest_from goes_on lists zero seen found k = Answer (better (innermost lists seen) (length seen) found)
longest_from goes_on lists (suc more) seen found k =
    if goes_on seen then Look k (λ o. elim o [
      | None ↦ Answer (better (innermost lists seen) (length seen) found)
      | Some byte ↦ longest_from goes_on lists more (seen ++ byte ∷ []) (better (innermost lists seen) (length seen) found) (k + 1)
    ])
    else Answer (better (innermost lists seen) (length seen) found)

-- what is found at byte k, in a box that ends at bit stop, where the test tells of which bytes some text is longer
abbrev pub longest_at : (List ℕ → Bool) → List Opened → ℕ → ℕ → Ask Longest
longest_at goes_on lists stop k = longest_from goes_on lists (stop / 8 - k) [] NoText k

-- what was found, as what the program comes to
abbrev pub found_shown : Found → Reached Longest
found_shown (Match which bits) = Told (Text which bits)
found_shown NoMatch = Told NoText
found_shown NotYet = Missing
found_shown Over = TooFar

-- the answer is this reading, in so many looks
pub record Answers (reading : Reading Longest) (glance : Glance) (looks_made : ℕ) : Type 0 where
  pub reached : reading.reached ≡ found_shown glance.found
  pub looks : reading.tally.looks ≡ looks_made
  pub far : reading.tally.far ≡ glance.far
