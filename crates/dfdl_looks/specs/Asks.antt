-- Programs over looks.
use Rattle.std.specs.Prelude.{ℕ, zero, suc, ◌+◌, ◌≤◌, List, [], ◌∷◌, Option, Some, None}
use Rattle.dfdl_bits.specs.declared.window.Seen.{Seen}
use Rattle.dfdl_bits.specs.declared.window.Seen.TheVariants.{Byte, End, NotYet, Over}
use Rattle.dfdl_looks.specs.Tallies.{Tally, saw_byte, saw_end, saw_none}

-- A program that has its answer, or looks at a byte and goes on by that byte, or by the end of the data.
pub data Ask (F : Type 0) : Type 0 where
  Answer : F → Ask F
  Look : ℕ → (Option ℕ → Ask F) → Ask F

-- what a program comes to: its answer, or a look that is too far, or one at a byte that hasn't come
pub data Reached (F : Type 0) : Type 0 where
  Told : F → Reached F
  TooFar : Reached F
  Missing : Reached F

-- what a program comes to, and its cost
pub record Reading (F : Type 0) : Type 0 where
  pub reached : Reached F
  pub tally : Tally

-- the reading of a program by what each look sees, behind a cost
abbrev pub ask : {F : Type 0} → (ℕ → Seen) → Ask F → Tally → Reading F
ask look (Answer found) t = record { reached = Told found; tally = t }
ask look (Look k go) t = elim (look k) [
  | Byte b ↦ ask look (go (Some b)) (saw_byte k t)
  | End ↦ ask look (go None) (saw_end k t)
  | NotYet ↦ record { reached = Missing; tally = saw_none t }
  | Over ↦ record { reached = TooFar; tally = saw_none t }
]

-- each look of the program is at byte low or one behind it
abbrev pub AsksFrom : {F : Type 0} → ℕ → Ask F → Type 0
AsksFrom low (Answer found) = Unit {0}
AsksFrom low (Look k go) = (low ≤ k) × ((o : Option ℕ) → AsksFrom low (go o))

-- looks at the count bytes from byte k on, one after another: the answer where one of them is past the end of the data, and
-- the answer by the bytes else
abbrev pub look_at : {F : Type 0} → ℕ → ℕ → F → (List ℕ → F) → Ask F
look_at zero k ends go = Answer (go [])
look_at (suc count) k ends go = Look k (λ o. elim o [
  | None ↦ Answer ends
  | Some byte ↦ look_at count (k + 1) ends (λ bytes. go (byte ∷ bytes))
])

-- a program that goes on by what another one answers
abbrev pub and_then : {F G : Type 0} → Ask F → (F → Ask G) → Ask G
and_then (Answer found) go = go found
and_then (Look k next) go = Look k (λ o. and_then (next o) go)

-- the reading of what goes on by an answer, behind what the program before came to
abbrev pub go_on : {F G : Type 0} → (ℕ → Seen) → (F → Ask G) → Reached F → Tally → Reading G
go_on look go (Told found) t = ask look (go found) t
go_on look go TooFar t = record { reached = TooFar; tally = t }
go_on look go Missing t = record { reached = Missing; tally = t }
