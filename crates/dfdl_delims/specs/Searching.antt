-- Mirror for the prover: how far the search for the longest text has come.
use Rattle.std.specs.Prelude.{◌≡◌, ℕ, ◌+◌, ◌-◌, ◌≤◌, max, List, [], ◌++◌, length, Bool, false}
use Rattle.dfdl_bits.specs.declared.window.Seen.{Seen}
use Rattle.dfdl_looks.specs.Asks.{ask}
use Rattle.dfdl_looks.specs.Tallies.{Tally, nothing}
use Rattle.dfdl_forms.specs.declared.literals.Piece.{Piece}
use Rattle.dfdl_delims.specs.declared.candidate.Candidate.{Candidate}
use Rattle.dfdl_delims.specs.Candidates.{complete, some_dead}
use Rattle.dfdl_delims.specs.Lists.{Decides, Opened}
use Rattle.dfdl_delims.specs.Longest.{Longest, NoText, longest_from}
use Rattle.dfdl_delims.specs.Standing.{StandFor}

-- what is given: the begins stand for the lists, and the test
pub record Given (pieces : List Piece) (starts : List Candidate) (lists : List Opened) (test : List ℕ → Bool) : Type 0 where
  pub stands : StandFor pieces starts lists
  pub decides : Decides lists test

abbrev pub spent : ℕ → ℕ → Tally
spent looks far = record { rows = 0; looks = looks; far = far; tail = 0; anchor = 0 }

-- The whole reading is that of what is left at the place, behind the bytes that were seen from the first one on.
pub record Going (look : ℕ → Seen) (pieces : List Piece) (starts live : List Candidate) (first last place far looks : ℕ) (found : Longest) : Type 0 where
  pub seen : List ℕ
  pub count : place ≡ first + length seen
  pub bound : place ≤ max first last
  pub reach : far ≤ place
  pub lives : some_dead pieces starts ≡ false → some_dead pieces live ≡ false
  pub left : (list : ℕ) (rest : List ℕ) → complete pieces list live rest ≡ complete pieces list starts (seen ++ rest)
  pub same : (lists : List Opened) (test : List ℕ → Bool) → Given pieces starts lists test
      → ask look (longest_from test lists (last - first) [] NoText first) nothing
      ≡ ask look (longest_from test lists (last - place) seen found place) (spent looks far)
