use Rattle.std.proofs.Common.{ℕ, List, ◌+◌, ◌-◌, ◌≤◌, max}
use Rattle.dfdl_bits.specs.Window.{seen_at}
use Rattle.dfdl_delims.specs.declared.candidate.Candidate.{Candidate}
use Rattle.dfdl_delims.specs.Hits.{hit_shown}
use Rattle.dfdl_delims.specs.Longest.{NoText}
use Rattle.dfdl_delims.specs.Searching.{Going}
use Rattle.dfdl_delims.proofs.finding.find.Given as goal

-- the whole reading is that of what is left, behind the bytes that were seen
abbrev pub invariant-bytes : goal.invariant-bytes
invariant-bytes g l = record {
  going : (starts : List Candidate) (looks : ℕ) → Going (seen_at l.window) l.pieces starts l.fn.live.items l.first l.last l.begun l.seen looks NoText
      → Going (seen_at l.window) l.pieces starts l.live.items l.first l.last l.place l.far (looks + (l.steps - l.fn.steps)) (hit_shown l.hit);
  begun : l.first ≤ l.place;
  bound : l.place ≤ max l.first l.last;
  held : l.begun ≤ l.place;
  steps : l.fn.steps ≤ l.steps;
}

abbrev pub decreases-bytes : goal.decreases-bytes
decreases-bytes g l = l.last - l.place
