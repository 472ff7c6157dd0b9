-- Where the machine stands in the work on data.
use Rattle.std.specs.Prelude.{◌≡◌, ◌≤◌, ℕ, false}
use Rattle.dfdl_bits.specs.Window.{Held, end_of}
use Rattle.dfdl_looks.specs.Looks.{Agrees}
use Rattle.dfdl_looks.specs.Tallies.{Tally}
use Rattle.dfdl_terms.specs.Rows.{Table}
use Rattle.dfdl_grammar.specs.States.{Input}
use Rattle.dfdl_grammar.specs.Outcomes.{Outcome, spend}
use Rattle.dfdl_parse.specs.Moves.{Machine}
use Rattle.dfdl_parse.specs.Ahead.{ahead}

-- The machine stands in the work on the data: what was spent, and what is ahead of it, are the whole. Where the end of the
-- data wasn't told, none was missed so far, and no byte was looked at that hasn't come.
pub record Runs (input : Input) (table : Table) (root : Outcome) (m : Machine) (held : Held) (spent_looks spent_far : ℕ) : Type 0 where
  pub spent : Tally
  pub same : root ≡ spend spent (ahead input table m)
  pub looks : spent.looks ≡ spent_looks
  pub far : spent.far ≡ spent_far
  pub found : held.ended ≡ false → (spent.tail ≡ 0) × (spent_far ≤ end_of held)
  pub agrees : Agrees held input.bytes
  pub size : held.size ≡ input.limits.window
