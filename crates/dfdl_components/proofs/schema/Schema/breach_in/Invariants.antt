use Rattle.std.proofs.Common.{◌≡◌, ◌<◌, ◌≤◌, ◌+◌, ℕ, None}
use Rattle.dfdl_components.specs.Globals.{site}
use Rattle.dfdl_components.specs.Recursion.{start_of}
use Rattle.dfdl_components.specs.Rules.{first_at, loading_rules}
use Rattle.dfdl_components.proofs.schema.Schema.breach_in.Given as goal

abbrev pub invariant-loop-element : goal.invariant-loop-element
invariant-loop-element l = record {
  keep : (e : ℕ) → e < l.element → first_at (loading_rules l.self) (site l.document e) ≡ None;
  reached : start_of l.self l.document + l.element ≤ l.recursion.first;
}
