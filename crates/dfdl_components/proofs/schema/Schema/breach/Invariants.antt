use Rattle.std.proofs.Common.{◌<◌, ◌≤◌, ℕ}
use Rattle.dfdl_components.specs.Recursion.{start_of}
use Rattle.dfdl_components.specs.Rules.{loading_rules}
use Rattle.dfdl_components.specs.Shown.{AllKeepIn}
use Rattle.dfdl_components.proofs.schema.Schema.breach.Given as goal

abbrev pub invariant-loop-document : goal.invariant-loop-document
invariant-loop-document l = record {
  keep : (d : ℕ) → d < l.document → AllKeepIn (loading_rules l.self) l.self d;
  reached : start_of l.self l.document ≤ l.recursion.first;
}
