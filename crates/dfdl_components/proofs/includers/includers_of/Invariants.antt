use Rattle.std.proofs.Common.{◌≡◌, ◌<◌, ℕ, length, get_or, None}
use Rattle.dfdl_components.specs.Namespaces.{includer_of}
use Rattle.dfdl_components.proofs.includers.includers_of.Given as goal

abbrev pub invariant-loop-document : goal.invariant-loop-document
invariant-loop-document l = record {
  count : length l.includers.items ≡ l.document;
  each : (i : ℕ) → i < l.document → get_or l.includers.items i None ≡ includer_of l.documents i;
}
