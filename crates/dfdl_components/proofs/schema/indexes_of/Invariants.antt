use Rattle.std.proofs.Common.{◌≡◌, ◌<◌, ℕ, length, get_or}
use Rattle.dfdl_components.specs.declared.schema.Index.{Index}
use Rattle.dfdl_components.specs.Shown.{IsIndex}
use Rattle.dfdl_components.proofs.schema.indexes_of.Given as goal

abbrev pub invariant-loop-document : goal.invariant-loop-document
invariant-loop-document l = record {
  count : length l.indexes.items ≡ l.document;
  each : (i : ℕ) (other : Index) → i < l.document → IsIndex l.documents i (get_or l.indexes.items i other);
}
