use Rattle.std.proofs.Common.{◌≡◌, ◌≤◌, ◌*◌, ◌^◌}
use Rattle.dfdl_components.specs.Recursion.{start_of}
use Rattle.dfdl_references.proofs.writers.count.Given as goal

-- the elements of the documents before, and each has fewer than 2 ^ 32
abbrev pub invariant-loop-document : goal.invariant-loop-document
invariant-loop-document l = (l.count ≡ start_of l.schema l.document) × (l.count ≤ l.document * 2 ^ 32)
