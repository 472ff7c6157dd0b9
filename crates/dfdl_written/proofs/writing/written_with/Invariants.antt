use Rattle.std.proofs.Common.{◌≡◌, ◌++◌, List, drop, length}
use Rattle.std.specs.List.{AllZip}
use Rattle.std.specs.Vec.Iter.{into_iter_items, into_iter_len}
use Rattle.dfdl_statements.specs.declared.written.Written.{Written}
use Rattle.dfdl_written.specs.Noting.{HasItsNamespaces, IsAsNoted}
use Rattle.dfdl_written.proofs.writing.written_with.Given as goal

-- those so far, whatever is made of those that are left
abbrev pub invariant-loop-one : goal.invariant-loop-one
invariant-loop-one l =
    AllZip (HasItsNamespaces l.schema) (into_iter_items l.one-iterator) (drop l.at l.namespaces)
    × (into_iter_len l.one-iterator ≡ length (into_iter_items l.one-iterator))
    × ((rest : List Written) → AllZip (IsAsNoted l.schema) (into_iter_items l.one-iterator) rest
    → AllZip (IsAsNoted l.schema) l.fn.noted.items (l.made.items ++ rest))
