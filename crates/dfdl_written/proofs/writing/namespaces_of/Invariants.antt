use Rattle.std.proofs.Common.{take}
use Rattle.std.specs.List.{AllZip}
use Rattle.dfdl_written.specs.Noting.{HasItsNamespaces}
use Rattle.dfdl_written.proofs.writing.namespaces_of.Given as goal

-- those so far
abbrev pub invariant-loop-at : goal.invariant-loop-at
invariant-loop-at l = AllZip (HasItsNamespaces l.schema) (take l.at l.noted) l.made.items
