use Rattle.std.proofs.Common.{◌≡◌, drop}
use Rattle.std.specs.List.{list_any}
use Rattle.dfdl_components.specs.Sites.{nodes_of}
use Rattle.dfdl_chains.specs.Facts.{is_opening_at}
use Rattle.dfdl_chains.proofs.facts.has_opening.Given as goal

abbrev pub invariant-loop-child : goal.invariant-loop-child
invariant-loop-child l = list_any (is_opening_at (nodes_of l.schema l.fn.site.document)) (drop l.child-index l.child-items)
    ≡ list_any (is_opening_at (nodes_of l.schema l.fn.site.document)) l.child-items
