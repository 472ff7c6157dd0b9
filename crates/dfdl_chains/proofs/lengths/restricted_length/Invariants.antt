use Rattle.std.proofs.Common.{◌≡◌, drop}
use Rattle.std.specs.List.{find}
use Rattle.dfdl_components.specs.Sites.{nodes_of}
use Rattle.dfdl_chains.specs.Lengths.{is_facet_at}
use Rattle.dfdl_chains.proofs.lengths.restricted_length.Given as goal

abbrev pub invariant-loop-child : goal.invariant-loop-child
invariant-loop-child l = find (is_facet_at l.fn.bound (nodes_of l.schema l.fn.site.document)) (drop l.child-index l.child-items)
    ≡ find (is_facet_at l.fn.bound (nodes_of l.schema l.fn.site.document)) l.child-items
