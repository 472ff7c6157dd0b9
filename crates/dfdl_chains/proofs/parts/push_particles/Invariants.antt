use Rattle.std.proofs.Common.{◌≡◌, ◌++◌, drop}
use Rattle.std.specs.List.{flat_map}
use Rattle.dfdl_chains.specs.Parts.{if_particle}
use Rattle.dfdl_chains.proofs.parts.push_particles.Given as goal

abbrev pub invariant-loop-child : goal.invariant-loop-child
invariant-loop-child l = l.parts.items ++ flat_map (if_particle l.schema l.fn.site.document) (drop l.child-index l.child-items)
    ≡ l.fn.parts.items ++ flat_map (if_particle l.schema l.fn.site.document) l.child-items
