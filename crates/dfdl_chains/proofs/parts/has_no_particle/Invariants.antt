use Rattle.std.proofs.Common.{◌≡◌, drop}
use Rattle.std.specs.List.{flat_map}
use Rattle.dfdl_chains.specs.Parts.{if_particle, is_none_of}
use Rattle.dfdl_chains.proofs.parts.has_no_particle.Given as goal

abbrev pub invariant-loop-child : goal.invariant-loop-child
invariant-loop-child l = is_none_of (flat_map (if_particle l.schema l.fn.site.document) (drop l.child-index l.child-items))
    ≡ is_none_of (flat_map (if_particle l.schema l.fn.site.document) l.child-items)
