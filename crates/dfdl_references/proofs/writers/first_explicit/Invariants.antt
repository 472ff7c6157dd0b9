use Rattle.std.proofs.Common.{◌≡◌, drop}
use Rattle.dfdl_references.specs.References.{first_found}
use Rattle.dfdl_references.specs.Writers.{explicit_writer}
use Rattle.dfdl_references.proofs.writers.first_explicit.Given as goal

-- among what is left the same is found as among all
abbrev pub invariant-loop-own : goal.invariant-loop-own
invariant-loop-own l = first_found (explicit_writer l.schema l.name) (drop l.own-index l.chain) ≡ first_found (explicit_writer l.schema l.name) l.chain
