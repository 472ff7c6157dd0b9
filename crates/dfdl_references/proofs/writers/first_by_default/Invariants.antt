use Rattle.std.proofs.Common.{◌≡◌, drop}
use Rattle.dfdl_references.specs.References.{first_found}
use Rattle.dfdl_references.specs.Writers.{default_writer}
use Rattle.dfdl_references.proofs.writers.first_by_default.Given as goal

-- among what is left the same is found as among all
abbrev pub invariant-loop-own : goal.invariant-loop-own
invariant-loop-own l = first_found (default_writer l.schema l.name) (drop l.own-index l.chain) ≡ first_found (default_writer l.schema l.name) l.chain
