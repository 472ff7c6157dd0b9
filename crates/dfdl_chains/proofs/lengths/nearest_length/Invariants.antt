use Rattle.std.proofs.Common.{◌≡◌, drop}
use Rattle.dfdl_chains.specs.Lengths.{nearest_length}
use Rattle.dfdl_chains.proofs.lengths.nearest_length.Given as goal

abbrev pub invariant-loop-site : goal.invariant-loop-site
invariant-loop-site l = nearest_length l.fn.bound l.schema (drop l.site-index l.types) ≡ nearest_length l.fn.bound l.schema l.types
