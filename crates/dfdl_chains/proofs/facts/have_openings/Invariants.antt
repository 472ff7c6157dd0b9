use Rattle.std.proofs.Common.{◌≡◌, drop}
use Rattle.std.specs.List.{list_any}
use Rattle.dfdl_chains.specs.Facts.{has_own_openings}
use Rattle.dfdl_chains.proofs.facts.have_openings.Given as goal

abbrev pub invariant-loop-site : goal.invariant-loop-site
invariant-loop-site l = list_any (has_own_openings l.schema) (drop l.site-index l.chain) ≡ list_any (has_own_openings l.schema) l.chain
