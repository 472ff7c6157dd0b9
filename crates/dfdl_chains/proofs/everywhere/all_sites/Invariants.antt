use Rattle.std.proofs.Common.{◌≡◌}
use Rattle.dfdl_chains.specs.Everywhere.{sites_before}
use Rattle.dfdl_chains.proofs.everywhere.all_sites.Given as goal

abbrev pub invariant-loop-document : goal.invariant-loop-document
invariant-loop-document l = l.sites.items ≡ sites_before l.schema l.document
