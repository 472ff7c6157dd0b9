use Rattle.std.proofs.Common.{◌≡◌, ◌++◌}
use Rattle.dfdl_chains.specs.Everywhere.{sites_in}
use Rattle.dfdl_chains.proofs.everywhere.push_sites.Given as goal

abbrev pub invariant-loop-element : goal.invariant-loop-element
invariant-loop-element l = l.sites.items ≡ l.fn.sites.items ++ sites_in l.document l.element
