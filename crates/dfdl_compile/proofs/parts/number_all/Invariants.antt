use Rattle.std.proofs.Common.{◌≡◌, ◌++◌, map, drop}
use Rattle.dfdl_components.specs.Recursion.{number_of}
use Rattle.dfdl_compile.proofs.parts.number_all.Given as goal

abbrev pub invariant-loop-site : goal.invariant-loop-site
invariant-loop-site l = l.found.items ++ map (number_of l.schema) (drop l.site-index l.sites) ≡ map (number_of l.schema) l.sites
