use Rattle.std.proofs.Common.{◌≡◌, ◌++◌, map, drop}
use Rattle.dfdl_breaches.specs.Elements.{place_of}
use Rattle.dfdl_compile.proofs.parts.places.Given as goal

abbrev pub invariant-loop-site : goal.invariant-loop-site
invariant-loop-site l = l.made.items ++ map (place_of l.schema) (drop l.site-index l.sites) ≡ map (place_of l.schema) l.sites
