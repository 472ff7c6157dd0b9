use Rattle.std.proofs.Common.{◌≡◌, map, take}
use Rattle.dfdl_scope.specs.Shown.{chain_of}
use Rattle.dfdl_breaches.specs.Elements.{element_at}
use Rattle.dfdl_breaches.proofs.chain.chain_at.Given as goal

-- the elements so far
abbrev pub invariant-loop-site : goal.invariant-loop-site
invariant-loop-site l = chain_of l.chain ≡ map (element_at l.schema) (take l.site-index l.sites)
