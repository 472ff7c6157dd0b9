use Rattle.std.proofs.Common.{◌≡◌, map, take}
use Rattle.dfdl_components.specs.declared.site.Site.{Site}
use Rattle.dfdl_scope.specs.Shown.{chain_of}
use Rattle.dfdl_breaches.specs.Elements.{element_at}
use Rattle.dfdl_breaches.specs.Prefixes.{by_default_alone}
use Rattle.dfdl_breaches.proofs.chain.built_in_chain.Given as goal

-- the elements so far
abbrev pub invariant-loop-site : goal.invariant-loop-site
invariant-loop-site l = chain_of l.chain ≡ map (λ (s : Site). by_default_alone (element_at l.schema s)) (take l.site-index l.sites)
