use Rattle.std.proofs.Common.{◌≡◌, ◌++◌, drop}
use Rattle.std.specs.List.{flat_map}
use Rattle.dfdl_chains.specs.Settings.{own_setters}
use Rattle.dfdl_chains.proofs.settings.push_setters.Given as goal

abbrev pub invariant-loop-site : goal.invariant-loop-site
invariant-loop-site l = l.settings.items ++ flat_map (own_setters l.opens l.schema) (drop l.site-index l.chain) ≡ l.fn.settings.items ++ flat_map (own_setters l.opens l.schema) l.chain
