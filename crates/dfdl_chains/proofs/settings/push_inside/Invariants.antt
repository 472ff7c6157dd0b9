use Rattle.std.proofs.Common.{◌≡◌, ◌++◌, drop}
use Rattle.std.specs.List.{flat_map}
use Rattle.dfdl_chains.specs.Settings.{setters_in}
use Rattle.dfdl_chains.proofs.settings.push_inside.Given as goal

abbrev pub invariant-loop-child : goal.invariant-loop-child
invariant-loop-child l = l.settings.items ++ flat_map (setters_in l.opens l.schema l.fn.site.document) (drop l.child-index l.child-items) ≡ l.fn.settings.items ++ flat_map (setters_in l.opens l.schema l.fn.site.document) l.child-items
