use Rattle.dfdl_breaches.specs.Tabled.{AreTabled, IsEntry}
use Rattle.dfdl_breaches.proofs.entries.entries_of.Given as goal

-- the elements so far
abbrev pub invariant-loop-site : goal.invariant-loop-site
invariant-loop-site l = AreTabled (IsEntry l.schema) l.sites.all.items l.site-index l.entries.items
