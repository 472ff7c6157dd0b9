use Rattle.dfdl_breaches.specs.Tabled.{AreTabled, IsFormatOwn}
use Rattle.dfdl_breaches.proofs.formats.formats_own.Given as goal

-- the elements so far
abbrev pub invariant-loop-site : goal.invariant-loop-site
invariant-loop-site l = AreTabled (IsFormatOwn l.schema) l.sites.all.items l.site-index l.table.items
