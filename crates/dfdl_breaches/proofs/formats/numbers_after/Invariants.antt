use Rattle.std.proofs.Common.{◌≡◌, map, take}
use Rattle.dfdl_breaches.specs.Tabled.{number_after}
use Rattle.dfdl_breaches.proofs.formats.numbers_after.Given as goal

-- the numbers of the elements so far
abbrev pub invariant-loop-site : goal.invariant-loop-site
invariant-loop-site l = l.numbers.items ≡ map (number_after l.schema) (take l.site-index l.sites.all.items)
