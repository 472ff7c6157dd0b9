use Rattle.std.proofs.Common.{◌≡◌, ◌++◌, Bool, map, drop}
use Rattle.dfdl_components.specs.declared.site.Site.{Site}
use Rattle.dfdl_breaches.specs.Judging.{judgement_at}
use Rattle.dfdl_compile.specs.Components.{part_numbers}
use Rattle.dfdl_compile.proofs.parts.uses.Given as goal

abbrev pub invariant-loop-at : goal.invariant-loop-at
invariant-loop-at l = (refused : Site → Bool) → l.judgements ≡ map (judgement_at l.fn.purpose refused l.schema) l.sites
    → l.made ++ map (part_numbers l.fn.purpose refused l.schema) (drop l.at l.sites) ≡ map (part_numbers l.fn.purpose refused l.schema) l.sites
