use Rattle.std.proofs.Common.{◌≡◌, ◌++◌, Bool, map, drop}
use Rattle.dfdl_components.specs.declared.site.Site.{Site}
use Rattle.dfdl_breaches.specs.Judging.{judgement_at}
use Rattle.dfdl_compile.specs.Components.{component_at}
use Rattle.dfdl_compile.specs.Statements.{statements_before}
use Rattle.dfdl_compile.proofs.gathering.components.Given as goal

abbrev pub invariant-loop-at : goal.invariant-loop-at
invariant-loop-at l = record {
  first : l.first ≡ statements_before l.judgements l.at;
  made : (refused : Site → Bool) → l.judgements ≡ map (judgement_at l.purpose refused l.schema) l.sites
      → l.made.items ++ map (component_at l.purpose refused l.schema) (drop l.at l.sites) ≡ map (component_at l.purpose refused l.schema) l.sites;
}
