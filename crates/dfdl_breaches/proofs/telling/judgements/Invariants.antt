use Rattle.dfdl_breaches.proofs.Building.{AreFirst}
use Rattle.dfdl_breaches.proofs.telling.judgements.Given as goal

-- the elements so far
abbrev pub invariant-loop-site : goal.invariant-loop-site
invariant-loop-site g l =
    AreFirst l.purpose l.schema l.site-index (record { faults = g.P.Patterns.faults l.fn.patterns; last = g.P.Patterns.last_refused l.fn.patterns })
    (record { faults = g.P.Patterns.faults l.patterns; last = g.P.Patterns.last_refused l.patterns }) l.judgements.items
