use Rattle.std.proofs.Common.{◌≡◌, drop, bytes_eq}
use Rattle.std.specs.List.{list_any}
use Rattle.dfdl_breaches.proofs.standing.is_taken.Given as goal

-- the others decide
abbrev pub invariant-loop-other : goal.invariant-loop-other
invariant-loop-other l = list_any (λ o. bytes_eq o l.key) (drop l.other-index l.taken) ≡ list_any (λ o. bytes_eq o l.key) l.taken
