use Rattle.std.proofs.Common.{◌≡◌, drop, map, bytes_eq}
use Rattle.std.specs.List.{list_any}
use Rattle.dfdl_scope.proofs.names.is_among.Given as goal

-- what is left has the name where all have it
abbrev pub invariant-loop-other : goal.invariant-loop-other
invariant-loop-other l =
    list_any (λ n. bytes_eq n l.name) (map (λ n. n.now) (drop l.other-index l.names)) ≡ list_any (λ n. bytes_eq n l.name) (map (λ n. n.now) l.names)
