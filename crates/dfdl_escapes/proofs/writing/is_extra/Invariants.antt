use Rattle.std.proofs.Common.{◌≡◌, drop, nat_eq}
use Rattle.std.specs.List.{list_any}
use Rattle.dfdl_escapes.proofs.writing.is_extra.Given as goal

-- the character is one of those that are left, if it is one of all
abbrev pub invariant-loop-other : goal.invariant-loop-other
invariant-loop-other l = list_any (λ other. nat_eq other l.c) (drop l.other-index l.other-items) ≡ list_any (λ other. nat_eq other l.c) l.scheme.extra
