use Rattle.std.proofs.Common.{◌≡◌, drop}
use Rattle.std.specs.List.{find}
use Rattle.std.specs.Str.{bytes_eq}
use Rattle.dfdl_expression_types.specs.Callees.{name_of}
use Rattle.dfdl_expression_types.proofs.naming.simple_named.Given as goal

-- the type is sought among those that are left
abbrev pub invariant-loop-simple : goal.invariant-loop-simple
invariant-loop-simple l = find (λ simple. bytes_eq (name_of simple) l.local) (drop l.simple-index l.simple-items) ≡ find (λ simple. bytes_eq (name_of simple) l.local) l.simple-items
