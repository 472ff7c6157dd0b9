use Rattle.std.proofs.Common.{◌≡◌, map, take}
use Rattle.dfdl_statements.proofs.rows.keyed.Given as goal

abbrev pub invariant-loop-key : goal.invariant-loop-key
invariant-loop-key l = l.rows.items ≡ map (λ key. key.body) (take l.key-index l.keys)
