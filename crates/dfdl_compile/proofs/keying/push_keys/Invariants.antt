use Rattle.std.proofs.Common.{◌≡◌, ◌++◌, map, drop}
use Rattle.dfdl_compile.specs.Components.{branch_key}
use Rattle.dfdl_compile.proofs.keying.push_keys.Given as goal

abbrev pub invariant-loop-key : goal.invariant-loop-key
invariant-loop-key l = l.made.items ++ map (branch_key l.branch) (drop l.key-index l.keys) ≡ l.fn.made.items ++ map (branch_key l.branch) l.keys
