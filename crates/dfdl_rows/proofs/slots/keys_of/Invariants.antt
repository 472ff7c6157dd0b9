use Rattle.std.proofs.Common.{◌≡◌, ◌++◌, drop, map}
use Rattle.dfdl_rows.specs.Slots.{key_of}
use Rattle.dfdl_rows.proofs.slots.keys_of.Given as goal

abbrev pub invariant-loop-key : goal.invariant-loop-key
invariant-loop-key l = l.made.items ++ map (key_of l.branches) (drop l.key-index l.keys) ≡ map (key_of l.branches) l.keys
