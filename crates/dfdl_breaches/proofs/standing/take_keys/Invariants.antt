use Rattle.std.proofs.Common.{◌≡◌, ◌++◌, ◌||◌, drop}
use Rattle.dfdl_breaches.specs.Standing.{repeats}
use Rattle.dfdl_breaches.proofs.standing.take_keys.Given as goal

-- the keys so far are taken, and none of them was taken before but where that is known
abbrev pub invariant-loop-key : goal.invariant-loop-key
invariant-loop-key l = record {
  again : (l.again || repeats l.taken.items (drop l.key-index l.keys)) ≡ repeats l.fn.taken.items l.keys;
  taken : l.taken.items ++ drop l.key-index l.keys ≡ l.fn.taken.items ++ l.keys;
}
