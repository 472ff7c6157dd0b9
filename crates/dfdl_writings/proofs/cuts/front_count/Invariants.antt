use Rattle.std.proofs.Common.{◌≡◌, ◌+◌, drop}
use Rattle.dfdl_writings.specs.Cuts.{front_count}
use Rattle.dfdl_writings.proofs.cuts.front_count.Given as goal

-- those before fit
abbrev pub invariant-loop-at : goal.invariant-loop-at
invariant-loop-at l = l.at + front_count l.encoding l.left (drop l.at l.characters) ≡ front_count l.encoding l.bits l.characters
