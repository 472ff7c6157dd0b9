use Rattle.std.proofs.Common.{◌≡◌, ◌+◌, ◌^◌, ◌≤◌, length, drop}
use Rattle.dfdl_parse.specs.Slots.{first_in}
use Rattle.dfdl_parse.proofs.slots.first_in.Given as goal

abbrev pub invariant-loop-own : goal.invariant-loop-own
invariant-loop-own l =
    (first_in l.next (drop l.own-index l.slots) ≡ first_in l.fn.slot l.slots) × (l.next.place + length (drop l.own-index l.slots) ≤ 2 ^ 63)
