use Rattle.std.proofs.Common.{◌≡◌, nat_le, drop}
use Rattle.std.specs.VecDeque.{deque_items}
use Rattle.dfdl_expression_text.specs.Limit.{owed_all}
use Rattle.dfdl_expression_text.proofs.standing.Standing.owes_at_most.Given as goal

-- what is left is enough for the rest where what was given is enough for all
abbrev pub invariant-loop-at : goal.invariant-loop-at
invariant-loop-at l = nat_le (owed_all (drop l.at (deque_items l.self.opened))) l.left ≡ nat_le (owed_all (drop l.passed (deque_items l.self.opened))) l.most
