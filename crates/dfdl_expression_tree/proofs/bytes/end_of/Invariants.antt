use Rattle.std.proofs.Common.{◌≡◌, ◌+◌, ◌≤◌, drop}
use Rattle.dfdl_expression_tree.specs.Lexing.{rest_of}
use Rattle.dfdl_expression_tree.proofs.bytes.end_of.Given as goal

-- what is left of the token ends where the whole does
abbrev pub invariant-loop-at : goal.invariant-loop-at
invariant-loop-at l = (l.at + rest_of l.last (drop l.at l.bytes) ≡ l.from + rest_of l.fn.piece (drop l.from l.bytes)) × (l.from ≤ l.at)
