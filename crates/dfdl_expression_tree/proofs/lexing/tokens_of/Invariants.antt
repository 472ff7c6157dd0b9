use Rattle.std.proofs.Common.{ℕ, ◌≤◌, ◌-◌, length}
use Rattle.dfdl_expression_text.specs.Expressions.{ReadsBytes}
use Rattle.dfdl_expression_tree.specs.Readings.{tokens_of}
use Rattle.dfdl_expression_tree.proofs.Ahead.{Ahead}
use Rattle.dfdl_expression_tree.proofs.lexing.tokens_of.Given as goal

abbrev pub invariant-loop-token : goal.invariant-loop-token
invariant-loop-token l = record {
  within : l.at ≤ length l.bytes;
  ahead : (count : ℕ) (reads : ReadsBytes count l.bytes) → Ahead l.bytes l.at l.ended l.tokens.items (tokens_of reads);
}

abbrev pub decreases-loop-token : goal.decreases-loop-token
decreases-loop-token l = length l.bytes - l.at
