use Rattle.std.proofs.Common.{◌≡◌, ℕ, List, Option}
use Rattle.dfdl_expression_tree.specs.Trees.{Formula}
use Rattle.dfdl_statements.specs.Settled.{refusals}
use Rattle.dfdl_statements.specs.Texts.{ReadsTexts}
use Rattle.dfdl_statements.proofs.settling.refusals.Given as goal

abbrev pub invariant-loop-number : goal.invariant-loop-number
invariant-loop-number l = (read : List ℕ → Option Formula) → ReadsTexts read
    → l.table.items ≡ refusals read l.sight l.scene.rows.now l.scene.written.now l.given l.number
