use Rattle.std.proofs.Common.{◌≡◌, ℕ, List, Option, drop}
use Rattle.dfdl_expression_tree.specs.Trees.{Formula}
use Rattle.dfdl_statements.specs.Settled.{lowest}
use Rattle.dfdl_statements.specs.Texts.{ReadsTexts}
use Rattle.dfdl_statements.proofs.settling.lowest.Given as goal

abbrev pub invariant-loop-standing : goal.invariant-loop-standing
invariant-loop-standing l = (read : List ℕ → Option Formula) → ReadsTexts read
    → lowest read l.sight l.written l.found (drop l.standing-index l.standings) ≡ lowest read l.sight l.written l.fn.first l.standings
