use Rattle.std.proofs.Common.{◌≡◌, ℕ, List, Option, drop}
use Rattle.dfdl_expression_tree.specs.Trees.{Formula}
use Rattle.dfdl_statements.specs.Settled.{first_asked}
use Rattle.dfdl_statements.specs.Texts.{ReadsTexts}
use Rattle.dfdl_statements.proofs.settling.first_asked.Given as goal

abbrev pub invariant-loop-slot : goal.invariant-loop-slot
invariant-loop-slot l = (read : List ℕ → Option Formula) → ReadsTexts read
    → first_asked read l.sight l.scene.rows.now l.scene.written.now l.given l.row l.table (drop l.slot-index l.slots)
    ≡ first_asked read l.sight l.scene.rows.now l.scene.written.now l.given l.row l.table l.slots
