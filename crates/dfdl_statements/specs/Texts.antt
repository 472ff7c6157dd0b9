-- What texts are read as.
use Rattle.std.specs.Prelude.{◌≡◌, ℕ, ◌≤◌, List, Option, Some, None}
use Rattle.dfdl_expression_text.specs.Syntax.{most_tokens}
use Rattle.dfdl_expression_text.specs.Expressions.{IsExpression, ReadsBytes}
use Rattle.dfdl_expression_tree.specs.Readings.{tree_of}
use Rattle.dfdl_expression_tree.specs.Trees.{Formula}

-- a text has this tree, or is no expression
abbrev pub IsReading : List ℕ → Option Formula → Type 0
IsReading text (Some f) = (count : ℕ) × (count ≤ most_tokens) × (reads : ReadsBytes count text) × (f ≡ tree_of reads)
IsReading text None = IsExpression text → ⊥

-- each text is read as what it is
abbrev pub ReadsTexts : (List ℕ → Option Formula) → Type 0
ReadsTexts read = (text : List ℕ) → IsReading text (read text)
