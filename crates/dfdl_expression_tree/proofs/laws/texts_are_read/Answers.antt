use Rattle.std.proofs.Common.{◌⊎◌, inl, inr, refl, ℕ, List, Option, Some, None}
use Rattle.dfdl_expression_text.specs.Expressions.{IsExpression}
use Rattle.dfdl_expression_tree.specs.Readings.{IsReading, tree_of}
use Rattle.dfdl_expression_tree.specs.Trees.{Formula}
use Rattle.dfdl_expression_tree.proofs.laws.texts_are_read.Goals as goal

-- the tree of a text, if it is an expression
abbrev read_by : (text : List ℕ) → IsExpression text ⊎ (IsExpression text → ⊥) → Option Formula
read_by text (inl (count, few, reads)) = Some (tree_of reads)
read_by text (inr none) = None

is_read : (text : List ℕ) (decided : IsExpression text ⊎ (IsExpression text → ⊥)) → IsReading text (read_by text decided)
is_read text (inl (count, few, reads)) = (count, few, reads, refl)
is_read text (inr none) = none

pub returns : goal.returns
returns c = (λ text. read_by text (c.texts_are_decided.ensures text), λ text. is_read text (c.texts_are_decided.ensures text))
