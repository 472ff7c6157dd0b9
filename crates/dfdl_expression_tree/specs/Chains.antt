-- Which tree a chain of operands and operators has, told by its top operator alone.
use Rattle.std.specs.Prelude.{ℕ, ◌+◌, ◌≤◌, List, [], ◌∷◌, ◌++◌}
use Rattle.dfdl_layers.specs.Tellers.{Each}
use Rattle.dfdl_expression_tree.specs.declared.node.Binary.TheVariants as binary
use Rattle.dfdl_expression_tree.specs.Trees.{Formula, Two, Link, strength}

-- the links bind so strongly, or more
abbrev pub From : ℕ → List Link → Type 0
From n = Each (λ (l : Link). n ≤ strength l.operator)

-- the tree has at its top an operator that binds no more strongly than what is before it, and more weakly than what is behind
pub data Groups : Formula → List Link → Formula → Type 0 where
  Alone : (first : Formula) → Groups first [] first
  Parts : (first : Formula) (before : List Link) (l : Link) (behind : List Link) (left right : Formula)
      → From (strength l.operator) before → From (strength l.operator + 1) behind
      → Groups first before left → Groups l.operand behind right
      → Groups first (before ++ l ∷ behind) (Two (binary.Operation l.operator) left right)
