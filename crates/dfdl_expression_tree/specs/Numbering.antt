-- Mirror for the prover: how cells become nodes that name their operands. What is listed is in Trees.
use Rattle.std.specs.Prelude.{ℕ, ◌+◌, Option, Some, None, List, [], ◌∷◌, ◌++◌}
use Rattle.dfdl_expression_tree.specs.declared.node.Cell.{Cell}
use Rattle.dfdl_expression_tree.specs.declared.node.Cell.TheVariants as cell
use Rattle.dfdl_expression_tree.specs.declared.node.Node.{Node}
use Rattle.dfdl_expression_tree.specs.declared.node.Node.TheVariants as node
use Rattle.dfdl_expression_tree.specs.declared.token.Token.{Token}
use Rattle.dfdl_expression_tree.specs.Building.{go_on, built}

-- a node, and the numbers that are left behind those of its operands
pub record Taken : Type 0 where
  pub node : Node
  pub left : List ℕ

abbrev pub taken : Node → List ℕ → Option Taken
taken n left = Some (record { node = n; left = left })

-- what takes its operands off, the last one first
abbrev pub unary_of : (ℕ → Node) → List ℕ → Option Taken
unary_of made [] = None
unary_of made (a ∷ left) = taken (made a) left

abbrev pub binary_of : (ℕ → ℕ → Node) → List ℕ → Option Taken
binary_of made [] = None
binary_of made (b ∷ left) = unary_of (λ a. made a b) left

abbrev pub choice_of : List ℕ → Option Taken
choice_of [] = None
choice_of (c ∷ left) = binary_of (λ a b. node.Choice a b c) left

-- the node of a cell, over the numbers of the trees so far, the last first
abbrev pub node_of : Cell → List ℕ → Option Taken
node_of (cell.Leaf l) numbers = taken (node.Leaf l) numbers
node_of (cell.Unary u) numbers = unary_of (λ a. node.Unary u a) numbers
node_of (cell.Binary b) numbers = binary_of (λ l r. node.Binary b l r) numbers
node_of cell.Choice numbers = choice_of numbers

-- the nodes so far and those of cells, the first of which has this number
abbrev pub numbered : List Cell → ℕ → List ℕ → List Node → Option (List Node)
numbered [] n numbers nodes = Some nodes
numbered (c ∷ cells) n numbers nodes =
    go_on (node_of c numbers) (λ t. numbered cells (n + 1) (n ∷ t.left) (nodes ++ t.node ∷ []))

-- the nodes of the tree of some tokens
abbrev pub planted : List Token → Option (List Node)
planted tokens = go_on (built tokens) (λ cells. numbered cells 0 [] [])
