-- Mirror for the prover: what a pass over a tree's nodes keeps of the operands that are part of nothing so far, the last one first.
use Rattle.std.specs.Prelude.{ℕ, List, [], ◌∷◌}
use Rattle.dfdl_expressions.specs.declared.node.Node.{Node as Compiled}
use Rattle.dfdl_expression_tree.specs.declared.node.Node.{Node}
use Rattle.dfdl_expression_tree.specs.declared.node.Node.TheVariants as node
use Rattle.dfdl_expression_types.specs.declared.statics.Statics.{Statics}
use Rattle.dfdl_expression_compile.specs.declared.operand.Item.{Item}
use Rattle.dfdl_expression_compile.specs.declared.operand.Item.TheVariants as item
use Rattle.dfdl_expression_compile.specs.Compiling.{Built, built, leaf_built, unary_built, binary_built, choice_built, whole}
use Rattle.dfdl_expression_compile.specs.Settling.{no_operand}

pub record Pass : Type 0 where
  pub items : List Item
  pub nodes : List Compiled

abbrev pub pass : List Item → List Compiled → Pass
pass items nodes = record { items = items; nodes = nodes }

abbrev pub first_item : List Item → Item
first_item [] = item.One no_operand
first_item (i ∷ items) = i

abbrev pub rest_items : List Item → List Item
rest_items [] = []
rest_items (i ∷ items) = items

-- what was made, before what is left
abbrev pub with : Built → List Item → Pass
with b items = pass (b.item ∷ items) b.nodes

-- what is kept behind a node
abbrev pub step : Statics → List ℕ → Node → Pass → Pass
step s text (node.Leaf l) p = with (leaf_built s text l p.nodes) p.items
step s text (node.Unary u a) p = with (unary_built s text u (built (first_item p.items) p.nodes)) (rest_items p.items)
step s text (node.Binary b l r) p =
    with (binary_built b (first_item (rest_items p.items)) (built (first_item p.items) p.nodes)) (rest_items (rest_items p.items))
step s text (node.Choice t a b) p =
    with (choice_built (first_item (rest_items (rest_items p.items))) (first_item (rest_items p.items))
    (built (first_item p.items) p.nodes))
    (rest_items (rest_items (rest_items p.items)))

abbrev pub run : Statics → List ℕ → List Node → Pass → Pass
run s text [] p = p
run s text (n ∷ nodes) p = run s text nodes (step s text n p)

-- what was made last
abbrev pub last : Pass → Built
last p = built (first_item p.items) p.nodes

-- the nodes of what is made of a tree's nodes
abbrev pub all_nodes : Statics → List ℕ → List Node → List Compiled
all_nodes s text nodes = whole (last (run s text nodes (pass [] [])))
