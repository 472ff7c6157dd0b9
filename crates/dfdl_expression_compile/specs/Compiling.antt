-- The nodes of a compiled expression. 'DFDL Expression Language'.
use Rattle.std.specs.Prelude.{ℕ, true, false, Option, Some, None, List, [], ◌∷◌, ◌++◌}
use Rattle.dfdl_operators.specs.declared.order.Relation.{Relation}
use Rattle.dfdl_operators.specs.declared.order.Relation.TheVariants as relation
use Rattle.dfdl_expressions.specs.declared.node.Node.{Node}
use Rattle.dfdl_expressions.specs.declared.node.Node.TheVariants as node
use Rattle.dfdl_expressions.specs.declared.operator.UnaryOperator.TheVariants as unary
use Rattle.dfdl_expressions.specs.declared.operator.BinaryOperator.TheVariants as binary
use Rattle.dfdl_expressions.specs.declared.operator.Unit.{Unit as LengthUnit}
use Rattle.dfdl_expressions.specs.declared.path.Step.{Step}
use Rattle.dfdl_expressions.specs.declared.path.Step.TheVariants as step
use Rattle.dfdl_expression_tree.specs.declared.token.Operator.{Operator}
use Rattle.dfdl_expression_tree.specs.declared.token.Operator.TheVariants as o
use Rattle.dfdl_expression_tree.specs.declared.node.Leaf.{Leaf}
use Rattle.dfdl_expression_tree.specs.declared.node.Leaf.TheVariants as leaf
use Rattle.dfdl_expression_tree.specs.declared.node.Unary.{Unary}
use Rattle.dfdl_expression_tree.specs.declared.node.Unary.TheVariants as un
use Rattle.dfdl_expression_tree.specs.declared.node.Binary.{Binary}
use Rattle.dfdl_expression_tree.specs.declared.node.Binary.TheVariants as bin
use Rattle.dfdl_expression_tree.specs.Trees.{Formula, End, One, Two, Choose}
use Rattle.dfdl_expression_types.specs.declared.statics.Statics.{Statics}
use Rattle.dfdl_expression_types.specs.declared.statics.Variable.{Variable}
use Rattle.dfdl_expression_types.specs.Callees.{callee_of}
use Rattle.dfdl_expression_types.specs.Declarations.{name_number, variable_named}
use Rattle.dfdl_expression_types.specs.Words.{word, local_of}
use Rattle.dfdl_expression_compile.specs.declared.operand.Operand.{Operand}
use Rattle.dfdl_expression_compile.specs.declared.operand.Operand.TheVariants as operand
use Rattle.dfdl_expression_compile.specs.declared.operand.Item.{Item}
use Rattle.dfdl_expression_compile.specs.declared.operand.Item.TheVariants as item
use Rattle.dfdl_expression_compile.specs.Calls.{called}
use Rattle.dfdl_expression_compile.specs.Lists.{RouteOf, Numbered, pushed}
use Rattle.dfdl_expression_compile.specs.Literals.{number_node, text_node, unit_named}
use Rattle.dfdl_expression_compile.specs.Routes.{begun, with_step, with_index}
use Rattle.dfdl_expression_compile.specs.Settling.{settled, route_of, no_operand}

-- what is made of a part, and the nodes so far
pub record Built : Type 0 where
  pub item : Item
  pub nodes : List Node

abbrev pub built : Item → List Node → Built
built i nodes = record { item = i; nodes = nodes }

-- a value that has a node
abbrev pub valued : Numbered → Built
valued n = built (item.One (operand.Value n.number)) n.nodes

-- a path, which has none so far
abbrev pub routed : RouteOf → List Node → Built
routed r nodes = built (item.One (operand.Route r)) nodes

-- a part that is no list of arguments
abbrev pub operand_of : Item → Operand
operand_of (item.One o) = o
operand_of (item.Many operands) = no_operand

-- the arguments of a call
abbrev pub operands_of : Item → List Operand
operands_of (item.Many operands) = operands
operands_of (item.One o) = []

abbrev pub number_or_zero : Option ℕ → ℕ
number_or_zero None = 0
number_or_zero (Some number) = number

-- the number of a variable; one that isn't declared is none of a sound expression
abbrev pub variable_number : Option Variable → ℕ
variable_number None = 0
variable_number (Some variable) = variable.number

-- the node of the variable of a name
abbrev pub variable_node : Statics → List ℕ → Node
variable_node s name = node.Variable (variable_number (variable_named s (local_of name)))

-- a value of this node
abbrev pub value_built : Node → List Node → Built
value_built n nodes = valued (pushed n nodes)

-- a text in quotes
abbrev pub text_built : Option LengthUnit → List ℕ → List Node → Built
text_built (Some u) text nodes = built (item.One (operand.Unit u)) nodes
text_built None text nodes = value_built (text_node text) nodes

abbrev pub quoted_built : List ℕ → List Node → Built
quoted_built text nodes = text_built (unit_named text) text nodes

-- a number
abbrev pub number_built : List ℕ → List Node → Built
number_built text nodes = value_built (number_node text) nodes

-- a part without operands
abbrev pub leaf_built : Statics → List ℕ → Leaf → List Node → Built
leaf_built s text (leaf.Number span) nodes = number_built (word text span) nodes
leaf_built s text (leaf.Text span) nodes = quoted_built (word text span) nodes
leaf_built s text (leaf.Variable span) nodes = value_built (variable_node s (word text span)) nodes
leaf_built s text leaf.Context nodes = routed (begun false) nodes
leaf_built s text leaf.Root nodes = routed (begun true) nodes
leaf_built s text leaf.NoArguments nodes = built (item.Many []) nodes

-- a step by this name
abbrev pub down : Statics → List ℕ → Step
down s name = step.Down (number_or_zero (name_number s (local_of name))) false

-- a path with one step more
abbrev pub step_item : Step → Operand → Item
step_item st o = item.One (operand.Route (with_step st (route_of o)))

-- a value with its sign changed
abbrev pub negated : Numbered → Built
negated n = value_built (node.Unary unary.Negative n.number) n.nodes

abbrev pub negative_built : Operand → List Node → Built
negative_built o nodes = negated (settled o nodes)

-- a call of the function of a name
abbrev pub call_built : Statics → List ℕ → List Operand → List Node → Built
call_built s name operands nodes = valued (called (callee_of s name) operands nodes)

-- a part with one operand
abbrev pub unary_built : Statics → List ℕ → Unary → Built → Built
unary_built s text un.Here a = built (step_item step.Here (operand_of a.item)) a.nodes
unary_built s text un.Parent a = built (step_item step.Up (operand_of a.item)) a.nodes
unary_built s text (un.Child span) a = built (step_item (down s (word text span)) (operand_of a.item)) a.nodes
unary_built s text (un.Call span) a = call_built s (word text span) (operands_of a.item) a.nodes
unary_built s text un.Negative a = negative_built (operand_of a.item) a.nodes

abbrev pub compared : Relation → ℕ → ℕ → Node
compared r left right = node.Binary (binary.Compare r) left right

-- the node of an operator
abbrev pub operator_node : Operator → ℕ → ℕ → Node
operator_node o.Or l r = node.Or l r
operator_node o.And l r = node.And l r
operator_node o.Equal l r = compared relation.Same l r
operator_node o.NotEqual l r = compared relation.Other l r
operator_node o.Less l r = compared relation.Below l r
operator_node o.LessOrEqual l r = compared relation.NotAbove l r
operator_node o.Greater l r = compared relation.Above l r
operator_node o.GreaterOrEqual l r = compared relation.NotBelow l r
operator_node o.Plus l r = node.Binary binary.Add l r
operator_node o.Minus l r = node.Binary binary.Subtract l r
operator_node o.Times l r = node.Binary binary.Multiply l r
operator_node o.Divide l r = node.Binary binary.Divide l r
operator_node o.WholeDivide l r = node.Binary binary.IntegerDivide l r
operator_node o.Remainder l r = node.Binary binary.Modulo l r

-- an operation on a value that has a node, and one that may get its own
abbrev pub operated_behind : Operator → ℕ → Numbered → Built
operated_behind operator l r = value_built (operator_node operator l r.number) r.nodes

abbrev pub operated : Operator → Numbered → Operand → Built
operated operator l r = operated_behind operator l.number (settled r l.nodes)

abbrev pub operation_built : Operator → Operand → Operand → List Node → Built
operation_built operator l r nodes = operated operator (settled l nodes) r

-- a path with an index behind its last step
abbrev pub indexed_by : RouteOf → Numbered → Built
indexed_by r n = routed (with_index n.number r) n.nodes

abbrev pub index_built : Operand → Operand → List Node → Built
index_built path index nodes = indexed_by (route_of path) (settled index nodes)

-- a part with two operands, of which the first is given
abbrev pub binary_built : Binary → Item → Built → Built
binary_built (bin.Operation operator) l r = operation_built operator (operand_of l) (operand_of r.item) r.nodes
binary_built bin.Argument l r = built (item.Many (operands_of l ++ operand_of r.item ∷ [])) r.nodes
binary_built bin.Item l r = index_built (operand_of l) (operand_of r.item) r.nodes

-- a conditional, whose test and first branch have nodes, and then those that may get theirs
abbrev pub chosen_third : ℕ → ℕ → Numbered → Built
chosen_third t a b = value_built (node.If t a b.number) b.nodes

abbrev pub chosen_second : ℕ → Numbered → Operand → Built
chosen_second t a b = chosen_third t a.number (settled b a.nodes)

abbrev pub chosen : Numbered → Operand → Operand → Built
chosen t a b = chosen_second t.number (settled a t.nodes) b

abbrev pub choice_of : Operand → Operand → Operand → List Node → Built
choice_of t a b nodes = chosen (settled t nodes) a b

-- a conditional, of which the test and the first branch are given
abbrev pub choice_built : Item → Item → Built → Built
choice_built t a b = choice_of (operand_of t) (operand_of a) (operand_of b.item) b.nodes

-- a tree behind nodes that are there
abbrev pub compiled : Statics → List ℕ → Formula → List Node → Built
compiled s text (End l) nodes = leaf_built s text l nodes
compiled s text (One u a) nodes = unary_built s text u (compiled s text a nodes)
compiled s text (Two b l r) nodes =
    binary_built b (compiled s text l nodes).item (compiled s text r (compiled s text l nodes).nodes)
compiled s text (Choose t a b) nodes =
    choice_built (compiled s text t nodes).item (compiled s text a (compiled s text t nodes).nodes).item
    (compiled s text b (compiled s text a (compiled s text t nodes).nodes).nodes)

-- all nodes of what is made of an expression, where its value is wanted
abbrev pub whole : Built → List Node
whole b = (settled (operand_of b.item) b.nodes).nodes

-- the nodes of a tree
abbrev pub nodes_of : Statics → List ℕ → Formula → List Node
nodes_of s text f = whole (compiled s text f [])
