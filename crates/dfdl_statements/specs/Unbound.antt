-- The names in an expression whose prefixes aren't declared. 'DFDL Expression Language'.
use Rattle.std.specs.Prelude.{ℕ, Bool, false, not, ◌||◌, Option, Some, None, is_some, List, bytes_eq, codes}
use Rattle.std.specs.List.{list_any}
use Rattle.dfdl_expression_tree.specs.declared.node.Leaf.{Leaf}
use Rattle.dfdl_expression_tree.specs.declared.node.Leaf.TheVariants as leaf
use Rattle.dfdl_expression_tree.specs.declared.node.Node.{Node}
use Rattle.dfdl_expression_tree.specs.declared.node.Node.TheVariants as node
use Rattle.dfdl_expression_tree.specs.declared.node.Unary.{Unary}
use Rattle.dfdl_expression_tree.specs.declared.node.Unary.TheVariants as unary
use Rattle.dfdl_expression_tree.specs.declared.token.Span.{Span}
use Rattle.dfdl_expression_tree.specs.Trees.{Formula, listed}
use Rattle.dfdl_expression_types.specs.declared.statics.Statics.{Statics}
use Rattle.dfdl_expression_types.specs.Declarations.{namespace_of}
use Rattle.dfdl_expression_types.specs.Words.{prefix_of, word}

-- a prefix is declared
abbrev pub is_declared : Statics → List ℕ → Bool
is_declared s prefix = is_some (namespace_of s prefix)

-- a prefix may stand before a name: it is declared, or it is that of functions, which needs no declaration
abbrev pub is_known : Statics → List ℕ → Bool
is_known s prefix = bytes_eq prefix (codes "fn") || is_declared s prefix

abbrev pub is_unbound_by : Statics → Option (List ℕ) → Bool
is_unbound_by s None = false
is_unbound_by s (Some prefix) = not (is_known s prefix)

-- a name has a prefix that may not stand there
abbrev pub is_unbound : Statics → List ℕ → Bool
is_unbound s name = is_unbound_by s (prefix_of name)

-- the place of the name of a variable
abbrev pub name_in_leaf : Leaf → Option Span
name_in_leaf (leaf.Variable name) = Some name
name_in_leaf (leaf.Number span) = None
name_in_leaf (leaf.Text span) = None
name_in_leaf leaf.Context = None
name_in_leaf leaf.Root = None
name_in_leaf leaf.NoArguments = None

-- that of a step or of a function
abbrev pub name_in_unary : Unary → Option Span
name_in_unary (unary.Child name) = Some name
name_in_unary (unary.Call name) = Some name
name_in_unary unary.Here = None
name_in_unary unary.Parent = None
name_in_unary unary.Negative = None

-- the place of the name of a node, if it has one
abbrev pub name_in : Node → Option Span
name_in (node.Leaf l) = name_in_leaf l
name_in (node.Unary u operand) = name_in_unary u
name_in (node.Binary b left right) = None
name_in (node.Choice test first second) = None

abbrev pub is_unbound_at : Statics → List ℕ → Option Span → Bool
is_unbound_at s text None = false
is_unbound_at s text (Some name) = is_unbound s (word text name)

-- a node of the tree of a text has such a name
abbrev pub is_unbound_in : Statics → List ℕ → Node → Bool
is_unbound_in s text node = is_unbound_at s text (name_in node)

-- a name in the tree of a text has a prefix that isn't declared
abbrev pub has_unbound : Statics → List ℕ → Formula → Bool
has_unbound s text f = list_any (is_unbound_in s text) (listed f 0)
