-- Evaluations that take no memory: expressions that build no text and no bytes, and memory that was taken before.
use Rattle.std.specs.Prelude.{◌≤◌, ℕ, ◌+◌, List, [], ◌∷◌, length, vec_capacity, Result, Err}
use Rattle.dfdl_forms.specs.Types.{form_of}
use Rattle.dfdl_value.specs.Types.{HoldsMemory, IsPlain}
use Rattle.dfdl_value.specs.declared.value.Value.{Value}
use Rattle.dfdl_operators.specs.declared.fault.FunctionFault.{FunctionFault}
use Rattle.dfdl_operators.specs.declared.fault.FunctionFault.TheVariants.{OutOfMemory}
use Rattle.dfdl_expressions.specs.Nodes.{operands_of}
use Rattle.dfdl_expressions.specs.declared.node.Node.{Node}
use Rattle.dfdl_expressions.specs.declared.node.Node.TheVariants as node
use Rattle.dfdl_expressions.specs.declared.operator.BinaryOperator.{BinaryOperator}
use Rattle.dfdl_expressions.specs.declared.operator.BinaryOperator.TheVariants.{SubstringFrom}
use Rattle.dfdl_expressions.specs.declared.operator.UnaryOperator.{UnaryOperator}
use Rattle.dfdl_expressions.specs.declared.operator.UnaryOperator.TheVariants.{Construct}
use Rattle.dfdl_expression_eval.specs.declared.scratch.Scratch.{Scratch}

-- an operator of one operand makes no text and no bytes: only a constructor can
abbrev pub IsLeanUnary : UnaryOperator → Type 0
IsLeanUnary (Construct kind) = HoldsMemory (form_of kind) → ⊥
IsLeanUnary _ = Unit {0}

abbrev pub IsLeanBinary : BinaryOperator → Type 0
IsLeanBinary SubstringFrom = ⊥
IsLeanBinary _ = Unit {0}

-- a node makes no text and no bytes; those that the environment answers with aren't made by it
abbrev pub IsLeanNode : Node → Type 0
IsLeanNode (node.Constant value) = IsPlain value
IsLeanNode (node.Unary operator only) = IsLeanUnary operator
IsLeanNode (node.Binary operator left right) = IsLeanBinary operator
IsLeanNode (node.Substring text first count) = ⊥
IsLeanNode (node.Concat parts) = ⊥
IsLeanNode _ = Unit {0}

-- no node of an expression does
abbrev pub IsLean : List Node → Type 0
IsLean [] = Unit {0}
IsLean (n ∷ nodes) = IsLeanNode n × IsLean nodes

-- how many operands nodes have together
abbrev pub operands_in : List Node → ℕ
operands_in [] = 0
operands_in (n ∷ nodes) = length (operands_of n) + operands_in nodes

-- there is memory for expressions of so many nodes, which have no more operands together
pub record HasRoom (room : ℕ) (scratch : Scratch) : Type 0 where
  pub frames : room ≤ vec_capacity scratch.frames
  pub values : room ≤ vec_capacity scratch.values
  pub places : room ≤ vec_capacity scratch.places

-- an answer isn't that memory was wanting
abbrev pub HasMemory : Result Value FunctionFault → Type 0
HasMemory (Err OutOfMemory) = ⊥
HasMemory _ = Unit {0}
