-- The nodes of calls. 'DFDL Expression Language'.
use Rattle.std.specs.Prelude.{ℕ, Bool, true, false, nat_lt, if◌then◌else◌, List, length, Option, Some, None, get_or}
use Rattle.dfdl_expression_types.specs.declared.callee.Callee.{Callee}
use Rattle.dfdl_expression_types.specs.declared.callee.Callee.TheVariants as callee
use Rattle.dfdl_value.specs.declared.value.Value.TheVariants as value
use Rattle.dfdl_expressions.specs.declared.node.Node.{Node}
use Rattle.dfdl_expressions.specs.declared.node.Node.TheVariants as node
use Rattle.dfdl_expressions.specs.declared.operator.UnaryOperator.{UnaryOperator}
use Rattle.dfdl_expressions.specs.declared.operator.UnaryOperator.TheVariants as unary
use Rattle.dfdl_expressions.specs.declared.operator.BinaryOperator.{BinaryOperator}
use Rattle.dfdl_expressions.specs.declared.operator.BinaryOperator.TheVariants as binary
use Rattle.dfdl_expressions.specs.declared.operator.Unit.{Unit as LengthUnit}
use Rattle.dfdl_expressions.specs.declared.operator.Extent.TheVariants as extent
use Rattle.dfdl_expressions.specs.declared.operator.Question.{Question}
use Rattle.dfdl_expressions.specs.declared.operator.Question.TheVariants as question
use Rattle.dfdl_expression_compile.specs.declared.operand.Operand.{Operand}
use Rattle.dfdl_expression_compile.specs.Lists.{Numbered, Listed, pushed}
use Rattle.dfdl_expression_compile.specs.Routes.{route_node}
use Rattle.dfdl_expression_compile.specs.Settling.{all_settled, route_of, unit_of, first, rest}

-- the number at a place
abbrev pub at : List ℕ → ℕ → ℕ
at numbers place = get_or numbers place 0

abbrev pub unary_of : UnaryOperator → List ℕ → Node
unary_of operator ns = node.Unary operator (at ns 0)

abbrev pub binary_of : BinaryOperator → List ℕ → Node
binary_of operator ns = node.Binary operator (at ns 0) (at ns 1)

abbrev pub part_of_text : List ℕ → Node
part_of_text ns = if nat_lt 2 (length ns) then node.Substring (at ns 0) (at ns 1) (at ns 2) else binary_of binary.SubstringFrom ns

-- the node of a function of values, whose nodes have these numbers; the other functions have no values as arguments
abbrev pub value_node : Callee → List ℕ → Node
value_node callee.Not ns = unary_of unary.Not ns
value_node callee.StringLength ns = unary_of unary.StringLength ns
value_node callee.Absolute ns = unary_of unary.Absolute ns
value_node callee.Floor ns = unary_of unary.Floor ns
value_node callee.Ceiling ns = unary_of unary.Ceiling ns
value_node (callee.Construct simple) ns = unary_of (unary.Construct simple) ns
value_node callee.Contains ns = binary_of binary.Contains ns
value_node callee.StartsWith ns = binary_of binary.StartsWith ns
value_node callee.EndsWith ns = binary_of binary.EndsWith ns
value_node callee.Substring ns = part_of_text ns
value_node callee.Concat ns = node.Concat ns
value_node _ ns = node.PastRange

-- whether a function asks something of a path, which is its first argument
abbrev pub asks_path : Callee → Bool
asks_path callee.Count = true
asks_path callee.Exists = true
asks_path callee.Empty = true
asks_path callee.ValueLength = true
asks_path callee.ContentLength = true
asks_path _ = false

-- what it asks, where its second argument is this unit
abbrev pub question_of : Callee → LengthUnit → Question
question_of callee.Count u = question.Count
question_of callee.Exists u = question.Exists
question_of callee.Empty u = question.Empty
question_of callee.ValueLength u = question.Length extent.Value u
question_of callee.ContentLength u = question.Length extent.Content u
question_of _ u = question.Item

-- the node of a function without arguments
abbrev pub plain_node : Callee → Option Node
plain_node callee.True = Some (node.Constant (value.Truth true))
plain_node callee.False = Some (node.Constant (value.Truth false))
plain_node callee.OccursIndex = Some node.OccursIndex
plain_node _ = None

abbrev pub path_call : Callee → List Operand → List Node → Numbered
path_call function operands nodes =
    pushed (route_node (question_of function (unit_of (first (rest operands)))) (route_of (first operands))) nodes

abbrev pub value_call_on : Callee → Listed → Numbered
value_call_on function l = pushed (value_node function l.numbers) l.nodes

abbrev pub value_call : Callee → List Operand → List Node → Numbered
value_call function operands nodes = value_call_on function (all_settled operands nodes)

abbrev pub call_with : Callee → List Operand → List Node → Numbered
call_with function operands nodes = if asks_path function then path_call function operands nodes else value_call function operands nodes

abbrev pub call_by : Callee → Option Node → List Operand → List Node → Numbered
call_by function (Some n) operands nodes = pushed n nodes
call_by function None operands nodes = call_with function operands nodes

-- a call with these arguments
abbrev pub called : Option Callee → List Operand → List Node → Numbered
called None operands nodes = pushed node.PastRange nodes
called (Some function) operands nodes = call_by function (plain_node function) operands nodes
