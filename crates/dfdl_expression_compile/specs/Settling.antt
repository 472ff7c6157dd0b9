-- Operands, and their nodes: a value has one, while units of length and paths get theirs where their value is wanted.
use Rattle.std.specs.Prelude.{ℕ, false, List, [], ◌∷◌, ◌++◌, codes}
use Rattle.dfdl_value.specs.declared.value.Value.TheVariants as value
use Rattle.dfdl_expressions.specs.declared.node.Node.{Node}
use Rattle.dfdl_expressions.specs.declared.node.Node.TheVariants as node
use Rattle.dfdl_expressions.specs.declared.operator.Unit.{Unit as LengthUnit}
use Rattle.dfdl_expressions.specs.declared.operator.Unit.TheVariants as unit
use Rattle.dfdl_expressions.specs.declared.operator.Question.TheVariants as question
use Rattle.dfdl_expression_compile.specs.declared.operand.Operand.{Operand}
use Rattle.dfdl_expression_compile.specs.declared.operand.Operand.TheVariants as operand
use Rattle.dfdl_expression_compile.specs.Lists.{RouteOf, Numbered, Listed, numbered, listed, pushed}
use Rattle.dfdl_expression_compile.specs.Routes.{begun, route_node}

unfoldable pub unit_text : LengthUnit → List ℕ
unit_text unit.Bits = codes "bits"
unit_text unit.Bytes = codes "bytes"

-- the node of an operand whose value is wanted
abbrev pub settled : Operand → List Node → Numbered
settled (operand.Value number) nodes = numbered number nodes
settled (operand.Unit u) nodes = pushed (node.Constant (value.Text (unit_text u))) nodes
settled (operand.Route r) nodes = pushed (route_node question.Item r) nodes

-- the nodes of operands behind others
abbrev pub settled_behind : List ℕ → List Operand → List Node → Listed
settled_behind numbers [] nodes = listed numbers nodes
settled_behind numbers (o ∷ operands) nodes =
    settled_behind (numbers ++ (settled o nodes).number ∷ []) operands (settled o nodes).nodes

abbrev pub all_settled : List Operand → List Node → Listed
all_settled operands nodes = settled_behind [] operands nodes

-- the path that an operand is; what is none is one without steps
abbrev pub route_of : Operand → RouteOf
route_of (operand.Route r) = r
route_of _ = begun false

-- the unit that an operand is
abbrev pub unit_of : Operand → LengthUnit
unit_of (operand.Unit u) = u
unit_of _ = unit.Bits

abbrev pub no_operand : Operand
no_operand = operand.Value 0

abbrev pub first : List Operand → Operand
first [] = no_operand
first (o ∷ operands) = o

abbrev pub rest : List Operand → List Operand
rest [] = []
rest (o ∷ operands) = operands
