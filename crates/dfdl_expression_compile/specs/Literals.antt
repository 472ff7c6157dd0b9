-- What numbers and texts in an expression are. 'DFDL Expression Language'.
use Rattle.std.specs.Prelude.{ℕ, ◌==◌, ◌||◌, Bool, if◌then◌else◌, List, [], Ok, Err, Option, Some, None, bytes_eq, codes}
use Rattle.std.specs.List.{list_any}
use Rattle.std.specs.Str.{chars, is_utf8}
use Rattle.dfdl_forms.specs.declared.simple.Simple.{Simple}
use Rattle.dfdl_forms.specs.declared.simple.Simple.TheVariants as simple
use Rattle.dfdl_value.specs.ReadValues.{Reading, reading_of}
use Rattle.dfdl_value.specs.declared.value.Value.TheVariants as value
use Rattle.dfdl_expressions.specs.declared.node.Node.{Node}
use Rattle.dfdl_expressions.specs.declared.node.Node.TheVariants as node
use Rattle.dfdl_expressions.specs.declared.operator.Unit.{Unit as LengthUnit}
use Rattle.dfdl_expressions.specs.declared.operator.Unit.TheVariants as unit
use Rattle.dfdl_expression_tree.specs.TokenLists.{coded}
use Rattle.dfdl_expression_tree.specs.Quotes.{unquoted}

-- bytes as a text; those that are none are an empty one
abbrev pub as_text : List ℕ → List ℕ
as_text bytes = if is_utf8 bytes then bytes else []

abbrev pub is_point : ℕ → Bool
is_point b = b == 46

abbrev pub has_point : List ℕ → Bool
has_point text = list_any is_point text

-- the type as whose value a number is read: a decimal where it has a point
abbrev pub kind_of_number : List ℕ → Simple
kind_of_number text = if has_point text then simple.Decimal else simple.NonNegativeInteger

abbrev pub node_by : Reading → Node
node_by (Ok v) = node.Constant v
node_by (Err why) = node.PastRange

-- the node of a number: that of its value, or of one past all values
abbrev pub number_node : List ℕ → Node
number_node text = node_by (reading_of (kind_of_number text) (as_text text))

-- the node of a text in quotes
abbrev pub text_node : List ℕ → Node
text_node text = node.Constant (value.Text (coded (unquoted (chars (as_text text)))))

-- the unit of length that a text in quotes is
unfoldable pub unit_named : List ℕ → Option LengthUnit
unit_named text =
    if bytes_eq text (codes "'bits'") || bytes_eq text (codes "\"bits\"") then Some unit.Bits
    else (if bytes_eq text (codes "'bytes'") || bytes_eq text (codes "\"bytes\"") then Some unit.Bytes else None)
