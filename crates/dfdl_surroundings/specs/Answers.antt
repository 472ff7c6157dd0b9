-- What an expression is answered while data is parsed. 'DFDL Expression Language'. The causes of faults are those of expressions: 1, there
-- is no such item, or it isn't known yet; 2, there are several; 3, it has no value; 7, the variable has no value.
use Rattle.std.specs.Prelude.{ℕ, nat_lt, if◌then◌else◌, List, length, Option, Some, None, Result, Ok, Err, pos, slice_get}
use Rattle.dfdl_value.specs.declared.value.Value.{Value}
use Rattle.dfdl_value.specs.declared.value.Value.TheVariants.{Int}
use Rattle.dfdl_expressions.specs.declared.operator.Extent.{Extent}
use Rattle.dfdl_expressions.specs.declared.operator.Extent.TheVariants as extent
use Rattle.dfdl_expressions.specs.declared.path.Path.{Path}
use Rattle.dfdl_expression_eval.specs.Asks.{Query, Item, Count, Length, Variable, OccursIndex}
use Rattle.dfdl_expression_eval.specs.declared.env.Evaluated.{Evaluated}
use Rattle.dfdl_expression_eval.specs.declared.env.Evaluated.TheVariants.{Known, Fault}
use Rattle.dfdl_region.specs.declared.node.Lengths.{Lengths}
use Rattle.dfdl_region.specs.declared.node.Node.{Node}
use Rattle.dfdl_paths.specs.declared.found.Found.{Found}
use Rattle.dfdl_paths.specs.declared.found.Found.TheVariants as found
use Rattle.dfdl_paths.specs.declared.place.Start.{Start}
use Rattle.dfdl_paths.specs.declared.place.Start.TheVariants as start
use Rattle.dfdl_paths.specs.Leads.{items}
use Rattle.dfdl_paths.specs.Values.{found_of, found_value, index_of}
use Rattle.dfdl_vars.specs.Kept.{Kept, place_now, value_of, with_read}
use Rattle.dfdl_surroundings.specs.Around.{Around, Seen}

-- a whole number, as the value that carries it
abbrev pub whole : ℕ → Evaluated
whole n = Known (Int (pos n))

-- a value, or the fault in its place
abbrev pub told : Result Value ℕ → Evaluated
told (Ok value) = Known value
told (Err cause) = Fault cause

-- a value that may not be there
abbrev pub told_or : ℕ → Option Value → Evaluated
told_or cause None = Fault cause
told_or cause (Some value) = Known value

-- how long the content or the value is, in bits
abbrev pub length_in : Extent → Lengths → ℕ
length_in extent.Value lengths = lengths.value
length_in extent.Content lengths = lengths.content

-- a length that may not be known yet (1)
abbrev pub length_told : Extent → Option Lengths → Evaluated
length_told extent None = Fault 1
length_told extent (Some lengths) = whole (length_in extent lengths)

-- what is known of the lengths of an element, if there is one
abbrev pub lengths_of : Option Node → Option Lengths
lengths_of None = None
lengths_of (Some node) = node.lengths

-- the length of the only item: there may be none (1) or several (2)
abbrev pub found_length : List Node → Extent → Found → Evaluated
found_length nodes extent found.None = Fault 1
found_length nodes extent (found.One number) = length_told extent (lengths_of (slice_get nodes number))
found_length nodes extent found.Several = Fault 2

-- the element that has the expression, or in which the group stands that has it
abbrev pub element_of : Start → ℕ
element_of (start.At number) = number
element_of (start.Inside number) = number

-- the elements that a path leads to
abbrev pub items_of : Seen → Path → List ℕ → List ℕ
items_of seen path places = items seen.names seen.nodes seen.start path places

-- the value of the variable of a number, if there is such a variable and it has one
abbrev pub variable_value : Kept → ℕ → Option Value
variable_value kept number = if nat_lt number kept.globals then value_of kept number else None

-- the variables when the one of a number was read: its instance is read then, whether it has a value or not
abbrev pub variable_read : Kept → ℕ → Kept
variable_read kept number = if nat_lt number kept.globals then with_read kept (place_now kept number) else kept

abbrev pub around : Seen → Kept → Around
around seen variables = record { seen = seen; variables = variables }

-- What each question is answered: the value of the only item, how many items there are, the length of the only item in bits, the value of a
-- variable (7 where it has none), and the number of the innermost occurrence.
abbrev pub answer_in : Around → Query → Evaluated
answer_in around (Item path places) = told (found_value around.seen.nodes around.seen.text (found_of (items_of around.seen path places)))
answer_in around (Count path places) = whole (length (items_of around.seen path places))
answer_in around (Length path places extent) = found_length around.seen.nodes extent (found_of (items_of around.seen path places))
answer_in around (Variable number) = told_or 7 (variable_value around.variables number)
answer_in around OccursIndex = whole (index_of around.seen.marks around.seen.nodes (element_of around.seen.start))

-- what stands around an expression when a variable was read
abbrev pub read_in : Around → ℕ → Around
read_in around number = record around { variables = variable_read around.variables number }
