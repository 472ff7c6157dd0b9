-- What the parts of an expression are: their types, and what is wrong in them. 'DFDL Expression Language'.
use Rattle.std.specs.Prelude.{ℕ, Bool, true, false, ◌||◌, not, if◌then◌else◌, Option, Some, None, List, [], ◌∷◌, ◌++◌, bytes_eq, codes}
use Rattle.dfdl_expression_tree.specs.declared.token.Operator.{Operator}
use Rattle.dfdl_expression_tree.specs.declared.token.Operator.TheVariants as o
use Rattle.dfdl_expression_tree.specs.declared.node.Leaf.{Leaf}
use Rattle.dfdl_expression_tree.specs.declared.node.Leaf.TheVariants as leaf
use Rattle.dfdl_expression_tree.specs.declared.node.Unary.{Unary}
use Rattle.dfdl_expression_tree.specs.declared.node.Unary.TheVariants as unary
use Rattle.dfdl_expression_tree.specs.declared.node.Binary.{Binary}
use Rattle.dfdl_expression_tree.specs.declared.node.Binary.TheVariants as binary
use Rattle.dfdl_expression_tree.specs.Trees.{Formula, End, One, Two, Choose}
use Rattle.dfdl_expression_types.specs.declared.types.ValueType.{ValueType}
use Rattle.dfdl_expression_types.specs.declared.types.ValueType.TheVariants as one
use Rattle.dfdl_expression_types.specs.declared.types.Types.{Types}
use Rattle.dfdl_expression_types.specs.declared.statics.Place.{Place}
use Rattle.dfdl_expression_types.specs.declared.statics.Place.TheVariants.{Above}
use Rattle.dfdl_expression_types.specs.declared.statics.Statics.{Statics}
use Rattle.dfdl_expression_types.specs.declared.statics.Variable.{Variable}
use Rattle.dfdl_expression_types.specs.declared.callee.Argument.{Argument}
use Rattle.dfdl_expression_types.specs.declared.callee.Callee.{Callee}
use Rattle.dfdl_expression_types.specs.declared.callee.Given.{Given}
use Rattle.dfdl_expression_types.specs.declared.callee.Given.TheVariants as given
use Rattle.dfdl_expression_types.specs.declared.note.Faults.{Faults}
use Rattle.dfdl_expression_types.specs.declared.note.Shape.{Shape}
use Rattle.dfdl_expression_types.specs.declared.note.Shape.TheVariants as shape
use Rattle.dfdl_expression_types.specs.declared.note.Note.{Note}
use Rattle.dfdl_expression_types.specs.Callees.{callee_of, is_call, given_by}
use Rattle.dfdl_expression_types.specs.Declarations.{name_number, variable_named}
use Rattle.dfdl_expression_types.specs.Paths.{children_of, parents_of, elements_of, is_nowhere, path_types}
use Rattle.dfdl_expression_types.specs.TypeSets as sets
use Rattle.dfdl_expression_types.specs.Words.{word, local_of}

-- what is wrong: types that don't fit, a path that leads to no declaration, a variable that isn't declared
abbrev pub faults : Bool → Bool → Bool → Faults
faults types path variable = record { types = types; path = path; variable = variable }

abbrev pub no_fault : Faults
no_fault = faults false false false

-- what is wrong in one of two parts
abbrev pub joined : Faults → Faults → Faults
joined a b = faults (a.types || b.types) (a.path || b.path) (a.variable || b.variable)

-- what is wrong where types don't fit by a test, too
abbrev pub or_types : Bool → Faults → Faults
or_types wrong f = faults (wrong || f.types) f.path f.variable

abbrev pub or_path : Bool → Faults → Faults
or_path wrong f = faults f.types (wrong || f.path) f.variable

abbrev pub note : Shape → Faults → Note
note s f = record { shape = s; faults = f }

-- the types of a part
abbrev pub types_of : Statics → Shape → Types
types_of s (shape.Value types) = types
types_of s shape.Unit = sets.only one.Text
types_of s (shape.Path places) = path_types s places
types_of s (shape.Arguments arguments) = sets.every

-- where a path leads; what is none leads nowhere
abbrev pub places_of : Shape → List Place
places_of (shape.Path places) = places
places_of _ = []

-- the arguments of a call
abbrev pub arguments_of : Shape → List Argument
arguments_of (shape.Arguments arguments) = arguments
arguments_of _ = []

-- how a part is given as an argument
abbrev pub given_as : Shape → Given
given_as (shape.Path places) = given.Path
given_as shape.Unit = given.Unit
given_as _ = given.Plain

-- a part as an argument of a call
abbrev pub argument_of : Statics → Shape → Argument
argument_of s part = record { types = types_of s part; given = given_as part }

-- a text in quotes that is a unit of length
unfoldable pub is_unit_text : List ℕ → Bool
is_unit_text text =
    bytes_eq text (codes "'bits'") || bytes_eq text (codes "'bytes'")
    || bytes_eq text (codes "\"bits\"") || bytes_eq text (codes "\"bytes\"")

abbrev pub text_shape : List ℕ → Shape
text_shape text = if is_unit_text text then shape.Unit else shape.Value (sets.only one.Text)

-- a variable, which has to be declared
abbrev pub variable_note : Option Variable → Note
variable_note None = note (shape.Value sets.every) (faults false false true)
variable_note (Some variable) = note (shape.Value (sets.only (sets.type_of variable.simple))) no_fault

-- the variable of a name
abbrev pub named_note : Statics → List ℕ → Note
named_note s name = variable_note (variable_named s (local_of name))

-- a part without operands
abbrev pub leaf_note : Statics → List ℕ → Leaf → Note
leaf_note s text (leaf.Number span) = note (shape.Value (sets.only one.Number)) no_fault
leaf_note s text (leaf.Text span) = note (text_shape (word text span)) no_fault
leaf_note s text (leaf.Variable span) = named_note s (word text span)
leaf_note s text leaf.Context = note (shape.Path (s.place ∷ [])) no_fault
leaf_note s text leaf.Root = note (shape.Path (Above ∷ [])) no_fault
leaf_note s text leaf.NoArguments = note (shape.Arguments []) no_fault

-- a path that leads to these places, behind what is wrong before
abbrev pub path_note : List Place → Faults → Note
path_note places f = note (shape.Path places) (or_path (is_nowhere places) f)

-- a path with a step by this name behind these places
abbrev pub child_note : Statics → List ℕ → List Place → Faults → Note
child_note s name places f = path_note (children_of s (name_number s (local_of name)) places) f

-- a call with these arguments
abbrev pub call_note : Option Callee → List Argument → Faults → Note
call_note function arguments f = note (shape.Value (given_by function)) (or_types (not (is_call function arguments)) f)

-- a value of these types with its sign changed
abbrev pub negative_note : Types → Faults → Note
negative_note operand f = note (shape.Value (sets.only one.Number)) (or_types (sets.are_apart operand (sets.only one.Number)) f)

-- a part with one operand
abbrev pub unary_note : Statics → List ℕ → Unary → Note → Note
unary_note s text unary.Here a = path_note (elements_of (places_of a.shape)) a.faults
unary_note s text unary.Parent a = path_note (parents_of s (places_of a.shape)) a.faults
unary_note s text (unary.Child span) a = child_note s (word text span) (places_of a.shape) a.faults
unary_note s text (unary.Call span) a = call_note (callee_of s (word text span)) (arguments_of a.shape) a.faults
unary_note s text unary.Negative a = negative_note (types_of s a.shape) a.faults

-- a value of a type, where both operands have to have this one
abbrev pub calculated : ValueType → Types → Types → Faults → Note
calculated kind left right f =
    note (shape.Value (sets.only kind)) (or_types (sets.are_apart left (sets.only kind) || sets.are_apart right (sets.only kind)) f)

-- a value, where both operands have to have one type
abbrev pub compared : Types → Types → Faults → Note
compared left right f = note (shape.Value (sets.only one.Truth)) (or_types (sets.are_apart left right) f)

-- an operation on values of these types
abbrev pub operation_note : Operator → Types → Types → Faults → Note
operation_note o.Or left right f = calculated one.Truth left right f
operation_note o.And left right f = calculated one.Truth left right f
operation_note o.Equal left right f = compared left right f
operation_note o.NotEqual left right f = compared left right f
operation_note o.Less left right f = compared left right f
operation_note o.LessOrEqual left right f = compared left right f
operation_note o.Greater left right f = compared left right f
operation_note o.GreaterOrEqual left right f = compared left right f
operation_note o.Plus left right f = calculated one.Number left right f
operation_note o.Minus left right f = calculated one.Number left right f
operation_note o.Times left right f = calculated one.Number left right f
operation_note o.Divide left right f = calculated one.Number left right f
operation_note o.WholeDivide left right f = calculated one.Number left right f
operation_note o.Remainder left right f = calculated one.Number left right f

-- a path with an index of these types behind it
abbrev pub item_note : List Place → Types → Faults → Note
item_note places index f = note (shape.Path places) (or_types (sets.are_apart index (sets.only one.Number)) f)

-- a part with two operands: an operation, arguments with one more, or a path with an index, which has to be a number
abbrev pub binary_note : Statics → Binary → Note → Note → Note
binary_note s (binary.Operation operator) l r = operation_note operator (types_of s l.shape) (types_of s r.shape) (joined l.faults r.faults)
binary_note s binary.Argument l r =
    note (shape.Arguments (arguments_of l.shape ++ argument_of s r.shape ∷ [])) (joined l.faults r.faults)
binary_note s binary.Item l r = item_note (places_of l.shape) (types_of s r.shape) (joined l.faults r.faults)

-- a conditional with these types of its test and its branches: it gives what both branches can give
abbrev pub conditional : Types → Types → Types → Faults → Note
conditional test first second f =
    note (shape.Value (sets.both first second)) (or_types (sets.are_apart test (sets.only one.Truth) || sets.are_apart first second) f)

abbrev pub choice_note : Statics → Note → Note → Note → Note
choice_note s t a b =
    conditional (types_of s t.shape) (types_of s a.shape) (types_of s b.shape) (joined t.faults (joined a.faults b.faults))

-- what a tree is, whose names stand in a text
abbrev pub noted : Statics → List ℕ → Formula → Note
noted s text (End l) = leaf_note s text l
noted s text (One u a) = unary_note s text u (noted s text a)
noted s text (Two b l r) = binary_note s b (noted s text l) (noted s text r)
noted s text (Choose t a b) = choice_note s (noted s text t) (noted s text a) (noted s text b)
