-- What stands in a row: the rows right inside of it, and what an element, a group or a statement has.
use Rattle.std.specs.Prelude.{ℕ, List, [], ◌∷◌, map, Option, Some, None}
use Rattle.dfdl_forms.specs.declared.simple.Simple.{Simple}
use Rattle.dfdl_terms.specs.declared.row.Row.{Row}
use Rattle.dfdl_terms.specs.declared.slots.Slot.{Slot}
use Rattle.dfdl_statements.specs.declared.rows.Instance.{Instance as InstanceOf}
use Rattle.dfdl_terms.specs.declared.row.Row.TheVariants.{Leaf, Elem, Group, Skip, Align, Initiator, Terminator, Separator, Scope, Boxed, PrefixedLeaf, PrefixedBox, MeasuredLeaf, MeasuredBox, Repeat, Counted, Optional, Choice, Dispatch, Statement, Concluded, Hidden, Spanned, Instance, Separated}

-- their numbers, in schema order
abbrev pub children_of : Row → List ℕ
children_of (Leaf prim) = []
children_of (Elem name simple tried behind body) = body ∷ []
children_of (Group children) = children
children_of (Skip bits) = []
children_of (Align bits) = []
children_of (Initiator delimiter) = []
children_of (Terminator delimiter separators) = []
children_of Separator = []
children_of (Scope list body) = body ∷ []
children_of (Boxed bits body) = body ∷ []
children_of (PrefixedLeaf prefix prim) = []
children_of (PrefixedBox prefix body) = body ∷ []
children_of (MeasuredLeaf measure prim) = []
children_of (MeasuredBox measure body) = body ∷ []
children_of (Repeat count body) = body ∷ []
children_of (Counted question body) = body ∷ []
children_of (Optional most item initiated body) = body ∷ []
children_of (Choice branches initiated) = branches
children_of (Dispatch question keys) = map (λ key. key.body) keys
children_of (Statement statement) = []
children_of (Concluded behind body) = body ∷ []
children_of (Hidden body) = body ∷ []
children_of (Spanned body) = body ∷ []
children_of (Instance statement body) = body ∷ []
children_of (Separated policy position initiated slots) = map (λ slot. slot.body) slots

-- the same, where there may be no row
abbrev pub children_in : Option Row → List ℕ
children_in None = []
children_in (Some row) = children_of row

-- the content of an element
abbrev pub content_in : Option Row → Option ℕ
content_in (Some (Elem name simple tried behind body)) = Some body
content_in _ = None

-- its local name
abbrev pub name_in : Option Row → Option (List ℕ)
name_in (Some (Elem name simple tried behind body)) = Some name
name_in _ = None

-- its simple type, if it has one
abbrev pub simple_in : Option Row → Option Simple
simple_in (Some (Elem name simple tried behind body)) = simple
simple_in _ = None

-- the rows of a group
abbrev pub group_in : Option Row → Option (List ℕ)
group_in (Some (Group children)) = Some children
group_in _ = None

-- the statement that a row is, or by which it asks for its length
abbrev pub statement_in : Option Row → Option ℕ
statement_in (Some (Statement statement)) = Some statement
statement_in (Some (MeasuredLeaf measure prim)) = Some measure.question
statement_in (Some (MeasuredBox measure body)) = Some measure.question
statement_in _ = None

-- the statement by which a row asks how often what is in it occurs, or which branch is taken
abbrev pub question_in : Option Row → Option ℕ
question_in (Some (Counted question body)) = Some question
question_in (Some (Dispatch question keys)) = Some question
question_in _ = None

-- the row that another one repeats as often as an expression tells
abbrev pub counted_in : Option Row → Option ℕ
counted_in (Some (Counted question body)) = Some body
counted_in _ = None

-- the slots of a row, which may ask how often what is in them occurs
abbrev pub slots_in : Option Row → List Slot
slots_in (Some (Separated policy position initiated slots)) = slots
slots_in _ = []

-- the instance of a variable that a row opens
abbrev pub instance_in : Option Row → Option InstanceOf
instance_in (Some (Instance statement body)) = Some (record { statement = statement; body = body })
instance_in _ = None
