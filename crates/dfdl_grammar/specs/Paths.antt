-- The path of an element: the names of the elements from the root down to it, each behind a `/`, and behind the name of an
-- item its place in its array, in brackets.
use Rattle.std.specs.Prelude.{ℕ, zero, suc, nat_eq, Bool, ◌&&◌, if◌then◌else◌, List, [], ◌++◌, take, codes, decimal, Option, Some, None, slice_get}
use Rattle.std.specs.List.{count_by}
use Rattle.dfdl_terms.specs.declared.row.Row.{Row}
use Rattle.dfdl_terms.specs.declared.row.Row.TheVariants.{Leaf, Elem, Group, Skip, Align, Initiator, Terminator, Separator, Scope, Boxed, PrefixedLeaf, PrefixedBox, MeasuredLeaf, MeasuredBox, Repeat, Counted, Optional, Choice, Dispatch, Statement, Concluded, Hidden, Spanned, Instance, Separated}
use Rattle.dfdl_terms.specs.Rows.{Table}
use Rattle.dfdl_terms.specs.Arrays.{is_item}
use Rattle.dfdl_region.specs.declared.node.Node.{Node}

-- the local name of the element whose row this is
abbrev pub name_of : Option Row → List ℕ
name_of None = []
name_of (Some (Leaf prim)) = []
name_of (Some (Elem name simple tried behind body)) = name
name_of (Some (Group children)) = []
name_of (Some (Skip bits)) = []
name_of (Some (Align bits)) = []
name_of (Some (Initiator delimiter)) = []
name_of (Some (Terminator delimiter separators)) = []
name_of (Some Separator) = []
name_of (Some (Scope list body)) = []
name_of (Some (Boxed bits body)) = []
name_of (Some (PrefixedLeaf prefix prim)) = []
name_of (Some (PrefixedBox prefix body)) = []
name_of (Some (MeasuredLeaf measure prim)) = []
name_of (Some (MeasuredBox measure body)) = []
name_of (Some (Repeat count body)) = []
name_of (Some (Counted question body)) = []
name_of (Some (Optional most item initiated body)) = []
name_of (Some (Choice branches initiated)) = []
name_of (Some (Dispatch question keys)) = []
name_of (Some (Statement statement)) = []
name_of (Some (Concluded behind body)) = []
name_of (Some (Hidden body)) = []
name_of (Some (Spanned body)) = []
name_of (Some (Instance statement body)) = []
name_of (Some (Separated policy position initiated slots)) = []

-- the local name of an element
abbrev pub node_name : Table → Option Node → List ℕ
node_name table None = []
node_name table (Some node) = name_of (slice_get table.rows node.element)

-- the number of the element that an element stands in
abbrev pub outer_of : Option Node → ℕ
outer_of None = 0
outer_of (Some node) = node.parent

-- two elements are of the same row, in the same element
abbrev pub stand_together : Node → Node → Bool
stand_together one other = nat_eq one.element other.element && nat_eq one.parent other.parent

-- the place of an item in its array, counted from 1: how many elements of its row there are in its element, up to and with it
abbrev pub place_of : List Node → ℕ → Node → ℕ
place_of nodes number node = count_by (stand_together node) (take (suc number) nodes)

-- the place of an item in brackets; no other element has one
abbrev pub place_text : Table → List Node → ℕ → Option Node → List ℕ
place_text table nodes number None = []
place_text table nodes number (Some node) =
    if is_item table.rows node.element then codes "[" ++ (decimal (place_of nodes number node) ++ codes "]") else []

-- the step of a path to the element of this number
abbrev pub step_to : Table → List Node → ℕ → List ℕ
step_to table nodes number =
    codes "/" ++ (node_name table (slice_get nodes number) ++ place_text table nodes number (slice_get nodes number))

-- the path from at most so many elements further out
unfoldable pub path_within : Table → List Node → ℕ → ℕ → List ℕ
path_within table nodes steps zero = step_to table nodes 0
path_within table nodes zero (suc number) = step_to table nodes (suc number)
path_within table nodes (suc steps) (suc number) =
    path_within table nodes steps (outer_of (slice_get nodes (suc number))) ++ step_to table nodes (suc number)

-- the path of the element of this number
abbrev pub path_of : Table → List Node → ℕ → List ℕ
path_of table nodes number = path_within table nodes number number
