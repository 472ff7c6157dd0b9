-- Mirror for the prover: how many steps the reading of contents takes.
use Rattle.std.specs.Prelude.{ℕ, suc, ◌+◌, if◌then◌else◌, List, map, Option, None, Some}
use Rattle.serde_json.specs.Data.{Data, null, boolean, number, string, array, object, Items, no_items, item as one_item, Members}
use Rattle.serde_json.specs.Find.{get_member}
use Rattle.dfdl_terms.specs.Arrays.{is_item}
use Rattle.dfdl_terms.specs.Rows.{Table}
use Rattle.dfdl_terms.specs.declared.row.Row.{Row}
use Rattle.dfdl_terms.specs.declared.row.Row.TheVariants.{Leaf, Elem, Group, Skip, Align, Initiator, Terminator, Separator, Scope, Boxed, PrefixedLeaf, PrefixedBox, MeasuredLeaf, MeasuredBox, Repeat, Counted, Optional, Choice, Dispatch, Statement, Concluded, Hidden, Spanned, Instance, Separated}
use Rattle.dfdl_json.specs.ByRows.{by_rows}
use Rattle.dfdl_json.specs.Children.{name_of}
use Rattle.dfdl_json.specs.Members.{members_in}
use Rattle.dfdl_json.specs.Steps.{total}

-- the steps of items, each of which takes one and what is inside
abbrev pub items_cost : (Data → ℕ) → Items → ℕ
items_cost inside no_items = 0
items_cost inside (one_item content rest) = suc (inside content) + items_cost inside rest

-- the steps of an array
abbrev pub array_cost : (Data → ℕ) → Data → ℕ
array_cost inside (array items) = suc (items_cost inside items)
array_cost inside null = 1
array_cost inside (boolean b) = 1
array_cost inside (number n) = 1
array_cost inside (string text) = 1
array_cost inside (object entries) = 1

-- the steps of the member of an element
abbrev pub member_cost : Table → (ℕ → Data → ℕ) → ℕ → Option Data → ℕ
member_cost t inside row None = 0
member_cost t inside row (Some content) = if is_item t.rows row then array_cost (inside row) content else suc (inside row content)

-- the steps of the members of these elements
abbrev pub children_cost : Table → (ℕ → Data → ℕ) → List ℕ → Members → ℕ
children_cost t inside elements entries = total (map (λ row. member_cost t inside row (get_member (name_of t row) entries)) elements)

-- the steps of what is inside a complex element, and of its end
abbrev pub complex_cost : Table → (ℕ → Data → ℕ) → List ℕ → Data → ℕ
complex_cost t inside elements (object entries) = suc (children_cost t inside elements entries)
complex_cost t inside elements null = 0
complex_cost t inside elements (boolean b) = 0
complex_cost t inside elements (number n) = 0
complex_cost t inside elements (string text) = 0
complex_cost t inside elements (array items) = 0

-- the steps of what is inside an occurrence of a row's element, where `inside` has those of the rows below
abbrev pub cost_by : Table → (ℕ → Data → ℕ) → ℕ → Option Row → Data → ℕ
cost_by t inside row (Some (Elem name (Some kind) tried behind body)) content = 0
cost_by t inside row (Some (Elem name None tried behind body)) content = complex_cost t inside (members_in t body) content
cost_by t inside row (Some (Leaf prim)) content = 0
cost_by t inside row (Some (Group children)) content = 0
cost_by t inside row (Some (Skip bits)) content = 0
cost_by t inside row (Some (Align bits)) content = 0
cost_by t inside row (Some (Initiator delimiter)) content = 0
cost_by t inside row (Some (Terminator delimiter separators)) content = 0
cost_by t inside row (Some Separator) content = 0
cost_by t inside row (Some (Scope list body)) content = 0
cost_by t inside row (Some (Boxed bits body)) content = 0
cost_by t inside row (Some (PrefixedLeaf prefix prim)) content = 0
cost_by t inside row (Some (PrefixedBox prefix body)) content = 0
cost_by t inside row (Some (MeasuredLeaf measure prim)) content = 0
cost_by t inside row (Some (MeasuredBox measure body)) content = 0
cost_by t inside row (Some (Repeat count body)) content = 0
cost_by t inside row (Some (Counted question body)) content = 0
cost_by t inside row (Some (Optional most item initiated body)) content = 0
cost_by t inside row (Some (Choice branches initiated)) content = 0
cost_by t inside row (Some (Dispatch question keys)) content = 0
cost_by t inside row (Some (Statement statement)) content = 0
cost_by t inside row (Some (Concluded behind body)) content = 0
cost_by t inside row (Some (Hidden body)) content = 0
cost_by t inside row (Some (Spanned body)) content = 0
cost_by t inside row (Some (Instance statement body)) content = 0
cost_by t inside row (Some (Separated policy position initiated slots)) content = 0
cost_by t inside row None content = 0

-- the steps of what is inside an occurrence of the element of this row
abbrev pub cost : Table → ℕ → Data → ℕ
cost t row = by_rows (cost_by t) (λ content. 0) t.rows row
