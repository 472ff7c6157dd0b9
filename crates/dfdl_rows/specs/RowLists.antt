-- The rows of components: children first, in schema order, the component's own row last, once for each use ('DFDL Data
-- Syntax Grammar').
use Rattle.std.specs.Prelude.{ℕ, ◌+◌, ◌-◌, Bool, List, [], ◌∷◌, ◌++◌, length, get_or, Option, None, Some}
use Rattle.dfdl_forms.specs.declared.simple.Simple.{Simple}
use Rattle.dfdl_order.specs.Folds.{value_by}
use Rattle.dfdl_terms.specs.declared.framing.Framing.{Framing}
use Rattle.dfdl_terms.specs.declared.representations.Representations.{Representations}
use Rattle.dfdl_terms.specs.declared.row.Row.{Row}
use Rattle.dfdl_terms.specs.declared.row.Row.TheVariants.{Leaf, Elem, PrefixedLeaf, MeasuredLeaf, Statement, Hidden as HiddenRow}
use Rattle.dfdl_rows.specs.Components.{Schema, component_at, no_trials, slots_at}
use Rattle.dfdl_rows.specs.Boxes.{box_row}
use Rattle.dfdl_rows.specs.Framing.{concluded, framed, framed_row, opened}
use Rattle.dfdl_rows.specs.Scopes.{list_of, scanned_list, scope_rows, scoped_row, scope_size}
use Rattle.dfdl_rows.specs.Slots.{Kind, InOrder, grouped, kind_by, separator_list, slots_size}
use Rattle.dfdl_rows.specs.declared.component.ContentBox.{ContentBox}
use Rattle.dfdl_rows.specs.declared.component.LeafLength.{LeafLength}
use Rattle.dfdl_rows.specs.declared.component.LeafLength.TheVariants as leaf_length
use Rattle.dfdl_rows.specs.declared.component.Separated.{Separated}
use Rattle.dfdl_rows.specs.declared.times.Times.{Times}
use Rattle.dfdl_rows.specs.declared.component.Component.{Component}
use Rattle.dfdl_rows.specs.declared.component.Component.TheVariants.{Sequence, Choice, ComplexElement, SimpleElement, CalculatedElement, Hidden}

-- rows that are numbered from any number on
abbrev pub Numbered : Type 0
Numbered = ℕ → List Row

-- the row of the content of a simple element, which is read by the primitive of this number, with what gives its length where the primitive
-- doesn't: a length prefix before it, or an expression
abbrev pub leaf_row : LeafLength → ℕ → Row
leaf_row leaf_length.Own prim = Leaf prim
leaf_row (leaf_length.Prefixed prefix) prim = PrefixedLeaf prefix prim
leaf_row (leaf_length.Measured measure) prim = MeasuredLeaf measure prim

-- the rows of an element around the row of its content, from a number on: those that frame it, and its own, which has the statements that are
-- done behind it
abbrev pub element_rows : List ℕ → Option Simple → Representations → Framing → ℕ → ℕ → List Row
element_rows name simple tried framing content first =
    framed framing None content first ++ Elem name simple tried framing.behind (framed_row framing None content first) ∷ []

-- the rows of a complex element around the row of its content, from a number on: that of a box, then those of an element
abbrev pub boxed_rows : List ℕ → Framing → ContentBox → ℕ → ℕ → List Row
boxed_rows name framing box content first =
    box_row box content ∷ element_rows name None no_trials framing first (first + 1)

-- rows around the row of a content, from a number on: that of the scope of a list, and others, which are around both
abbrev pub scoped : Option ℕ → (ℕ → ℕ → List Row) → ℕ → ℕ → List Row
scoped list around content first =
    scope_rows list content ++ around (scoped_row list content first) (first + scope_size list)

-- the rows of a sequence or choice around the row of its group, from a number on: that of the scope of its separators, that of the scope of its
-- terminator, and those that frame it, with the instances that are open in it
abbrev pub sequence_rows : Framing → Option ℕ → ℕ → ℕ → List Row
sequence_rows framing separators = scoped separators (scoped (list_of framing.terminator) (opened framing separators))

-- the rows of a sequence or choice of its own, from a number on, where these are the last rows of its parts, which occur so often, but for
-- the one behind which statements are done: those of its group, and those around it
abbrev pub around_rows : Kind → Framing → Option Separated → Bool → List Times → List ℕ → ℕ → List Row
around_rows kind framing separated initiated slots parts first =
    grouped kind initiated separated slots parts first
    ++ sequence_rows framing (separator_list separated) (first + slots_size separated slots) (first + slots_size separated slots + 1)

-- all rows of a sequence or choice of its own: these, and around all of them that behind which statements are done, where there are some
abbrev pub group_rows : Kind → Framing → Option Separated → Bool → List Times → List ℕ → ℕ → List Row
group_rows kind framing separated initiated slots parts first =
    concluded framing.behind (around_rows kind framing separated initiated slots parts first) first

-- the rows of a component's own, from a number on, where these are the last rows of its parts, which occur so often: that of its
-- content, which is that of a group for a sequence or choice, and a part's for a complex element; those of the scopes of its
-- separators and of its terminator around it, the latter for a simple element only where markup ends its content, for a complex element
-- that of a box around this, then those that frame it, and for an element its own; for an element whose value is calculated the row of the
-- statement that does it stands in place of a content; and for a hidden group that which hides it
abbrev pub own_rows : Component → List Times → List ℕ → ℕ → List Row
own_rows (Sequence framing separated initiated) slots parts first = group_rows InOrder framing separated initiated slots parts first
own_rows (Choice framing initiated dispatch) slots parts first = group_rows (kind_by dispatch) framing None initiated slots parts first
own_rows (ComplexElement name framing box occurs often) slots parts first =
    scoped (list_of framing.terminator) (boxed_rows name framing box) (get_or parts 0 0) first
own_rows (SimpleElement name simple prim framing own_length tried scanned occurs often) slots parts first =
    leaf_row own_length prim
    ∷ scoped (scanned_list scanned framing.terminator) (element_rows name (Some simple) tried framing) first (first + 1)
own_rows (CalculatedElement name simple statement framing) slots parts first =
    Statement statement ∷ element_rows name (Some simple) no_trials framing first (first + 1)
own_rows Hidden slots parts first = HiddenRow (get_or parts 0 0) ∷ []

-- the rows of parts, one part after the other
abbrev pub in_turn : List Numbered → Numbered
in_turn [] first = []
in_turn (rows ∷ others) first = rows first ++ in_turn others (first + length (rows first))

-- the number of each part's last row
abbrev pub last_rows : List Numbered → ℕ → List ℕ
last_rows [] first = []
last_rows (rows ∷ others) first = (first + length (rows first) - 1) ∷ last_rows others (first + length (rows first))

-- the rows of a component's parts, and its own behind them
abbrev pub rows_from : Schema → ℕ → List Numbered → Numbered
rows_from s c parts first =
    in_turn parts first
    ++ own_rows (component_at s.components c) (slots_at s c) (last_rows parts first) (first + length (in_turn parts first))

-- no rows, wherever they begin
abbrev pub no_rows : Numbered
no_rows first = []

-- the rows of a component, numbered from a number on
abbrev pub rows_at : Schema → ℕ → Numbered
rows_at s c = value_by s.uses (rows_from s) no_rows c

-- the rows of a root
abbrev pub rows_of : Schema → ℕ → List Row
rows_of s root = rows_at s root 0
