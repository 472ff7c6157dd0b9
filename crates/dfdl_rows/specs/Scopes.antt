-- The row around a content inside of which a text of a list ends a content: of the component's terminator ('Framing'), or of its
-- separators ('Sequence Groups').
use Rattle.std.specs.Prelude.{ℕ, Bool, List, [], ◌∷◌, Option, None, Some, option_map, if◌then◌else◌}
use Rattle.dfdl_terms.specs.declared.delimiters.Delimiter.{Delimiter}
use Rattle.dfdl_terms.specs.declared.row.Row.{Row}
use Rattle.dfdl_terms.specs.declared.row.Row.TheVariants.{Scope}

-- the number of the list of a delimiter, where there is one
abbrev pub list_of : Option Delimiter → Option ℕ
list_of delimiter = option_map (λ own. own.list) delimiter

-- the same of the terminator of a simple element, inside of whose scope its content stands where markup ends that
abbrev pub scanned_list : Bool → Option Delimiter → Option ℕ
scanned_list scanned terminator = if scanned then list_of terminator else None

-- the rows of a scope around the row of a content: one, and none where there is no list
abbrev pub scope_rows : Option ℕ → ℕ → List Row
scope_rows None content = []
scope_rows (Some list) content = Scope list content ∷ []

-- the number of the row that stands for the content in its scope, where a scope has this number
abbrev pub scoped_row : Option ℕ → ℕ → ℕ → ℕ
scoped_row None content first = content
scoped_row (Some list) content first = first

-- how many rows a scope is
abbrev pub scope_size : Option ℕ → ℕ
scope_size None = 0
scope_size (Some list) = 1
