-- Mirror for the prover: a walk over components, and what it makes of the tasks that are left.
use Rattle.std.specs.Prelude.{ℕ, ◌+◌, ◌-◌, List, [], ◌∷◌, ◌++◌, length, take, drop}
use Rattle.dfdl_order.specs.Parts.{uses_of}
use Rattle.dfdl_order.specs.Folds.{value_by}
use Rattle.dfdl_terms.specs.declared.row.Row.{Row}
use Rattle.dfdl_rows.specs.Components.{Schema, component_at, slots_at}
use Rattle.dfdl_rows.specs.Sizes.{total}
use Rattle.dfdl_rows.specs.RowLists.{rows_at, own_rows}
use Rattle.dfdl_rows.specs.declared.walk.Task.{Task}
use Rattle.dfdl_rows.specs.declared.walk.Task.TheVariants.{Enter, Close}

-- the rows so far, and the last rows of the components whose user is not closed yet
pub record Made : Type 0 where
  pub rows : List Row
  pub lasts : List ℕ

-- the same, from its parts
abbrev pub made : List Row → List ℕ → Made
made rows lasts = record { rows = rows; lasts = lasts }

-- rows are added, of which the last is that of one more component
abbrev pub with_rows : Made → List ℕ → List Row → Made
with_rows m lasts more = made (m.rows ++ more) (lasts ++ (length (m.rows ++ more) - 1) ∷ [])

-- all rows of a component are added
abbrev pub entered : Schema → ℕ → Made → Made
entered s c m = with_rows m m.lasts (rows_at s c (length m.rows))

-- the last rows of components that are no parts of this one
abbrev pub kept : Schema → ℕ → List ℕ → ℕ
kept s c lasts = length lasts - length (uses_of s.uses c)

-- the rows of a component's own are added, behind those of its parts
abbrev pub closed : Schema → ℕ → Made → Made
closed s c m = with_rows m (take (kept s c m.lasts) m.lasts)
    (own_rows (component_at s.components c) (slots_at s c) (drop (kept s c m.lasts) m.lasts) (length m.rows))

-- a task is done
abbrev pub done : Schema → Task → Made → Made
done s (Enter c) m = entered s c m
done s (Close c) m = closed s c m

-- all tasks are done, the first one first
unfoldable pub all_done : Schema → List Task → Made → Made
all_done s [] m = m
all_done s (t ∷ ts) m = all_done s ts (done s t m)

-- the component of a task
abbrev pub component_of : Task → ℕ
component_of (Enter c) = c
component_of (Close c) = c

-- the tasks that come of a component: its own two, and those of its parts
abbrev pub steps_from : ℕ → List ℕ → ℕ
steps_from c of_parts = 2 + total of_parts

-- how many tasks come of one
abbrev pub steps_of : Schema → Task → ℕ
steps_of s (Enter c) = value_by s.uses steps_from 0 c
steps_of s (Close c) = 1

-- how many tasks are still to be done
abbrev pub steps_left : Schema → List Task → ℕ
steps_left s [] = 0
steps_left s (t ∷ ts) = steps_of s t + steps_left s ts
