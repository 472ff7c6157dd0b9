-- Mirror for the prover: what is left to be laid, and what it comes to with the pieces so far.
use Rattle.std.specs.Prelude.{◌≡◌, ℕ, ◌<◌, List, [], ◌∷◌, ◌++◌, drop, map, Option, None, Some, slice_get}
use Rattle.dfdl_forms.specs.declared.simple.Simple.{Simple as SimpleType}
use Rattle.dfdl_value.specs.Types.{IsOfType}
use Rattle.dfdl_terms.specs.declared.representations.Representations.{Representations}
use Rattle.dfdl_terms.specs.declared.statement.Statements.{Statements}
use Rattle.dfdl_terms.specs.Rows.{Table}
use Rattle.dfdl_terms.specs.declared.event.Event.{Event}
use Rattle.dfdl_terms.specs.declared.event.Event.TheVariants.{Start, Simple, Nil, End}
use Rattle.dfdl_terms.specs.declared.row.Row.TheVariants.{Elem}
use Rattle.dfdl_json.specs.Paths.{Names}
use Rattle.dfdl_json.specs.Steps.{steps_of, total}
use Rattle.dfdl_pieces.specs.Laying.{Laying, Ended, Takes, laid, laying}
use Rattle.dfdl_pieces.specs.declared.unparsing.Task.{Task}
use Rattle.dfdl_pieces.specs.declared.unparsing.Task.TheVariants.{Lay, Close}
use Rattle.dfdl_pieces.specs.declared.unparsing.Unparsed.{Unparsed}
use Rattle.dfdl_pieces.specs.declared.unparsing.Unparser.{Unparser}

-- how many steps a task takes
abbrev pub task_steps : Table → Task → ℕ
task_steps t (Lay row) = steps_of t row
task_steps t Close = 1

-- how many steps are left
abbrev pub steps_left : Table → List Task → ℕ
steps_left t tasks = total (map (task_steps t) tasks)

-- how the tasks that are left are laid, in elements of these names
abbrev pub left : Table → List Task → Names → Laying
left t [] names = Ended
left t (Lay row ∷ tasks) names = laying t row names (left t tasks names)
left t (Close ∷ tasks) names = Takes (λ end. left t tasks (drop 1 names))

-- pieces before the others
abbrev pub with_pieces : List (List ℕ) → Unparsed → Unparsed
with_pieces pieces rest = record { pieces = pieces ++ rest.pieces; missing = rest.missing }

-- what all comes to, where this is laid next
abbrev pub outcome : Unparser → List Event → Laying → Unparsed
outcome u events next = with_pieces u.pieces (laid next (drop u.at events))

-- An unparser has laid what was next: what is next now comes to the same, or the element of a path is missing, and the
-- pieces are those so far.
abbrev pub Moves : List Event → Unparser → Laying → Unparser → Laying → Option (List ℕ) → Type 0
Moves events old next new rest None = outcome new events rest ≡ outcome old events next
Moves events old next new rest (Some path) = record { pieces = new.pieces; missing = Some path } ≡ outcome old events next

-- fewer steps are left, unless an element is missing
abbrev pub IsLess : Table → ℕ → Unparser → Option (List ℕ) → Type 0
IsLess t steps new None = steps_left t new.tasks.items < steps
IsLess t steps new (Some path) = Unit {0}

-- the value of a simple element is one of its type
abbrev pub IsTyped : Table → Event → Type 0
IsTyped t (Simple row value) = (name : List ℕ) (kind : SimpleType) (tried : Representations) (behind : Statements) (body : ℕ)
    → slice_get t.rows row ≡ Some (Elem name (Some kind) tried behind body) → IsOfType kind value
IsTyped t (Start row) = Unit {0}
IsTyped t (Nil row) = Unit {0}
IsTyped t End = Unit {0}
