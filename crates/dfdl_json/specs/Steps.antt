-- Mirror for the prover: how many steps a walk over a row takes.
use Rattle.std.specs.Prelude.{ℕ, ◌+◌, List, [], ◌∷◌, map, Option, None, Some}
use Rattle.dfdl_terms.specs.Rows.{Table}
use Rattle.dfdl_terms.specs.declared.row.Row.{Row}
use Rattle.dfdl_terms.specs.declared.row.Row.TheVariants.{Leaf, Elem, Group, Skip, Align, Initiator, Terminator, Separator, Scope, Boxed, PrefixedLeaf, PrefixedBox, MeasuredLeaf, MeasuredBox, Repeat, Counted, Optional, Choice, Dispatch, Statement, Concluded, Hidden, Spanned, Instance, Separated}
use Rattle.dfdl_json.specs.ByRows.{by_rows}
use Rattle.dfdl_json.specs.Children.{bodies_of, keyed}

-- numbers added up
abbrev pub total : List ℕ → ℕ
total [] = 0
total (n ∷ others) = n + total others

-- how many steps a row takes, where `inside` has those of the rows below it
abbrev pub steps_by : (ℕ → ℕ) → ℕ → Option Row → ℕ
steps_by inside row None = 1
steps_by inside row (Some (Leaf prim)) = 1
steps_by inside row (Some (Skip bits)) = 1
steps_by inside row (Some (Align bits)) = 1
steps_by inside row (Some (Initiator delimiter)) = 1
steps_by inside row (Some (Terminator delimiter separators)) = 1
steps_by inside row (Some Separator) = 1
steps_by inside row (Some (PrefixedLeaf prefix prim)) = 1
steps_by inside row (Some (MeasuredLeaf measure prim)) = 1
steps_by inside row (Some (Elem name simple tried behind body)) = 2 + inside body
steps_by inside row (Some (Scope list body)) = 1 + inside body
steps_by inside row (Some (Boxed bits body)) = 1 + inside body
steps_by inside row (Some (PrefixedBox prefix body)) = 1 + inside body
steps_by inside row (Some (MeasuredBox measure body)) = 1 + inside body
steps_by inside row (Some (Repeat count body)) = 1 + inside body
steps_by inside row (Some (Counted question body)) = 1 + inside body
steps_by inside row (Some (Optional most item initiated body)) = 1 + inside body
steps_by inside row (Some (Choice branches initiated)) = 1 + total (map inside branches)
steps_by inside row (Some (Dispatch question keys)) = 1 + total (map inside (keyed keys))
steps_by inside row (Some (Statement statement)) = 1
steps_by inside row (Some (Concluded behind body)) = 1 + inside body
steps_by inside row (Some (Hidden body)) = 1 + inside body
steps_by inside row (Some (Spanned body)) = 1 + inside body
steps_by inside row (Some (Instance statement body)) = 1 + inside body
steps_by inside row (Some (Separated policy position initiated slots)) = 1 + total (map inside (bodies_of slots))
steps_by inside row (Some (Group children)) = 1 + total (map inside children)

-- how many steps the row of this number takes
abbrev pub steps_of : Table → ℕ → ℕ
steps_of t row = by_rows steps_by 0 t.rows row
