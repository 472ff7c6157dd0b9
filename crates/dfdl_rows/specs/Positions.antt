-- Where a refusal stands among the rows of a root: at the last row of the first use, in schema order, of the component that it is told of.
use Rattle.std.specs.Prelude.{ℕ, ◌+◌, ◌-◌, ◌==◌, ◌&&◌, ◌||◌, Bool, false, List, [], ◌∷◌, map, Option, None, Some, option_map, if◌then◌else◌}
use Rattle.dfdl_report.specs.declared.place.Place.{Place}
use Rattle.dfdl_order.specs.Parts.{uses_of}
use Rattle.dfdl_order.specs.Folds.{value_by}
use Rattle.dfdl_rows.specs.Components.{Schema, place_at}
use Rattle.dfdl_rows.specs.Refusals.{own_refusal}
use Rattle.dfdl_rows.specs.Sizes.{size_of}
use Rattle.dfdl_rows.specs.declared.refusal.Refusal.{Refusal}
use Rattle.dfdl_rows.specs.declared.refusal.RefusedRow.{RefusedRow}

-- two places are one
abbrev pub is_same : Place → Place → Bool
is_same a b = a.document == b.document && a.at == b.at

-- a refusal is told at a place, if there is one
abbrev pub is_told_at : Place → Option Refusal → Bool
is_told_at place None = false
is_told_at place (Some refusal) = is_same refusal.place place

-- What is told at a place is told of a component: it begins there, or its own refusal is told there. That of the type of a length prefix is
-- told at the type. An element whose name is there twice begins where it is told of, so its first use is meant.
abbrev pub is_of : Schema → Place → ℕ → Bool
is_of s place c = is_same (place_at s.places c) place || is_told_at place (own_refusal s c)

-- how many rows there are up to the last one of a component, in parts of so many rows each, where there are so many in the parts that have it
abbrev pub first_end : List ℕ → List (Option ℕ) → Option ℕ
first_end [] ends = None
first_end (size ∷ sizes) [] = None
first_end (size ∷ sizes) (Some end ∷ ends) = Some end
first_end (size ∷ sizes) (None ∷ ends) = option_map (λ n. size + n) (first_end sizes ends)

-- the same in a component, where there are so many in its parts: all of its rows where it is told of itself
abbrev pub end_from : Schema → Place → ℕ → List (Option ℕ) → Option ℕ
end_from s place c of_parts =
    if is_of s place c then Some (size_of s c) else first_end (map (size_of s) (uses_of s.uses c)) of_parts

-- how many rows of a component there are up to the last one of the first, in schema order, that is told of at a place
abbrev pub end_of : Schema → Place → ℕ → Option ℕ
end_of s place c = value_by s.uses (end_from s place) None c

-- the last of so many rows; where there is no such component none of all
abbrev pub row_before : ℕ → Option ℕ → ℕ
row_before size None = size
row_before size (Some end) = end - 1

-- the number of the row of a root at which a refusal stands that is told at a place
abbrev pub position_of : Schema → Place → ℕ → ℕ
position_of s place root = row_before (size_of s root) (end_of s place root)

-- a refusal at its row
abbrev pub refused_row : Schema → ℕ → Refusal → RefusedRow
refused_row s root refusal = record { row = position_of s refusal.place root; refusal = refusal }
