-- Mirror for the prover: counts that stand still at the end of 64 bits.
use Rattle.std.specs.Prelude.{ℕ, ◌+◌, ◌-◌, ◌^◌, List, [], ◌∷◌, map, min, Option, None, Some, if◌then◌else◌}
use Rattle.dfdl_report.specs.declared.place.Place.{Place}
use Rattle.dfdl_order.specs.Parts.{uses_of}
use Rattle.dfdl_rows.specs.Components.{Schema}
use Rattle.dfdl_rows.specs.Depths.{depth_from}
use Rattle.dfdl_rows.specs.Positions.{is_of}
use Rattle.dfdl_rows.specs.Sizes.{size_from, size_of}
use Rattle.dfdl_rows.specs.declared.component.Component.{Component}

-- the count as far as 64 bits go
abbrev pub saturated : ℕ → ℕ
saturated n = min n (2 ^ 64 - 1)

-- the depth of a component from those of its parts, as far as 64 bits go
abbrev pub saturated_depth_from : List Component → ℕ → List ℕ → ℕ
saturated_depth_from components c of_parts = saturated (depth_from components c of_parts)

-- the number of a component's rows from those of its parts, as far as 64 bits go
abbrev pub saturated_size_from : Schema → ℕ → List ℕ → ℕ
saturated_size_from s c of_parts = saturated (size_from s c of_parts)

-- how many rows there are up to the last one of a component, in a part of so many rows, where there are so many in it, and those behind it
abbrev pub saturated_end : ℕ → Option ℕ → Option ℕ → Option ℕ
saturated_end size (Some end) others = Some end
saturated_end size None None = None
saturated_end size None (Some end) = Some (saturated (size + end))

-- the same in parts one after another, as far as 64 bits go
abbrev pub saturated_first_end : List ℕ → List (Option ℕ) → Option ℕ
saturated_first_end [] ends = None
saturated_first_end (size ∷ sizes) [] = None
saturated_first_end (size ∷ sizes) (end ∷ ends) = saturated_end size end (saturated_first_end sizes ends)

-- the same in a component from those of its parts
abbrev pub saturated_end_from : Schema → Place → ℕ → List (Option ℕ) → Option ℕ
saturated_end_from s place c of_parts =
    if is_of s place c then Some (saturated (size_of s c))
    else saturated_first_end (map (λ p. saturated (size_of s p)) (uses_of s.uses c)) of_parts
