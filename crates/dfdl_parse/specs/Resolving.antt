-- Marks with the outermost first, of which one is found by its place.
use Rattle.std.specs.Prelude.{ℕ, zero, suc, Bool, true, false, List, [], ◌∷◌}
use Rattle.dfdl_grammar.specs.declared.mark.Mark.{Mark}

-- marks of which the one of this place is resolved
abbrev pub resolved_at : ℕ → List Mark → List Mark
resolved_at place [] = []
resolved_at zero (mark ∷ rest) = record mark { is_resolved = true } ∷ rest
resolved_at (suc place) (mark ∷ rest) = mark ∷ resolved_at place rest

-- an initiator resolves the mark of this place
abbrev pub is_initiated_at : ℕ → List Mark → Bool
is_initiated_at place [] = false
is_initiated_at zero (mark ∷ rest) = mark.is_initiated
is_initiated_at (suc place) (mark ∷ rest) = is_initiated_at place rest
