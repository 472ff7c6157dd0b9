-- The path of an element: the names of the elements around it and its own, each after a `/`, and behind the name of an item its place.
use Rattle.std.specs.Prelude.{ℕ, List, [], ◌∷◌, ◌++◌, codes, decimal, Option, None, Some}

-- the step to an element of this name; an item of an array has its place in it behind the name, counted from 1, in brackets
abbrev pub step_to : List ℕ → Option ℕ → List ℕ
step_to name None = name
step_to name (Some place) = name ++ (codes "[" ++ (decimal place ++ codes "]"))

-- the steps to elements that stand in one another, the innermost first
abbrev pub Names : Type 0
Names = List (List ℕ)

-- the path of the innermost of these elements
abbrev pub path_of : Names → List ℕ
path_of [] = []
path_of (step ∷ around) = path_of around ++ (codes "/" ++ step)
