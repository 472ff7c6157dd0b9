-- The paths of elements: `/` and local names divided by `/`.
use Rattle.std.specs.Prelude.{ℕ, List, codes}

-- the path of the whole
abbrev pub whole_path : List ℕ
whole_path = codes "/"
