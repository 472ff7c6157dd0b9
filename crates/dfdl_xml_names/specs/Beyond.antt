-- Mirror for the prover: the names whose prefix a scope finds, and the others.
use Rattle.std.specs.Prelude.{Bool, List, [], ◌∷◌, if◌then◌else◌}
use Rattle.dfdl_markup.specs.Grammar.{Name}

-- the names that pass a test
abbrev pub picked : (Name → Bool) → List Name → List Name
picked test [] = []
picked test (x ∷ names) = if test x then x ∷ picked test names else picked test names

-- the names that fail it
abbrev pub others : (Name → Bool) → List Name → List Name
others test [] = []
others test (x ∷ names) = if test x then others test names else x ∷ others test names
