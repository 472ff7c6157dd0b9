-- Steps of a path to elements, the outermost last.
use Rattle.std.specs.Prelude.{ℕ, List, [], ◌∷◌, ◌++◌}
use Rattle.dfdl_terms.specs.Rows.{Table}
use Rattle.dfdl_region.specs.declared.node.Node.{Node}
use Rattle.dfdl_grammar.specs.Paths.{step_to}

-- the steps to these elements from the last one on
unfoldable pub named : Table → List Node → List ℕ → List ℕ
named table nodes [] = []
named table nodes (number ∷ rest) = named table nodes rest ++ step_to table nodes number
