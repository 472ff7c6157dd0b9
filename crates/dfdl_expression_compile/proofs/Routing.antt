-- The last step of a path gets an index.
use Rattle.std.proofs.Common.{◌≡◌, List, [], ◌∷◌, ◌++◌, refl, ap}
use Rattle.dfdl_expressions.specs.declared.path.Step.{Step}
use Rattle.dfdl_expression_compile.specs.Routes.{indexed, last_indexed}

pub index_behind : (steps : List Step) (s : Step) → last_indexed (steps ++ s ∷ []) ≡ steps ++ indexed s ∷ []
index_behind [] s = refl
index_behind (t ∷ []) s = refl
index_behind (t ∷ u ∷ steps) s = ap (λ l. t ∷ l) (index_behind (u ∷ steps) s)
