-- Paths of which steps and indexes are still to come. 'DFDL Expression Language'.
use Rattle.std.specs.Prelude.{ℕ, Bool, true, List, [], ◌∷◌, ◌++◌}
use Rattle.dfdl_expressions.specs.declared.node.Node.{Node}
use Rattle.dfdl_expressions.specs.declared.node.Node.TheVariants as node
use Rattle.dfdl_expressions.specs.declared.operator.Question.{Question}
use Rattle.dfdl_expressions.specs.declared.path.Step.{Step}
use Rattle.dfdl_expressions.specs.declared.path.Step.TheVariants as step
use Rattle.dfdl_expression_compile.specs.Lists.{RouteOf}

abbrev pub route : Bool → List Step → List ℕ → RouteOf
route absolute steps indexes = record { absolute = absolute; steps = steps; indexes = indexes }

-- a path without steps
abbrev pub begun : Bool → RouteOf
begun absolute = route absolute [] []

-- a path with one step more
abbrev pub with_step : Step → RouteOf → RouteOf
with_step s r = route r.absolute (r.steps ++ s ∷ []) r.indexes

-- a step by name that has an index
abbrev pub indexed : Step → Step
indexed (step.Down name has_index) = step.Down name true
indexed s = s

-- steps of which the last has an index
abbrev pub last_indexed : List Step → List Step
last_indexed [] = []
last_indexed (s ∷ []) = indexed s ∷ []
last_indexed (s ∷ t ∷ steps) = s ∷ last_indexed (t ∷ steps)

-- a path with an index, the node of this number, behind its last step
abbrev pub with_index : ℕ → RouteOf → RouteOf
with_index number r = route r.absolute (last_indexed r.steps) (r.indexes ++ number ∷ [])

-- the node that asks something of a path
abbrev pub route_node : Question → RouteOf → Node
route_node question r = node.Path question (record { absolute = r.absolute; steps = r.steps }) r.indexes
