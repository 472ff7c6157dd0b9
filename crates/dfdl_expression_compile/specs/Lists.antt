-- What is made of a part of an expression: a path as far as it goes, and the nodes so far.
use Rattle.std.specs.Prelude.{ℕ, Bool, List, [], ◌∷◌, ◌++◌, length}
use Rattle.dfdl_expressions.specs.declared.node.Node.{Node}
use Rattle.dfdl_expressions.specs.declared.path.Step.{Step}

-- a path: where it begins, its steps, and the numbers of its indexes
pub record RouteOf : Type 0 where
  pub absolute : Bool
  pub steps : List Step
  pub indexes : List ℕ

-- the number of a node, and all nodes
pub record Numbered : Type 0 where
  pub number : ℕ
  pub nodes : List Node

-- the numbers of nodes, and all nodes
pub record Listed : Type 0 where
  pub numbers : List ℕ
  pub nodes : List Node

abbrev pub numbered : ℕ → List Node → Numbered
numbered number nodes = record { number = number; nodes = nodes }

abbrev pub listed : List ℕ → List Node → Listed
listed numbers nodes = record { numbers = numbers; nodes = nodes }

-- one node more
abbrev pub pushed : Node → List Node → Numbered
pushed node nodes = numbered (length nodes) (nodes ++ node ∷ [])
