-- The elements of an infoset, in the order in which they begin. 'The DFDL Information Set'.
use Rattle.std.specs.Prelude.{ℕ, zero, suc, List, [], ◌∷◌, ◌++◌, Option}
use Rattle.dfdl_region.specs.declared.node.Node.{Node}
use Rattle.dfdl_region.specs.declared.node.Content.{Content}
use Rattle.dfdl_region.specs.declared.node.Lengths.{Lengths}

-- the elements that have begun, and how many there may be
pub record Nodes : Type 0 where
  pub nodes : List Node
  pub most : ℕ

-- with one more behind the others
abbrev pub with_node : Nodes → Node → Nodes
with_node region node = record region { nodes = region.nodes ++ node ∷ [] }

-- nodes of which the one of this number has another content
abbrev pub with_content : List Node → ℕ → Content → List Node
with_content [] number content = []
with_content (node ∷ rest) zero content = record node { content = content } ∷ rest
with_content (node ∷ rest) (suc number) content = node ∷ with_content rest number content

-- nodes of which the one of this number has other lengths
abbrev pub with_lengths : List Node → ℕ → Option Lengths → List Node
with_lengths [] number lengths = []
with_lengths (node ∷ rest) zero lengths = record node { lengths = lengths } ∷ rest
with_lengths (node ∷ rest) (suc number) lengths = node ∷ with_lengths rest number lengths
