-- What stands around an expression that is evaluated while data is parsed. 'DFDL Expression Language'.
use Rattle.std.specs.Prelude.{ℕ, Bool, List, Option}
use Rattle.dfdl_region.specs.declared.node.Node.{Node}
use Rattle.dfdl_paths.specs.declared.place.Start.{Start}
use Rattle.dfdl_vars.specs.Kept.{Kept}

-- What is seen of a document: the number of the name of each row's element, the elements that have begun, the bytes of their texts, which
-- rows are those of items of arrays, and what has the expression.
pub record Seen : Type 0 where
  pub names : List (Option ℕ)
  pub nodes : List Node
  pub text : List ℕ
  pub marks : List Bool
  pub start : Start

-- what is seen of the document, and the variables
pub record Around : Type 0 where
  pub seen : Seen
  pub variables : Kept
