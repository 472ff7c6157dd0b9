-- Which lists of nodes are expressions. 'DFDL Expression Language'.
use Rattle.std.specs.Prelude.{◌≡◌, ℕ, zero, suc, ◌^◌, ◌<◌, Bool, true, nat_eq, nat_lt, Option, Some, List, [], ◌∷◌, length, if◌then◌else◌}
use Rattle.std.specs.List.{slice_get, list_all}
use Rattle.dfdl_expressions.specs.declared.node.Node.{Node}
use Rattle.dfdl_expressions.specs.declared.node.Node.TheVariants.{Constant, PastRange, Variable, OccursIndex, Path, Unary, Binary, Substring, Concat, And, Or, If}

-- the operands of a node, by their numbers, in their order
abbrev pub operands_of : Node → List ℕ
operands_of (Constant value) = []
operands_of PastRange = []
operands_of (Variable number) = []
operands_of OccursIndex = []
operands_of (Path question path indexes) = indexes
operands_of (Unary operator only) = only ∷ []
operands_of (Binary operator left right) = left ∷ right ∷ []
operands_of (Substring text first count) = text ∷ first ∷ count ∷ []
operands_of (Concat parts) = parts
operands_of (And left right) = left ∷ right ∷ []
operands_of (Or left right) = left ∷ right ∷ []
operands_of (If condition holds fails) = condition ∷ holds ∷ fails ∷ []

-- each number is below a bound
abbrev pub are_below : ℕ → List ℕ → Bool
are_below bound numbers = list_all (λ number. nat_lt number bound) numbers

-- the operands of each node stand before it, for the first so many nodes
abbrev pub AreBelowFirst : ℕ → List Node → Type 0
AreBelowFirst count nodes =
    (number : ℕ) (node : Node) → number < count → slice_get nodes number ≡ Some node → are_below number (operands_of node) ≡ true

-- the operands of each node stand before it
abbrev pub AreBelow : List Node → Type 0
AreBelow nodes = AreBelowFirst (length nodes) nodes

-- nodes are an expression: there is a last one, which is the whole, and the operands of each stand before it
pub record IsExpression (nodes : List Node) : Type 0 where
  pub some : 0 < length nodes
  pub few : length nodes < 2 ^ 32
  pub below : AreBelow nodes

-- what is made of each node by what is made of its operands, below a number; it is made of no node where there is none
unfoldable pub made_below : {X : Type 0} → ((ℕ → X) → Option Node → X) → X → List Node → ℕ → ℕ → X
made_below make nothing nodes zero number = nothing
made_below make nothing nodes (suc n) number =
    if nat_eq number n then make (made_below make nothing nodes n) (slice_get nodes n) else made_below make nothing nodes n number

-- what is made of the node of a number
abbrev pub made_of : {X : Type 0} → ((ℕ → X) → Option Node → X) → X → List Node → ℕ → X
made_of make nothing nodes number = make (made_below make nothing nodes number) (slice_get nodes number)
