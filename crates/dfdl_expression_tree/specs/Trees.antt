-- The syntax tree of an expression: which operands an operator has.
use Rattle.std.specs.Prelude.{ℕ, zero, suc, ◌+◌, ◌==◌, min, if◌then◌else◌, Option, Some, None, List, [], ◌∷◌, ◌++◌, length}
use Rattle.dfdl_expression_text.specs.Syntax.{Part, Syntax}
use Rattle.dfdl_expression_text.specs.Syntax as s
use Rattle.dfdl_expression_tree.specs.declared.token.Operator.{Operator}
use Rattle.dfdl_expression_tree.specs.declared.token.Operator.TheVariants as o
use Rattle.dfdl_expression_tree.specs.declared.token.Form.{Form}
use Rattle.dfdl_expression_tree.specs.declared.token.Form.TheVariants as f
use Rattle.dfdl_expression_tree.specs.declared.token.Token.{Token}
use Rattle.dfdl_expression_tree.specs.declared.node.Leaf.{Leaf}
use Rattle.dfdl_expression_tree.specs.declared.node.Leaf.TheVariants as leaf
use Rattle.dfdl_expression_tree.specs.declared.node.Unary.{Unary}
use Rattle.dfdl_expression_tree.specs.declared.node.Unary.TheVariants as unary
use Rattle.dfdl_expression_tree.specs.declared.node.Binary.{Binary}
use Rattle.dfdl_expression_tree.specs.declared.node.Binary.TheVariants as binary
use Rattle.dfdl_expression_tree.specs.declared.node.Node.{Node}
use Rattle.dfdl_expression_tree.specs.declared.node.Node.TheVariants as node
use Rattle.dfdl_expression_tree.specs.TokenLists.{nth_token}

-- a tree
pub data Formula : Type 0 where
  End : Leaf → Formula
  One : Unary → Formula → Formula
  Two : Binary → Formula → Formula → Formula
  Choose : Formula → Formula → Formula → Formula

-- an operator of a chain, and the operand behind it
pub record Link : Type 0 where
  pub operator : Operator
  pub operand : Formula

-- how strongly an operator binds its operands
abbrev pub strength : Operator → ℕ
strength o.Or = 1
strength o.And = 2
strength o.Equal = 3
strength o.NotEqual = 3
strength o.Less = 3
strength o.LessOrEqual = 3
strength o.Greater = 3
strength o.GreaterOrEqual = 3
strength o.Plus = 4
strength o.Minus = 4
strength o.Times = 5
strength o.Divide = 5
strength o.WholeDivide = 5
strength o.Remainder = 5

-- the strength of the operators that bind most weakly
abbrev pub weakest : List Link → ℕ
weakest [] = 6
weakest (l ∷ ls) = min (strength l.operator) (weakest ls)

-- what is before an operator with its right operand, and behind them
pub record Parted : Type 0 where
  pub before : List Link
  pub link : Link
  pub behind : List Link

-- the links before and behind the last operator of a strength
abbrev pub parted_by : ℕ → Link → List Link → Option Parted → Option Parted
parted_by n l ls None = if strength l.operator == n then Some (record { before = []; link = l; behind = ls }) else None
parted_by n l ls (Some p) = Some (record { before = l ∷ p.before; link = p.link; behind = p.behind })

-- the same among all links
abbrev pub parted : ℕ → List Link → Option Parted
parted n [] = None
parted n (l ∷ ls) = parted_by n l ls (parted n ls)

-- the operator between the trees of what is before and behind it
abbrev pub topped : (Formula → List Link → Formula) → Formula → Option Parted → Formula
topped inner first None = first
topped inner first (Some p) = Two (binary.Operation p.link.operator) (inner first p.before) (inner p.link.operand p.behind)

-- the tree of a chain of at most so many links: at its top is the last of the operators that bind most weakly
abbrev pub grouped : ℕ → Formula → List Link → Formula
grouped zero first links = first
grouped (suc n) first links = topped (grouped n) first (parted (weakest links) links)

-- the tree of an operand and the links behind it
abbrev pub chained : Formula → List Link → Formula
chained first links = grouped (length links) first links

-- the number of the token behind a part, where that of its first is given
abbrev pub after : {p : Part} → Syntax p → ℕ → ℕ
after (s.Conditional test first second) n = after second (after first (after test (n + 1 + 1) + 1 + 1) + 1)
after (s.Chain first rest) n = after rest (after first n)
after (s.Ended compared) n = n
after (s.Joined compared term rest) n = after rest (after term (n + 1))
after (s.Compared term rest) n = after rest (after term (n + 1))
after (s.Calculated compared k is term rest) n = after rest (after term (n + 1))
after (s.Negative factor) n = after factor (n + 1)
after (s.Plain factor) n = after factor n
after s.Constant n = n + 1
after (s.Variable k is) n = n + 1 + 1
after (s.Call arguments) n = after arguments (n + 1 + 1)
after (s.Absolute steps) n = after steps (n + 1)
after (s.Relative steps) n = after steps n
after (s.Group inner) n = after inner (n + 1) + 1
after s.NoArguments n = n + 1
after (s.SomeArguments first rest) n = after rest (after first n)
after s.LastArgument n = n + 1
after (s.NextArgument next rest) n = after rest (after next (n + 1))
after (s.DotStep onward) n = after onward (n + 1)
after (s.NameStep k is index onward) n = after onward (after index (n + 1))
after s.LastStep n = n
after (s.NextStep steps) n = after steps (n + 1)
after s.NoIndex n = n
after (s.AnIndex inner) n = after inner (n + 1) + 1

-- a literal
abbrev pub constant_by : Form → Token → Leaf
constant_by f.Text t = leaf.Text t.span
constant_by _ t = leaf.Number t.span

abbrev pub constant : Token → Leaf
constant t = constant_by t.form t

-- a step that is no name
abbrev pub stepped_by : Form → Unary
stepped_by f.Parent = unary.Parent
stepped_by _ = unary.Here

abbrev pub stepped : Token → Unary
stepped t = stepped_by t.form

-- an operator
abbrev pub operated_by : Form → Operator
operated_by (f.Operation operator) = operator
operated_by _ = o.Or

abbrev pub operated : Token → Operator
operated t = operated_by t.form

-- what a part of an expression is made into: what follows an operand into links, and steps and arguments go on from what
-- is before them
abbrev pub Made : Part → Type 0
Made s.Whole = Formula
Made (s.Rest compared) = List Link
Made s.Term = Formula
Made s.Factor = Formula
Made s.Arguments = Formula → Formula
Made s.Further = Formula → Formula
Made s.Steps = Formula → Formula
Made s.Onward = Formula → Formula
Made s.Index = Formula → Formula

abbrev pub link : Operator → Formula → Link
link operator operand = record { operator = operator; operand = operand }

-- the tree of a part, whose first token has this number of these tokens
abbrev pub made : List Token → {p : Part} → Syntax p → ℕ → Made p
made ts (s.Conditional test first second) n =
    Choose (made ts test (n + 1 + 1)) (made ts first (after test (n + 1 + 1) + 1 + 1))
    (made ts second (after first (after test (n + 1 + 1) + 1 + 1) + 1))
made ts (s.Chain first rest) n = chained (made ts first n) (made ts rest (after first n))
made ts (s.Ended compared) n = []
made ts (s.Joined compared term rest) n =
    link (operated (nth_token ts n)) (made ts term (n + 1)) ∷ made ts rest (after term (n + 1))
made ts (s.Compared term rest) n = link (operated (nth_token ts n)) (made ts term (n + 1)) ∷ made ts rest (after term (n + 1))
made ts (s.Calculated compared k is term rest) n =
    link (operated (nth_token ts n)) (made ts term (n + 1)) ∷ made ts rest (after term (n + 1))
made ts (s.Negative factor) n = One unary.Negative (made ts factor (n + 1))
made ts (s.Plain factor) n = made ts factor n
made ts s.Constant n = End (constant (nth_token ts n))
made ts (s.Variable k is) n = End (leaf.Variable (nth_token ts (n + 1)).span)
made ts (s.Call arguments) n = One (unary.Call (nth_token ts n).span) (made ts arguments (n + 1 + 1) (End leaf.NoArguments))
made ts (s.Absolute steps) n = made ts steps (n + 1) (End leaf.Root)
made ts (s.Relative steps) n = made ts steps n (End leaf.Context)
made ts (s.Group inner) n = made ts inner (n + 1)
made ts s.NoArguments n = λ before. before
made ts (s.SomeArguments first rest) n = λ before. made ts rest (after first n) (Two binary.Argument before (made ts first n))
made ts s.LastArgument n = λ before. before
made ts (s.NextArgument next rest) n =
    λ before. made ts rest (after next (n + 1)) (Two binary.Argument before (made ts next (n + 1)))
made ts (s.DotStep onward) n = λ path. made ts onward (n + 1) (One (stepped (nth_token ts n)) path)
made ts (s.NameStep k is index onward) n =
    λ path. made ts onward (after index (n + 1)) (made ts index (n + 1) (One (unary.Child (nth_token ts n).span) path))
made ts s.LastStep n = λ path. path
made ts (s.NextStep steps) n = λ path. made ts steps (n + 1) path
made ts s.NoIndex n = λ path. path
made ts (s.AnIndex inner) n = λ path. Two binary.Item path (made ts inner (n + 1))

-- the number behind the last of a tree's nodes, where that of its first is given
abbrev pub behind : Formula → ℕ → ℕ
behind (End l) n = n + 1
behind (One u a) n = behind a n + 1
behind (Two b l r) n = behind r (behind l n) + 1
behind (Choose t a b) n = behind b (behind a (behind t n)) + 1

-- the number of the node that is the whole
abbrev pub root : Formula → ℕ → ℕ
root (End l) n = n
root (One u a) n = behind a n
root (Two b l r) n = behind r (behind l n)
root (Choose t a b) n = behind b (behind a (behind t n))

-- the nodes of a tree, whose first has this number: those of its operands, and then itself
abbrev pub listed : Formula → ℕ → List Node
listed (End l) n = node.Leaf l ∷ []
listed (One u a) n = listed a n ++ node.Unary u (root a n) ∷ []
listed (Two b l r) n = listed l n ++ (listed r (behind l n) ++ node.Binary b (root l n) (root r (behind l n)) ∷ [])
listed (Choose t a b) n =
    listed t n ++ (listed a (behind t n) ++ (listed b (behind a (behind t n))
    ++ node.Choice (root t n) (root a (behind t n)) (root b (behind a (behind t n))) ∷ []))
