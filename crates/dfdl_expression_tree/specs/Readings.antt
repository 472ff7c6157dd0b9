-- The tokens and the tree of a text that is an expression.
use Rattle.std.specs.Prelude.{◌≡◌, ℕ, ◌≤◌, List, Option, Some, None}
use Rattle.dfdl_expression_text.specs.Syntax.{most_tokens, spelling}
use Rattle.dfdl_expression_text.specs.Expressions.{IsExpression, ReadsBytes}
use Rattle.dfdl_expression_tree.specs.declared.token.Token.{Token}
use Rattle.dfdl_expression_tree.specs.declared.node.Node.{Node}
use Rattle.dfdl_expression_tree.specs.TokenLists.{tokens_from}
use Rattle.dfdl_expression_tree.specs.Trees.{Formula, made, listed}

-- the tokens by which the bytes are read
abbrev pub tokens_of : {count : ℕ} {bytes : List ℕ} → ReadsBytes count bytes → List Token
tokens_of reads = tokens_from 0 (spelling reads.reads.expression) reads.characters reads.reads.spelled

-- the tree of the expression as which they are read
abbrev pub tree_of : {count : ℕ} {bytes : List ℕ} → ReadsBytes count bytes → Formula
tree_of reads = made (tokens_of reads) reads.reads.expression 0

-- the bytes are an expression, and these are its tokens
abbrev pub HasTokens : List ℕ → List Token → Type 0
HasTokens bytes tokens = (count : ℕ) × (count ≤ most_tokens) × (reads : ReadsBytes count bytes) × (tokens ≡ tokens_of reads)

-- the bytes are an expression, and these are the nodes of its tree
abbrev pub HasTree : List ℕ → List Node → Type 0
HasTree bytes nodes = (count : ℕ) × (count ≤ most_tokens) × (reads : ReadsBytes count bytes) × (nodes ≡ listed (tree_of reads) 0)

-- a text has this tree, or is no expression
abbrev pub IsReading : List ℕ → Option Formula → Type 0
IsReading text (Some f) = (count : ℕ) × (count ≤ most_tokens) × (reads : ReadsBytes count text) × (f ≡ tree_of reads)
IsReading text None = IsExpression text → ⊥

-- each text is read as what it is
abbrev pub ReadsTexts : (List ℕ → Option Formula) → Type 0
ReadsTexts read = (text : List ℕ) → IsReading text (read text)
