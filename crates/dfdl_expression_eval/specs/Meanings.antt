-- What an expression means: what it asks, one question after another, and what it makes of the answers. 'DFDL Expression
-- Language'.
use Rattle.std.specs.Prelude.{ℕ, ◌-◌, ◌++◌, Bool, true, false, if◌then◌else◌, List, [], ◌∷◌, length, Option, Some, None, Ok, Err}
use Rattle.dfdl_operators.specs.Faults.{fault_number}
use Rattle.dfdl_operators.specs.Numbers.{Answer}
use Rattle.dfdl_operators.specs.TextFunctions.{concatenation}
use Rattle.dfdl_operators.specs.declared.fault.OperatorFault.TheVariants.{PastRange, WrongType}
use Rattle.dfdl_value.specs.declared.value.Value.{Value}
use Rattle.dfdl_value.specs.declared.value.Value.TheVariants.{Int, Uns, Dec, Text, Truth, Bytes}
use Rattle.dfdl_expressions.specs.Nodes.{made_of}
use Rattle.dfdl_expressions.specs.declared.node.Node.{Node}
use Rattle.dfdl_expressions.specs.declared.node.Node.TheVariants as node
use Rattle.dfdl_expressions.specs.declared.operator.Question.{Question}
use Rattle.dfdl_expressions.specs.declared.operator.Question.TheVariants as question
use Rattle.dfdl_expressions.specs.declared.path.Path.{Path}
use Rattle.dfdl_expression_eval.specs.Asks.{Asks, Is, Fails, Ask, Query, Item, Count, Length, Variable, OccursIndex}
use Rattle.dfdl_expression_eval.specs.Functions.{binary_answer, question_answer, substring_answer, truth_answer, unary_answer}
use Rattle.dfdl_expression_eval.specs.Places.{places_of}

-- what a part of an expression asks, before something goes on with its value
abbrev pub Course : Type 0
Course = (Value → Asks) → Asks

-- what goes on behind the answer of an operator or a function
abbrev pub answered : Answer → Course
answered (Ok v) go = go v
answered (Err why) go = Fails (fault_number why)

-- what goes on behind a truth; another value is none of the wanted type
abbrev pub on_truth : Value → (Bool → Asks) → Asks
on_truth (Truth b) go = go b
on_truth (Int z) go = Fails (fault_number WrongType)
on_truth (Uns n) go = Fails (fault_number WrongType)
on_truth (Dec d) go = Fails (fault_number WrongType)
on_truth (Text t) go = Fails (fault_number WrongType)
on_truth (Bytes b) go = Fails (fault_number WrongType)

-- what goes on behind places; an index that is no number is no value of the wanted type
abbrev pub on_places : Option (List ℕ) → (List ℕ → Asks) → Asks
on_places (Some places) go = go places
on_places None go = Fails (fault_number WrongType)

-- which question is asked of a path
abbrev pub query_of : Question → Path → List ℕ → Query
query_of question.Item path places = Item path places
query_of question.Count path places = Count path places
query_of question.Exists path places = Count path places
query_of question.Empty path places = Count path places
query_of (question.Length extent unit) path places = Length path places extent

-- the operands one after the other, behind values that are known
abbrev pub all_of : (ℕ → Course) → List ℕ → List Value → (List Value → Asks) → Asks
all_of child [] known go = go known
all_of child (operand ∷ operands) known go = child operand (λ v. all_of child operands (known ++ v ∷ []) go)

-- what a path is asked, with the values of its indexes
abbrev pub path_course : Question → Path → List Value → Course
path_course question path values go =
    on_places (places_of values) (λ places. Ask (query_of question path places) (λ v. answered (question_answer question v) go))

-- what a node asks, where child is what those before it ask: operands come from left to right, and `and`, `or` and `if` leave out
-- what they don't need; there is no node but those of the list
abbrev pub course : (ℕ → Course) → Option Node → Course
course child None go = Fails (fault_number WrongType)
course child (Some (node.Constant v)) go = go v
course child (Some node.PastRange) go = Fails (fault_number PastRange)
course child (Some (node.Variable number)) go = Ask (Variable number) go
course child (Some node.OccursIndex) go = Ask OccursIndex go
course child (Some (node.Path question path indexes)) go = all_of child indexes [] (λ values. path_course question path values go)
course child (Some (node.Unary operator only)) go = child only (λ v. answered (unary_answer operator v) go)
course child (Some (node.Binary operator left right)) go = child left (λ v. child right (λ w. answered (binary_answer operator v w) go))
course child (Some (node.Substring text first count)) go =
    child text (λ t. child first (λ v. child count (λ w. answered (substring_answer t v w) go)))
course child (Some (node.Concat parts)) go = all_of child parts [] (λ values. answered (concatenation values) go)
course child (Some (node.And left right)) go =
    child left (λ v. on_truth v (λ b. if b then child right (λ w. answered (truth_answer w) go) else go (Truth false)))
course child (Some (node.Or left right)) go =
    child left (λ v. on_truth v (λ b. if b then go (Truth true) else child right (λ w. answered (truth_answer w) go)))
course child (Some (node.If condition holds fails)) go =
    child condition (λ v. on_truth v (λ b. if b then child holds go else child fails go))

-- what the node of a number asks
abbrev pub course_of : List Node → ℕ → Course
course_of nodes number = made_of course (λ go. Fails (fault_number WrongType)) nodes number

-- what an expression means: what its last node asks
abbrev pub meaning : List Node → Asks
meaning nodes = course_of nodes (length nodes - 1) (λ v. Is v)
