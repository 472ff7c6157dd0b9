-- Mirror for the prover: what is left to be done of an evaluation that is under way.
use Rattle.std.specs.Prelude.{◌≡◌, ◌<◌, ℕ, zero, ◌+◌, ◌++◌, Bool, true, false, List, [], ◌∷◌, length, take, drop, Option, Some, None, Ok, Err}
use Rattle.std.specs.List.{slice_get}
use Rattle.dfdl_operators.specs.Faults.{fault_number}
use Rattle.dfdl_operators.specs.Numbers.{Answer}
use Rattle.dfdl_operators.specs.TextFunctions.{concatenation}
use Rattle.dfdl_operators.specs.declared.fault.OperatorFault.TheVariants.{PastRange, WrongType}
use Rattle.dfdl_value.specs.declared.value.Value.{Value}
use Rattle.dfdl_value.specs.declared.value.Value.TheVariants.{Truth}
use Rattle.dfdl_expressions.specs.Nodes.{made_of, operands_of}
use Rattle.dfdl_expressions.specs.declared.node.Node.{Node}
use Rattle.dfdl_expressions.specs.declared.node.Node.TheVariants as node
use Rattle.dfdl_expressions.specs.declared.operator.BinaryOperator.{BinaryOperator}
use Rattle.dfdl_expressions.specs.declared.operator.Question.{Question}
use Rattle.dfdl_expressions.specs.declared.operator.UnaryOperator.{UnaryOperator}
use Rattle.dfdl_expression_eval.specs.Asks.{Asks, Is, Fails, Ask, Query, Variable, OccursIndex}
use Rattle.dfdl_expression_eval.specs.Functions.{binary_answer, question_answer, substring_answer, truth_answer, unary_answer}
use Rattle.dfdl_expression_eval.specs.Meanings.{Course, all_of, answered, course_of, path_course}
use Rattle.dfdl_expression_eval.specs.Runs.{run, told}
use Rattle.dfdl_expression_eval.specs.declared.env.Evaluated.{Evaluated}
use Rattle.dfdl_expression_eval.specs.declared.env.Evaluated.TheVariants.{Known, Wait, Fault}
use Rattle.dfdl_expression_eval.specs.declared.scratch.Focus.{Focus}
use Rattle.dfdl_expression_eval.specs.declared.scratch.Focus.TheVariants.{Begin, Came}
use Rattle.dfdl_expression_eval.specs.declared.scratch.Frame.{Frame}
use Rattle.dfdl_expression_eval.specs.declared.scratch.Step.{Step}
use Rattle.dfdl_expression_eval.specs.declared.scratch.Step.TheVariants.{Next, Ends}
use Rattle.dfdl_expression_eval.specs.declared.turning.Turn.{Turn}
use Rattle.dfdl_expression_eval.specs.declared.turning.Turn.TheVariants.{On, Settled, To, Wrong}

-- the truth of a value, if it is one
abbrev pub truth_of : Value → Option Bool
truth_of (Truth b) = Some b
truth_of v = None

-- which way `and` goes behind its first operand
abbrev pub and_turn : Option Bool → Turn
and_turn (Some true) = On
and_turn (Some false) = Settled false
and_turn None = Wrong

-- which way `or` goes behind its first operand
abbrev pub or_turn : Option Bool → Turn
or_turn (Some true) = Settled true
or_turn (Some false) = On
or_turn None = Wrong

-- which way `if` goes behind its condition
abbrev pub if_turn : ℕ → ℕ → Option Bool → Turn
if_turn holds fails (Some true) = To holds
if_turn holds fails (Some false) = To fails
if_turn holds fails None = Wrong

-- which way a node goes behind an operand, where so many values came before
abbrev pub turn_of : Node → ℕ → Value → Turn
turn_of (node.And left right) zero v = and_turn (truth_of v)
turn_of (node.Or left right) zero v = or_turn (truth_of v)
turn_of (node.If condition holds fails) zero v = if_turn holds fails (truth_of v)
turn_of n known v = On

-- what an operator of one operand answers by the values of its operands
abbrev pub of_one : UnaryOperator → List Value → Answer
of_one operator (v ∷ []) = unary_answer operator v
of_one operator values = Err WrongType

-- what an operator of two operands answers by the values of its operands
abbrev pub of_two : BinaryOperator → List Value → Answer
of_two operator (v ∷ w ∷ []) = binary_answer operator v w
of_two operator values = Err WrongType

-- what a part of a text is by the values of its operands
abbrev pub part_of : List Value → Answer
part_of (t ∷ v ∷ w ∷ []) = substring_answer t v w
part_of values = Err WrongType

-- what `and` and `or` answer by the values of both operands
abbrev pub last_truth : List Value → Answer
last_truth (v ∷ w ∷ []) = truth_answer w
last_truth values = Err WrongType

-- what a node that asks nothing answers by the values of its operands
abbrev pub computed : Node → List Value → Answer
computed (node.Constant v) values = Ok v
computed node.PastRange values = Err PastRange
computed (node.Variable number) values = Err WrongType
computed node.OccursIndex values = Err WrongType
computed (node.Path question path indexes) values = Err WrongType
computed (node.Unary operator only) values = of_one operator values
computed (node.Binary operator left right) values = of_two operator values
computed (node.Substring text first count) values = part_of values
computed (node.Concat parts) values = concatenation values
computed (node.And left right) values = last_truth values
computed (node.Or left right) values = last_truth values
computed (node.If condition holds fails) values = Err WrongType

-- what a node does with the values of its operands
abbrev pub acted : Node → List Value → Course
acted (node.Variable number) values go = Ask (Variable number) go
acted node.OccursIndex values go = Ask OccursIndex go
acted (node.Path question path indexes) values go = path_course question path values go
acted n values go = answered (computed n values) go

-- what an answer comes to
abbrev pub evaluated_of : Answer → Evaluated
evaluated_of (Ok v) = Known v
evaluated_of (Err why) = Fault (fault_number why)

-- what a path's question comes to by what is found for it
abbrev pub judged_by : Question → Evaluated → Evaluated
judged_by question (Known v) = evaluated_of (question_answer question v)
judged_by question (Wait unknown) = Wait unknown
judged_by question (Fault cause) = Fault cause

-- where a node turns
abbrev pub turned : (ℕ → Course) → Turn → Asks → Course
turned child On rest go = rest
turned child (Settled b) rest go = go (Truth b)
turned child (To operand) rest go = child operand go
turned child Wrong rest go = Fails (fault_number WrongType)

-- how a node goes on to its next operand with the value of one, behind those that are known
abbrev pub to_next : (ℕ → Course) → Node → List Value → Value → (Value → Asks) → Asks
to_next child n known v go = all_of child (drop (length known + 1) (operands_of n)) (known ++ v ∷ []) (λ values. acted n values go)

-- how a node goes on with the value of an operand, behind those that are known
abbrev pub went_on : (ℕ → Course) → Option Node → List Value → (Value → Asks) → Value → Asks
went_on child None known go v = Fails (fault_number WrongType)
went_on child (Some n) known go v = turned child (turn_of n (length known) v) (to_next child n known v go) go

-- how a node of a list goes on to its next operand
abbrev pub gone_on : List Node → Node → List Value → Value → (Value → Asks) → Asks
gone_on nodes n known v go = to_next (course_of nodes) n known v go

-- what is left behind a value: the frames, of which the last is the innermost, with the values that they hold
abbrev pub left_over : List Node → List Frame → List Value → (Value → Asks) → Value → Asks
left_over nodes [] values go = go
left_over nodes (f ∷ fs) values go =
    left_over nodes fs (drop f.done values) (went_on (course_of nodes) (slice_get nodes f.node) (take f.done values) go)

-- how many values frames hold
abbrev pub held_by : List Frame → ℕ
held_by [] = 0
held_by (f ∷ fs) = f.done + held_by fs

-- what an evaluation that is under way comes to
abbrev pub comes_to : {S : Type 0} → (S → Query → Evaluated) → (S → ℕ → S) → List Node → Focus → (Value → Asks) → S → Evaluated × S
comes_to answers read nodes (Begin number) go s = run answers read (course_of nodes number go) s
comes_to answers read nodes (Came evaluated) go s = told evaluated s (λ v t. run answers read (go v) t)

-- how much the operands of a node are, each with one more
abbrev pub weights : (ℕ → ℕ) → List ℕ → ℕ
weights child [] = 0
weights child (operand ∷ operands) = child operand + 1 + weights child operands

-- how much a node is
abbrev pub weight : (ℕ → ℕ) → Option Node → ℕ
weight child None = 1
weight child (Some n) = weights child (operands_of n) + 2

-- how much the node of a number is
abbrev pub weight_of : List Node → ℕ → ℕ
weight_of nodes number = made_of weight 1 nodes number

-- how much is left of a node, of which so many operands are known and one is under way
abbrev pub weight_left : (ℕ → ℕ) → Option Node → ℕ → ℕ
weight_left child None known = 1
weight_left child (Some n) known = weights child (drop (known + 1) (operands_of n)) + 1

-- how much is left of frames
abbrev pub frames_left : List Node → List Frame → ℕ
frames_left nodes [] = 0
frames_left nodes (f ∷ fs) = weight_left (weight_of nodes) (slice_get nodes f.node) f.done + frames_left nodes fs

-- how much is left of what comes next
abbrev pub focus_left : List Node → Focus → ℕ
focus_left nodes (Begin number) = weight_of nodes number
focus_left nodes (Came evaluated) = 0

-- what is left gets less in a step that goes on, and comes to the same; a step that ends has what it comes to
abbrev pub IsStep : {S : Type 0} → (S → Query → Evaluated) → (S → ℕ → S) → List Node → Focus
    → List Frame → List Value → List Frame → List Value → S → S → Step → Type 0
IsStep answers read nodes focus frames values frames_now values_now s t (Next next) =
    (comes_to answers read nodes next (left_over nodes frames_now values_now (λ v. Is v)) t
    ≡ comes_to answers read nodes focus (left_over nodes frames values (λ v. Is v)) s)
    × (focus_left nodes next + frames_left nodes frames_now < focus_left nodes focus + frames_left nodes frames)
IsStep answers read nodes focus frames values frames_now values_now s t (Ends ended) =
    comes_to answers read nodes focus (left_over nodes frames values (λ v. Is v)) s ≡ (ended, t)
