-- What a node asks is what those before it ask.
use Rattle.std.proofs.Common.{◌≡◌, ◌≢◌, ℕ, zero, suc, ◌++◌, ◌<◌, true, false, nat_lt, if◌then◌else◌, List, [], ◌∷◌, length, Option, Some, refl, sym, ap, ◌∙◌, arith, inl, inr}
use Rattle.std.proofs.lemmas.Bool.{ltb-true}
use Rattle.std.proofs.lemmas.Bool.Decides.{eqb_tells}
use Rattle.std.specs.List.{slice_get}
use Rattle.dfdl_lemmas.proofs.Bools.{both}
use Rattle.dfdl_operators.specs.Faults.{fault_number}
use Rattle.dfdl_operators.specs.TextFunctions.{concatenation}
use Rattle.dfdl_operators.specs.declared.fault.OperatorFault.TheVariants.{WrongType}
use Rattle.dfdl_value.specs.declared.value.Value.{Value}
use Rattle.dfdl_value.specs.declared.value.Value.TheVariants.{Int, Uns, Dec, Text, Truth, Bytes}
use Rattle.dfdl_expressions.specs.Nodes.{IsExpression, are_below, made_below, made_of, operands_of}
use Rattle.dfdl_expressions.specs.declared.node.Node.{Node}
use Rattle.dfdl_expressions.specs.declared.node.Node.TheVariants as node
use Rattle.dfdl_expression_eval.specs.Asks.{Asks, Fails}
use Rattle.dfdl_expression_eval.specs.Functions.{binary_answer, substring_answer, truth_answer, unary_answer}
use Rattle.dfdl_expression_eval.specs.Machine.{acted, went_on}
use Rattle.dfdl_expression_eval.specs.Meanings.{Course, all_of, answered, course, course_of, on_truth, path_course}

module _ {X : Type 0} (make : (ℕ → X) → Option Node → X) (nothing : X) (nodes : List Node) where
  -- what is made below a bound is what is made of the number
  pub made_is : (bound number : ℕ) → number < bound → made_below make nothing nodes bound number ≡ made_of make nothing nodes number
  unfolding made_below
  made_is zero number below = absurd (omega arith)
  made_is (suc n) number below = elim (eqb_tells number n) [
    | inl same ↦ ap (λ b. if b then make (made_below make nothing nodes n) (slice_get nodes n) else made_below make nothing nodes n number) same.0
        ∙ sym (ap (λ m. made_of make nothing nodes m) same.1)
    | inr apart ↦ ap (λ b. if b then make (made_below make nothing nodes n) (slice_get nodes n) else made_below make nothing nodes n number) apart.0
        ∙ made_is n number (less number n below apart.1)
  ]
    where
      less : (a b : ℕ) → a < suc b → a ≢ b → a < b
      less a b low apart = omega arith

-- two meanings of nodes agree at some numbers
abbrev pub Agree : {X : Type 0} → (ℕ → X) → (ℕ → X) → List ℕ → Type 0
Agree f g [] = Unit {0}
Agree f g (n ∷ ns) = (f n ≡ g n) × Agree f g ns

-- what is made below a bound agrees with what is made, at numbers below it
pub agree_below : {X : Type 0} (make : (ℕ → X) → Option Node → X) (nothing : X) (nodes : List Node) (bound : ℕ) (numbers : List ℕ)
    → are_below bound numbers ≡ true → Agree (made_below make nothing nodes bound) (made_of make nothing nodes) numbers
agree_below make nothing nodes bound [] below = tt
agree_below make nothing nodes bound (n ∷ ns) below =
    let p = both (nat_lt n bound) (are_below bound ns) below in
    (made_is make nothing nodes bound n (ltb-true n bound p.0), agree_below make nothing nodes bound ns p.1)

all_same : (f g : ℕ → Course) (operands : List ℕ) (known : List Value) (go : List Value → Asks) → Agree f g operands
    → all_of f operands known go ≡ all_of g operands known go
all_same f g [] known go agree = refl
all_same f g (o ∷ os) known go agree = λ i. agree.0 i (λ v. all_same f g os (known ++ v ∷ []) go agree.1 i)

-- what a node asks depends on its operands alone
pub course_same : (f g : ℕ → Course) (n : Node) (go : Value → Asks) → Agree f g (operands_of n) → course f (Some n) go ≡ course g (Some n) go
course_same f g (node.Constant v) go agree = refl
course_same f g node.PastRange go agree = refl
course_same f g (node.Variable number) go agree = refl
course_same f g node.OccursIndex go agree = refl
course_same f g (node.Path question path indexes) go agree = all_same f g indexes [] (λ values. path_course question path values go) agree
course_same f g (node.Unary operator only) go agree = ap (λ c. c (λ v. answered (unary_answer operator v) go)) agree.0
course_same f g (node.Binary operator left right) go agree = λ i. agree.0 i (λ v. agree.1.0 i (λ w. answered (binary_answer operator v w) go))
course_same f g (node.Substring text first count) go agree =
    λ i. agree.0 i (λ t. agree.1.0 i (λ v. agree.1.1.0 i (λ w. answered (substring_answer t v w) go)))
course_same f g (node.Concat parts) go agree = all_same f g parts [] (λ values. answered (concatenation values) go) agree
course_same f g (node.And left right) go agree =
    λ i. agree.0 i (λ v. on_truth v (λ b. if b then agree.1.0 i (λ w. answered (truth_answer w) go) else go (Truth false)))
course_same f g (node.Or left right) go agree =
    λ i. agree.0 i (λ v. on_truth v (λ b. if b then go (Truth true) else agree.1.0 i (λ w. answered (truth_answer w) go)))
course_same f g (node.If condition holds fails) go agree =
    λ i. agree.0 i (λ v. on_truth v (λ b. if b then agree.1.0 i go else agree.1.1.0 i go))

-- how a node begins: with its first operand, or at once
abbrev pub begun : (ℕ → Course) → Node → List ℕ → Course
begun child n [] go = acted n [] go
begun child n (o ∷ os) go = child o (λ v. went_on child (Some n) [] go v)

-- `and` behind its first operand
and_goes : (child : ℕ → Course) (left right : ℕ) (go : Value → Asks) (v : Value)
    → on_truth v (λ b. if b then child right (λ w. answered (truth_answer w) go) else go (Truth false)) ≡ went_on child (Some (node.And left right)) [] go v
and_goes child left right go (Truth true) = refl
and_goes child left right go (Truth false) = refl
and_goes child left right go (Int z) = refl
and_goes child left right go (Uns n) = refl
and_goes child left right go (Dec d) = refl
and_goes child left right go (Text t) = refl
and_goes child left right go (Bytes b) = refl

-- `or` behind its first operand
or_goes : (child : ℕ → Course) (left right : ℕ) (go : Value → Asks) (v : Value)
    → on_truth v (λ b. if b then go (Truth true) else child right (λ w. answered (truth_answer w) go)) ≡ went_on child (Some (node.Or left right)) [] go v
or_goes child left right go (Truth true) = refl
or_goes child left right go (Truth false) = refl
or_goes child left right go (Int z) = refl
or_goes child left right go (Uns n) = refl
or_goes child left right go (Dec d) = refl
or_goes child left right go (Text t) = refl
or_goes child left right go (Bytes b) = refl

-- `if` behind its condition
if_goes : (child : ℕ → Course) (condition holds fails : ℕ) (go : Value → Asks) (v : Value)
    → on_truth v (λ b. if b then child holds go else child fails go) ≡ went_on child (Some (node.If condition holds fails)) [] go v
if_goes child condition holds fails go (Truth true) = refl
if_goes child condition holds fails go (Truth false) = refl
if_goes child condition holds fails go (Int z) = refl
if_goes child condition holds fails go (Uns n) = refl
if_goes child condition holds fails go (Dec d) = refl
if_goes child condition holds fails go (Text t) = refl
if_goes child condition holds fails go (Bytes b) = refl

-- what a node asks is how it begins
pub course_begins : (child : ℕ → Course) (n : Node) (go : Value → Asks) → course child (Some n) go ≡ begun child n (operands_of n) go
course_begins child (node.Constant v) go = refl
course_begins child node.PastRange go = refl
course_begins child (node.Variable number) go = refl
course_begins child node.OccursIndex go = refl
course_begins child (node.Path question path []) go = refl
course_begins child (node.Path question path (o ∷ os)) go = refl
course_begins child (node.Unary operator only) go = refl
course_begins child (node.Binary operator left right) go = refl
course_begins child (node.Substring text first count) go = refl
course_begins child (node.Concat []) go = refl
course_begins child (node.Concat (o ∷ os)) go = refl
course_begins child (node.And left right) go = λ i. child left (λ v. and_goes child left right go v i)
course_begins child (node.Or left right) go = λ i. child left (λ v. or_goes child left right go v i)
course_begins child (node.If condition holds fails) go = λ i. child condition (λ v. if_goes child condition holds fails go v i)

-- the node of a number asks what it begins with
pub node_begins : (nodes : List Node) (number : ℕ) (n : Node) (go : Value → Asks) → IsExpression nodes → number < length nodes
    → slice_get nodes number ≡ Some n → course_of nodes number go ≡ begun (course_of nodes) n (operands_of n) go
node_begins nodes number n go sound within is =
    let nothing : Course = λ into. Fails (fault_number WrongType) in
    ap (λ o. course (made_below course nothing nodes number) o go) is
    ∙ course_same (made_below course nothing nodes number) (course_of nodes) n go
    (agree_below course nothing nodes number (operands_of n) (sound.below number n within is))
    ∙ course_begins (course_of nodes) n go
