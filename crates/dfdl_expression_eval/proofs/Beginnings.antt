-- How a node begins, and how much is left of it.
use Rattle.std.proofs.Common.{◌≡◌, ℕ, zero, suc, ◌+◌, ◌++◌, ◌<◌, List, [], ◌∷◌, length, drop, Some, None, refl, sym, ap, ◌∙◌, arith, append-nil}
use Rattle.std.proofs.lemmas.Option.{slice_get_within}
use Rattle.std.specs.List.{slice_get}
use Rattle.dfdl_value.specs.declared.value.Value.{Value}
use Rattle.dfdl_expressions.specs.Nodes.{IsExpression, made_below, operands_of}
use Rattle.dfdl_expressions.specs.declared.node.Node.{Node}
use Rattle.dfdl_expression_eval.specs.Asks.{Asks}
use Rattle.dfdl_expression_eval.specs.Machine.{acted, frames_left, held_by, left_over, weight, weight_left, weight_of, weights, went_on}
use Rattle.dfdl_expression_eval.specs.Meanings.{Course, course_of}
use Rattle.dfdl_expression_eval.specs.declared.scratch.Frame.{Frame}
use Rattle.dfdl_expression_eval.proofs.Courses.{Agree, agree_below, begun, node_begins}
use Rattle.dfdl_expression_eval.proofs.Leftovers.{held_more, left_last, left_more}

-- a node with a first operand begins with it
begun_first : (child : ℕ → Course) (n : Node) (operands : List ℕ) (first : ℕ) (go : Value → Asks) → slice_get operands 0 ≡ Some first
    → child first (went_on child (Some n) [] go) ≡ begun child n operands go
begun_first child n [] first go is = absurd (cc)
begun_first child n (o ∷ os) first go is = ap (λ m. child m (went_on child (Some n) [] go)) (same o first is)
  where
    same : (a b : ℕ) → Some a ≡ Some b → b ≡ a
    same a b e = cc

-- a node without operands acts at once
begun_none : (child : ℕ → Course) (n : Node) (operands : List ℕ) (go : Value → Asks) → slice_get operands 0 ≡ None → acted n [] go ≡ begun child n operands go
begun_none child n [] go is = refl
begun_none child n (o ∷ os) go is = absurd (cc)

-- a node that begins with its first operand
pub begin_first : (nodes : List Node) (fs : List Frame) (values : List Value) (number : ℕ) (n : Node) (first : ℕ) (go : Value → Asks)
    → IsExpression nodes → slice_get nodes number ≡ Some n → slice_get (operands_of n) 0 ≡ Some first → held_by fs ≡ length values
    → course_of nodes first (left_over nodes (fs ++ record { node = number; done = 0 } ∷ []) values go) ≡ course_of nodes number (left_over nodes fs values go)
begin_first nodes fs values number n first go sound is operand held =
    let f : Frame = record { node = number; done = 0 } in
    let after = left_over nodes fs values go in
    ap (λ vs. course_of nodes first (left_over nodes (fs ++ f ∷ []) vs go)) (sym (append-nil values))
    ∙ ap (λ into. course_of nodes first into) (left_last nodes fs f values [] go (sym held) refl)
    ∙ ap (λ o. course_of nodes first (went_on (course_of nodes) o [] after)) is
    ∙ begun_first (course_of nodes) n (operands_of n) first after operand
    ∙ sym (node_begins nodes number n after sound (slice_get_within nodes number n is) is)

-- a node that acts at once
pub begin_none : (nodes : List Node) (number : ℕ) (n : Node) (go : Value → Asks)
    → IsExpression nodes → slice_get nodes number ≡ Some n → slice_get (operands_of n) 0 ≡ None → acted n [] go ≡ course_of nodes number go
begin_none nodes number n go sound is operand =
    begun_none (course_of nodes) n (operands_of n) go operand ∙ sym (node_begins nodes number n go sound (slice_get_within nodes number n is) is)

weights_same : (f g : ℕ → ℕ) (numbers : List ℕ) → Agree f g numbers → weights f numbers ≡ weights g numbers
weights_same f g [] agree = refl
weights_same f g (n ∷ ns) agree = λ i. agree.0 i + 1 + weights_same f g ns agree.1 i

-- how much a node of an expression is
pub node_weighs : (nodes : List Node) (number : ℕ) (n : Node) → IsExpression nodes → slice_get nodes number ≡ Some n
    → weight_of nodes number ≡ weights (weight_of nodes) (operands_of n) + 2
node_weighs nodes number n sound is =
    ap (weight (made_below weight 1 nodes number)) is
    ∙ ap (λ w. w + 2) (weights_same (made_below weight 1 nodes number) (weight_of nodes) (operands_of n)
    (agree_below weight 1 nodes number (operands_of n) (sound.below number n (slice_get_within nodes number n is) is)))

-- from an operand on
pub weights_from : (f : ℕ → ℕ) (numbers : List ℕ) (at number : ℕ) → slice_get numbers at ≡ Some number
    → weights f (drop at numbers) ≡ f number + 1 + weights f (drop (at + 1) numbers)
weights_from f [] at number is = absurd (cc)
weights_from f (n ∷ ns) zero number is = ap (λ m. f m + 1 + weights f ns) (same n number is)
  where
    same : (a b : ℕ) → Some a ≡ Some b → a ≡ b
    same a b e = cc
weights_from f (n ∷ ns) (suc at) number is =
    weights_from f ns at number is ∙ ap (λ k. f number + 1 + weights f (drop k (n ∷ ns))) (further at)
  where
    further : (a : ℕ) → suc (a + 1) ≡ suc a + 1
    further a = omega arith

-- less is left where a node begins with its first operand
pub begin_less : (nodes : List Node) (fs : List Frame) (number : ℕ) (n : Node) (first : ℕ) → IsExpression nodes → slice_get nodes number ≡ Some n
    → slice_get (operands_of n) 0 ≡ Some first
    → weight_of nodes first + frames_left nodes (fs ++ record { node = number; done = 0 } ∷ []) < weight_of nodes number + frames_left nodes fs
begin_less nodes fs number n first sound is operand =
    let f : Frame = record { node = number; done = 0 } in
    let more = left_more nodes fs f in
    let weighs = node_weighs nodes number n sound is in
    let from = weights_from (weight_of nodes) (operands_of n) 0 first operand in
    let here = ap (λ o. weight_left (weight_of nodes) o 0) is in
    omega (arith, more, weighs, from, here)

-- as many values are held where a node begins
pub begin_held : (fs : List Frame) (number count : ℕ) → held_by fs ≡ count → held_by (fs ++ record { node = number; done = 0 } ∷ []) ≡ count
begin_held fs number count held =
    let f : Frame = record { node = number; done = 0 } in
    let more = held_more fs f in
    omega arith
