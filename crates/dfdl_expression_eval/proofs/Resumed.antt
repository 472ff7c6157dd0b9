-- How the innermost frame goes on with a value.
use Rattle.std.proofs.Common.{◌≡◌, ℕ, zero, suc, ◌+◌, ◌-◌, ◌++◌, ◌<◌, Bool, true, false, List, [], ◌∷◌, length, take, drop, Option, Some, None, sym, ap, ◌∙◌, arith}
use Rattle.std.proofs.lemmas.List.{take-append-drop}
use Rattle.std.specs.List.{slice_get}
use Rattle.dfdl_operators.specs.Faults.{fault_number}
use Rattle.dfdl_operators.specs.declared.fault.OperatorFault.TheVariants.{WrongType}
use Rattle.dfdl_value.specs.declared.value.Value.{Value}
use Rattle.dfdl_expressions.specs.Nodes.{operands_of}
use Rattle.dfdl_expressions.specs.declared.node.Node.{Node}
use Rattle.dfdl_expressions.specs.declared.node.Node.TheVariants as node
use Rattle.dfdl_expression_eval.specs.Asks.{Asks, Fails}
use Rattle.dfdl_expression_eval.specs.Machine.{and_turn, frames_left, held_by, if_turn, left_over, or_turn, to_next, truth_of, turn_of, turned, weight_left, weight_of, weights, went_on}
use Rattle.dfdl_expression_eval.specs.Meanings.{course_of}
use Rattle.dfdl_expression_eval.specs.declared.scratch.Frame.{Frame}
use Rattle.dfdl_expression_eval.specs.declared.turning.Turn.{Turn}
use Rattle.dfdl_expression_eval.specs.declared.turning.Turn.TheVariants.{To}
use Rattle.dfdl_expression_eval.proofs.Leftovers.{held_more, left_last, left_more}
use Rattle.dfdl_expression_eval.proofs.Nexts.{split_values}

module _ (nodes : List Node) (fs : List Frame) (vs : List Value) (f : Frame) (v : Value) (go : Value → Asks) (held : held_by fs + f.done ≡ length vs) where
  -- the innermost frame goes on with the values that it holds
  pub resumes : left_over nodes (fs ++ f ∷ []) vs go v
      ≡ went_on (course_of nodes) (slice_get nodes f.node) (drop (held_by fs) vs) (left_over nodes fs (take (held_by fs) vs) go) v
  resumes =
      let lengths = split_values vs (held_by fs) f.done held in
      ap (λ l. left_over nodes (fs ++ f ∷ []) l go v) (sym (take-append-drop (held_by fs) vs))
      ∙ ap (λ h. h v) (left_last nodes fs f (take (held_by fs) vs) (drop (held_by fs) vs) go lengths.0 lengths.1)

  -- a node that isn't there
  pub resumes_none : slice_get nodes f.node ≡ None → left_over nodes (fs ++ f ∷ []) vs go v ≡ Fails (fault_number WrongType)
  resumes_none is = resumes ∙ ap (λ o. went_on (course_of nodes) o (drop (held_by fs) vs) (left_over nodes fs (take (held_by fs) vs) go) v) is

  -- a node that turns
  pub resumes_turn : (n : Node) (t : Turn) → slice_get nodes f.node ≡ Some n → t ≡ turn_of n f.done v
      → left_over nodes (fs ++ f ∷ []) vs go v
      ≡ turned (course_of nodes) t (to_next (course_of nodes) n (drop (held_by fs) vs) v (left_over nodes fs (take (held_by fs) vs) go)) (left_over nodes fs (take (held_by fs) vs) go)
  resumes_turn n t is turns =
      let lengths = split_values vs (held_by fs) f.done held in
      let known = drop (held_by fs) vs in
      let after = left_over nodes fs (take (held_by fs) vs) go in
      resumes
      ∙ ap (λ o. went_on (course_of nodes) o known after v) is
      ∙ ap (λ k. turned (course_of nodes) (turn_of n k v) (to_next (course_of nodes) n known v after) after) lengths.1
      ∙ ap (λ u. turned (course_of nodes) u (to_next (course_of nodes) n known v after) after) (sym turns)

-- the values that are left where those of the innermost frame go
pub closed_is : (vs : List Value) (held done : ℕ) → held + done ≡ length vs → take (length vs - done) vs ≡ take held vs
closed_is vs held done is = ap (λ n. take n vs) (first (length vs) held done is)
  where
    first : (long held done : ℕ) → held + done ≡ long → long - done ≡ held
    first long held done e = omega arith

some_left : (f : ℕ → ℕ) (o : Option Node) (known : ℕ) → 0 < weight_left f o known
some_left f None known = omega arith
some_left f (Some n) known = omega arith

-- less is left where the innermost frame ends
pub ended_less : (nodes : List Node) (fs : List Frame) (f : Frame) → 0 + frames_left nodes fs < frames_left nodes (fs ++ f ∷ [])
ended_less nodes fs f =
    let more = left_more nodes fs f in
    let some = some_left (weight_of nodes) (slice_get nodes f.node) f.done in
    omega (arith, more, some)

-- less is left where a node goes on
pub on_less : (nodes : List Node) (fs : List Frame) (f : Frame) (n : Node) (left : ℕ) → slice_get nodes f.node ≡ Some n
    → left < frames_left nodes fs + weight_left (weight_of nodes) (Some n) f.done → left < frames_left nodes (fs ++ f ∷ [])
on_less nodes fs f n left is less =
    let more = left_more nodes fs f in
    let here = ap (λ o. weight_left (weight_of nodes) o f.done) is in
    omega (arith, more, here, less)

no_way : (o : Option Bool) (way : ℕ) → (and_turn o ≡ To way → ⊥) × (or_turn o ≡ To way → ⊥)
no_way (Some true) way = ((λ e. cc), λ e. cc)
no_way (Some false) way = ((λ e. cc), λ e. cc)
no_way None way = ((λ e. cc), λ e. cc)

if_way : (w : ℕ → ℕ) (holds fails : ℕ) (o : Option Bool) (way : ℕ) → if_turn holds fails o ≡ To way → w way < (w holds + 1 + (w fails + 1 + 0)) + 1
if_way w holds fails (Some true) way e = let same = ap w (to_is holds way e) in omega (arith, same)
  where
    to_is : (a b : ℕ) → To a ≡ To b → a ≡ b
    to_is a b e = cc
if_way w holds fails (Some false) way e = let same = ap w (to_is fails way e) in omega (arith, same)
  where
    to_is : (a b : ℕ) → To a ≡ To b → a ≡ b
    to_is a b e = cc
if_way w holds fails None way e = absurd (cc)

-- an operand that a node turns to is less than what is left of the node
turn_less : (w : ℕ → ℕ) (n : Node) (known : ℕ) (v : Value) (way : ℕ) → turn_of n known v ≡ To way → w way < weights w (drop (known + 1) (operands_of n)) + 1
turn_less w (node.Constant x) known v way e = absurd (cc)
turn_less w node.PastRange known v way e = absurd (cc)
turn_less w (node.Variable number) known v way e = absurd (cc)
turn_less w node.OccursIndex known v way e = absurd (cc)
turn_less w (node.Path question path indexes) known v way e = absurd (cc)
turn_less w (node.Unary operator only) known v way e = absurd (cc)
turn_less w (node.Binary operator left right) known v way e = absurd (cc)
turn_less w (node.Substring text first count) known v way e = absurd (cc)
turn_less w (node.Concat parts) known v way e = absurd (cc)
turn_less w (node.And left right) zero v way e = absurd ((no_way (truth_of v) way).0 e)
turn_less w (node.And left right) (suc known) v way e = absurd (cc)
turn_less w (node.Or left right) zero v way e = absurd ((no_way (truth_of v) way).1 e)
turn_less w (node.Or left right) (suc known) v way e = absurd (cc)
turn_less w (node.If condition holds fails) zero v way e = if_way w holds fails (truth_of v) way e
turn_less w (node.If condition holds fails) (suc known) v way e = absurd (cc)

-- less is left where a node turns to an operand
pub to_less : (nodes : List Node) (fs : List Frame) (f : Frame) (n : Node) (v : Value) (t : Turn) (way : ℕ) → slice_get nodes f.node ≡ Some n
    → t ≡ turn_of n f.done v → t ≡ To way → weight_of nodes way + frames_left nodes fs < frames_left nodes (fs ++ f ∷ [])
to_less nodes fs f n v t way is turns to =
    let low = turn_less (weight_of nodes) n f.done v way (sym turns ∙ to) in
    on_less nodes fs f n (weight_of nodes way + frames_left nodes fs) is (omega (arith, low))

-- one frame less
pub innermost_held : (all fs : List Frame) (f : Frame) (count : ℕ) → all ≡ fs ++ f ∷ [] → held_by all ≡ count → held_by fs + f.done ≡ count
innermost_held all fs f count is held = sym (held_more fs f) ∙ sym (ap held_by is) ∙ held
