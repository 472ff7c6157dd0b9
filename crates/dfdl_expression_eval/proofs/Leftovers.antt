-- What is left of frames, of which the last is the innermost.
use Rattle.std.proofs.Common.{◌≡◌, ◌+◌, ◌++◌, List, [], ◌∷◌, length, take, drop, sym, ap, ◌∙◌, arith, length-drop}
use Rattle.std.proofs.lemmas.List.{take-append-le, drop-append-le}
use Rattle.std.proofs.Math.Seq.{take-length}
use Rattle.std.specs.List.{slice_get}
use Rattle.dfdl_value.specs.declared.value.Value.{Value}
use Rattle.dfdl_expressions.specs.declared.node.Node.{Node}
use Rattle.dfdl_expression_eval.specs.Asks.{Asks}
use Rattle.dfdl_expression_eval.specs.Machine.{frames_left, held_by, left_over, weight_left, weight_of, went_on}
use Rattle.dfdl_expression_eval.specs.Meanings.{course_of}
use Rattle.dfdl_expression_eval.specs.declared.scratch.Frame.{Frame}

-- one frame more
pub held_more : (fs : List Frame) (f : Frame) → held_by (fs ++ f ∷ []) ≡ held_by fs + f.done
held_more [] f = omega arith
held_more (e ∷ fs) f = let more = held_more fs f in omega arith

-- one frame more
pub left_more : (nodes : List Node) (fs : List Frame) (f : Frame)
    → frames_left nodes (fs ++ f ∷ []) ≡ frames_left nodes fs + weight_left (weight_of nodes) (slice_get nodes f.node) f.done
left_more nodes [] f = omega arith
left_more nodes (e ∷ fs) f = let more = left_more nodes fs f in omega arith

-- the innermost frame goes on first, with the values that it holds
pub left_last : (nodes : List Node) (fs : List Frame) (f : Frame) (base known : List Value) (go : Value → Asks) → length base ≡ held_by fs → length known ≡ f.done
    → left_over nodes (fs ++ f ∷ []) (base ++ known) go ≡ went_on (course_of nodes) (slice_get nodes f.node) known (left_over nodes fs base go)
left_last nodes [] f [] known go below here =
    ap (λ vs. went_on (course_of nodes) (slice_get nodes f.node) vs go) (ap (λ n. take n known) (sym here) ∙ take-length known)
left_last nodes [] f (v ∷ vs) known go below here = absurd (omega arith)
left_last nodes (e ∷ fs) f base known go below here =
    ap (λ vs. left_over nodes (fs ++ f ∷ []) vs (went_on (course_of nodes) (slice_get nodes e.node) (take e.done (base ++ known)) go))
    (drop-append-le e.done base known (omega arith))
    ∙ ap (λ vs. left_over nodes (fs ++ f ∷ []) (drop e.done base ++ known) (went_on (course_of nodes) (slice_get nodes e.node) vs go))
    (take-append-le e.done base known (omega arith))
    ∙ left_last nodes fs f (drop e.done base) known (went_on (course_of nodes) (slice_get nodes e.node) (take e.done base) go)
    (length-drop e.done base ∙ omega arith) here
