-- How a node goes on behind the value of an operand.
use Rattle.std.proofs.Common.{◌≡◌, ℕ, zero, suc, ◌+◌, ◌-◌, ◌++◌, ◌<◌, List, [], ◌∷◌, length, take, drop, Some, None, refl, sym, ap, ◌∙◌, arith, append_assoc, length-append, length-drop}
use Rattle.std.proofs.lemmas.List.{take-append-le, drop-append-le, take-append-drop, length-take-le}
use Rattle.std.proofs.Math.Path.{fun_ext}
use Rattle.std.specs.List.{slice_get}
use Rattle.dfdl_value.specs.declared.value.Value.{Value}
use Rattle.dfdl_expressions.specs.Nodes.{operands_of}
use Rattle.dfdl_expressions.specs.declared.node.Node.{Node}
use Rattle.dfdl_expressions.specs.declared.node.Node.TheVariants as node
use Rattle.dfdl_expression_eval.specs.Asks.{Asks}
use Rattle.dfdl_expression_eval.specs.Machine.{acted, frames_left, gone_on, held_by, left_over, to_next, turn_of, turned, weight_left, weight_of, went_on}
use Rattle.dfdl_expression_eval.specs.Meanings.{Course, all_of, course_of}
use Rattle.dfdl_expression_eval.specs.declared.scratch.Frame.{Frame}
use Rattle.dfdl_expression_eval.specs.declared.turning.Turn.TheVariants.{On}
use Rattle.dfdl_expression_eval.proofs.Beginnings.{weights_from}
use Rattle.dfdl_expression_eval.proofs.Leftovers.{held_more, left_last, left_more}

-- behind its first operand a node goes on
pub later_on : (n : Node) (known : ℕ) (v : Value) → turn_of n (suc known) v ≡ On
later_on (node.Constant x) known v = refl
later_on node.PastRange known v = refl
later_on (node.Variable number) known v = refl
later_on node.OccursIndex known v = refl
later_on (node.Path question path indexes) known v = refl
later_on (node.Unary operator only) known v = refl
later_on (node.Binary operator left right) known v = refl
later_on (node.Substring text first count) known v = refl
later_on (node.Concat parts) known v = refl
later_on (node.And left right) known v = refl
later_on (node.Or left right) known v = refl
later_on (node.If condition holds fails) known v = refl

-- what is left of a list from an item on
from_item : (numbers : List ℕ) (at number : ℕ) → slice_get numbers at ≡ Some number → drop at numbers ≡ number ∷ drop (at + 1) numbers
from_item [] at number is = absurd (cc)
from_item (n ∷ ns) zero number is = ap (λ m. m ∷ ns) (same n number is)
  where
    same : (a b : ℕ) → Some a ≡ Some b → a ≡ b
    same a b e = cc
from_item (n ∷ ns) (suc at) number is =
    from_item ns at number is ∙ ap (λ k. number ∷ drop k (n ∷ ns)) (further at)
  where
    further : (a : ℕ) → suc (a + 1) ≡ suc a + 1
    further a = omega arith

none_from : (numbers : List ℕ) (at : ℕ) → slice_get numbers at ≡ None → drop at numbers ≡ []
none_from [] zero is = refl
none_from [] (suc at) is = refl
none_from (n ∷ ns) zero is = absurd (cc)
none_from (n ∷ ns) (suc at) is = none_from ns at is

-- a value more
pub one_more : (known : List Value) (v : Value) (done : ℕ) → length known ≡ done → length (known ++ v ∷ []) ≡ suc done
one_more known v done here = length-append known (v ∷ []) ∙ sum (length known) done here
  where
    sum : (a b : ℕ) → a ≡ b → a + 1 ≡ suc b
    sum a b e = omega arith

-- where a value isn't the first, the node goes on to the next operand
later_goes : (child : ℕ → Course) (n : Node) (known : List Value) (done : ℕ) (go : Value → Asks) (w : Value) → length known ≡ suc done
    → went_on child (Some n) known go w ≡ to_next child n known w go
later_goes child n known done go w here =
    ap (λ k. turned child (turn_of n k w) (to_next child n known w go) go) here
    ∙ ap (λ t. turned child t (to_next child n known w go) go) (later_on n done w)

-- the next operand of a node
next_goes : (child : ℕ → Course) (n : Node) (known : List Value) (v : Value) (done next : ℕ) (go : Value → Asks) → length known ≡ done
    → slice_get (operands_of n) (done + 1) ≡ Some next → child next (went_on child (Some n) (known ++ v ∷ []) go) ≡ to_next child n known v go
next_goes child n known v done next go here is =
    let k = known ++ v ∷ [] in
    let long = one_more known v done here in
    ap (child next) (fun_ext (λ w. later_goes child n k done go w long))
    ∙ ap (λ m. child next (λ w. all_of child (drop (m + 1) (operands_of n)) (k ++ w ∷ []) (λ values. acted n values go))) (long ∙ further done)
    ∙ sym (ap (λ operands. all_of child operands k (λ values. acted n values go)) (from_item (operands_of n) (done + 1) next is))
    ∙ ap (λ m. all_of child (drop (m + 1) (operands_of n)) k (λ values. acted n values go)) (sym here)
  where
    further : (a : ℕ) → suc a ≡ a + 1
    further a = omega arith

-- a node without a next operand acts
last_goes : (child : ℕ → Course) (n : Node) (known : List Value) (v : Value) (done : ℕ) (go : Value → Asks) → length known ≡ done
    → slice_get (operands_of n) (done + 1) ≡ None → acted n (known ++ v ∷ []) go ≡ to_next child n known v go
last_goes child n known v done go here is =
    sym (ap (λ operands. all_of child operands (known ++ v ∷ []) (λ values. acted n values go)) (none_from (operands_of n) (done + 1) is))
    ∙ ap (λ m. all_of child (drop (m + 1) (operands_of n)) (known ++ v ∷ []) (λ values. acted n values go)) (sym here)

-- the values of the innermost frame stand behind those of the others
pub split_values : (vs : List Value) (held done : ℕ) → held + done ≡ length vs → (length (take held vs) ≡ held) × (length (drop held vs) ≡ done)
split_values vs held done is = (length-take-le held vs (omega arith), length-drop held vs ∙ omega arith)

-- with one more behind
pub behind_split : (vs : List Value) (v : Value) (held : ℕ) → vs ++ v ∷ [] ≡ take held vs ++ (drop held vs ++ v ∷ [])
behind_split vs v held = ap (λ l. l ++ v ∷ []) (sym (take-append-drop held vs)) ∙ append_assoc (take held vs) (drop held vs) (v ∷ [])

-- a node goes on to its next operand
pub next_comes : (nodes : List Node) (fs : List Frame) (vs : List Value) (f : Frame) (n : Node) (v : Value) (next : ℕ) (go : Value → Asks)
    → held_by fs + f.done ≡ length vs → slice_get nodes f.node ≡ Some n → slice_get (operands_of n) (f.done + 1) ≡ Some next
    → course_of nodes next (left_over nodes (fs ++ record { node = f.node; done = f.done + 1 } ∷ []) (vs ++ v ∷ []) go)
    ≡ gone_on nodes n (drop (held_by fs) vs) v (left_over nodes fs (take (held_by fs) vs) go)
next_comes nodes fs vs f n v next go held is operand =
    let h : Frame = record { node = f.node; done = f.done + 1 } in
    let base = take (held_by fs) vs in
    let known = drop (held_by fs) vs in
    let after = left_over nodes fs base go in
    let lengths = split_values vs (held_by fs) f.done held in
    ap (λ l. course_of nodes next (left_over nodes (fs ++ h ∷ []) l go)) (behind_split vs v (held_by fs))
    ∙ ap (course_of nodes next) (left_last nodes fs h base (known ++ v ∷ []) go lengths.0 (one_more known v f.done lengths.1 ∙ further f.done))
    ∙ ap (λ o. course_of nodes next (went_on (course_of nodes) o (known ++ v ∷ []) after)) is
    ∙ next_goes (course_of nodes) n known v f.done next after lengths.1 operand
  where
    further : (a : ℕ) → suc a ≡ a + 1
    further a = omega arith

-- a node has its last operand
pub last_comes : (nodes : List Node) (fs : List Frame) (vs : List Value) (f : Frame) (n : Node) (v : Value) (go : Value → Asks)
    → held_by fs + f.done ≡ length vs → slice_get (operands_of n) (f.done + 1) ≡ None
    → acted n (drop (held_by fs) vs ++ v ∷ []) go ≡ gone_on nodes n (drop (held_by fs) vs) v go
last_comes nodes fs vs f n v go held operand =
    let lengths = split_values vs (held_by fs) f.done held in
    last_goes (course_of nodes) n (drop (held_by fs) vs) v f.done go lengths.1 operand

-- less is left where a node goes on to its next operand
pub next_less : (nodes : List Node) (fs : List Frame) (f : Frame) (n : Node) (next : ℕ) → slice_get nodes f.node ≡ Some n
    → slice_get (operands_of n) (f.done + 1) ≡ Some next
    → weight_of nodes next + frames_left nodes (fs ++ record { node = f.node; done = f.done + 1 } ∷ [])
    < frames_left nodes fs + weight_left (weight_of nodes) (Some n) f.done
next_less nodes fs f n next is operand =
    let h : Frame = record { node = f.node; done = f.done + 1 } in
    let more = left_more nodes fs h in
    let from = weights_from (weight_of nodes) (operands_of n) (f.done + 1) next operand in
    let here = ap (λ o. weight_left (weight_of nodes) o (f.done + 1)) is in
    omega (arith, more, from, here)

-- a value more is held
pub next_held : (fs : List Frame) (f : Frame) (vs : List Value) (v : Value) → held_by fs + f.done ≡ length vs
    → held_by (fs ++ record { node = f.node; done = f.done + 1 } ∷ []) ≡ length (vs ++ v ∷ [])
next_held fs f vs v held =
    let h : Frame = record { node = f.node; done = f.done + 1 } in
    let more = held_more fs h in
    let long = length-append vs (v ∷ []) in
    omega (arith, more, long)

-- the last values, with one more behind
pub last_values : (vs : List Value) (v : Value) (held done : ℕ) → held + done ≡ length vs
    → drop (length (vs ++ v ∷ []) - (done + 1)) (vs ++ v ∷ []) ≡ drop held vs ++ v ∷ []
last_values vs v held done is =
    let long = length-append vs (v ∷ []) in
    ap (λ n. drop n (vs ++ v ∷ [])) (first (length (vs ++ v ∷ [])) (length vs) held done long is)
    ∙ drop-append-le held vs (v ∷ []) (omega arith)
  where
    first : (all long held done : ℕ) → all ≡ long + 1 → held + done ≡ long → all - (done + 1) ≡ held
    first all long held done e f = omega arith

-- the values that are left where these go
pub close_is : (vs : List Value) (v : Value) (held done : ℕ) → held + done ≡ length vs
    → take (length (vs ++ v ∷ []) - (done + 1)) (vs ++ v ∷ []) ≡ take held vs
close_is vs v held done is =
    let long = length-append vs (v ∷ []) in
    ap (λ n. take n (vs ++ v ∷ [])) (first (length (vs ++ v ∷ [])) (length vs) held done long is)
    ∙ take-append-le held vs (v ∷ []) (omega arith)
  where
    first : (all long held done : ℕ) → all ≡ long + 1 → held + done ≡ long → all - (done + 1) ≡ held
    first all long held done e f = omega arith
