-- What a node's answer comes to.
use Rattle.std.proofs.Common.{◌≡◌, ℕ, List, Some, Result, Ok, Err, IfOk, refl, sym, ap, subst, ◌∙◌}
use Rattle.dfdl_operators.specs.Numbers.{Answer}
use Rattle.dfdl_value.specs.declared.value.Value.{Value}
use Rattle.dfdl_expressions.specs.declared.node.Node.{Node}
use Rattle.dfdl_expressions.specs.declared.operator.Question.{Question}
use Rattle.dfdl_expressions.specs.declared.operator.Question.TheVariants as question
use Rattle.dfdl_expressions.specs.declared.path.Path.{Path}
use Rattle.dfdl_expression_eval.specs.Asks.{Asks, Query, Ask}
use Rattle.dfdl_expression_eval.specs.Functions.{question_answer}
use Rattle.dfdl_expression_eval.specs.Machine.{acted, computed, evaluated_of, judged_by}
use Rattle.dfdl_expression_eval.specs.Meanings.{answered, on_places, path_course, query_of}
use Rattle.dfdl_expression_eval.specs.Places.{places_of}
use Rattle.dfdl_expression_eval.specs.Runs.{after_query, run, told}
use Rattle.dfdl_expression_eval.specs.declared.env.Evaluated.{Evaluated}
use Rattle.dfdl_expression_eval.specs.declared.env.Evaluated.TheVariants.{Known, Wait, Fault}

-- an operator's answer
pub answered_is : {S : Type 0} (answers : S → Query → Evaluated) (read : S → ℕ → S) (a : Answer) (go : Value → Asks) (s : S)
    → run answers read (answered a go) s ≡ told (evaluated_of a) s (λ v t. run answers read (go v) t)
answered_is answers read (Ok v) go s = refl
answered_is answers read (Err why) go s = refl

-- a path's question changes nothing
pub path_keeps : {S : Type 0} (read : S → ℕ → S) (q : Question) (path : Path) (places : List ℕ) (s : S)
    → after_query read (query_of q path places) s ≡ s
path_keeps read question.Item path places s = refl
path_keeps read question.Count path places s = refl
path_keeps read question.Exists path places s = refl
path_keeps read question.Empty path places s = refl
path_keeps read (question.Length extent unit) path places s = refl

judged_is : {S : Type 0} (answers : S → Query → Evaluated) (read : S → ℕ → S) (q : Question) (found : Evaluated) (go : Value → Asks) (s : S)
    → told found s (λ v t. run answers read (answered (question_answer q v) go) t) ≡ told (judged_by q found) s (λ v t. run answers read (go v) t)
judged_is answers read q (Known v) go s = answered_is answers read (question_answer q v) go s
judged_is answers read q (Wait unknown) go s = refl
judged_is answers read q (Fault cause) go s = refl

-- a path with the places that its indexes name
pub asked_is : {S : Type 0} (answers : S → Query → Evaluated) (read : S → ℕ → S) (q : Question) (path : Path) (values : List Value) (places : List ℕ)
    (found : Evaluated) (go : Value → Asks) (s t : S) → places_of values ≡ Some places → found ≡ answers s (query_of q path places) → t ≡ s
    → run answers read (path_course q path values go) s ≡ told (judged_by q found) t (λ v u. run answers read (go v) u)
asked_is answers read q path values places found go s t named is same =
    ap (λ o. run answers read (on_places o (λ ps. Ask (query_of q path ps) (λ v. answered (question_answer q v) go))) s) named
    ∙ ap (λ u. told (answers s (query_of q path places)) u (λ v w. run answers read (answered (question_answer q v) go) w)) (path_keeps read q path places s ∙ sym same)
    ∙ ap (λ e. told e t (λ v w. run answers read (answered (question_answer q v) go) w)) (sym is)
    ∙ judged_is answers read q found go t

-- what holds of a value follows from what holds of it
pub if_ok : {A E : Type 0} (r : Result A E) (P Q : A → Type 0) → ((a : A) → P a → Q a) → IfOk r P → IfOk r Q
if_ok (Ok a) P Q f h = f a h
if_ok (Err e) P Q f h = tt

-- a node that asks nothing does what it answers
abbrev pub IsComputed : Node → Type 0
IsComputed n = (values : List Value) (go : Value → Asks) → acted n values go ≡ answered (computed n values) go

pub computed_at : (n m : Node) → n ≡ m → IsComputed m → IsComputed n
computed_at n m is computed = subst IsComputed (sym is) computed
