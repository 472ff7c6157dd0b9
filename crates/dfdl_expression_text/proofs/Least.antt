-- At each mark some tokens may come, and no more than are owed there.
use Rattle.std.proofs.Common.{◌≡◌, ℕ, ◌+◌, ◌≤◌, Bool, true, false, List, [], ◌∷◌, length, ◌⊎◌, inl, inr, Option, Some, None, IfSome, refl, ap, sym, subst, ◌∙◌, arith}
use Rattle.std.specs.Option.{option_and_then}
use Rattle.std.proofs.lemmas.Option.{option_and_then_some}
use Rattle.dfdl_expression_text.specs.declared.kind.Kind.{Kind}
use Rattle.dfdl_expression_text.specs.declared.kind.Kind.TheVariants.{Name, Literal, Dot, Close, CloseIndex, Then, Else}
use Rattle.dfdl_expression_text.specs.declared.mark.Mark.{Mark}
use Rattle.dfdl_expression_text.specs.declared.mark.Mark.TheVariants as m
use Rattle.dfdl_expression_text.specs.declared.mark.Frame.{Frame}
use Rattle.dfdl_expression_text.specs.declared.mark.Frame.TheVariants.{InGroup, InCall, InIndex, InCondition, InConsequent}
use Rattle.dfdl_expression_text.specs.Machine.{At, act, next, may_end}
use Rattle.dfdl_expression_text.specs.Limit.{owed_all, owed_mark, owed}
use Rattle.dfdl_expression_text.proofs.Comes.{Comes, back_at, ends_at_last}
use Rattle.dfdl_expression_text.proofs.Drives.{drive, to, over, follows_all, ends_after, IsAfter, AfterIf, AfterCallable, AfterNamed, AfterStepped, AfterBehind}

-- the tokens lead to where an expression may end
pub record Ends (at : At) (kinds : List Kind) : Type 0 where
  pub last : At
  pub driven : drive at kinds ≡ Some last
  pub ends : may_end last ≡ true

-- what leads there may come
pub comes : (kinds : List Kind) (at t : At) → drive at kinds ≡ Some t → may_end t ≡ true → Comes at kinds
comes [] at t driven ends = let same : at ≡ t = cc in ends_at_last at.mark at.opened (subst (λ u. may_end u ≡ true) (sym same) ends)
comes (kind ∷ kinds) at t driven ends =
    option_and_then_some (λ u. drive u kinds) (next at kind) t driven
    (λ u goes others.
    (subst (λ o. IfSome o (λ v. Comes v kinds → Comes at (kind ∷ kinds))) goes (back_at at.mark at.opened kind kinds)) (comes kinds u t others ends))

-- few tokens that lead there
record Few (n : ℕ) (at : At) : Type 0 where
  kinds : List Kind
  few : length kinds ≤ n
  ends : Ends at kinds

ends_more : (s t : At) (k : Kind) (kinds : List Kind) → next s k ≡ Some t → Ends t kinds → Ends s (k ∷ kinds)
ends_more s t k kinds goes e = record { last = e.last; driven = over s t k kinds goes ∙ e.driven; ends = e.ends }

more : (n : ℕ) (s t : At) (k : Kind) → next s k ≡ Some t → Few n t → Few (n + 1) s
more n s t k goes f = record { kinds = k ∷ f.kinds; few = (let few = f.few in omega arith); ends = ends_more s t k f.kinds goes f.ends }

-- an operand behind which an expression goes on
begins_literal : (fs : List Frame) → next (to m.Begin fs) Literal ≡ Some (to (m.Behind false) fs)
unfolding act
begins_literal fs = refl

then_begins : (fs : List Frame) → next (to m.Closed fs) Then ≡ Some (to m.Begin (InConsequent ∷ fs))
unfolding act
then_begins fs = refl

as_few : (n k : ℕ) (at : At) → n ≡ k → Few n at → Few k at
as_few n k at same f = subst (λ x. Few x at) same f

past : (fs : List Frame) (mark : Mark) (b : Bool) → IsAfter mark b → Few (owed_all fs) (to mark fs)
past [] mark b is = record { kinds = []; few = omega arith; ends = record { last = to mark []; driven = refl; ends = ends_after mark b is } }
past (InGroup c ∷ fs) mark b is =
    as_few (owed_all fs + 1) (owed_all (InGroup c ∷ fs)) _ (omega arith)
    (more (owed_all fs) (to mark (InGroup c ∷ fs)) (to (m.Behind c) fs) Close ((follows_all fs mark b is).group c) (past fs (m.Behind c) c (AfterBehind c)))
past (InCall c ∷ fs) mark b is =
    as_few (owed_all fs + 1) (owed_all (InCall c ∷ fs)) _ (omega arith)
    (more (owed_all fs) (to mark (InCall c ∷ fs)) (to (m.Behind c) fs) Close ((follows_all fs mark b is).call c) (past fs (m.Behind c) c (AfterBehind c)))
past (InIndex c ∷ fs) mark b is =
    as_few (owed_all fs + 1) (owed_all (InIndex c ∷ fs)) _ (omega arith)
    (more (owed_all fs) (to mark (InIndex c ∷ fs)) (to (m.Stepped c) fs) CloseIndex ((follows_all fs mark b is).index c) (past fs (m.Stepped c) c (AfterStepped c)))
past (InConsequent ∷ fs) mark b is =
    as_few ((owed_all fs + 1) + 1) (owed_all (InConsequent ∷ fs)) _ (omega arith)
    (more (owed_all fs + 1) (to mark (InConsequent ∷ fs)) (to m.Begin fs) Else (follows_all fs mark b is).consequent
    (more (owed_all fs) (to m.Begin fs) (to (m.Behind false) fs) Literal (begins_literal fs) (past fs (m.Behind false) false (AfterBehind false))))
past (InCondition ∷ fs) mark b is =
    as_few (((((owed_all fs + 1) + 1) + 1) + 1) + 1) (owed_all (InCondition ∷ fs)) _ (omega arith)
    (more ((((owed_all fs + 1) + 1) + 1) + 1) (to mark (InCondition ∷ fs)) (to m.Closed fs) Close (follows_all fs mark b is).condition
    (more (((owed_all fs + 1) + 1) + 1) (to m.Closed fs) (to m.Begin (InConsequent ∷ fs)) Then (then_begins fs)
    (more ((owed_all fs + 1) + 1) (to m.Begin (InConsequent ∷ fs)) (to (m.Behind false) (InConsequent ∷ fs)) Literal (begins_literal (InConsequent ∷ fs))
    (more (owed_all fs + 1) (to (m.Behind false) (InConsequent ∷ fs)) (to m.Begin fs) Else (follows_all fs (m.Behind false) false (AfterBehind false)).consequent
    (more (owed_all fs) (to m.Begin fs) (to (m.Behind false) fs) Literal (begins_literal fs) (past fs (m.Behind false) false (AfterBehind false)))))))

after : (fs : List Frame) (mark : Mark) (b : Bool) → IsAfter mark b → Few (0 + owed_all fs) (to mark fs)
after fs mark b is = as_few (owed_all fs) (0 + owed_all fs) (to mark fs) (omega arith) (past fs mark b is)

-- one token before an operand's end
first : (fs : List Frame) (s : At) (k : Kind) (mark : Mark) (b : Bool) → next s k ≡ Some (to mark fs) → IsAfter mark b → Few (1 + owed_all fs) s
first fs s k mark b goes is =
    as_few (owed_all fs + 1) (1 + owed_all fs) s (omega arith) (more (owed_all fs) s (to mark fs) k goes (past fs mark b is))

operand_literal : (b : Bool) (fs : List Frame) → next (to (m.Operand b) fs) Literal ≡ Some (to (m.Behind b) fs)
unfolding act
operand_literal b fs = refl

positive_literal : (b : Bool) (fs : List Frame) → next (to (m.Positive b) fs) Literal ≡ Some (to (m.Behind b) fs)
unfolding act
positive_literal b fs = refl

variable_name : (b : Bool) (fs : List Frame) → next (to (m.Variable b) fs) Name ≡ Some (to (m.Behind b) fs)
unfolding act
variable_name b fs = refl

step_dot : (b : Bool) (fs : List Frame) → next (to (m.Step b) fs) Dot ≡ Some (to (m.Stepped b) fs)
unfolding act
step_dot b fs = refl

arguments_close : (b : Bool) (fs : List Frame) → next (to m.Arguments (InCall b ∷ fs)) Close ≡ Some (to (m.Behind b) fs)
unfolding act
arguments_close b fs = refl

-- such tokens may come; of arguments that no call opened nothing is said
pub record Least (at : At) : Type 0 where
  pub kinds : List Kind
  pub few : length kinds ≤ owed at
  pub come : Comes at kinds
  pub ends : (kinds ≡ []) ⊎ Ends at kinds

of_few : (at : At) → Few (owed at) at → Least at
of_few at f = record { kinds = f.kinds; few = f.few; come = comes f.kinds at f.ends.last f.ends.driven f.ends.ends; ends = inr f.ends }

least_arguments : (fs : List Frame) → Least (to m.Arguments fs)
least_arguments (InCall b ∷ fs) =
    of_few (to m.Arguments (InCall b ∷ fs)) (as_few (owed_all fs + 1) (owed (to m.Arguments (InCall b ∷ fs))) _ (omega arith)
    (more (owed_all fs) (to m.Arguments (InCall b ∷ fs)) (to (m.Behind b) fs) Close (arguments_close b fs) (past fs (m.Behind b) b (AfterBehind b))))
least_arguments [] = record { kinds = []; few = omega arith; come = tt; ends = inl refl }
least_arguments (InGroup b ∷ fs) = record { kinds = []; few = omega arith; come = tt; ends = inl refl }
least_arguments (InIndex b ∷ fs) = record { kinds = []; few = omega arith; come = tt; ends = inl refl }
least_arguments (InCondition ∷ fs) = record { kinds = []; few = omega arith; come = tt; ends = inl refl }
least_arguments (InConsequent ∷ fs) = record { kinds = []; few = omega arith; come = tt; ends = inl refl }

closed : (fs : List Frame) → Few (4 + owed_all fs) (to m.Closed fs)
closed fs =
    as_few ((2 + owed_all fs + 1) + 1) (4 + owed_all fs) (to m.Closed fs) (omega arith)
    (more (2 + owed_all fs + 1) (to m.Closed fs) (to m.Begin (InConsequent ∷ fs)) Then (then_begins fs)
    (more (2 + owed_all fs) (to m.Begin (InConsequent ∷ fs)) (to (m.Behind false) (InConsequent ∷ fs)) Literal (begins_literal (InConsequent ∷ fs))
    (past (InConsequent ∷ fs) (m.Behind false) false (AfterBehind false))))

pub least_at : (mark : Mark) (fs : List Frame) → Least (to mark fs)
least_at m.Begin fs = of_few (to m.Begin fs) (first fs (to m.Begin fs) Literal (m.Behind false) false (begins_literal fs) (AfterBehind false))
least_at m.Arguments fs = least_arguments fs
least_at (m.Operand b) fs = of_few (to (m.Operand b) fs) (first fs (to (m.Operand b) fs) Literal (m.Behind b) b (operand_literal b fs) (AfterBehind b))
least_at (m.Positive b) fs = of_few (to (m.Positive b) fs) (first fs (to (m.Positive b) fs) Literal (m.Behind b) b (positive_literal b fs) (AfterBehind b))
least_at (m.Variable b) fs = of_few (to (m.Variable b) fs) (first fs (to (m.Variable b) fs) Name (m.Behind b) b (variable_name b fs) (AfterBehind b))
least_at (m.Step b) fs = of_few (to (m.Step b) fs) (first fs (to (m.Step b) fs) Dot (m.Stepped b) b (step_dot b fs) (AfterStepped b))
least_at m.BegunIf fs = of_few (to m.BegunIf fs) (after fs m.BegunIf false AfterIf)
least_at (m.Callable b) fs = of_few (to (m.Callable b) fs) (after fs (m.Callable b) b (AfterCallable b))
least_at (m.Named b) fs = of_few (to (m.Named b) fs) (after fs (m.Named b) b (AfterNamed b))
least_at (m.Stepped b) fs = of_few (to (m.Stepped b) fs) (after fs (m.Stepped b) b (AfterStepped b))
least_at (m.Behind b) fs = of_few (to (m.Behind b) fs) (after fs (m.Behind b) b (AfterBehind b))
least_at m.Closed fs = of_few (to m.Closed fs) (closed fs)
