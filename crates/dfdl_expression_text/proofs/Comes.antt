-- Which tokens may come at a mark, told by what is open there; and that each step keeps it.
use Rattle.std.proofs.Common.{◌≡◌, ℕ, Bool, true, false, List, [], ◌∷◌, ◌++◌, Option, Some, None, IfSome, refl, ap, sym, subst, ◌∙◌, append_assoc}
use Rattle.dfdl_expression_text.specs.declared.kind.Kind.{Kind}
use Rattle.dfdl_expression_text.specs.declared.kind.Kind.TheVariants.{If, Name, Literal, Dollar, Slash, Dot, Open, Close}
use Rattle.dfdl_expression_text.specs.declared.kind.Kind.TheVariants.{Comma, OpenIndex, CloseIndex, Minus, Calculation}
use Rattle.dfdl_expression_text.specs.declared.kind.Kind.TheVariants.{Comparison, Junction, Then, Else}
use Rattle.dfdl_expression_text.specs.declared.mark.Mark.{Mark}
use Rattle.dfdl_expression_text.specs.declared.mark.Mark.TheVariants as m
use Rattle.dfdl_expression_text.specs.declared.mark.Frame.{Frame}
use Rattle.dfdl_expression_text.specs.declared.mark.Frame.TheVariants.{InGroup, InCall, InIndex, InCondition, InConsequent}
use Rattle.dfdl_expression_text.specs.Syntax.{is_name, calculates, Part, Whole, Rest, Term, Factor, Arguments, Further, Steps, Onward, Index}
use Rattle.dfdl_expression_text.specs.Syntax.{Syntax, Conditional, Chain, Ended, Joined, Compared, Calculated, Negative, Plain, Constant, Variable, Call}
use Rattle.dfdl_expression_text.specs.Syntax.{Absolute, Relative, Group, NoArguments, SomeArguments, LastArgument, NextArgument, DotStep, NameStep}
use Rattle.dfdl_expression_text.specs.Syntax.{LastStep, NextStep, NoIndex, AnIndex, spelling}
use Rattle.dfdl_expression_text.specs.Machine.{At, top, acted_by, act, follows, begins, next, may_end}

-- a part, and then what may come behind it
abbrev pub Front : Part → (List Kind → Type 0) → List Kind → Type 0
Front part Behind kinds = (f : Syntax part) × (rest : List Kind) × (kinds ≡ spelling f ++ rest) × Behind rest

-- a token of this kind, and then what may come behind it
abbrev pub Led : Kind → (List Kind → Type 0) → List Kind → Type 0
Led k Behind kinds = (rest : List Kind) × (kinds ≡ k ∷ rest) × Behind rest

-- what may come behind a whole expression
abbrev pub Ends : List Frame → List Kind → Type 0
Ends [] kinds = kinds ≡ []
Ends (InGroup b ∷ fs) kinds = Led Close (Front (Rest b) (Ends fs)) kinds
Ends (InCall b ∷ fs) kinds = Front Further (Front (Rest b) (Ends fs)) kinds
Ends (InIndex b ∷ fs) kinds = Led CloseIndex (Front Onward (Front (Rest b) (Ends fs))) kinds
Ends (InCondition ∷ fs) kinds = Led Close (Led Then (Front Whole (Led Else (Front Whole (Ends fs))))) kinds
Ends (InConsequent ∷ fs) kinds = Led Else (Front Whole (Ends fs)) kinds

-- what may come behind an operand
abbrev pub After : Bool → List Frame → List Kind → Type 0
After b fs = Front (Rest b) (Ends fs)

abbrev pub InArguments : List Frame → List Kind → Type 0
InArguments (InCall b ∷ fs) kinds = Front Arguments (After b fs) kinds
InArguments _ kinds = Unit {0}

abbrev pub From : Mark → List Frame → List Kind → Type 0
From m.Begin fs kinds = Front Whole (Ends fs) kinds
From m.Arguments fs kinds = InArguments fs kinds
From (m.Operand b) fs kinds = Front Term (After b fs) kinds
From (m.Positive b) fs kinds = Front Factor (After b fs) kinds
From (m.Variable b) fs kinds = (k : Kind) × (is_name k ≡ true) × Led k (After b fs) kinds
From (m.Step b) fs kinds = Front Steps (After b fs) kinds
From m.BegunIf fs kinds = Front Whole (Ends fs) (If ∷ kinds)
From (m.Callable b) fs kinds = Front Factor (After b fs) (Name ∷ kinds)
From (m.Named b) fs kinds = Front Index (Front Onward (After b fs)) kinds
From (m.Stepped b) fs kinds = Front Onward (After b fs) kinds
From (m.Behind b) fs kinds = After b fs kinds
From m.Closed fs kinds = Led Then (Front Whole (Led Else (Front Whole (Ends fs)))) kinds

-- what may come where this is reached
abbrev pub Comes : At → List Kind → Type 0
Comes at kinds = From at.mark at.opened kinds

-- two parts one after the other
pub two : (xs ys : List Kind) (kinds rest last : List Kind) → kinds ≡ xs ++ rest → rest ≡ ys ++ last → kinds ≡ (xs ++ ys) ++ last
two xs ys kinds rest last first second = first ∙ ap (λ l. xs ++ l) second ∙ sym (append_assoc xs ys last)

pub some_map : {A : Type 0} (P Q : A → Type 0) (o : Option A) → ((a : A) → P a → Q a) → IfSome o P → IfSome o Q
some_map P Q None f p = tt
some_map P Q (Some a) f p = f a p

pub follows_back : (fs : List Frame) (b : Bool) (k : Kind) (kinds : List Kind)
    → IfSome (acted_by fs (follows (top fs) b k)) (λ t. Comes t kinds → After b fs (k ∷ kinds))
follows_back fs b Junction kinds = λ from.
    let (f, r, is, (g, last, then, ends)) = from in
    (Joined b f g, last, ap (λ l. Junction ∷ l) (two (spelling f) (spelling g) kinds r last is then), ends)
follows_back fs true Comparison kinds = tt
follows_back fs false Comparison kinds = λ from.
    let (f, r, is, (g, last, then, ends)) = from in
    (Compared f g, last, ap (λ l. Comparison ∷ l) (two (spelling f) (spelling g) kinds r last is then), ends)
follows_back fs b Minus kinds = λ from.
    let (f, r, is, (g, last, then, ends)) = from in
    (Calculated b Minus refl f g, last, ap (λ l. Minus ∷ l) (two (spelling f) (spelling g) kinds r last is then), ends)
follows_back fs b Calculation kinds = λ from.
    let (f, r, is, (g, last, then, ends)) = from in
    (Calculated b Calculation refl f g, last, ap (λ l. Calculation ∷ l) (two (spelling f) (spelling g) kinds r last is then), ends)
follows_back (InGroup c ∷ fs) b Close kinds = λ from. (Ended b, Close ∷ kinds, refl, (kinds, refl, from))
follows_back (InCall c ∷ fs) b Close kinds = λ from. (Ended b, Close ∷ kinds, refl, (LastArgument, kinds, refl, from))
follows_back (InCondition ∷ fs) b Close kinds = λ from. (Ended b, Close ∷ kinds, refl, (kinds, refl, from))
follows_back (InCall c ∷ fs) b Comma kinds = λ from.
    let (e, r, is, (g, last, then, ends)) = from in
    (Ended b, Comma ∷ kinds, refl, (NextArgument e g, last, ap (λ l. Comma ∷ l) (two (spelling e) (spelling g) kinds r last is then), ends))
follows_back (InIndex c ∷ fs) b CloseIndex kinds = λ from. (Ended b, CloseIndex ∷ kinds, refl, (kinds, refl, from))
follows_back (InConsequent ∷ fs) b Else kinds = λ from. (Ended b, Else ∷ kinds, refl, (kinds, refl, from))
follows_back _ _ _ _ = tt

pub begins_back : (fs : List Frame) (b : Bool) (k : Kind) (kinds : List Kind)
    → IfSome (acted_by fs (begins b k)) (λ t. Comes t kinds → Front Factor (After b fs) (k ∷ kinds))
begins_back fs b Literal kinds = λ from. (Constant, kinds, refl, from)
begins_back fs b Dollar kinds = λ from.
    let (k, is, (r, spelled, after)) = from in (Variable k is, r, ap (λ l. Dollar ∷ l) spelled, after)
begins_back fs b Slash kinds = λ from. let (f, r, is, after) = from in (Absolute f, r, ap (λ l. Slash ∷ l) is, after)
begins_back fs b Dot kinds = λ from. let (f, r, is, after) = from in (Relative (DotStep f), r, ap (λ l. Dot ∷ l) is, after)
begins_back fs b Name kinds = λ from. from
begins_back fs b If kinds = λ from.
    let (i, r, is, (o, last, then, after)) = from in
    (Relative (NameStep If refl i o), last, ap (λ l. If ∷ l) (two (spelling i) (spelling o) kinds r last is then), after)
begins_back fs b Open kinds = λ from.
    let (e, r, is, (last, then, after)) = from in
    (Group e, last, ap (λ l. Open ∷ l) (two (spelling e) (Close ∷ []) kinds r last is then), after)
begins_back fs b _ kinds = tt

-- what may come behind a sign may come where an operand begins
term_first : (fs : List Frame) (b : Bool) (kinds : List Kind) → Front Factor (After b fs) kinds → Front Term (After b fs) kinds
term_first fs b kinds (f, r, is, after) = (Plain f, r, is, after)

whole_of_term : (fs : List Frame) (kinds : List Kind) → Front Term (After false fs) kinds → Front Whole (Ends fs) kinds
whole_of_term fs kinds (f, r, is, (g, last, then, ends)) = (Chain f g, last, two (spelling f) (spelling g) kinds r last is then, ends)

-- an expression where arguments may come is one
arguments_of_whole : (fs : List Frame) (kinds : List Kind) → Front Whole (Ends fs) kinds → InArguments fs kinds
arguments_of_whole (InCall b ∷ fs) kinds (e, r, is, (g, last, then, after)) =
    (SomeArguments e g, last, two (spelling e) (spelling g) kinds r last is then, after)
arguments_of_whole [] kinds from = tt
arguments_of_whole (InGroup b ∷ fs) kinds from = tt
arguments_of_whole (InIndex b ∷ fs) kinds from = tt
arguments_of_whole (InCondition ∷ fs) kinds from = tt
arguments_of_whole (InConsequent ∷ fs) kinds from = tt

negative : (fs : List Frame) (b : Bool) (kinds : List Kind) → Front Factor (After b fs) kinds → Front Term (After b fs) (Minus ∷ kinds)
negative fs b kinds (f, r, is, after) = (Negative f, r, ap (λ l. Minus ∷ l) is, after)

-- a name and what may come behind it, as a path
path : (fs : List Frame) (b : Bool) (k : Kind) (kinds : List Kind) → is_name k ≡ true → Front Index (Front Onward (After b fs)) kinds
    → Front Steps (After b fs) (k ∷ kinds)
path fs b k kinds name (i, r, is, (o, last, then, after)) =
    (NameStep k name i o, last, ap (λ l. k ∷ l) (two (spelling i) (spelling o) kinds r last is then), after)

relative : (fs : List Frame) (b : Bool) (kinds : List Kind) → Front Steps (After b fs) kinds → Front Factor (After b fs) kinds
relative fs b kinds (f, r, is, after) = (Relative f, r, is, after)

onward_end : (fs : List Frame) (b : Bool) (kinds : List Kind) → After b fs kinds → Front Onward (After b fs) kinds
onward_end fs b kinds after = (LastStep, kinds, refl, after)

index_end : (fs : List Frame) (b : Bool) (kinds : List Kind) → Front Onward (After b fs) kinds → Front Index (Front Onward (After b fs)) kinds
index_end fs b kinds after = (NoIndex, kinds, refl, after)

onward_more : (fs : List Frame) (b : Bool) (kinds : List Kind) → Front Steps (After b fs) kinds → Front Onward (After b fs) (Slash ∷ kinds)
onward_more fs b kinds (f, r, is, after) = (NextStep f, r, ap (λ l. Slash ∷ l) is, after)

indexed : (fs : List Frame) (b : Bool) (kinds : List Kind) → Front Whole (Led CloseIndex (Front Onward (After b fs))) kinds
    → Front Index (Front Onward (After b fs)) (OpenIndex ∷ kinds)
indexed fs b kinds (e, r, is, (last, then, after)) =
    (AnIndex e, last, ap (λ l. OpenIndex ∷ l) (two (spelling e) (CloseIndex ∷ []) kinds r last is then), after)

called : (fs : List Frame) (b : Bool) (kinds : List Kind) → Front Arguments (After b fs) kinds → Front Factor (After b fs) (Name ∷ Open ∷ kinds)
called fs b kinds (f, r, is, after) = (Call f, r, ap (λ l. Name ∷ Open ∷ l) is, after)

-- `if`, and what may come behind it as a name
named_if : (fs : List Frame) (kinds : List Kind) → Front Index (Front Onward (After false fs)) kinds → Front Whole (Ends fs) (If ∷ kinds)
named_if fs kinds from = whole_of_term fs (If ∷ kinds) (term_first fs false (If ∷ kinds) (relative fs false (If ∷ kinds) (path fs false If kinds refl from)))

condition : (fs : List Frame) (kinds : List Kind)
    → Front Whole (Led Close (Led Then (Front Whole (Led Else (Front Whole (Ends fs)))))) kinds → Front Whole (Ends fs) (If ∷ Open ∷ kinds)
condition fs kinds (c, r, is, (r1, is1, (r2, is2, (t, r3, is3, (r4, is4, (e, last, is5, ends)))))) = (
  Conditional c t e,
  last,
  ap (λ l. If ∷ Open ∷ l) (is ∙ ap (λ l. spelling c ++ l)
      (is1 ∙ ap (λ l. Close ∷ l) (is2 ∙ ap (λ l. Then ∷ l) (is3 ∙ ap (λ l. spelling t ++ l) (is4 ∙ ap (λ l. Else ∷ l) is5)
      ∙ sym (append_assoc (spelling t) (Else ∷ spelling e) last))))
      ∙ sym (append_assoc (spelling c) (Close ∷ Then ∷ (spelling t ++ Else ∷ spelling e)) last)),
  ends,
)

abbrev Kept : List Frame → Option At → (List Kind → Type 0) → List Kind → Kind → Type 0
Kept fs next Before kinds k = IfSome next (λ t. Comes t kinds → Before (k ∷ kinds))

kept : (fs : List Frame) (next : Option At) (P Q : List Kind → Type 0) (kinds : List Kind) (k : Kind) → (P (k ∷ kinds) → Q (k ∷ kinds))
    → Kept fs next P kinds k → Kept fs next Q kinds k
kept fs next P Q kinds k more given = some_map (λ t. Comes t kinds → P (k ∷ kinds)) (λ t. Comes t kinds → Q (k ∷ kinds)) next (λ t before from. more (before from)) given

-- each step is kept
pub back_at : (mark : Mark) (fs : List Frame) (k : Kind) (kinds : List Kind)
    → IfSome (next (record { mark = mark; opened = fs }) k) (λ t. Comes t kinds → From mark fs (k ∷ kinds))
unfolding act
back_at m.Begin fs If kinds = λ from. from
back_at m.Begin fs Minus kinds = λ from. whole_of_term fs (Minus ∷ kinds) (negative fs false kinds from)
back_at m.Begin fs k kinds =
    kept fs (acted_by fs (begins false k)) (Front Factor (After false fs)) (Front Whole (Ends fs)) kinds k
    (λ from. whole_of_term fs (k ∷ kinds) (term_first fs false (k ∷ kinds) from)) (begins_back fs false k kinds)
back_at m.Arguments fs If kinds = λ from. arguments_of_whole fs (If ∷ kinds) from
back_at m.Arguments fs Minus kinds = λ from. arguments_of_whole fs (Minus ∷ kinds) (whole_of_term fs (Minus ∷ kinds) (negative fs false kinds from))
back_at m.Arguments [] Close kinds = tt
back_at m.Arguments (InGroup b ∷ fs) Close kinds = λ from. tt
back_at m.Arguments (InCall b ∷ fs) Close kinds = λ from. (NoArguments, kinds, refl, from)
back_at m.Arguments (InIndex b ∷ fs) Close kinds = tt
back_at m.Arguments (InCondition ∷ fs) Close kinds = λ from. tt
back_at m.Arguments (InConsequent ∷ fs) Close kinds = tt
back_at m.Arguments fs k kinds =
    kept fs (acted_by fs (begins false k)) (Front Factor (After false fs)) (InArguments fs) kinds k
    (λ from. arguments_of_whole fs (k ∷ kinds) (whole_of_term fs (k ∷ kinds) (term_first fs false (k ∷ kinds) from))) (begins_back fs false k kinds)
back_at (m.Operand b) fs Minus kinds = λ from. negative fs b kinds from
back_at (m.Operand b) fs k kinds =
    kept fs (acted_by fs (begins b k)) (Front Factor (After b fs)) (Front Term (After b fs)) kinds k
    (term_first fs b (k ∷ kinds)) (begins_back fs b k kinds)
back_at (m.Positive b) fs k kinds = begins_back fs b k kinds
back_at (m.Variable b) fs If kinds = λ from. (If, refl, (kinds, refl, from))
back_at (m.Variable b) fs Name kinds = λ from. (Name, refl, (kinds, refl, from))
back_at (m.Variable b) fs k kinds = tt
back_at (m.Step b) fs If kinds = path fs b If kinds refl
back_at (m.Step b) fs Name kinds = path fs b Name kinds refl
back_at (m.Step b) fs Dot kinds = λ from. let (f, r, is, after) = from in (DotStep f, r, ap (λ l. Dot ∷ l) is, after)
back_at (m.Step b) fs k kinds = tt
back_at m.BegunIf fs Open kinds = condition fs kinds
back_at m.BegunIf fs OpenIndex kinds = λ from. named_if fs (OpenIndex ∷ kinds) (indexed fs false kinds from)
back_at m.BegunIf fs Slash kinds = λ from. named_if fs (Slash ∷ kinds) (index_end fs false (Slash ∷ kinds) (onward_more fs false kinds from))
back_at m.BegunIf fs k kinds =
    kept fs (acted_by fs (follows (top fs) false k)) (After false fs) (λ l. Front Whole (Ends fs) (If ∷ l)) kinds k
    (λ from. named_if fs (k ∷ kinds) (index_end fs false (k ∷ kinds) (onward_end fs false (k ∷ kinds) from))) (follows_back fs false k kinds)
back_at (m.Callable b) fs Open kinds = called fs b kinds
back_at (m.Callable b) fs OpenIndex kinds = λ from. relative fs b (Name ∷ OpenIndex ∷ kinds) (path fs b Name (OpenIndex ∷ kinds) refl (indexed fs b kinds from))
back_at (m.Callable b) fs Slash kinds =
    λ from. relative fs b (Name ∷ Slash ∷ kinds) (path fs b Name (Slash ∷ kinds) refl (index_end fs b (Slash ∷ kinds) (onward_more fs b kinds from)))
back_at (m.Callable b) fs k kinds =
    kept fs (acted_by fs (follows (top fs) b k)) (After b fs) (λ l. Front Factor (After b fs) (Name ∷ l)) kinds k
    (λ from. relative fs b (Name ∷ k ∷ kinds) (path fs b Name (k ∷ kinds) refl (index_end fs b (k ∷ kinds) (onward_end fs b (k ∷ kinds) from))))
    (follows_back fs b k kinds)
back_at (m.Named b) fs OpenIndex kinds = indexed fs b kinds
back_at (m.Named b) fs Slash kinds = λ from. index_end fs b (Slash ∷ kinds) (onward_more fs b kinds from)
back_at (m.Named b) fs k kinds =
    kept fs (acted_by fs (follows (top fs) b k)) (After b fs) (Front Index (Front Onward (After b fs))) kinds k
    (λ from. index_end fs b (k ∷ kinds) (onward_end fs b (k ∷ kinds) from)) (follows_back fs b k kinds)
back_at (m.Stepped b) fs Slash kinds = onward_more fs b kinds
back_at (m.Stepped b) fs k kinds =
    kept fs (acted_by fs (follows (top fs) b k)) (After b fs) (Front Onward (After b fs)) kinds k
    (onward_end fs b (k ∷ kinds)) (follows_back fs b k kinds)
back_at (m.Behind b) fs k kinds = follows_back fs b k kinds
back_at m.Closed fs Then kinds = λ from. (kinds, refl, from)
back_at m.Closed fs k kinds = tt

-- where an expression may end, nothing may come
pub ends_at_last : (mark : Mark) (fs : List Frame) → may_end (record { mark = mark; opened = fs }) ≡ true → From mark fs []
ends_at_last m.BegunIf [] is = named_if [] [] (index_end [] false [] (onward_end [] false [] (Ended false, [], refl, refl)))
ends_at_last (m.Callable b) [] is =
    relative [] b (Name ∷ []) (path [] b Name [] refl (index_end [] b [] (onward_end [] b [] (Ended b, [], refl, refl))))
ends_at_last (m.Named b) [] is = index_end [] b [] (onward_end [] b [] (Ended b, [], refl, refl))
ends_at_last (m.Stepped b) [] is = onward_end [] b [] (Ended b, [], refl, refl)
ends_at_last (m.Behind b) [] is = (Ended b, [], refl, refl)
ends_at_last _ _ is = absurd (cc)

abbrev constant : Syntax Whole
constant = Chain (Plain Constant) (Ended false)

-- some tokens may come behind a whole expression
ends_live : (fs : List Frame) → (kinds : List Kind) × Ends fs kinds
ends_live [] = ([], refl)
ends_live (InGroup b ∷ fs) = let (r, ends) = ends_live fs in (Close ∷ r, (r, refl, (Ended b, r, refl, ends)))
ends_live (InCall b ∷ fs) = let (r, ends) = ends_live fs in (Close ∷ r, (LastArgument, r, refl, (Ended b, r, refl, ends)))
ends_live (InIndex b ∷ fs) = let (r, ends) = ends_live fs in (CloseIndex ∷ r, (r, refl, (LastStep, r, refl, (Ended b, r, refl, ends))))
ends_live (InCondition ∷ fs) = let (r, ends) = ends_live fs in (
  Close ∷ Then ∷ Literal ∷ Else ∷ Literal ∷ r,
  (Then ∷ Literal ∷ Else ∷ Literal ∷ r, refl, (Literal ∷ Else ∷ Literal ∷ r, refl, (constant, Else ∷ Literal ∷ r, refl, (Literal ∷ r, refl, (constant, r, refl, ends))))),
)
ends_live (InConsequent ∷ fs) = let (r, ends) = ends_live fs in (Else ∷ Literal ∷ r, (Literal ∷ r, refl, (constant, r, refl, ends)))

after_live : (b : Bool) (fs : List Frame) → (kinds : List Kind) × After b fs kinds
after_live b fs = let (r, ends) = ends_live fs in (r, (Ended b, r, refl, ends))

arguments_live : (fs : List Frame) → (kinds : List Kind) × InArguments fs kinds
arguments_live (InCall b ∷ fs) = let (r, after) = after_live b fs in (Close ∷ r, (NoArguments, r, refl, after))
arguments_live [] = ([], tt)
arguments_live (InGroup b ∷ fs) = ([], tt)
arguments_live (InIndex b ∷ fs) = ([], tt)
arguments_live (InCondition ∷ fs) = ([], tt)
arguments_live (InConsequent ∷ fs) = ([], tt)

-- and at each mark
pub live_at : (mark : Mark) (fs : List Frame) → (kinds : List Kind) × From mark fs kinds
live_at m.Begin fs = let (r, ends) = ends_live fs in (Literal ∷ r, (constant, r, refl, ends))
live_at m.Arguments fs = arguments_live fs
live_at (m.Operand b) fs = let (r, after) = after_live b fs in (Literal ∷ r, (Plain Constant, r, refl, after))
live_at (m.Positive b) fs = let (r, after) = after_live b fs in (Literal ∷ r, (Constant, r, refl, after))
live_at (m.Variable b) fs = let (r, after) = after_live b fs in (Name ∷ r, (Name, refl, (r, refl, after)))
live_at (m.Step b) fs = let (r, after) = after_live b fs in (Dot ∷ r, (DotStep LastStep, r, refl, after))
live_at m.BegunIf fs = let (r, after) = after_live false fs in (r, named_if fs r (index_end fs false r (onward_end fs false r after)))
live_at (m.Callable b) fs = let (r, after) = after_live b fs in
    (r, relative fs b (Name ∷ r) (path fs b Name r refl (index_end fs b r (onward_end fs b r after))))
live_at (m.Named b) fs = let (r, after) = after_live b fs in (r, index_end fs b r (onward_end fs b r after))
live_at (m.Stepped b) fs = let (r, after) = after_live b fs in (r, onward_end fs b r after)
live_at (m.Behind b) fs = after_live b fs
live_at m.Closed fs = let (r, ends) = ends_live fs in (
  Then ∷ Literal ∷ Else ∷ Literal ∷ r,
  (Literal ∷ Else ∷ Literal ∷ r, refl, (constant, Else ∷ Literal ∷ r, refl, (Literal ∷ r, refl, (constant, r, refl, ends)))),
)
