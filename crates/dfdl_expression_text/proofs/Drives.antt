-- The tokens of each expression are driven through, from where it begins to where it may end.
use Rattle.std.proofs.Common.{◌≡◌, ℕ, Bool, true, false, List, [], ◌∷◌, ◌++◌, Option, Some, None, refl, ap, sym, subst, ◌∙◌, append_assoc}
use Rattle.std.proofs.lemmas.List.{append-nil}
use Rattle.std.specs.Option.{option_and_then}
use Rattle.dfdl_expression_text.specs.declared.kind.Kind.{Kind}
use Rattle.dfdl_expression_text.specs.declared.kind.Kind.TheVariants.{If, Name, Literal, Dollar, Slash, Dot, Open, Close}
use Rattle.dfdl_expression_text.specs.declared.kind.Kind.TheVariants.{Comma, OpenIndex, CloseIndex, Minus, Calculation}
use Rattle.dfdl_expression_text.specs.declared.kind.Kind.TheVariants.{Comparison, Junction, Then, Else}
use Rattle.dfdl_expression_text.specs.declared.mark.Mark.{Mark}
use Rattle.dfdl_expression_text.specs.declared.mark.Mark.TheVariants as m
use Rattle.dfdl_expression_text.specs.declared.mark.Frame.{Frame}
use Rattle.dfdl_expression_text.specs.declared.mark.Frame.TheVariants.{InGroup, InCall, InIndex, InCondition, InConsequent}
use Rattle.dfdl_expression_text.specs.Syntax.{is_name, calculates, Part, Whole, Rest, Term, Factor, Arguments, Further, Steps, Onward, Index}
use Rattle.dfdl_expression_text.specs.Syntax.{Syntax, Conditional, Chain, Ended, Joined, Compared, Calculated, Negative, Plain, Constant, Variable, Call}
use Rattle.dfdl_expression_text.specs.Syntax.{Absolute, Relative, Group, NoArguments, SomeArguments, LastArgument, NextArgument, DotStep, NameStep}
use Rattle.dfdl_expression_text.specs.Syntax.{LastStep, NextStep, NoIndex, AnIndex, spelling}
use Rattle.dfdl_expression_text.specs.Machine.{At, act, next, may_end, start}

-- where the token behind all of these stands
abbrev pub drive : At → List Kind → Option At
drive at [] = Some at
drive at (k ∷ kinds) = option_and_then (λ t. drive t kinds) (next at k)

abbrev pub to : Mark → List Frame → At
to mark fs = record { mark = mark; opened = fs }

-- an operand may end
pub data IsAfter : Mark → Bool → Type 0 where
  AfterIf : IsAfter m.BegunIf false
  AfterCallable : (b : Bool) → IsAfter (m.Callable b) b
  AfterNamed : (b : Bool) → IsAfter (m.Named b) b
  AfterStepped : (b : Bool) → IsAfter (m.Stepped b) b
  AfterBehind : (b : Bool) → IsAfter (m.Behind b) b

-- it ends with a step without an index
pub data IsNamed : Mark → Bool → Type 0 where
  NamedIf : IsNamed m.BegunIf false
  NamedCallable : (b : Bool) → IsNamed (m.Callable b) b
  NamedNamed : (b : Bool) → IsNamed (m.Named b) b

-- or with one that has one
pub data IsStepped : Mark → Bool → Type 0 where
  SteppedNamed : (mark : Mark) (b : Bool) → IsNamed mark b → IsStepped mark b
  SteppedStepped : (b : Bool) → IsStepped (m.Stepped b) b

-- an expression may begin
data IsBegin : Mark → Type 0 where
  AtBegin : IsBegin m.Begin
  AtArguments : IsBegin m.Arguments

-- an operand with its sign
data IsSigned : Mark → Bool → Type 0 where
  SignedBegin : (mark : Mark) → IsBegin mark → IsSigned mark false
  SignedOperand : (b : Bool) → IsSigned (m.Operand b) b

-- an operand
data IsBefore : Mark → Bool → Type 0 where
  BeforeSigned : (mark : Mark) (b : Bool) → IsSigned mark b → IsBefore mark b
  BeforePositive : (b : Bool) → IsBefore (m.Positive b) b

-- a step
data IsStep : Mark → Bool → Type 0 where
  StepBefore : (mark : Mark) (b : Bool) → IsBefore mark b → IsStep mark b
  StepStep : (b : Bool) → IsStep (m.Step b) b

pub after_named : (mark : Mark) (b : Bool) → IsNamed mark b → IsAfter mark b
after_named _ _ NamedIf = AfterIf
after_named _ _ (NamedCallable b) = AfterCallable b
after_named _ _ (NamedNamed b) = AfterNamed b

pub after_stepped : (mark : Mark) (b : Bool) → IsStepped mark b → IsAfter mark b
after_stepped _ _ (SteppedNamed mark b is) = after_named mark b is
after_stepped _ _ (SteppedStepped b) = AfterStepped b

module _ (fs : List Frame) where
  signed_minus : (mark : Mark) (b : Bool) → IsSigned mark b → next (to mark fs) Minus ≡ Some (to (m.Positive b) fs)
  unfolding act
  signed_minus _ _ (SignedBegin _ AtBegin) = refl
  signed_minus _ _ (SignedBegin _ AtArguments) = refl
  signed_minus _ _ (SignedOperand b) = refl

  -- a token at an operand's begin
  record Begins (mark : Mark) (b : Bool) : Type 0 where
    literal : next (to mark fs) Literal ≡ Some (to (m.Behind b) fs)
    dollar : next (to mark fs) Dollar ≡ Some (to (m.Variable b) fs)
    slash : next (to mark fs) Slash ≡ Some (to (m.Step b) fs)
    dot : next (to mark fs) Dot ≡ Some (to (m.Stepped b) fs)
    name : next (to mark fs) Name ≡ Some (to (m.Callable b) fs)
    group : next (to mark fs) Open ≡ Some (to m.Begin (InGroup b ∷ fs))

  begins_all : (mark : Mark) (b : Bool) → IsBefore mark b → Begins mark b
  unfolding act
  begins_all _ _ (BeforeSigned _ _ (SignedBegin _ AtBegin)) = record { literal = refl; dollar = refl; slash = refl; dot = refl; name = refl; group = refl }
  begins_all _ _ (BeforeSigned _ _ (SignedBegin _ AtArguments)) = record { literal = refl; dollar = refl; slash = refl; dot = refl; name = refl; group = refl }
  begins_all _ _ (BeforeSigned _ _ (SignedOperand b)) = record { literal = refl; dollar = refl; slash = refl; dot = refl; name = refl; group = refl }
  begins_all _ _ (BeforePositive b) = record { literal = refl; dollar = refl; slash = refl; dot = refl; name = refl; group = refl }

  begin_if : (mark : Mark) → IsBegin mark → next (to mark fs) If ≡ Some (to m.BegunIf fs)
  unfolding act
  begin_if _ AtBegin = refl
  begin_if _ AtArguments = refl

  step_dot : (mark : Mark) (b : Bool) → IsStep mark b → next (to mark fs) Dot ≡ Some (to (m.Stepped b) fs)
  unfolding act
  step_dot _ _ (StepBefore mark b is) = (begins_all mark b is).dot
  step_dot _ _ (StepStep b) = refl

  record Names (mark : Mark) (b : Bool) (k : Kind) : Type 0 where
    last : Mark
    is : IsNamed last b
    goes : next (to mark fs) k ≡ Some (to last fs)

  step_name : (mark : Mark) (b : Bool) (k : Kind) → is_name k ≡ true → IsStep mark b → Names mark b k
  unfolding act
  step_name _ _ Name name (StepBefore mark b is) = record { last = m.Callable b; is = NamedCallable b; goes = (begins_all mark b is).name }
  step_name _ _ If name (StepBefore _ _ (BeforeSigned _ _ (SignedBegin mark is))) = record { last = m.BegunIf; is = NamedIf; goes = begin_if mark is }
  step_name _ _ If name (StepBefore _ _ (BeforeSigned _ _ (SignedOperand b))) = record { last = m.Named b; is = NamedNamed b; goes = refl }
  step_name _ _ If name (StepBefore _ _ (BeforePositive b)) = record { last = m.Named b; is = NamedNamed b; goes = refl }
  step_name _ _ Name name (StepStep b) = record { last = m.Named b; is = NamedNamed b; goes = refl }
  step_name _ _ If name (StepStep b) = record { last = m.Named b; is = NamedNamed b; goes = refl }
  step_name mark b k name is = absurd (cc)

  variable_name : (b : Bool) (k : Kind) → is_name k ≡ true → next (to (m.Variable b) fs) k ≡ Some (to (m.Behind b) fs)
  unfolding act
  variable_name b Name name = refl
  variable_name b If name = refl
  variable_name b k name = absurd (cc)

  named_index : (mark : Mark) (b : Bool) → IsNamed mark b → next (to mark fs) OpenIndex ≡ Some (to m.Begin (InIndex b ∷ fs))
  unfolding act
  named_index _ _ NamedIf = refl
  named_index _ _ (NamedCallable b) = refl
  named_index _ _ (NamedNamed b) = refl

  stepped_slash : (mark : Mark) (b : Bool) → IsStepped mark b → next (to mark fs) Slash ≡ Some (to (m.Step b) fs)
  unfolding act
  stepped_slash _ _ (SteppedNamed _ _ NamedIf) = refl
  stepped_slash _ _ (SteppedNamed _ _ (NamedCallable b)) = refl
  stepped_slash _ _ (SteppedNamed _ _ (NamedNamed b)) = refl
  stepped_slash _ _ (SteppedStepped b) = refl

  call_open : (b : Bool) → next (to (m.Callable b) fs) Open ≡ Some (to m.Arguments (InCall b ∷ fs))
  unfolding act
  call_open b = refl

  if_open : next (to m.BegunIf fs) Open ≡ Some (to m.Begin (InCondition ∷ fs))
  unfolding act
  if_open = refl

  arguments_close : (b : Bool) → next (to m.Arguments (InCall b ∷ fs)) Close ≡ Some (to (m.Behind b) fs)
  unfolding act
  arguments_close b = refl

  pub closed_then : next (to m.Closed fs) Then ≡ Some (to m.Begin (InConsequent ∷ fs))
  unfolding act
  closed_then = refl

  -- a token behind an operand
  pub record Follows (mark : Mark) (b : Bool) : Type 0 where
    pub joins : next (to mark fs) Junction ≡ Some (to (m.Operand false) fs)
    pub compares : b ≡ false → next (to mark fs) Comparison ≡ Some (to (m.Operand true) fs)
    pub takes : next (to mark fs) Minus ≡ Some (to (m.Operand b) fs)
    pub calculates : next (to mark fs) Calculation ≡ Some (to (m.Operand b) fs)
    pub group : (c : Bool) → next (to mark (InGroup c ∷ fs)) Close ≡ Some (to (m.Behind c) fs)
    pub call : (c : Bool) → next (to mark (InCall c ∷ fs)) Close ≡ Some (to (m.Behind c) fs)
    pub comma : (c : Bool) → next (to mark (InCall c ∷ fs)) Comma ≡ Some (to m.Begin (InCall c ∷ fs))
    pub index : (c : Bool) → next (to mark (InIndex c ∷ fs)) CloseIndex ≡ Some (to (m.Stepped c) fs)
    pub condition : next (to mark (InCondition ∷ fs)) Close ≡ Some (to m.Closed fs)
    pub consequent : next (to mark (InConsequent ∷ fs)) Else ≡ Some (to m.Begin fs)

  abbrev Compares : Mark → Bool → Type 0
  Compares mark b = b ≡ false → next (to mark fs) Comparison ≡ Some (to (m.Operand true) fs)

  compared : (mark : Mark) (b : Bool) → IsAfter mark b → Compares mark b
  unfolding act
  compared _ _ AfterIf same = refl
  compared _ _ (AfterCallable false) same = refl
  compared _ _ (AfterNamed false) same = refl
  compared _ _ (AfterStepped false) same = refl
  compared _ _ (AfterBehind false) same = refl
  compared _ _ (AfterCallable true) same = absurd (cc)
  compared _ _ (AfterNamed true) same = absurd (cc)
  compared _ _ (AfterStepped true) same = absurd (cc)
  compared _ _ (AfterBehind true) same = absurd (cc)

  pub follows_all : (mark : Mark) (b : Bool) → IsAfter mark b → Follows mark b
  unfolding act
  follows_all _ _ AfterIf = record { joins = refl; compares = compared m.BegunIf false AfterIf; takes = refl; calculates = refl; group = λ c. refl; call = λ c. refl; comma = λ c. refl; index = λ c. refl; condition = refl; consequent = refl }
  follows_all _ _ (AfterCallable b) = record { joins = refl; compares = compared (m.Callable b) b (AfterCallable b); takes = refl; calculates = refl; group = λ c. refl; call = λ c. refl; comma = λ c. refl; index = λ c. refl; condition = refl; consequent = refl }
  follows_all _ _ (AfterNamed b) = record { joins = refl; compares = compared (m.Named b) b (AfterNamed b); takes = refl; calculates = refl; group = λ c. refl; call = λ c. refl; comma = λ c. refl; index = λ c. refl; condition = refl; consequent = refl }
  follows_all _ _ (AfterStepped b) = record { joins = refl; compares = compared (m.Stepped b) b (AfterStepped b); takes = refl; calculates = refl; group = λ c. refl; call = λ c. refl; comma = λ c. refl; index = λ c. refl; condition = refl; consequent = refl }
  follows_all _ _ (AfterBehind b) = record { joins = refl; compares = compared (m.Behind b) b (AfterBehind b); takes = refl; calculates = refl; group = λ c. refl; call = λ c. refl; comma = λ c. refl; index = λ c. refl; condition = refl; consequent = refl }

-- driven over one token
pub over : (s t : At) (k : Kind) (kinds : List Kind) → next s k ≡ Some t → drive s (k ∷ kinds) ≡ drive t kinds
over s t k kinds is = ap (option_and_then (λ u. drive u kinds)) is

-- driven over two lists
abbrev Over : At → List Kind → At → Type 0
Over s kinds t = (rest : List Kind) → drive s (kinds ++ rest) ≡ drive t rest

over_two : (s t u : At) (xs ys : List Kind) → Over s xs t → Over t ys u → Over s (xs ++ ys) u
over_two s t u xs ys first second rest = ap (drive s) (append_assoc xs ys rest) ∙ (first (ys ++ rest) ∙ second rest)

over_more : (s t u : At) (k : Kind) (kinds : List Kind) → next s k ≡ Some t → Over t kinds u → Over s (k ∷ kinds) u
over_more s t u k kinds goes second rest = over s t k (kinds ++ rest) goes ∙ second rest

-- driven to an operand's end
record Lands (s : At) (kinds : List Kind) (b : Bool) (fs : List Frame) : Type 0 where
  mark : Mark
  is : IsAfter mark b
  over : Over s kinds (to mark fs)

-- the same, whatever the flag is there
record Arrives (s : At) (kinds : List Kind) (fs : List Frame) : Type 0 where
  b : Bool
  lands : Lands s kinds b fs

record Indexes (s : At) (kinds : List Kind) (b : Bool) (fs : List Frame) : Type 0 where
  mark : Mark
  is : IsStepped mark b
  over : Over s kinds (to mark fs)

lands_more : (s t : At) (k : Kind) (kinds : List Kind) (b : Bool) (fs : List Frame) → next s k ≡ Some t → Lands t kinds b fs → Lands s (k ∷ kinds) b fs
lands_more s t k kinds b fs goes l = record { mark = l.mark; is = l.is; over = over_more s t (to l.mark fs) k kinds goes l.over }

lands_behind : (s t : At) (xs ys : List Kind) (b : Bool) (fs : List Frame) → Over s xs t → Lands t ys b fs → Lands s (xs ++ ys) b fs
lands_behind s t xs ys b fs first l = record { mark = l.mark; is = l.is; over = over_two s t (to l.mark fs) xs ys first l.over }

lands_at : (s : At) (mark : Mark) (k : Kind) (b : Bool) (fs : List Frame) → IsAfter mark b → next s k ≡ Some (to mark fs) → Lands s (k ∷ []) b fs
lands_at s mark k b fs is goes = record { mark = mark; is = is; over = λ rest. over s (to mark fs) k rest goes }

abbrev Driven : (p : Part) → Syntax p → Type 0
Driven Whole e = (mark : Mark) (fs : List Frame) → IsBegin mark → Arrives (to mark fs) (spelling e) fs
Driven (Rest b) r = (mark : Mark) (fs : List Frame) → IsAfter mark b → Arrives (to mark fs) (spelling r) fs
Driven Term f = (mark : Mark) (b : Bool) (fs : List Frame) → IsSigned mark b → Lands (to mark fs) (spelling f) b fs
Driven Factor f = (mark : Mark) (b : Bool) (fs : List Frame) → IsBefore mark b → Lands (to mark fs) (spelling f) b fs
Driven Arguments f = (b : Bool) (fs : List Frame) → Over (to m.Arguments (InCall b ∷ fs)) (spelling f) (to (m.Behind b) fs)
Driven Further f = (mark : Mark) (c b : Bool) (fs : List Frame) → IsAfter mark c → Over (to mark (InCall b ∷ fs)) (spelling f) (to (m.Behind b) fs)
Driven Steps f = (mark : Mark) (b : Bool) (fs : List Frame) → IsStep mark b → Lands (to mark fs) (spelling f) b fs
Driven Onward f = (mark : Mark) (b : Bool) (fs : List Frame) → IsStepped mark b → Lands (to mark fs) (spelling f) b fs
Driven Index f = (mark : Mark) (b : Bool) (fs : List Frame) → IsNamed mark b → Indexes (to mark fs) (spelling f) b fs

-- a chain goes on behind a term
chained : (s : At) (xs ys : List Kind) (b : Bool) (fs : List Frame) → Lands s xs b fs
    → ((mark : Mark) → IsAfter mark b → Arrives (to mark fs) ys fs) → Arrives s (xs ++ ys) fs
chained s xs ys b fs first more =
    let last = more first.mark first.is in
    record { b = last.b; lands = lands_behind s (to first.mark fs) xs ys last.b fs first.over last.lands }

chained_more : (s t : At) (k : Kind) (kinds : List Kind) (fs : List Frame) → next s k ≡ Some t → Arrives t kinds fs → Arrives s (k ∷ kinds) fs
chained_more s t k kinds fs goes a = record { b = a.b; lands = lands_more s t k kinds a.b fs goes a.lands }

drives : {p : Part} (f : Syntax p) → Driven p f
drives (Conditional c t e) = λ mark fs is.
    let over_if = begin_if fs mark is in
    let test = drives c m.Begin (InCondition ∷ fs) AtBegin in
    let chosen = drives t m.Begin (InConsequent ∷ fs) AtBegin in
    let other = drives e m.Begin fs AtBegin in
    chained_more (to mark fs) (to m.BegunIf fs) If (Open ∷ (spelling c ++ Close ∷ Then ∷ (spelling t ++ Else ∷ spelling e))) fs over_if
    (chained_more (to m.BegunIf fs) (to m.Begin (InCondition ∷ fs)) Open (spelling c ++ Close ∷ Then ∷ (spelling t ++ Else ∷ spelling e)) fs (if_open fs)
    (record {
      b = other.b;
      lands = lands_behind (to m.Begin (InCondition ∷ fs)) (to test.lands.mark (InCondition ∷ fs)) (spelling c) (Close ∷ Then ∷ (spelling t ++ Else ∷ spelling e)) other.b fs test.lands.over
          (lands_more (to test.lands.mark (InCondition ∷ fs)) (to m.Closed fs) Close (Then ∷ (spelling t ++ Else ∷ spelling e)) other.b fs
          ((follows_all fs test.lands.mark test.b test.lands.is).condition)
          (lands_more (to m.Closed fs) (to m.Begin (InConsequent ∷ fs)) Then (spelling t ++ Else ∷ spelling e) other.b fs (closed_then fs)
          (lands_behind (to m.Begin (InConsequent ∷ fs)) (to chosen.lands.mark (InConsequent ∷ fs)) (spelling t) (Else ∷ spelling e) other.b fs chosen.lands.over
          (lands_more (to chosen.lands.mark (InConsequent ∷ fs)) (to m.Begin fs) Else (spelling e) other.b fs
          ((follows_all fs chosen.lands.mark chosen.b chosen.lands.is).consequent) other.lands))));
    }))
drives (Chain f r) = λ mark fs is.
    chained (to mark fs) (spelling f) (spelling r) false fs (drives f mark false fs (SignedBegin mark is)) (λ last after. drives r last fs after)
drives (Ended b) = λ mark fs is. record { b = b; lands = record { mark = mark; is = is; over = λ rest. refl } }
drives (Joined b f r) = λ mark fs is.
    chained_more (to mark fs) (to (m.Operand false) fs) Junction (spelling f ++ spelling r) fs ((follows_all fs mark b is).joins)
    (chained (to (m.Operand false) fs) (spelling f) (spelling r) false fs (drives f (m.Operand false) false fs (SignedOperand false)) (λ last after. drives r last fs after))
drives (Compared f r) = λ mark fs is.
    chained_more (to mark fs) (to (m.Operand true) fs) Comparison (spelling f ++ spelling r) fs ((follows_all fs mark false is).compares refl)
    (chained (to (m.Operand true) fs) (spelling f) (spelling r) true fs (drives f (m.Operand true) true fs (SignedOperand true)) (λ last after. drives r last fs after))
drives (Calculated b Minus kind f r) = λ mark fs is.
    chained_more (to mark fs) (to (m.Operand b) fs) Minus (spelling f ++ spelling r) fs ((follows_all fs mark b is).takes)
    (chained (to (m.Operand b) fs) (spelling f) (spelling r) b fs (drives f (m.Operand b) b fs (SignedOperand b)) (λ last after. drives r last fs after))
drives (Calculated b Calculation kind f r) = λ mark fs is.
    chained_more (to mark fs) (to (m.Operand b) fs) Calculation (spelling f ++ spelling r) fs ((follows_all fs mark b is).calculates)
    (chained (to (m.Operand b) fs) (spelling f) (spelling r) b fs (drives f (m.Operand b) b fs (SignedOperand b)) (λ last after. drives r last fs after))
drives (Calculated b k kind f r) = λ mark fs is. absurd (cc)
drives (Negative f) = λ mark b fs is.
    lands_more (to mark fs) (to (m.Positive b) fs) Minus (spelling f) b fs (signed_minus fs mark b is) (drives f (m.Positive b) b fs (BeforePositive b))
drives (Plain f) = λ mark b fs is. drives f mark b fs (BeforeSigned mark b is)
drives Constant = λ mark b fs is. lands_at (to mark fs) (m.Behind b) Literal b fs (AfterBehind b) ((begins_all fs mark b is).literal)
drives (Variable k name) = λ mark b fs is.
    lands_more (to mark fs) (to (m.Variable b) fs) Dollar (k ∷ []) b fs ((begins_all fs mark b is).dollar)
    (lands_at (to (m.Variable b) fs) (m.Behind b) k b fs (AfterBehind b) (variable_name fs b k name))
drives (Call f) = λ mark b fs is.
    lands_more (to mark fs) (to (m.Callable b) fs) Name (Open ∷ spelling f) b fs ((begins_all fs mark b is).name)
    (lands_more (to (m.Callable b) fs) (to m.Arguments (InCall b ∷ fs)) Open (spelling f) b fs (call_open fs b)
    (record { mark = m.Behind b; is = AfterBehind b; over = drives f b fs }))
drives (Absolute f) = λ mark b fs is.
    lands_more (to mark fs) (to (m.Step b) fs) Slash (spelling f) b fs ((begins_all fs mark b is).slash) (drives f (m.Step b) b fs (StepStep b))
drives (Relative f) = λ mark b fs is. drives f mark b fs (StepBefore mark b is)
drives (Group e) = λ mark b fs is.
    let inner = drives e m.Begin (InGroup b ∷ fs) AtBegin in
    lands_more (to mark fs) (to m.Begin (InGroup b ∷ fs)) Open (spelling e ++ Close ∷ []) b fs ((begins_all fs mark b is).group)
    (lands_behind (to m.Begin (InGroup b ∷ fs)) (to inner.lands.mark (InGroup b ∷ fs)) (spelling e) (Close ∷ []) b fs inner.lands.over
    (lands_at (to inner.lands.mark (InGroup b ∷ fs)) (m.Behind b) Close b fs (AfterBehind b) ((follows_all fs inner.lands.mark inner.b inner.lands.is).group b)))
drives NoArguments = λ b fs. λ rest. over (to m.Arguments (InCall b ∷ fs)) (to (m.Behind b) fs) Close rest (arguments_close fs b)
drives (SomeArguments e g) = λ b fs.
    let inner = drives e m.Arguments (InCall b ∷ fs) AtArguments in
    over_two (to m.Arguments (InCall b ∷ fs)) (to inner.lands.mark (InCall b ∷ fs)) (to (m.Behind b) fs) (spelling e) (spelling g) inner.lands.over
    (drives g inner.lands.mark inner.b b fs inner.lands.is)
drives LastArgument = λ mark c b fs is. λ rest. over (to mark (InCall b ∷ fs)) (to (m.Behind b) fs) Close rest ((follows_all fs mark c is).call b)
drives (NextArgument e g) = λ mark c b fs is.
    let inner = drives e m.Begin (InCall b ∷ fs) AtBegin in
    over_more (to mark (InCall b ∷ fs)) (to m.Begin (InCall b ∷ fs)) (to (m.Behind b) fs) Comma (spelling e ++ spelling g) ((follows_all fs mark c is).comma b)
    (over_two (to m.Begin (InCall b ∷ fs)) (to inner.lands.mark (InCall b ∷ fs)) (to (m.Behind b) fs) (spelling e) (spelling g) inner.lands.over
    (drives g inner.lands.mark inner.b b fs inner.lands.is))
drives (DotStep o) = λ mark b fs is.
    lands_more (to mark fs) (to (m.Stepped b) fs) Dot (spelling o) b fs (step_dot fs mark b is) (drives o (m.Stepped b) b fs (SteppedStepped b))
drives (NameStep k name i o) = λ mark b fs is.
    let named = step_name fs mark b k name is in
    let index = drives i named.last b fs named.is in
    lands_more (to mark fs) (to named.last fs) k (spelling i ++ spelling o) b fs named.goes
    (lands_behind (to named.last fs) (to index.mark fs) (spelling i) (spelling o) b fs index.over (drives o index.mark b fs index.is))
drives LastStep = λ mark b fs is. record { mark = mark; is = after_stepped mark b is; over = λ rest. refl }
drives (NextStep f) = λ mark b fs is.
    lands_more (to mark fs) (to (m.Step b) fs) Slash (spelling f) b fs (stepped_slash fs mark b is) (drives f (m.Step b) b fs (StepStep b))
drives NoIndex = λ mark b fs is. record { mark = mark; is = SteppedNamed mark b is; over = λ rest. refl }
drives (AnIndex e) = λ mark b fs is.
    let inner = drives e m.Begin (InIndex b ∷ fs) AtBegin in
    record {
      mark = m.Stepped b;
      is = SteppedStepped b;
      over = over_more (to mark fs) (to m.Begin (InIndex b ∷ fs)) (to (m.Stepped b) fs) OpenIndex (spelling e ++ CloseIndex ∷ []) (named_index fs mark b is)
          (over_two (to m.Begin (InIndex b ∷ fs)) (to inner.lands.mark (InIndex b ∷ fs)) (to (m.Stepped b) fs) (spelling e) (CloseIndex ∷ []) inner.lands.over
          (λ rest. over (to inner.lands.mark (InIndex b ∷ fs)) (to (m.Stepped b) fs) CloseIndex rest ((follows_all fs inner.lands.mark inner.b inner.lands.is).index b)));
    }

-- an expression may end where an operand may, if nothing is open
pub ends_after : (mark : Mark) (b : Bool) → IsAfter mark b → may_end (to mark []) ≡ true
ends_after _ _ AfterIf = refl
ends_after _ _ (AfterCallable b) = refl
ends_after _ _ (AfterNamed b) = refl
ends_after _ _ (AfterStepped b) = refl
ends_after _ _ (AfterBehind b) = refl

-- each expression is driven through to where one may end
pub driven_through : (e : Syntax Whole) → (t : At) × (drive (to m.Begin []) (spelling e) ≡ Some t) × (may_end t ≡ true)
driven_through e =
    let a = drives e m.Begin [] AtBegin in
    (to a.lands.mark [], ap (drive (to m.Begin [])) (sym (append-nil (spelling e))) ∙ a.lands.over [], ends_after a.lands.mark a.b a.lands.is)
