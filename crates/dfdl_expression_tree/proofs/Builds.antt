-- What is built of an expression's tokens is its tree.
use Rattle.std.proofs.Common.{◌≡◌, ℕ, ◌+◌, nat_le, Bool, true, false, ◌||◌, Some, List, [], ◌∷◌, ◌++◌, refl, ap, sym, ◌∙◌, arith}
use Rattle.std.proofs.Common.{append_assoc}
use Rattle.std.proofs.lemmas.List.{append-nil}
use Rattle.dfdl_layers.specs.Tellers.{Each}
use Rattle.dfdl_expression_text.specs.declared.kind.Kind.{Kind}
use Rattle.dfdl_expression_text.specs.declared.kind.Kind.TheVariants as k
use Rattle.dfdl_expression_text.specs.Syntax.{Part, Syntax, spelling}
use Rattle.dfdl_expression_text.specs.Syntax as s
use Rattle.dfdl_expression_tree.specs.declared.token.Span.{Span}
use Rattle.dfdl_expression_tree.specs.declared.token.Operator.TheVariants as o
use Rattle.dfdl_expression_tree.specs.declared.token.Token.{Token}
use Rattle.dfdl_expression_tree.specs.declared.node.Leaf.TheVariants as leaf
use Rattle.dfdl_expression_tree.specs.declared.node.Unary.TheVariants as unary
use Rattle.dfdl_expression_tree.specs.declared.node.Binary.TheVariants as binary
use Rattle.dfdl_expression_tree.specs.declared.node.Cell.{Cell}
use Rattle.dfdl_expression_tree.specs.declared.node.Cell.TheVariants as cell
use Rattle.dfdl_expression_tree.specs.declared.pending.Pending.{Pending}
use Rattle.dfdl_expression_tree.specs.declared.pending.Pending.TheVariants.{Negative, Operation, Alternative, Group, Call, Index}
use Rattle.dfdl_expression_tree.specs.declared.pending.Pending.TheVariants.{Condition, Consequent}
use Rattle.dfdl_expression_tree.specs.declared.pending.Place.TheVariants as place
use Rattle.dfdl_expression_tree.specs.TokenLists.{nth_token}
use Rattle.dfdl_expression_tree.specs.Trees.{Formula, End, One, Two, Link, strength, chained, after, stepped, operated, made}
use Rattle.dfdl_expression_tree.specs.Chains.{From}
use Rattle.dfdl_expression_tree.specs.Building.{Work, State, work, state, popped, popped_of, moved_by, begins, closed_behind, finished_by}
use Rattle.dfdl_expression_tree.specs.Building.{is_operator, is_closing, opens_next, go_on, run, start}
use Rattle.dfdl_expression_tree.proofs.Groups.{code, fed, Stays, groups_fed, chained_groups}

-- an operand may end before these tokens, and a whole expression
abbrev ends : List Kind → Bool
ends [] = true
ends (kind ∷ kinds) = is_operator kind || is_closing kind

abbrev closing : List Kind → Bool
closing [] = true
closing (kind ∷ kinds) = is_closing kind

-- what was opened last isn't ended by an operator
abbrev pub fresh : List Pending → Bool
fresh [] = true
fresh (Negative ∷ ps) = false
fresh (Operation operator ∷ ps) = false
fresh (p ∷ ps) = true

not_above : (l : Link) → nat_le (strength l.operator) 0 ≡ false
not_above l = by l.operator
  where
    by : (operator : _) → nat_le (strength operator) 0 ≡ false
    by o.Or = refl
    by operator = refl

fresh_stays : (l : Link) (ps : List Pending) → fresh ps ≡ true → Stays l ps
fresh_stays l [] is = tt
fresh_stays l (Negative ∷ ps) is = absurd (cc)
fresh_stays l (Operation operator ∷ ps) is = absurd (cc)
fresh_stays l (Alternative ∷ ps) is = not_above l
fresh_stays l (p ∷ ps) is = refl

pub all_stay : (links : List Link) (ps : List Pending) → fresh ps ≡ true → Each (λ (l : Link). Stays l ps) links
all_stay [] ps is = tt
all_stay (l ∷ links) ps is = (fresh_stays l ps is, all_stay links ps is)

pub from_zero : (links : List Link) → From 0 links
from_zero [] = tt
from_zero (l ∷ links) = (omega arith, from_zero links)

abbrev behind_operand : Work → State
behind_operand w = record { work = w; place = place.After }

closing_ends : (ks : List Kind) → closing ks ≡ true → ends ks ≡ true
closing_ends [] is = refl
closing_ends (kind ∷ ks) is = second (is_operator kind) (is_closing kind) is
  where
    second : (x y : Bool) → y ≡ true → (x || y) ≡ true
    second true y h = refl
    second false y h = h

rest_ends : (compared : Bool) (rest : Syntax (s.Rest compared)) (ks : List Kind) → closing ks ≡ true → ends (spelling rest ++ ks) ≡ true
rest_ends _ (s.Ended compared) ks is = closing_ends ks is
rest_ends _ (s.Joined compared term rest) ks is = refl
rest_ends _ (s.Compared term rest) ks is = refl
rest_ends _ (s.Calculated compared k.Minus calculates term rest) ks is = refl
rest_ends _ (s.Calculated compared k.Calculation calculates term rest) ks is = refl
rest_ends _ (s.Calculated compared kind calculates term rest) ks is = absurd (cc)

further_closes : (further : Syntax s.Further) (ks : List Kind) → closing (spelling further ++ ks) ≡ true
further_closes s.LastArgument ks = refl
further_closes (s.NextArgument next rest) ks = refl

no_open : (ks : List Kind) → ends ks ≡ true → opens_next ks ≡ false
no_open [] is = refl
no_open (k.Open ∷ ks) is = absurd (cc)
no_open (kind ∷ ks) is = refl

path_opens_none : (index : Syntax s.Index) (onward : Syntax s.Onward) (ks : List Kind) → ends ks ≡ true
    → opens_next (spelling index ++ spelling onward ++ ks) ≡ false
path_opens_none (s.AnIndex inner) onward ks is = refl
path_opens_none s.NoIndex (s.NextStep steps) ks is = refl
path_opens_none s.NoIndex s.LastStep ks is = no_open ks is

module _ (ts : List Token) where
  -- what closes ends the same, whatever is to be ended before
  closing_run : (ks : List Kind) (n : ℕ) (v w : Work) → closing ks ≡ true → popped_of 0 v ≡ popped_of 0 w
      → run ts ks n (behind_operand v) ≡ run ts ks n (behind_operand w)
  closing_run [] n v w is same = ap finished_by same
  closing_run (k.Close ∷ ks) n v w is same = ap (λ x. go_on (closed_behind x k.Close) (λ t. run ts ks (n + 1) t)) same
  closing_run (k.Comma ∷ ks) n v w is same = ap (λ x. go_on (closed_behind x k.Comma) (λ t. run ts ks (n + 1) t)) same
  closing_run (k.CloseIndex ∷ ks) n v w is same = ap (λ x. go_on (closed_behind x k.CloseIndex) (λ t. run ts ks (n + 1) t)) same
  closing_run (k.Else ∷ ks) n v w is same = ap (λ x. go_on (closed_behind x k.Else) (λ t. run ts ks (n + 1) t)) same
  closing_run (kind ∷ ks) n v w is same = absurd (cc)

  -- a sign ends where its operand does
  signed_run : (ks : List Kind) (n : ℕ) (cells : List Cell) (ps : List Pending) → ends ks ≡ true
      → run ts ks n (state cells (Negative ∷ ps) place.After) ≡ run ts ks n (state (cells ++ cell.Unary unary.Negative ∷ []) ps place.After)
  signed_run [] n cells ps is = refl
  signed_run (k.Close ∷ ks) n cells ps is = refl
  signed_run (k.Comma ∷ ks) n cells ps is = refl
  signed_run (k.CloseIndex ∷ ks) n cells ps is = refl
  signed_run (k.Else ∷ ks) n cells ps is = refl
  signed_run (k.Junction ∷ ks) n cells ps is = refl
  signed_run (k.Comparison ∷ ks) n cells ps is = refl
  signed_run (k.Minus ∷ ks) n cells ps is = refl
  signed_run (k.Calculation ∷ ks) n cells ps is = refl
  signed_run (kind ∷ ks) n cells ps is = absurd (cc)

  -- a path that begins where an operand does goes on from the context
  relative_run : (t : Syntax s.Steps) (ks : List Kind) (n : ℕ) (cells : List Cell) (ps : List Pending) → ends ks ≡ true
      → run ts (spelling t ++ ks) n (state cells ps place.Before)
      ≡ run ts (spelling t ++ ks) n (state (cells ++ cell.Leaf leaf.Context ∷ []) ps place.Step)
  relative_run (s.DotStep onward) ks n cells ps is = refl
  relative_run (s.NameStep k.Name named index onward) ks n cells ps is =
      ap (λ b. go_on (moved_by (work cells ps) (begins k.Name (nth_token ts n) b))
      (λ t. run ts (spelling index ++ spelling onward ++ ks) (n + 1) t))
      (path_opens_none index onward ks is)
  relative_run (s.NameStep k.If named index onward) ks n cells ps is =
      ap (λ b. go_on (moved_by (work cells ps) (begins k.If (nth_token ts n) b))
      (λ t. run ts (spelling index ++ spelling onward ++ ks) (n + 1) t))
      (path_opens_none index onward ks is)
  relative_run (s.NameStep kind named index onward) ks n cells ps is = absurd (cc)

  -- what each part of an expression builds
  abbrev Builds : (p : Part) → Syntax p → Type 0
  Builds s.Whole t =
      (n : ℕ) (ks : List Kind) (cells : List Cell) (ps : List Pending) → closing ks ≡ true → fresh ps ≡ true
      → run ts (spelling t ++ ks) n (state cells ps place.Before)
      ≡ run ts ks (after t n) (state (cells ++ code (made ts t n)) ps place.After)
  Builds (s.Rest compared) t =
      (n : ℕ) (ks : List Kind) (cells : List Cell) (ps : List Pending) → closing ks ≡ true
      → run ts (spelling t ++ ks) n (state cells ps place.After)
      ≡ run ts ks (after t n) (behind_operand (fed (made ts t n) (work cells ps)))
  Builds s.Term t =
      (n : ℕ) (ks : List Kind) (cells : List Cell) (ps : List Pending) → ends ks ≡ true
      → run ts (spelling t ++ ks) n (state cells ps place.Before)
      ≡ run ts ks (after t n) (state (cells ++ code (made ts t n)) ps place.After)
  Builds s.Factor t =
      (n : ℕ) (ks : List Kind) (cells : List Cell) (ps : List Pending) → ends ks ≡ true
      → run ts (spelling t ++ ks) n (state cells ps place.Before)
      ≡ run ts ks (after t n) (state (cells ++ code (made ts t n)) ps place.After)
  Builds s.Arguments t =
      (n : ℕ) (ks : List Kind) (cells : List Cell) (ps : List Pending) (name : Span) (before : Formula)
      → run ts (spelling t ++ ks) n (state (cells ++ code before) (Call name ∷ ps) place.Before)
      ≡ run ts ks (after t n) (state (cells ++ code (One (unary.Call name) (made ts t n before))) ps place.After)
  Builds s.Further t =
      (n : ℕ) (ks : List Kind) (cells : List Cell) (ps : List Pending) (name : Span) (before last : Formula)
      → run ts (spelling t ++ ks) n (state (cells ++ code before ++ code last) (Call name ∷ ps) place.After)
      ≡ run ts ks (after t n) (state (cells ++ code (One (unary.Call name) (made ts t n (Two binary.Argument before last)))) ps place.After)
  Builds s.Steps t =
      (n : ℕ) (ks : List Kind) (cells : List Cell) (ps : List Pending) (path : Formula) → ends ks ≡ true
      → run ts (spelling t ++ ks) n (state (cells ++ code path) ps place.Step)
      ≡ run ts ks (after t n) (state (cells ++ code (made ts t n path)) ps place.After)
  Builds s.Onward t =
      (n : ℕ) (ks : List Kind) (cells : List Cell) (ps : List Pending) (path : Formula) → ends ks ≡ true
      → run ts (spelling t ++ ks) n (state (cells ++ code path) ps place.After)
      ≡ run ts ks (after t n) (state (cells ++ code (made ts t n path)) ps place.After)
  Builds s.Index t =
      (n : ℕ) (ks : List Kind) (cells : List Cell) (ps : List Pending) (path : Formula)
      → run ts (spelling t ++ ks) n (state (cells ++ code path) ps place.After)
      ≡ run ts ks (after t n) (state (cells ++ code (made ts t n path)) ps place.After)

  -- the same tokens
  again : (xs ys zs : List Kind) (n : ℕ) (st : State) → run ts (xs ++ ys ++ zs) n st ≡ run ts (xs ++ (ys ++ zs)) n st
  again xs ys zs n st = ap (λ l. run ts l n st) (append_assoc xs ys zs)

  -- the same cells
  recelled : (ks : List Kind) (n : ℕ) (xs ys : List Cell) (ps : List Pending) (p : _) → xs ≡ ys → run ts ks n (state xs ps p)
      ≡ run ts ks n (state ys ps p)
  recelled ks n xs ys ps p same = ap (λ l. run ts ks n (state l ps p)) same

  three : (a b c d : List Cell) → a ++ b ++ c ++ d ≡ a ++ (b ++ (c ++ d))
  three a b c d = append_assoc (a ++ b) c d ∙ append_assoc a b (c ++ d)

  four : (a b c d e : List Cell) → a ++ b ++ c ++ d ++ e ≡ a ++ (b ++ (c ++ (d ++ e)))
  four a b c d e = append_assoc (a ++ b ++ c) d e ∙ three a b c (d ++ e)

  operator_builds : (compared : Bool) (kind : Kind) (term : Syntax s.Term) (rest : Syntax (s.Rest compared)) (n : ℕ) (ks : List Kind)
      (w : Work)
      → closing ks ≡ true → Builds s.Term term → Builds (s.Rest compared) rest
      → run ts (spelling term ++ spelling rest ++ ks) (n + 1)
      (state w.cells (Operation (operated (nth_token ts n)) ∷ w.pending) place.Before)
      ≡ run ts ks (after rest (after term (n + 1))) (behind_operand (fed (made ts rest (after term (n + 1)))
      (work (w.cells ++ code (made ts term (n + 1))) (Operation (operated (nth_token ts n)) ∷ w.pending))))
  operator_builds compared kind term rest n ks w is term_builds rest_builds =
      let ps = Operation (operated (nth_token ts n)) ∷ w.pending in
      again (spelling term) (spelling rest) ks (n + 1) (state w.cells ps place.Before)
      ∙ (term_builds (n + 1) (spelling rest ++ ks) w.cells ps (rest_ends compared rest ks is)
      ∙ rest_builds (after term (n + 1)) ks (w.cells ++ code (made ts term (n + 1))) ps is)

  argument_builds : (next : Syntax s.Whole) (rest : Syntax s.Further) (n : ℕ) (ks : List Kind) (cells : List Cell) (ps : List Pending)
      (name : Span)
      (before : Formula) → Builds s.Whole next → Builds s.Further rest
      → run ts (spelling next ++ spelling rest ++ ks) n (state (cells ++ code before) (Call name ∷ ps) place.Before)
      ≡ run ts ks (after rest (after next n))
      (state (cells ++ code (One (unary.Call name) (made ts rest (after next n) (Two binary.Argument before (made ts next n))))) ps
      place.After)
  argument_builds next rest n ks cells ps name before next_builds rest_builds =
      again (spelling next) (spelling rest) ks n (state (cells ++ code before) (Call name ∷ ps) place.Before)
      ∙ (next_builds n (spelling rest ++ ks) (cells ++ code before) (Call name ∷ ps) (further_closes rest ks) refl
      ∙ rest_builds (after next n) ks cells ps name before (made ts next n))

  name_builds : (index : Syntax s.Index) (onward : Syntax s.Onward) (n : ℕ) (ks : List Kind) (cells : List Cell) (ps : List Pending)
      (path : Formula)
      → ends ks ≡ true → Builds s.Index index → Builds s.Onward onward
      → run ts (spelling index ++ spelling onward ++ ks) (n + 1)
      (state (cells ++ code path ++ cell.Unary (unary.Child (nth_token ts n).span) ∷ []) ps place.After)
      ≡ run ts ks (after onward (after index (n + 1)))
      (state (cells ++ code (made ts onward (after index (n + 1)) (made ts index (n + 1) (One (unary.Child (nth_token ts n).span) path))))
      ps place.After)
  name_builds index onward n ks cells ps path is index_builds onward_builds =
      let step = One (unary.Child (nth_token ts n).span) path in
      recelled (spelling index ++ spelling onward ++ ks) (n + 1) _ _ ps place.After
      (append_assoc cells (code path) (cell.Unary (unary.Child (nth_token ts n).span) ∷ []))
      ∙ (again (spelling index) (spelling onward) ks (n + 1) (state (cells ++ code step) ps place.After)
      ∙ (index_builds (n + 1) (spelling onward ++ ks) cells ps step
      ∙ onward_builds (after index (n + 1)) ks cells ps (made ts index (n + 1) step) is))

  conditional_builds : (test first second : Syntax s.Whole) (n : ℕ) (ks : List Kind) (cells : List Cell) (ps : List Pending) → closing ks
      ≡ true
      → Builds s.Whole test → Builds s.Whole first → Builds s.Whole second
      → run ts (spelling (s.Conditional test first second) ++ ks) n (state cells ps place.Before)
      ≡ run ts ks (after (s.Conditional test first second) n)
      (state (cells ++ code (made ts (s.Conditional test first second) n)) ps place.After)
  conditional_builds test first second n ks cells ps is test_builds first_builds second_builds =
      let n_test = n + 1 + 1 in
      let n_first = after test n_test + 1 + 1 in
      let n_second = after first n_first + 1 in
      let a = made ts test n_test in
      let b = made ts first n_first in
      let c = made ts second n_second in
      let choices = spelling first ++ k.Else ∷ spelling second in
      let last : popped_of 0 (work (cells ++ code a ++ code b ++ code c) (Alternative ∷ ps))
      ≡ popped_of 0 (work (cells ++ code a ++ code b ++ code c ++ cell.Choice ∷ []) ps) = refl in
      again (spelling test) (k.Close ∷ k.Then ∷ choices) ks n_test (state cells (Condition ∷ ps) place.Before)
      ∙ (test_builds n_test (k.Close ∷ k.Then ∷ (choices ++ ks)) cells (Condition ∷ ps) refl refl
      ∙ (again (spelling first) (k.Else ∷ spelling second) ks n_first (state (cells ++ code a) (Consequent ∷ ps) place.Before)
      ∙ (first_builds n_first (k.Else ∷ (spelling second ++ ks)) (cells ++ code a) (Consequent ∷ ps) refl refl
      ∙ (second_builds n_second ks (cells ++ code a ++ code b) (Alternative ∷ ps) is refl
      ∙ (closing_run ks (after second n_second) (work (cells ++ code a ++ code b ++ code c) (Alternative ∷ ps))
      (work (cells ++ code a ++ code b ++ code c ++ cell.Choice ∷ []) ps) is last
      ∙ recelled ks (after second n_second) _ _ ps place.After (four cells (code a) (code b) (code c) (cell.Choice ∷ [])))))))

  part_builds : {p : Part} (t : Syntax p) → Builds p t
  part_builds (s.Conditional test first second) = λ n ks cells ps is free.
      conditional_builds test first second n ks cells ps is (part_builds test) (part_builds first) (part_builds second)
  part_builds (s.Chain first rest) = λ n ks cells ps is free.
      let a = made ts first n in
      let links = made ts rest (after first n) in
      again (spelling first) (spelling rest) ks n (state cells ps place.Before)
      ∙ (part_builds first n (spelling rest ++ ks) cells ps (rest_ends false rest ks is)
      ∙ (part_builds rest (after first n) ks (cells ++ code a) ps is
      ∙ closing_run ks (after rest (after first n)) (fed links (work (cells ++ code a) ps)) (work (cells ++ code (chained a links)) ps) is
      (groups_fed a links (chained a links) (chained_groups a links) 0 cells ps (from_zero links) (all_stay links ps free))))
  part_builds (s.Ended compared) = λ n ks cells ps is. refl
  part_builds (s.Joined compared term rest) = λ n ks cells ps is.
      operator_builds false k.Junction term rest n ks (popped (strength (operated (nth_token ts n))) cells ps) is (part_builds term)
      (part_builds rest)
  part_builds (s.Compared term rest) = λ n ks cells ps is.
      operator_builds true k.Comparison term rest n ks (popped (strength (operated (nth_token ts n))) cells ps) is (part_builds term)
      (part_builds rest)
  part_builds (s.Calculated compared k.Minus calculates term rest) = λ n ks cells ps is.
      operator_builds compared k.Minus term rest n ks (popped (strength (operated (nth_token ts n))) cells ps) is (part_builds term)
      (part_builds rest)
  part_builds (s.Calculated compared k.Calculation calculates term rest) = λ n ks cells ps is.
      operator_builds compared k.Calculation term rest n ks (popped (strength (operated (nth_token ts n))) cells ps) is (part_builds term)
      (part_builds rest)
  part_builds (s.Calculated compared kind calculates term rest) = λ n ks cells ps is. absurd (cc)
  part_builds (s.Negative factor) = λ n ks cells ps is.
      part_builds factor (n + 1) ks cells (Negative ∷ ps) is
      ∙ (signed_run ks (after factor (n + 1)) (cells ++ code (made ts factor (n + 1))) ps is
      ∙ recelled ks (after factor (n + 1)) _ _ ps place.After
      (append_assoc cells (code (made ts factor (n + 1))) (cell.Unary unary.Negative ∷ [])))
  part_builds (s.Plain factor) = λ n ks cells ps is. part_builds factor n ks cells ps is
  part_builds s.Constant = λ n ks cells ps is. refl
  part_builds (s.Variable k.If named) = λ n ks cells ps is. refl
  part_builds (s.Variable k.Name named) = λ n ks cells ps is. refl
  part_builds (s.Variable kind named) = λ n ks cells ps is. absurd (cc)
  part_builds (s.Call arguments) = λ n ks cells ps is. part_builds arguments (n + 1 + 1) ks cells ps (nth_token ts n).span
      (End leaf.NoArguments)
  part_builds (s.Absolute steps) = λ n ks cells ps is. part_builds steps (n + 1) ks cells ps (End leaf.Root) is
  part_builds (s.Relative steps) = λ n ks cells ps is.
      relative_run steps ks n cells ps is ∙ part_builds steps n ks cells ps (End leaf.Context) is
  part_builds (s.Group inner) = λ n ks cells ps is.
      again (spelling inner) (k.Close ∷ []) ks (n + 1) (state cells (Group ∷ ps) place.Before)
      ∙ part_builds inner (n + 1) (k.Close ∷ ks) cells (Group ∷ ps) refl refl
  part_builds s.NoArguments = λ n ks cells ps name before.
      recelled ks (n + 1) _ _ ps place.After (append_assoc cells (code before) (cell.Unary (unary.Call name) ∷ []))
  part_builds (s.SomeArguments first rest) = λ n ks cells ps name before.
      argument_builds first rest n ks cells ps name before (part_builds first) (part_builds rest)
  part_builds s.LastArgument = λ n ks cells ps name before last.
      recelled ks (n + 1) _ _ ps place.After
      (ap (λ l. l ++ cell.Unary (unary.Call name) ∷ []) (three cells (code before) (code last) (cell.Binary binary.Argument ∷ []))
      ∙ append_assoc cells (code (Two binary.Argument before last)) (cell.Unary (unary.Call name) ∷ []))
  part_builds (s.NextArgument next rest) = λ n ks cells ps name before last.
      recelled (spelling next ++ spelling rest ++ ks) (n + 1) _ _ (Call name ∷ ps) place.Before
      (three cells (code before) (code last) (cell.Binary binary.Argument ∷ []))
      ∙ argument_builds next rest (n + 1) ks cells ps name (Two binary.Argument before last) (part_builds next) (part_builds rest)
  part_builds (s.DotStep onward) = λ n ks cells ps path is.
      recelled (spelling onward ++ ks) (n + 1) _ _ ps place.After
      (append_assoc cells (code path) (cell.Unary (stepped (nth_token ts n)) ∷ []))
      ∙ part_builds onward (n + 1) ks cells ps (One (stepped (nth_token ts n)) path) is
  part_builds (s.NameStep k.If named index onward) = λ n ks cells ps path is.
      name_builds index onward n ks cells ps path is (part_builds index) (part_builds onward)
  part_builds (s.NameStep k.Name named index onward) = λ n ks cells ps path is.
      name_builds index onward n ks cells ps path is (part_builds index) (part_builds onward)
  part_builds (s.NameStep kind named index onward) = λ n ks cells ps path is. absurd (cc)
  part_builds s.LastStep = λ n ks cells ps path is. refl
  part_builds (s.NextStep steps) = λ n ks cells ps path is. part_builds steps (n + 1) ks cells ps path is
  part_builds s.NoIndex = λ n ks cells ps path. refl
  part_builds (s.AnIndex inner) = λ n ks cells ps path.
      again (spelling inner) (k.CloseIndex ∷ []) ks (n + 1) (state (cells ++ code path) (Index ∷ ps) place.Before)
      ∙ (part_builds inner (n + 1) (k.CloseIndex ∷ ks) (cells ++ code path) (Index ∷ ps) refl refl
      ∙ recelled ks (after inner (n + 1) + 1) _ _ ps place.After
      (three cells (code path) (code (made ts inner (n + 1))) (cell.Binary binary.Item ∷ [])))

  -- the cells of the whole
  pub whole_built : (t : Syntax s.Whole) → run ts (spelling t) 0 start ≡ Some (code (made ts t 0))
  whole_built t =
      ap (λ l. run ts l 0 start) (sym (append-nil (spelling t))) ∙ part_builds t 0 [] [] [] refl refl
