-- Mirror for the prover: how the tree of an expression is built of its tokens. The tree is in Trees.
use Rattle.std.specs.Prelude.{ℕ, ◌+◌, nat_le, Bool, true, false, if◌then◌else◌, Option, Some, None, List, map, [], ◌∷◌, ◌++◌}
use Rattle.dfdl_expression_text.specs.declared.kind.Kind.{Kind}
use Rattle.dfdl_expression_text.specs.declared.kind.Kind.TheVariants as k
use Rattle.dfdl_expression_tree.specs.declared.token.Operator.{Operator}
use Rattle.dfdl_expression_tree.specs.declared.token.Token.{Token}
use Rattle.dfdl_expression_tree.specs.declared.node.Leaf.TheVariants as leaf
use Rattle.dfdl_expression_tree.specs.declared.node.Unary.TheVariants as unary
use Rattle.dfdl_expression_tree.specs.declared.node.Binary.TheVariants as binary
use Rattle.dfdl_expression_tree.specs.declared.node.Cell.{Cell}
use Rattle.dfdl_expression_tree.specs.declared.node.Cell.TheVariants as cell
use Rattle.dfdl_expression_tree.specs.declared.pending.Pending.{Pending}
use Rattle.dfdl_expression_tree.specs.declared.pending.Pending.TheVariants.{Negative, Operation, Alternative, Group, Call, Index}
use Rattle.dfdl_expression_tree.specs.declared.pending.Pending.TheVariants.{Condition, Consequent}
use Rattle.dfdl_expression_tree.specs.declared.pending.Place.{Place}
use Rattle.dfdl_expression_tree.specs.declared.pending.Place.TheVariants as place
use Rattle.dfdl_expression_tree.specs.declared.pending.Move.{Move}
use Rattle.dfdl_expression_tree.specs.TokenLists.{nth_token}
use Rattle.dfdl_expression_tree.specs.Trees.{strength, constant, stepped, operated}

-- the cells so far, and what is open, the innermost first
pub record Work : Type 0 where
  pub cells : List Cell
  pub pending : List Pending

pub record State : Type 0 where
  pub work : Work
  pub place : Place

abbrev pub work : List Cell → List Pending → Work
work cells pending = record { cells = cells; pending = pending }

abbrev pub state : List Cell → List Pending → Place → State
state cells pending place = record { work = work cells pending; place = place }

-- an operator of this strength ends the operand of what is open; at 0, what closes does
abbrev pub pops : ℕ → Pending → Bool
pops n Negative = true
pops n (Operation operator) = nat_le n (strength operator)
pops n Alternative = nat_le n 0
pops n _ = false

-- what stands behind the operands of what is open
abbrev pub cell_of : Pending → Cell
cell_of Negative = cell.Unary unary.Negative
cell_of (Operation operator) = cell.Binary (binary.Operation operator)
cell_of _ = cell.Choice

-- what is left once what is ended by an operator of this strength has ended, the innermost first
abbrev pub popped : ℕ → List Cell → List Pending → Work
popped n cells [] = work cells []
popped n cells (p ∷ ps) = if pops n p then popped n (cells ++ cell_of p ∷ []) ps else work cells (p ∷ ps)

abbrev pub popped_of : ℕ → Work → Work
popped_of n w = popped n w.cells w.pending

-- the cells with one more, if there is one
abbrev pub put : List Cell → Option Cell → List Cell
put cells None = cells
put cells (Some c) = cells ++ c ∷ []

abbrev pub opened : Option Pending → List Pending → List Pending
opened None ps = ps
opened (Some p) ps = p ∷ ps

-- the state behind a move
abbrev pub moved : Work → Move → State
moved w m = state (put (put w.cells m.first) m.second) (opened m.opens w.pending) m.place

abbrev pub moved_by : Work → Option Move → Option State
moved_by w None = None
moved_by w (Some m) = Some (moved w m)

-- the move that puts two cells or less, opens something or not, and leads to a place
abbrev pub move : Option Cell → Option Cell → Option Pending → Place → Move
move first second opens place = record { first = first; second = second; opens = opens; place = place }

-- a name where an operand begins
abbrev pub names : Bool → Token → Pending → Option Cell → Move
names true t open_call first = move first None (Some open_call) place.Opening
names false t open_call first = move (Some (cell.Leaf leaf.Context)) (Some (cell.Unary (unary.Child t.span))) None place.After

-- what a token does with which an operand begins
abbrev pub begins : Kind → Token → Bool → Option Move
begins k.Literal t called = Some (move (Some (cell.Leaf (constant t))) None None place.After)
begins k.Dollar t called = Some (move None None None place.Variable)
begins k.Slash t called = Some (move (Some (cell.Leaf leaf.Root)) None None place.Step)
begins k.Dot t called = Some (move (Some (cell.Leaf leaf.Context)) (Some (cell.Unary (stepped t))) None place.After)
begins k.Name t called = Some (names called t (Call t.span) (Some (cell.Leaf leaf.NoArguments)))
begins k.If t called = Some (names called t Condition None)
begins k.Open t called = Some (move None None (Some Group) place.Before)
begins k.Minus t called = Some (move None None (Some Negative) place.Before)
begins _ t called = None

-- what a token does behind a `$`
abbrev pub varies : Kind → Token → Option Move
varies k.If t = Some (move (Some (cell.Leaf (leaf.Variable t.span))) None None place.After)
varies k.Name t = Some (move (Some (cell.Leaf (leaf.Variable t.span))) None None place.After)
varies _ t = None

-- what a token does where a step is due
abbrev pub steps : Kind → Token → Option Move
steps k.If t = Some (move (Some (cell.Unary (unary.Child t.span))) None None place.After)
steps k.Name t = Some (move (Some (cell.Unary (unary.Child t.span))) None None place.After)
steps k.Dot t = Some (move (Some (cell.Unary (stepped t))) None None place.After)
steps _ t = None

-- the move to a place, if it may be made
abbrev pub goes_to : Bool → Place → Option Move
goes_to true place = Some (move None None None place)
goes_to false place = None

-- what a token does that goes on with a path
abbrev pub follows : Kind → Option Move
follows k.Slash = Some (move None None None place.Step)
follows k.OpenIndex = Some (move None None (Some Index) place.Before)
follows _ = None

abbrev pub is_open : Kind → Bool
is_open k.Open = true
is_open _ = false

abbrev pub is_then : Kind → Bool
is_then k.Then = true
is_then _ = false

-- what closes behind an operand
abbrev pub closes : Pending → Kind → Option Move
closes Group k.Close = Some (move None None None place.After)
closes (Call name) k.Close =
    Some (move (Some (cell.Binary binary.Argument)) (Some (cell.Unary (unary.Call name))) None place.After)
closes (Call name) k.Comma = Some (move (Some (cell.Binary binary.Argument)) None (Some (Call name)) place.Before)
closes Index k.CloseIndex = Some (move (Some (cell.Binary binary.Item)) None None place.After)
closes Condition k.Close = Some (move None None (Some Consequent) place.Closed)
closes Consequent k.Else = Some (move None None (Some Alternative) place.Before)
closes _ _ = None

-- what closes where an operand would begin
abbrev pub closes_call : Pending → Option Move
closes_call (Call name) = Some (move (Some (cell.Unary (unary.Call name))) None None place.After)
closes_call _ = None

-- what was opened last is closed or divided by the token
abbrev pub closed_in : List Cell → List Pending → Kind → Option State
closed_in cells [] kind = None
closed_in cells (p ∷ ps) kind = moved_by (work cells ps) (closes p kind)

abbrev pub closed_behind : Work → Kind → Option State
closed_behind w kind = closed_in w.cells w.pending kind

-- the same where an operand would begin
abbrev pub closed_call : List Cell → List Pending → Option State
closed_call cells [] = None
closed_call cells (p ∷ ps) = moved_by (work cells ps) (closes_call p)

abbrev pub closed_empty : Work → Option State
closed_empty w = closed_call w.cells w.pending

-- an operator waits for its right operand
abbrev pub joined : Work → Operator → Option State
joined w operator = Some (state w.cells (Operation operator ∷ w.pending) place.Before)

-- behind an operand it is an operator, or it closes or divides something
abbrev pub is_operator : Kind → Bool
is_operator k.Junction = true
is_operator k.Comparison = true
is_operator k.Minus = true
is_operator k.Calculation = true
is_operator _ = false

abbrev pub is_closing : Kind → Bool
is_closing k.Close = true
is_closing k.Comma = true
is_closing k.CloseIndex = true
is_closing k.Else = true
is_closing _ = false

abbrev pub is_close : Kind → Bool
is_close k.Close = true
is_close _ = false

abbrev pub is_after : Place → Bool
is_after place.After = true
is_after _ = false

-- what a token does behind an operand
abbrev pub step_after : Kind → Token → Work → Option State
step_after kind t w =
    if is_operator kind then joined (popped_of (strength (operated t)) w) (operated t)
    else (if is_closing kind then closed_behind (popped_of 0 w) kind else moved_by w (follows kind))

-- the same where an operand may begin
abbrev pub step_before : Kind → Token → Bool → Work → Option State
step_before kind t called w = if is_close kind then closed_empty w else moved_by w (begins kind t called)

abbrev pub step_at : Place → Kind → Token → Bool → Work → Option State
step_at place.After kind t called w = step_after kind t w
step_at place.Before kind t called w = step_before kind t called w
step_at place.Variable kind t called w = moved_by w (varies kind t)
step_at place.Step kind t called w = moved_by w (steps kind t)
step_at place.Opening kind t called w = moved_by w (goes_to (is_open kind) place.Before)
step_at place.Closed kind t called w = moved_by w (goes_to (is_then kind) place.Before)

-- what a token of this kind does, where a parenthesis follows it or not
abbrev pub step : Kind → Token → Bool → State → Option State
step kind t called s = step_at s.place kind t called s.work

-- a parenthesis comes next
abbrev pub opens_next : List Kind → Bool
opens_next [] = false
opens_next (kind ∷ kinds) = is_open kind

-- what comes of what there is
abbrev pub go_on : {A B : Type 0} → Option A → (A → Option B) → Option B
go_on None next = None
go_on (Some a) next = next a

-- the cells, where nothing is open
abbrev pub finished_work : List Cell → List Pending → Option (List Cell)
finished_work cells [] = Some cells
finished_work cells (p ∷ ps) = None

abbrev pub finished_by : Work → Option (List Cell)
finished_by w = finished_work w.cells w.pending

-- what the tokens come to behind the last one
abbrev pub finished : State → Option (List Cell)
finished s = if is_after s.place then finished_by (popped_of 0 s.work) else None

-- the cells of tokens of these kinds, the first of which has this number
abbrev pub run : List Token → List Kind → ℕ → State → Option (List Cell)
run ts [] n s = finished s
run ts (kind ∷ kinds) n s = go_on (step kind (nth_token ts n) (opens_next kinds) s) (λ t. run ts kinds (n + 1) t)

-- before the first token
abbrev pub start : State
start = state [] [] place.Before

-- the cells of the tree of some tokens
abbrev pub built : List Token → Option (List Cell)
built ts = run ts (map (λ (t : Token). t.kind) ts) 0 start
