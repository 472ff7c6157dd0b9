-- Open nodes and the values that they hold are no more than an expression's nodes and operands.
use Rattle.std.proofs.Common.{inl, inr, ◌≡◌, ℕ, zero, suc, ◌+◌, ◌-◌, ◌++◌, ◌<◌, ◌≤◌, Bool, true, false, List, [], ◌∷◌, length, drop, Option, Some, None, Result, Ok, Err, refl, sym, ap, subst, ◌∙◌, arith, vec_capacity}
use Rattle.std.specs.Prelude.{◌&&◌, ◌⊎◌, nat_lt, IsErrOf}
use Rattle.std.proofs.lemmas.Bool.{cases_lt, ltb-true}
use Rattle.std.proofs.lemmas.Option.{slice_get_within}
use Rattle.std.specs.List.{slice_get}
use Rattle.dfdl_value.specs.declared.value.Value.{Value}
use Rattle.dfdl_operators.specs.declared.fault.FunctionFault.{FunctionFault}
use Rattle.dfdl_operators.specs.declared.fault.FunctionFault.TheVariants.{Fault as Broken, OutOfMemory}
use Rattle.dfdl_expressions.specs.Nodes.{IsExpression, are_below, operands_of}
use Rattle.dfdl_expressions.specs.declared.node.Node.{Node}
use Rattle.dfdl_expressions.specs.declared.node.Node.TheVariants as node
use Rattle.dfdl_expression_eval.specs.Machine.{and_turn, held_by, if_turn, or_turn, truth_of, turn_of}
use Rattle.dfdl_expression_eval.specs.Nesting.{AreNested, IsNested, lowest, operand_count}
use Rattle.dfdl_expression_eval.specs.Rooms.{HasMemory, HasRoom, IsLean, IsLeanNode, operands_in}
use Rattle.dfdl_expression_eval.specs.declared.env.Evaluated.{Evaluated}
use Rattle.dfdl_expression_eval.specs.declared.scratch.Focus.TheVariants.{Begin, Came}
use Rattle.dfdl_expression_eval.specs.declared.scratch.Frame.{Frame}
use Rattle.dfdl_expression_eval.specs.declared.scratch.Scratch.{Scratch}
use Rattle.dfdl_expression_eval.specs.declared.turning.Turn.TheVariants.{To}

-- an answer that wants no memory
pub has_memory : (r : Result Value FunctionFault) (H : Type 0) → (IsErrOf r OutOfMemory → H) → (H → ⊥) → HasMemory r
has_memory (Ok v) H wants never = tt
has_memory (Err (Broken why)) H wants never = tt
has_memory (Err OutOfMemory) H wants never = never (wants refl)

-- the frames as they are read from the outermost on
pub record LastNested (nodes : List Node) (bound : ℕ) (fs : List Frame) (f : Frame) : Type 0 where
  pub others : AreNested nodes bound fs
  pub low : f.node < lowest bound fs
  pub waits : f.done < operand_count (slice_get nodes f.node)

pub last_nested : (nodes : List Node) (bound : ℕ) (fs : List Frame) (f : Frame) → AreNested nodes bound (fs ++ f ∷ []) → LastNested nodes bound fs f
last_nested nodes bound [] f nested = record { others = tt; low = nested.0; waits = nested.1 }
last_nested nodes bound (g ∷ gs) f nested =
    let rest = last_nested nodes g.node gs f nested.2 in
    record { others = (nested.0, nested.1, rest.others); low = rest.low; waits = rest.waits }

pub one_more : (nodes : List Node) (bound : ℕ) (fs : List Frame) (f : Frame) → LastNested nodes bound fs f → AreNested nodes bound (fs ++ f ∷ [])
one_more nodes bound [] f last = (last.low, last.waits, tt)
one_more nodes bound (g ∷ gs) f last =
    (last.others.0, last.others.1, one_more nodes g.node gs f (record { others = last.others.2; low = last.low; waits = last.waits }))

lowest_last : (bound : ℕ) (fs : List Frame) (f : Frame) → lowest bound (fs ++ f ∷ []) ≡ f.node
lowest_last bound [] f = refl
lowest_last bound (g ∷ gs) f = lowest_last g.node gs f

-- how many are open
pub depth : (nodes : List Node) (bound : ℕ) (fs : List Frame) → AreNested nodes bound fs → length fs + lowest bound fs ≤ bound
depth nodes bound [] nested = omega arith
depth nodes bound (f ∷ fs) nested =
    let rest = depth nodes f.node fs nested.2 in
    let low = nested.0 in
    omega (arith, rest, low)

-- how many operands the first so many nodes have
abbrev operands_to : List Node → ℕ → ℕ
operands_to nodes zero = 0
operands_to nodes (suc n) = operand_count (slice_get nodes n) + operands_to nodes n

to_more : (nodes : List Node) (a b : ℕ) → a < b → operand_count (slice_get nodes a) + operands_to nodes a ≤ operands_to nodes b
to_more nodes a zero less = absurd (omega (arith, less))
to_more nodes a (suc b) less = by (cases_lt a b) (λ lower. to_more nodes a b lower)
  where
    by : (a < b) ⊎ (b ≤ a) → (a < b → operand_count (slice_get nodes a) + operands_to nodes a ≤ operands_to nodes b)
        → operand_count (slice_get nodes a) + operands_to nodes a ≤ operand_count (slice_get nodes b) + operands_to nodes b
    by (inl lower) before = let rest = before lower in omega (arith, rest)
    by (inr high) before =
        let e : a ≡ b = omega (arith, less, high) in
        subst (λ (k : ℕ). operand_count (slice_get nodes a) + operands_to nodes a ≤ operand_count (slice_get nodes k) + operands_to nodes k) e (omega arith)

to_front : (n : Node) (nodes : List Node) (k : ℕ) → operands_to (n ∷ nodes) (suc k) ≡ length (operands_of n) + operands_to nodes k
to_front n nodes zero = omega arith
to_front n nodes (suc k) = let rest = to_front n nodes k in omega (arith, rest)

to_all : (nodes : List Node) → operands_to nodes (length nodes) ≡ operands_in nodes
to_all [] = refl
to_all (n ∷ nodes) = to_front n nodes (length nodes) ∙ ap (λ k. length (operands_of n) + k) (to_all nodes)

held_to : (nodes : List Node) (bound : ℕ) (fs : List Frame) → AreNested nodes bound fs → held_by fs + operands_to nodes (lowest bound fs) ≤ operands_to nodes bound
held_to nodes bound [] nested = omega arith
held_to nodes bound (f ∷ fs) nested =
    let rest = held_to nodes f.node fs nested.2 in
    let more = to_more nodes f.node bound nested.0 in
    let waits = nested.1 in
    omega (arith, rest, more, waits)

-- one value more has room
pub held_less : (nodes : List Node) (fs : List Frame) (f : Frame) → AreNested nodes (length nodes) (fs ++ f ∷ []) → held_by fs + f.done < operands_in nodes
held_less nodes fs f nested =
    let last = last_nested nodes (length nodes) fs f nested in
    let held = held_to nodes (length nodes) fs last.others in
    let more = to_more nodes f.node (lowest (length nodes) fs) last.low in
    let waits = last.waits in
    let all = to_all nodes in
    omega (arith, held, more, waits, all)

-- a node has no more operands than all nodes
pub few_operands : (nodes : List Node) (number : ℕ) (n : Node) → slice_get nodes number ≡ Some n → length (operands_of n) ≤ operands_in nodes
few_operands [] number n is = absurd (cc)
few_operands (m ∷ ms) zero n is =
    let same : m ≡ n = cc in
    subst (λ (x : Node). length (operands_of x) ≤ length (operands_of m) + operands_in ms) same (omega arith)
few_operands (m ∷ ms) (suc number) n is =
    let next : slice_get ms number ≡ Some n = is in
    let rest = few_operands ms number n next in
    omega (arith, rest)

pub lean_at : (nodes : List Node) (number : ℕ) (n : Node) → IsLean nodes → slice_get nodes number ≡ Some n → IsLeanNode n
lean_at [] number n lean is = absurd (cc)
lean_at (m ∷ ms) zero n lean is = let same : m ≡ n = cc in subst IsLeanNode same lean.0
lean_at (m ∷ ms) (suc number) n lean is = lean_at ms number n lean.1 is

both_true : (a b : Bool) → (a && b) ≡ true → (a ≡ true) × (b ≡ true)
both_true true b e = (refl, e)
both_true false b e = let never : false ≡ true = e in absurd (cc)

below_at : (bound : ℕ) (ns : List ℕ) (k m : ℕ) → are_below bound ns ≡ true → slice_get ns k ≡ Some m → m < bound
below_at bound [] k m all is = absurd (cc)
below_at bound (n ∷ ns) zero m all is =
    let same : n ≡ m = cc in
    subst (λ (x : ℕ). x < bound) same (ltb-true n bound (both_true (nat_lt n bound) (are_below bound ns) all).0)
below_at bound (n ∷ ns) (suc k) m all is = below_at bound ns k m (both_true (nat_lt n bound) (are_below bound ns) all).1 is

within_count : (ns : List ℕ) (k m : ℕ) → slice_get ns k ≡ Some m → k < length ns
within_count ns k m is = slice_get_within ns k m is

-- an operand of a node stands before it
pub operand_low : (nodes : List Node) (number : ℕ) (n : Node) (k m : ℕ) → IsExpression nodes → slice_get nodes number ≡ Some n
    → slice_get (operands_of n) k ≡ Some m → m < number
operand_low nodes number n k m sound is operand =
    below_at number (operands_of n) k m (sound.below number n (slice_get_within nodes number n is) is) operand

-- a node waits for an operand, which begins
pub opened : (nodes : List Node) (fs : List Frame) (number : ℕ) (n : Node) (k m : ℕ) → IsExpression nodes → slice_get nodes number ≡ Some n
    → slice_get (operands_of n) k ≡ Some m → AreNested nodes (length nodes) fs → number < lowest (length nodes) fs
    → IsNested nodes (fs ++ record { node = number; done = k } ∷ []) (Begin m)
opened nodes fs number n k m sound is operand nested low =
    let f : Frame = record { node = number; done = k } in
    record {
      nested = one_more nodes (length nodes) fs f (record {
        others = nested;
        low = low;
        waits = subst (λ (o : Option Node). k < operand_count o) (sym is) (within_count (operands_of n) k m operand);
      });
      begins = subst (λ (b : ℕ). m < b) (sym (lowest_last (length nodes) fs f)) (operand_low nodes number n k m sound is operand);
    }

-- where a node turns to an operand, it stands before it
if_low : (bound condition holds fails : ℕ) (o : Option Bool) (way : ℕ) → are_below bound (condition ∷ holds ∷ fails ∷ []) ≡ true
    → if_turn holds fails o ≡ To way → way < bound
if_low bound condition holds fails (Some true) way all e = below_at bound (condition ∷ holds ∷ fails ∷ []) 1 way all (to_is holds way e)
  where
    to_is : (a b : ℕ) → To a ≡ To b → Some a ≡ Some b
    to_is a b e = cc
if_low bound condition holds fails (Some false) way all e = below_at bound (condition ∷ holds ∷ fails ∷ []) 2 way all (to_is fails way e)
  where
    to_is : (a b : ℕ) → To a ≡ To b → Some a ≡ Some b
    to_is a b e = cc
if_low bound condition holds fails None way all e = absurd (cc)

no_way : (o : Option Bool) (way : ℕ) → (and_turn o ≡ To way → ⊥) × (or_turn o ≡ To way → ⊥)
no_way (Some true) way = ((λ e. cc), λ e. cc)
no_way (Some false) way = ((λ e. cc), λ e. cc)
no_way None way = ((λ e. cc), λ e. cc)

turn_low : (bound : ℕ) (n : Node) (known : ℕ) (v : Value) (way : ℕ) → are_below bound (operands_of n) ≡ true → turn_of n known v ≡ To way → way < bound
turn_low bound (node.Constant x) known v way all e = absurd (cc)
turn_low bound node.PastRange known v way all e = absurd (cc)
turn_low bound (node.Variable number) known v way all e = absurd (cc)
turn_low bound node.OccursIndex known v way all e = absurd (cc)
turn_low bound (node.Path question path indexes) known v way all e = absurd (cc)
turn_low bound (node.Unary operator only) known v way all e = absurd (cc)
turn_low bound (node.Binary operator left right) known v way all e = absurd (cc)
turn_low bound (node.Substring text first count) known v way all e = absurd (cc)
turn_low bound (node.Concat parts) known v way all e = absurd (cc)
turn_low bound (node.And left right) zero v way all e = absurd ((no_way (truth_of v) way).0 e)
turn_low bound (node.And left right) (suc known) v way all e = absurd (cc)
turn_low bound (node.Or left right) zero v way all e = absurd ((no_way (truth_of v) way).1 e)
turn_low bound (node.Or left right) (suc known) v way all e = absurd (cc)
turn_low bound (node.If condition holds fails) zero v way all e = if_low bound condition holds fails (truth_of v) way all e
turn_low bound (node.If condition holds fails) (suc known) v way all e = absurd (cc)

-- a node that turns to an operand
pub turned_to : (nodes : List Node) (fs : List Frame) (f : Frame) (n : Node) (v : Value) (way : ℕ) → IsExpression nodes → slice_get nodes f.node ≡ Some n
    → turn_of n f.done v ≡ To way → AreNested nodes (length nodes) (fs ++ f ∷ []) → IsNested nodes fs (Begin way)
turned_to nodes fs f n v way sound is turns nested =
    let last = last_nested nodes (length nodes) fs f nested in
    let low = turn_low f.node n f.done v way (sound.below f.node n (slice_get_within nodes f.node n is) is) turns in
    let around = last.low in
    record { nested = last.others; begins = omega (arith, low, around) }

-- a node that ends
pub ended : (nodes : List Node) (fs : List Frame) (f : Frame) (e : Evaluated) → AreNested nodes (length nodes) (fs ++ f ∷ []) → IsNested nodes fs (Came e)
ended nodes fs f e nested = record { nested = (last_nested nodes (length nodes) fs f nested).others; begins = tt }

pub room_kept : (room : ℕ) (old new : Scratch) → vec_capacity old.frames ≤ vec_capacity new.frames → vec_capacity old.values ≤ vec_capacity new.values
    → vec_capacity old.places ≤ vec_capacity new.places → HasRoom room old → HasRoom room new
room_kept room old new fs vs ps has =
    let f = has.frames in
    let v = has.values in
    let p = has.places in
    record { frames = omega (arith, f, fs); values = omega (arith, v, vs); places = omega (arith, p, ps) }

-- one open node more has room
pub frame_room : (nodes : List Node) (fs : List Frame) (number room capacity : ℕ) → AreNested nodes (length nodes) fs → number < lowest (length nodes) fs
    → length nodes ≤ room → room ≤ capacity → length fs < capacity
frame_room nodes fs number room capacity nested low few room_is =
    let deep = depth nodes (length nodes) fs nested in
    omega (arith, deep, low, few, room_is)

pub never : {B : Type 0} → false ≡ true → B
never e = absurd (cc)

-- one value more has room
pub value_room : (nodes : List Node) (fs : List Frame) (f : Frame) (count room capacity : ℕ) → AreNested nodes (length nodes) (fs ++ f ∷ [])
    → held_by fs + f.done ≡ count → operands_in nodes ≤ room → room ≤ capacity → count < capacity
value_room nodes fs f count room capacity nested held few has =
    let less = held_less nodes fs f nested in
    omega (arith, less, held, few, has)

length_left : (n : ℕ) (vs : List Value) → length (drop n vs) ≡ length vs - n
length_left zero vs = omega arith
length_left (suc n) [] = omega arith
length_left (suc n) (v ∷ vs) = let rest = length_left n vs in omega (arith, rest)

-- the operands of a node have room as places
pub place_room : (nodes : List Node) (f : Frame) (n : Node) (vs : List Value) (room capacity : ℕ) → slice_get nodes f.node ≡ Some n
    → f.done < operand_count (slice_get nodes f.node) → operands_in nodes ≤ room → room ≤ capacity → length (drop (length vs - (f.done + 1)) vs) ≤ capacity
place_room nodes f n vs room capacity is waits few has =
    let long = length_left (length vs - (f.done + 1)) vs in
    let count : f.done < length (operands_of n) = subst (λ (o : Option Node). f.done < operand_count o) is waits in
    let all = few_operands nodes f.node n is in
    omega (arith, long, count, all, few, has)
