-- Operands of what is compiled stand before their nodes.
use Rattle.std.proofs.Common.{◌≡◌, ℕ, zero, suc, ◌+◌, ◌<◌, ◌≤◌, Bool, true, false, Some, List, [], ◌∷◌, ◌++◌, length, refl, ap, sym, subst, ◌∙◌, arith}
use Rattle.std.specs.Prelude.{◌==◌, ◌&&◌, ◌||◌}
use Rattle.std.proofs.Common.{eqb-true}
use Rattle.std.specs.List.{slice_get}
use Rattle.std.proofs.lemmas.Bool.{lt-ltb, or_from}
use Rattle.std.proofs.lemmas.List.{length-append}
use Rattle.dfdl_expressions.specs.Nodes.{operands_of, are_below, AreBelow}
use Rattle.dfdl_expressions.specs.declared.node.Node.{Node}
use Rattle.dfdl_expressions.specs.declared.node.Node.TheVariants as node
use Rattle.dfdl_expressions.specs.declared.operator.Question.TheVariants as question
use Rattle.dfdl_expressions.specs.declared.operator.UnaryOperator.{UnaryOperator}
use Rattle.dfdl_expressions.specs.declared.operator.BinaryOperator.{BinaryOperator}
use Rattle.dfdl_expression_eval.specs.Rooms.{operands_in}
use Rattle.dfdl_expression_types.specs.declared.callee.Callee.{Callee}
use Rattle.dfdl_expression_types.specs.declared.callee.Callee.TheVariants as callee
use Rattle.dfdl_expression_types.specs.Callees.{takes}
use Rattle.dfdl_expression_compile.specs.declared.operand.Operand.{Operand}
use Rattle.dfdl_expression_compile.specs.declared.operand.Operand.TheVariants as operand
use Rattle.dfdl_expression_compile.specs.Calls.{unary_of, binary_of, part_of_text, value_node}
use Rattle.dfdl_expression_compile.specs.Lists.{Numbered, Listed, pushed}
use Rattle.dfdl_expression_compile.specs.Routes.{route_node}
use Rattle.dfdl_expression_compile.specs.Settling.{settled, settled_behind, all_settled, route_of}

-- the numbers are below a bound
abbrev pub Under : ℕ → List ℕ → Type 0
Under bound [] = Unit {0}
Under bound (n ∷ ns) = (n < bound) × Under bound ns

pub under_more : (a b : ℕ) (ns : List ℕ) → a ≤ b → Under a ns → Under b ns
under_more a b [] le under = tt
under_more a b (n ∷ ns) le under = (omega (arith, le, under.0), under_more a b ns le under.1)

pub under_append : (a : ℕ) (ns ms : List ℕ) → Under a ns → Under a ms → Under a (ns ++ ms)
under_append a [] ms u v = v
under_append a (n ∷ ns) ms u v = (u.0, under_append a ns ms u.1 v)

is_below : (bound : ℕ) (ns : List ℕ) → Under bound ns → are_below bound ns ≡ true
is_below bound [] under = refl
is_below bound (n ∷ ns) under = ap (λ b. b && are_below bound ns) (lt-ltb n bound under.0) ∙ is_below bound ns under.1

-- the operands of each node, the first of which has this number, stand before it
abbrev pub From : ℕ → List Node → Type 0
From number [] = Unit {0}
From number (n ∷ ns) = Under number (operands_of n) × From (suc number) ns

from_behind : (number : ℕ) (ns : List Node) (n : Node) → From number ns → Under (number + length ns) (operands_of n) → From number (ns ++ n ∷ [])
from_behind number [] n from under = (subst (λ (m : ℕ). Under m (operands_of n)) (omega arith) under, tt)
from_behind number (m ∷ ms) n from under =
    (from.0, from_behind (suc number) ms n from.1 (subst (λ (k : ℕ). Under k (operands_of n)) (omega arith) under))

from_at : (begin : ℕ) (ns : List Node) (place : ℕ) (n : Node) → From begin ns → slice_get ns place ≡ Some n → Under (begin + place) (operands_of n)
from_at begin [] place n from is = absurd (cc)
from_at begin (m ∷ ms) zero n from is =
    let same : m ≡ n = cc in
    subst (λ (x : Node). Under (begin + zero) (operands_of x)) same (subst (λ (k : ℕ). Under k (operands_of m)) (omega arith) from.0)
from_at begin (m ∷ ms) (suc place) n from is =
    let next : slice_get ms place ≡ Some n = is in
    subst (λ (k : ℕ). Under k (operands_of n)) (omega arith) (from_at (suc begin) ms place n from.1 next)

pub below_all : (ns : List Node) → From 0 ns → AreBelow ns
below_all ns from number n within is =
    is_below number (operands_of n) (subst (λ (k : ℕ). Under k (operands_of n)) (omega arith) (from_at 0 ns number n from is))

operands_behind : (ns : List Node) (n : Node) → operands_in (ns ++ n ∷ []) ≡ operands_in ns + length (operands_of n)
operands_behind [] n = omega arith
operands_behind (m ∷ ms) n = let rest = operands_behind ms n in omega (arith, rest)

-- what becomes of nodes where so many are added at most, and so many of them are the operands of none so far
pub record Adds (before after : List Node) (most free : ℕ) : Type 0 where
  pub from : From 0 after
  pub more : length before ≤ length after
  pub few : length after ≤ length before + most
  pub single : operands_in after + free + length before ≤ operands_in before + length after

-- one node more, whose operands are there
pub record Puts (before : List Node) (operands : ℕ) (n : Numbered) : Type 0 where
  pub from : From 0 n.nodes
  pub number : n.number ≡ length before
  pub long : length n.nodes ≡ length before + 1
  pub counted : operands_in n.nodes ≡ operands_in before + operands

pub puts : (n : Node) (ns : List Node) → From 0 ns → Under (length ns) (operands_of n) → Puts ns (length (operands_of n)) (pushed n ns)
puts n ns from under = record {
  from = from_behind 0 ns n from (subst (λ (k : ℕ). Under k (operands_of n)) (omega arith) under);
  number = refl;
  long = length-append ns (n ∷ []);
  counted = operands_behind ns n;
}

-- an operand has what it names
abbrev pub Stands : ℕ → Operand → Type 0
Stands bound (operand.Value number) = number < bound
Stands bound (operand.Unit u) = Unit {0}
Stands bound (operand.Route r) = Under bound r.indexes

pub stands_more : (a b : ℕ) (o : Operand) → a ≤ b → Stands a o → Stands b o
stands_more a b (operand.Value number) le stands = omega (arith, le, stands)
stands_more a b (operand.Unit u) le stands = tt
stands_more a b (operand.Route r) le stands = under_more a b r.indexes le stands

-- how many nodes an operand is still to get
abbrev pub pending : Operand → ℕ
pending (operand.Value number) = 0
pending (operand.Unit u) = 1
pending (operand.Route r) = 1

-- how many nodes it names, which are the operands of none so far
abbrev pub holds : Operand → ℕ
holds (operand.Value number) = 1
holds (operand.Unit u) = 0
holds (operand.Route r) = length r.indexes

pub record Settles (o : Operand) (before : List Node) (n : Numbered) : Type 0 where
  pub from : From 0 n.nodes
  pub within : n.number < length n.nodes
  pub long : length n.nodes ≡ length before + pending o
  pub single : operands_in n.nodes + 1 + length before ≤ operands_in before + holds o + length n.nodes

pub settles : (o : Operand) (ns : List Node) → From 0 ns → Stands (length ns) o → Settles o ns (settled o ns)
settles (operand.Value number) ns from stands = record { from = from; within = stands; long = omega arith; single = omega arith }
settles (operand.Unit u) ns from stands =
    let p = puts _ ns from tt in
    record { from = p.from; within = omega (arith, p.long); long = p.long; single = omega (arith, p.long, p.counted) }
settles (operand.Route r) ns from stands =
    let p = puts (route_node question.Item r) ns from stands in
    record { from = p.from; within = omega (arith, p.long); long = p.long; single = omega (arith, p.long, p.counted) }

-- the same of the operands of a call
abbrev pub AllStand : ℕ → List Operand → Type 0
AllStand bound [] = Unit {0}
AllStand bound (o ∷ os) = Stands bound o × AllStand bound os

pub all_stand_more : (a b : ℕ) (os : List Operand) → a ≤ b → AllStand a os → AllStand b os
all_stand_more a b [] le all = tt
all_stand_more a b (o ∷ os) le all = (stands_more a b o le all.0, all_stand_more a b os le all.1)

pub all_stand_append : (a : ℕ) (os ps : List Operand) → AllStand a os → AllStand a ps → AllStand a (os ++ ps)
all_stand_append a [] ps u v = v
all_stand_append a (o ∷ os) ps u v = (u.0, all_stand_append a os ps u.1 v)

abbrev pub all_pending : List Operand → ℕ
all_pending [] = 0
all_pending (o ∷ os) = pending o + all_pending os

abbrev pub all_hold : List Operand → ℕ
all_hold [] = 0
all_hold (o ∷ os) = holds o + all_hold os

pub pending_behind : (os : List Operand) (o : Operand) → all_pending (os ++ o ∷ []) ≡ all_pending os + pending o
pending_behind [] o = omega arith
pending_behind (p ∷ ps) o = let rest = pending_behind ps o in omega (arith, rest)

pub holds_behind : (os : List Operand) (o : Operand) → all_hold (os ++ o ∷ []) ≡ all_hold os + holds o
holds_behind [] o = omega arith
holds_behind (p ∷ ps) o = let rest = holds_behind ps o in omega (arith, rest)

pub record SettlesAll (numbers : List ℕ) (os : List Operand) (before : List Node) (l : Listed) : Type 0 where
  pub from : From 0 l.nodes
  pub within : Under (length l.nodes) l.numbers
  pub many : length l.numbers ≡ length numbers + length os
  pub long : length l.nodes ≡ length before + all_pending os
  pub single : operands_in l.nodes + length l.numbers + length before ≤ operands_in before + length numbers + all_hold os + length l.nodes

settles_behind : (numbers : List ℕ) (os : List Operand) (ns : List Node) → From 0 ns → Under (length ns) numbers → AllStand (length ns) os
    → SettlesAll numbers os ns (settled_behind numbers os ns)
settles_behind numbers [] ns from under all = record { from = from; within = under; many = omega arith; long = omega arith; single = omega arith }
settles_behind numbers (o ∷ os) ns from under all =
    let one = settles o ns from all.0 in
    let n = settled o ns in
    let le : length ns ≤ length n.nodes = omega (arith, one.long) in
    let more = length-append numbers (n.number ∷ []) in
    let left = settles_behind (numbers ++ n.number ∷ []) os n.nodes one.from
    (under_append (length n.nodes) numbers (n.number ∷ []) (under_more (length ns) (length n.nodes) numbers le under) (one.within, tt))
    (all_stand_more (length ns) (length n.nodes) os le all.1) in
    record {
      from = left.from;
      within = left.within;
      many = omega (arith, left.many, more);
      long = omega (arith, left.long, one.long);
      single = omega (arith, left.single, one.single, more);
    }

pub settles_all : (os : List Operand) (ns : List Node) → From 0 ns → AllStand (length ns) os → SettlesAll [] os ns (all_settled os ns)
settles_all os ns from all = settles_behind [] os ns from tt all

-- the node of a function has the operands that are given, where these are as many as it takes
pub record Takes (ns : List ℕ) (n : Node) : Type 0 where
  pub under : (bound : ℕ) → Under bound ns → Under bound (operands_of n)
  pub few : length (operands_of n) ≤ length ns

takes_one : (op : UnaryOperator) (ns : List ℕ) → (length ns == 1) ≡ true → Takes ns (unary_of op ns)
takes_one op [] is = let never : false ≡ true = is in absurd (cc)
takes_one op (n ∷ []) is = record { under = λ bound all. all; few = omega arith }
takes_one op (n ∷ m ∷ ns) is = let never = eqb-true (length (n ∷ m ∷ ns)) 1 is in absurd (omega (arith, never))

takes_two : (op : BinaryOperator) (ns : List ℕ) → (length ns == 2) ≡ true → Takes ns (binary_of op ns)
takes_two op [] is = let never : false ≡ true = is in absurd (cc)
takes_two op (n ∷ []) is = let never : false ≡ true = is in absurd (cc)
takes_two op (n ∷ m ∷ []) is = record { under = λ bound all. all; few = omega arith }
takes_two op (n ∷ m ∷ o ∷ ns) is = let never = eqb-true (length (n ∷ m ∷ o ∷ ns)) 2 is in absurd (omega (arith, never))

takes_part : (ns : List ℕ) → takes callee.Substring (length ns) ≡ true → Takes ns (part_of_text ns)
takes_part [] is = let never : false ≡ true = is in absurd (cc)
takes_part (n ∷ []) is = let never : false ≡ true = is in absurd (cc)
takes_part (n ∷ m ∷ []) is = record { under = λ bound all. all; few = omega arith }
takes_part (n ∷ m ∷ o ∷ []) is = record { under = λ bound all. all; few = omega arith }
takes_part (n ∷ m ∷ o ∷ p ∷ ns) is =
    let e : length (n ∷ m ∷ o ∷ p ∷ ns) ≡ length ns + 4 = omega arith in
    absurd (by (length ns + 4 == 2) (length ns + 4 == 3) refl refl (subst (λ (k : ℕ). (k == 2 || k == 3) ≡ true) e is))
  where
    by : (a b : Bool) → (length ns + 4 == 2) ≡ a → (length ns + 4 == 3) ≡ b → (length ns + 4 == 2 || length ns + 4 == 3) ≡ true → ⊥
    by true b e f is = let never = eqb-true (length ns + 4) 2 e in omega (arith, never)
    by false true e f is = let never = eqb-true (length ns + 4) 3 f in omega (arith, never)
    by false false e f is = let never : false ≡ true = sym (or_from (length ns + 4 == 2) (length ns + 4 == 3) e f) ∙ is in cc

none : (ns : List ℕ) (n : Node) → operands_of n ≡ [] → Takes ns n
none ns n is = record {
  under = λ bound all. subst (λ (os : List ℕ). Under bound os) (sym is) tt;
  few = subst (λ (os : List ℕ). length os ≤ length ns) (sym is) (omega arith);
}

pub takes_all : (function : Callee) (ns : List ℕ) → takes function (length ns) ≡ true → Takes ns (value_node function ns)
takes_all callee.Not ns is = takes_one _ ns is
takes_all callee.StringLength ns is = takes_one _ ns is
takes_all callee.Absolute ns is = takes_one _ ns is
takes_all callee.Floor ns is = takes_one _ ns is
takes_all callee.Ceiling ns is = takes_one _ ns is
takes_all (callee.Construct simple) ns is = takes_one _ ns is
takes_all callee.Contains ns is = takes_two _ ns is
takes_all callee.StartsWith ns is = takes_two _ ns is
takes_all callee.EndsWith ns is = takes_two _ ns is
takes_all callee.Substring ns is = takes_part ns is
takes_all callee.Concat ns is = record { under = λ bound all. all; few = omega arith }
takes_all callee.True ns is = none ns node.PastRange refl
takes_all callee.False ns is = none ns node.PastRange refl
takes_all callee.OccursIndex ns is = none ns node.PastRange refl
takes_all callee.ValueLength ns is = none ns node.PastRange refl
takes_all callee.ContentLength ns is = none ns node.PastRange refl
takes_all callee.Count ns is = none ns node.PastRange refl
takes_all callee.Exists ns is = none ns node.PastRange refl
takes_all callee.Empty ns is = none ns node.PastRange refl

-- the path that an operand is has no more than the operand
pub record Routes (o : Operand) : Type 0 where
  pub under : (bound : ℕ) → Stands bound o → Under bound (route_of o).indexes
  pub few : length (route_of o).indexes ≤ holds o

pub routes : (o : Operand) → Routes o
routes (operand.Value number) = record { under = λ bound stands. tt; few = omega arith }
routes (operand.Unit u) = record { under = λ bound stands. tt; few = omega arith }
routes (operand.Route r) = record { under = λ bound stands. stands; few = omega arith }
