-- What is compiled of a tree whose types are sound is an expression.
use Rattle.std.proofs.Common.{◌≡◌, ℕ, ◌+◌, ◌*◌, ◌<◌, ◌≤◌, Bool, true, false, Option, Some, None, Ok, Err, List, [], ◌∷◌, ◌++◌, length, if◌then◌else◌, refl, ap, sym, subst, ◌∙◌, arith}
use Rattle.std.specs.Prelude.{◌&&◌, not}
use Rattle.std.proofs.lemmas.Bool.{or_parts}
use Rattle.std.proofs.lemmas.List.{length-append}
use Rattle.dfdl_value.specs.ReadValues.{Reading}
use Rattle.dfdl_expressions.specs.Nodes.{operands_of, IsExpression}
use Rattle.dfdl_expressions.specs.declared.node.Node.{Node}
use Rattle.dfdl_expressions.specs.declared.node.Node.TheVariants as node
use Rattle.dfdl_expressions.specs.declared.operator.Question.{Question}
use Rattle.dfdl_expressions.specs.declared.operator.Unit.{Unit as LengthUnit}
use Rattle.dfdl_expressions.specs.declared.operator.UnaryOperator.TheVariants as uo
use Rattle.dfdl_expressions.specs.declared.path.Step.{Step}
use Rattle.dfdl_expression_eval.specs.Rooms.{operands_in}
use Rattle.dfdl_expression_text.specs.Syntax.{most_tokens, spelling}
use Rattle.dfdl_expression_tree.specs.declared.token.Operator.{Operator}
use Rattle.dfdl_expression_tree.specs.declared.token.Operator.TheVariants as o
use Rattle.dfdl_expression_tree.specs.declared.node.Leaf.{Leaf}
use Rattle.dfdl_expression_tree.specs.declared.node.Leaf.TheVariants as leaf
use Rattle.dfdl_expression_tree.specs.declared.node.Unary.TheVariants as un
use Rattle.dfdl_expression_tree.specs.declared.node.Binary.TheVariants as bin
use Rattle.dfdl_expression_tree.specs.declared.node.Node.{Node as TreeNode}
use Rattle.dfdl_expression_tree.specs.Readings.{HasTree, tree_of, tokens_of}
use Rattle.dfdl_expression_tree.specs.Trees.{Formula, End, One, Two, Choose, listed as nodes_listed}
use Rattle.dfdl_expression_types.specs.declared.callee.Callee.{Callee}
use Rattle.dfdl_expression_types.specs.declared.callee.Callee.TheVariants as callee
use Rattle.dfdl_expression_types.specs.declared.fault.TypeFault.TheVariants as fault
use Rattle.dfdl_expression_types.specs.declared.statics.Statics.{Statics}
use Rattle.dfdl_expression_types.specs.declared.types.Types.{Types}
use Rattle.dfdl_expression_types.specs.Callees.{callee_of, is_call, takes}
use Rattle.dfdl_expression_types.specs.Notes.{noted, arguments_of, operation_note, argument_of, types_of}
use Rattle.dfdl_expression_types.specs.Verdicts.{verdict, types_or_fault}
use Rattle.dfdl_expression_types.specs.Words.{word}
use Rattle.dfdl_expression_compile.specs.declared.operand.Operand.{Operand}
use Rattle.dfdl_expression_compile.specs.declared.operand.Operand.TheVariants as operand
use Rattle.dfdl_expression_compile.specs.Calls.{called, value_node}
use Rattle.dfdl_expression_compile.specs.Compiling.{Built, compiled, nodes_of, whole, operand_of, operands_of as arguments_in, value_built, text_built, leaf_built, operator_node, variable_node, down}
use Rattle.dfdl_expression_compile.specs.Lists.{Numbered}
use Rattle.dfdl_expression_compile.specs.Literals.{node_by, number_node, text_node, unit_named}
use Rattle.dfdl_expression_compile.specs.Routes.{route_node, with_step, with_index}
use Rattle.dfdl_expression_compile.specs.Running.{all_nodes}
use Rattle.dfdl_expression_compile.specs.Settling.{settled, all_settled, route_of, first}
use Rattle.dfdl_expression_compile.proofs.Grown.{Fits, size, makes, is_none_yet}
use Rattle.dfdl_expression_compile.proofs.Ordered.{Under, under_append, From, below_all, puts, Stands, stands_more, pending, holds, settles, AllStand, all_stand_more, all_stand_append, all_pending, all_hold, pending_behind, holds_behind, settles_all, takes_all, routes}
use Rattle.dfdl_expression_compile.proofs.Runs.{all_compiled}

-- what becomes of nodes behind a tree of this size, with what is the operand of nothing so far and what has no node
pub record Grows (before after : List Node) (most free left : ℕ) : Type 0 where
  pub from : From 0 after
  pub more : length before ≤ length after
  pub few : length after + left ≤ length before + most
  pub single : operands_in after + free + length before ≤ operands_in before + length after

pub record IsOne (before after : List Node) (most : ℕ) (o : Operand) : Type 0 where
  pub grows : Grows before after most (holds o) (pending o)
  pub stands : Stands (length after) o

pub record AreMany (before after : List Node) (most : ℕ) (os : List Operand) (count : ℕ) : Type 0 where
  pub grows : Grows before after most (all_hold os) (all_pending os)
  pub stand : AllStand (length after) os
  pub many : length os ≡ count

abbrev pub Good : Bool → ℕ → List Node → Built → ℕ → Type 0
Good false count before b most = IsOne before b.nodes most (operand_of b.item)
Good true count before b most = AreMany before b.nodes most (arguments_in b.item) count

-- a node whose operands are there
put : (before mid : List Node) (most : ℕ) (n : Node) → From 0 mid → Under (length mid) (operands_of n) → length before ≤ length mid → length mid + 1 ≤ length before + most
    → operands_in mid + length (operands_of n) + length before ≤ operands_in before + length mid → IsOne before (mid ++ n ∷ []) most (operand.Value (length mid))
put before mid most n from under more few single =
    let p = puts n mid from under in
    record {
      grows = record { from = p.from; more = omega (arith, p.long, more); few = omega (arith, p.long, few); single = omega (arith, p.long, p.counted, single) };
      stands = omega (arith, p.long);
    }

-- a node without operands, behind nodes
alone : (ns : List Node) (most : ℕ) (n : Node) → From 0 ns → operands_of n ≡ [] → 1 ≤ most → IsOne ns (ns ++ n ∷ []) most (operand.Value (length ns))
alone ns most n from is few =
    put ns ns most n from (subst (λ (os : List ℕ). Under (length ns) os) (sym is) tt) (omega arith) (omega (arith, few))
    (subst (λ (os : List ℕ). operands_in ns + length os + length ns ≤ operands_in ns + length ns) (sym is) (omega arith))

no_operands_by : (r : Reading) → operands_of (node_by r) ≡ []
no_operands_by (Ok v) = refl
no_operands_by (Err why) = refl

unmoved : (ns : List Node) (o : Operand) → From 0 ns → Stands (length ns) o → holds o ≡ 0 → pending o ≡ 1 → IsOne ns ns 1 o
unmoved ns o from stands none one = record {
  grows = record { from = from; more = omega arith; few = omega (arith, one); single = omega (arith, none) };
  stands = stands;
}

quoted : (u : Option LengthUnit) (text : List ℕ) (ns : List Node) → From 0 ns → IsOne ns (text_built u text ns).nodes 1 (operand_of (text_built u text ns).item)
quoted (Some u) text ns from = unmoved ns (operand.Unit u) from tt refl refl
quoted None text ns from = alone ns 1 (text_node text) from refl (omega arith)

leaves : (s : Statics) (text : List ℕ) (many : Bool) (l : Leaf) → many ≡ is_none_yet l → (ns : List Node) → From 0 ns
    → Good many (length (arguments_of (noted s text (End l)).shape)) ns (leaf_built s text l ns) 1
leaves s text false (leaf.Number span) fit ns from = alone ns 1 (number_node (word text span)) from (no_operands_by _) (omega arith)
leaves s text false (leaf.Text span) fit ns from = quoted (unit_named (word text span)) (word text span) ns from
leaves s text false (leaf.Variable span) fit ns from = alone ns 1 (variable_node s (word text span)) from refl (omega arith)
leaves s text false leaf.Context fit ns from = unmoved ns _ from tt refl refl
leaves s text false leaf.Root fit ns from = unmoved ns _ from tt refl refl
leaves s text false leaf.NoArguments fit ns from = let never : false ≡ true = fit in absurd (cc)
leaves s text true (leaf.Number span) fit ns from = let never : true ≡ false = fit in absurd (cc)
leaves s text true (leaf.Text span) fit ns from = let never : true ≡ false = fit in absurd (cc)
leaves s text true (leaf.Variable span) fit ns from = let never : true ≡ false = fit in absurd (cc)
leaves s text true leaf.Context fit ns from = let never : true ≡ false = fit in absurd (cc)
leaves s text true leaf.Root fit ns from = let never : true ≡ false = fit in absurd (cc)
leaves s text true leaf.NoArguments fit ns from = record {
  grows = record { from = from; more = omega arith; few = omega arith; single = omega arith };
  stand = tt;
  many = refl;
}

-- a path with one step more
stepped_on : (before after : List Node) (most : ℕ) (st : Step) (o : Operand) → IsOne before after most o → IsOne before after (most + 1) (operand.Route (with_step st (route_of o)))
stepped_on before after most st o one =
    let r = routes o in
    let g = one.grows in
    record {
      grows = record { from = g.from; more = g.more; few = omega (arith, g.few); single = omega (arith, g.single, r.few) };
      stands = r.under (length after) one.stands;
    }

-- an operand that has its node
pub record HasNode (before : List Node) (most : ℕ) (n : Numbered) : Type 0 where
  pub grows : Grows before n.nodes most 1 0
  pub within : n.number < length n.nodes

has_node : (before mid : List Node) (most : ℕ) (o : Operand) → IsOne before mid most o → HasNode before most (settled o mid)
has_node before mid most o one =
    let g = one.grows in
    let s = settles o mid g.from one.stands in
    record {
      grows = record { from = s.from; more = omega (arith, s.long, g.more); few = omega (arith, s.long, g.few); single = omega (arith, s.single, g.single) };
      within = s.within;
    }

negative : (before mid : List Node) (most : ℕ) (o : Operand) → IsOne before mid most o
    → IsOne before (value_built (node.Unary uo.Negative (settled o mid).number) (settled o mid).nodes).nodes (most + 1)
    (operand.Value (length (settled o mid).nodes))
negative before mid most o one =
    let h = has_node before mid most o one in
    let g = h.grows in
    put before (settled o mid).nodes (most + 1) _ g.from (h.within, tt) g.more (omega (arith, g.few)) (omega (arith, g.single))

operator_operands : (operator : Operator) (l r : ℕ) → operands_of (operator_node operator l r) ≡ l ∷ r ∷ []
operator_operands o.Or l r = refl
operator_operands o.And l r = refl
operator_operands o.Equal l r = refl
operator_operands o.NotEqual l r = refl
operator_operands o.Less l r = refl
operator_operands o.LessOrEqual l r = refl
operator_operands o.Greater l r = refl
operator_operands o.GreaterOrEqual l r = refl
operator_operands o.Plus l r = refl
operator_operands o.Minus l r = refl
operator_operands o.Times l r = refl
operator_operands o.Divide l r = refl
operator_operands o.WholeDivide l r = refl
operator_operands o.Remainder l r = refl

operation : (before mid behind : List Node) (m n : ℕ) (operator : Operator) (l r : Operand) → IsOne before mid m l → IsOne mid behind n r
    → IsOne before ((settled r (settled l behind).nodes).nodes ++ operator_node operator (settled l behind).number (settled r (settled l behind).nodes).number ∷ [])
    (m + n + 1) (operand.Value (length (settled r (settled l behind).nodes).nodes))
operation before mid behind m n operator l r left right =
    let g = left.grows in
    let h = right.grows in
    let a = settles l behind h.from (stands_more (length mid) (length behind) l h.more left.stands) in
    let ns = (settled l behind).nodes in
    let le : length behind ≤ length ns = omega (arith, a.long) in
    let b = settles r ns a.from (stands_more (length behind) (length ns) r le right.stands) in
    let after = (settled r ns).nodes in
    let is = operator_operands operator (settled l behind).number (settled r ns).number in
    let low : (settled l behind).number < length after = omega (arith, a.within, b.long) in
    put before after (m + n + 1) _ b.from
    (subst (λ (os : List ℕ). Under (length after) os) (sym is) (low, (b.within, tt)))
    (omega (arith, g.more, h.more, a.long, b.long))
    (omega (arith, g.few, h.few, a.long, b.long))
    (subst (λ (os : List ℕ). operands_in after + length os + length before ≤ operands_in before + length after) (sym is)
    (omega (arith, g.single, h.single, a.single, b.single)))

indexed : (before mid behind : List Node) (m n : ℕ) (path index : Operand) → IsOne before mid m path → IsOne mid behind n index
    → IsOne before (settled index behind).nodes (m + n + 1) (operand.Route (with_index (settled index behind).number (route_of path)))
indexed before mid behind m n path index left right =
    let g = left.grows in
    let h = right.grows in
    let a = settles index behind h.from right.stands in
    let r = routes path in
    let ns = (settled index behind).nodes in
    let le : length mid ≤ length ns = omega (arith, a.long, h.more) in
    let long = length-append (route_of path).indexes ((settled index behind).number ∷ []) in
    record {
      grows = record {
        from = a.from;
        more = omega (arith, g.more, le);
        few = omega (arith, g.few, h.few, a.long);
        single = omega (arith, g.single, h.single, a.single, long, r.few);
      };
      stands = under_append (length ns) (route_of path).indexes _ (r.under (length ns) (stands_more (length mid) (length ns) path le left.stands)) (a.within, tt);
    }

choice : (before mid behind last : List Node) (m n k : ℕ) (t a b : Operand) → IsOne before mid m t → IsOne mid behind n a → IsOne behind last k b
    → IsOne before ((settled b (settled a (settled t last).nodes).nodes).nodes
    ++ node.If (settled t last).number (settled a (settled t last).nodes).number (settled b (settled a (settled t last).nodes).nodes).number ∷ [])
    (m + n + k + 1) (operand.Value (length (settled b (settled a (settled t last).nodes).nodes).nodes))
choice before mid behind last m n k t a b one two three =
    let f = one.grows in
    let g = two.grows in
    let h = three.grows in
    let up : length mid ≤ length last = omega (arith, g.more, h.more) in
    let x = settles t last h.from (stands_more (length mid) (length last) t up one.stands) in
    let xs = (settled t last).nodes in
    let le : length behind ≤ length xs = omega (arith, x.long, h.more) in
    let y = settles a xs x.from (stands_more (length behind) (length xs) a le two.stands) in
    let ys = (settled a xs).nodes in
    let ge : length last ≤ length ys = omega (arith, x.long, y.long) in
    let z = settles b ys y.from (stands_more (length last) (length ys) b ge three.stands) in
    let low : (settled t last).number < length (settled b ys).nodes = omega (arith, x.within, y.long, z.long) in
    let next : (settled a xs).number < length (settled b ys).nodes = omega (arith, y.within, z.long) in
    put before (settled b ys).nodes (m + n + k + 1) _ z.from (low, (next, (z.within, tt)))
    (omega (arith, f.more, g.more, h.more, x.long, y.long, z.long))
    (omega (arith, f.few, g.few, h.few, x.long, y.long, z.long))
    (omega (arith, f.single, g.single, h.single, x.single, y.single, z.single))

-- calls
plain_call : (before mid : List Node) (most : ℕ) (os : List Operand) (count : ℕ) (n : Node) → AreMany before mid most os count → operands_of n ≡ []
    → IsOne before (mid ++ n ∷ []) (most + 1) (operand.Value (length mid))
plain_call before mid most os count n many is =
    let g = many.grows in
    put before mid (most + 1) n g.from (subst (λ (ms : List ℕ). Under (length mid) ms) (sym is) tt) g.more (omega (arith, g.few))
    (subst (λ (ms : List ℕ). operands_in mid + length ms + length before ≤ operands_in before + length mid) (sym is) (omega (arith, g.single)))

pub record RoutesFirst (bound : ℕ) (os : List Operand) : Type 0 where
  pub under : Under bound (route_of (first os)).indexes
  pub few : length (route_of (first os)).indexes ≤ all_hold os

routes_first : (bound : ℕ) (os : List Operand) → AllStand bound os → RoutesFirst bound os
routes_first bound [] all = record { under = tt; few = omega arith }
routes_first bound (o ∷ os) all = let r = routes o in record { under = r.under bound all.0; few = omega (arith, r.few) }

path_call : (before mid : List Node) (most : ℕ) (os : List Operand) (count : ℕ) (q : Question) → AreMany before mid most os count
    → IsOne before (mid ++ route_node q (route_of (first os)) ∷ []) (most + 1) (operand.Value (length mid))
path_call before mid most os count q many =
    let g = many.grows in
    let r = routes_first (length mid) os many.stand in
    put before mid (most + 1) _ g.from r.under g.more (omega (arith, g.few)) (omega (arith, g.single, r.few))

many_of : (a b c : ℕ) → a ≡ 0 + b → b ≡ c → a ≡ c
many_of a b c e f = omega (arith, e, f)

value_call : (before mid : List Node) (most : ℕ) (os : List Operand) (count : ℕ) (function : Callee) → AreMany before mid most os count
    → takes function count ≡ true
    → IsOne before ((all_settled os mid).nodes ++ value_node function (all_settled os mid).numbers ∷ []) (most + 1) (operand.Value (length (all_settled os mid).nodes))
value_call before mid most os count function many is =
    let g = many.grows in
    let s = settles_all os mid g.from many.stand in
    let l = all_settled os mid in
    let long : count ≡ length l.numbers = sym (many_of (length l.numbers) (length os) count s.many many.many) in
    let t = takes_all function l.numbers (ap (takes function) (sym long) ∙ is) in
    put before l.nodes (most + 1) _ s.from (t.under (length l.nodes) s.within) (omega (arith, g.more, s.long)) (omega (arith, g.few, s.long))
    (omega (arith, g.single, s.single, t.few))

by_callee : (before mid : List Node) (most : ℕ) (os : List Operand) (count : ℕ) (function : Callee) → AreMany before mid most os count
    → takes function count ≡ true
    → IsOne before (called (Some function) os mid).nodes (most + 1) (operand.Value (called (Some function) os mid).number)
by_callee before mid most os count callee.True many is = plain_call before mid most os count _ many refl
by_callee before mid most os count callee.False many is = plain_call before mid most os count _ many refl
by_callee before mid most os count callee.OccursIndex many is = plain_call before mid most os count _ many refl
by_callee before mid most os count callee.Count many is = path_call before mid most os count _ many
by_callee before mid most os count callee.Exists many is = path_call before mid most os count _ many
by_callee before mid most os count callee.Empty many is = path_call before mid most os count _ many
by_callee before mid most os count callee.ValueLength many is = path_call before mid most os count _ many
by_callee before mid most os count callee.ContentLength many is = path_call before mid most os count _ many
by_callee before mid most os count callee.Not many is = value_call before mid most os count callee.Not many is
by_callee before mid most os count callee.Concat many is = value_call before mid most os count callee.Concat many is
by_callee before mid most os count callee.StringLength many is = value_call before mid most os count callee.StringLength many is
by_callee before mid most os count callee.Substring many is = value_call before mid most os count callee.Substring many is
by_callee before mid most os count callee.Contains many is = value_call before mid most os count callee.Contains many is
by_callee before mid most os count callee.StartsWith many is = value_call before mid most os count callee.StartsWith many is
by_callee before mid most os count callee.EndsWith many is = value_call before mid most os count callee.EndsWith many is
by_callee before mid most os count callee.Absolute many is = value_call before mid most os count callee.Absolute many is
by_callee before mid most os count callee.Floor many is = value_call before mid most os count callee.Floor many is
by_callee before mid most os count callee.Ceiling many is = value_call before mid most os count callee.Ceiling many is
by_callee before mid most os count (callee.Construct simple) many is = value_call before mid most os count (callee.Construct simple) many is

both_true : (a b : Bool) → not (a && b) ≡ false → a ≡ true
both_true true b is = refl
both_true false b is = let never : true ≡ false = is in absurd (cc)

calls : (before mid : List Node) (most : ℕ) (os : List Operand) (args : _) (function : Option Callee) → AreMany before mid most os (length args)
    → not (is_call function args) ≡ false
    → IsOne before (called function os mid).nodes (most + 1) (operand.Value (called function os mid).number)
calls before mid most os args None many is = let never : true ≡ false = is in absurd (cc)
calls before mid most os args (Some function) many is = by_callee before mid most os (length args) function many (both_true (takes function (length args)) _ is)

-- what is wrong in a part is wrong in the whole
of_operands : (operator : Operator) (l r : Types) (f : _) → (operation_note operator l r f).faults.types ≡ false → f.types ≡ false
of_operands o.Or l r f is = (or_parts _ _ is).1
of_operands o.And l r f is = (or_parts _ _ is).1
of_operands o.Equal l r f is = (or_parts _ _ is).1
of_operands o.NotEqual l r f is = (or_parts _ _ is).1
of_operands o.Less l r f is = (or_parts _ _ is).1
of_operands o.LessOrEqual l r f is = (or_parts _ _ is).1
of_operands o.Greater l r f is = (or_parts _ _ is).1
of_operands o.GreaterOrEqual l r f is = (or_parts _ _ is).1
of_operands o.Plus l r f is = (or_parts _ _ is).1
of_operands o.Minus l r f is = (or_parts _ _ is).1
of_operands o.Times l r f is = (or_parts _ _ is).1
of_operands o.Divide l r f is = (or_parts _ _ is).1
of_operands o.WholeDivide l r f is = (or_parts _ _ is).1
of_operands o.Remainder l r f is = (or_parts _ _ is).1

pub compiles : (s : Statics) (text : List ℕ) (many : Bool) (t : Formula) → Fits many t → (noted s text t).faults.types ≡ false → (ns : List Node) → From 0 ns
    → Good many (length (arguments_of (noted s text t).shape)) ns (compiled s text t ns) (size t)
compiles s text many (End l) fit sound ns from = leaves s text many l fit ns from
compiles s text true (One u a) fit sound ns from = let never : true ≡ false = fit.0 in absurd (cc)
compiles s text false (One un.Here a) fit sound ns from =
    stepped_on ns _ (size a) _ _ (compiles s text false a fit.1 sound ns from)
compiles s text false (One un.Parent a) fit sound ns from =
    stepped_on ns _ (size a) _ _ (compiles s text false a fit.1 sound ns from)
compiles s text false (One (un.Child span) a) fit sound ns from =
    stepped_on ns _ (size a) (down s (word text span)) _ (compiles s text false a fit.1 sound ns from)
compiles s text false (One (un.Call span) a) fit sound ns from =
    let parts = or_parts _ _ sound in
    calls ns _ (size a) _ _ (callee_of s (word text span)) (compiles s text true a fit.1 parts.1 ns from) parts.0
compiles s text false (One un.Negative a) fit sound ns from =
    negative ns _ (size a) _ (compiles s text false a fit.1 (or_parts _ _ sound).1 ns from)
compiles s text true (Two (bin.Operation operator) l r) fit sound ns from = let never : true ≡ false = fit.0 in absurd (cc)
compiles s text true (Two bin.Item l r) fit sound ns from = let never : true ≡ false = fit.0 in absurd (cc)
compiles s text false (Two bin.Argument l r) fit sound ns from = let never : false ≡ true = fit.0 in absurd (cc)
compiles s text false (Two (bin.Operation operator) l r) fit sound ns from =
    let parts = or_parts _ _ (of_operands operator (types_of s (noted s text l).shape) (types_of s (noted s text r).shape) _ sound) in
    let left : IsOne ns (compiled s text l ns).nodes (size l) (operand_of (compiled s text l ns).item) = compiles s text false l fit.1 parts.0 ns from in
    operation ns _ _ (size l) (size r) operator _ _ left (compiles s text false r fit.2 parts.1 (compiled s text l ns).nodes left.grows.from)
compiles s text false (Two bin.Item l r) fit sound ns from =
    let parts = or_parts _ _ (or_parts _ _ sound).1 in
    let left : IsOne ns (compiled s text l ns).nodes (size l) (operand_of (compiled s text l ns).item) = compiles s text false l fit.1 parts.0 ns from in
    indexed ns _ _ (size l) (size r) _ _ left (compiles s text false r fit.2 parts.1 (compiled s text l ns).nodes left.grows.from)
compiles s text true (Two bin.Argument l r) fit sound ns from =
    let parts = or_parts _ _ sound in
    let mid = (compiled s text l ns).nodes in
    let os = arguments_in (compiled s text l ns).item in
    let left : AreMany ns mid (size l) os (length (arguments_of (noted s text l).shape)) = compiles s text true l fit.1 parts.0 ns from in
    let behind = (compiled s text r mid).nodes in
    let one = operand_of (compiled s text r mid).item in
    let right : IsOne mid behind (size r) one = compiles s text false r fit.2 parts.1 mid left.grows.from in
    let g = left.grows in
    let h = right.grows in
    let hold = holds_behind os one in
    let wait = pending_behind os one in
    let args = arguments_of (noted s text l).shape in
    let long = length-append os (one ∷ []) in
    let long_too = length-append args (argument_of s (noted s text r).shape ∷ []) in
    record {
      grows = record {
        from = h.from;
        more = omega (arith, g.more, h.more);
        few = omega (arith, g.few, h.few, wait);
        single = omega (arith, g.single, h.single, hold);
      };
      stand = all_stand_append (length behind) os (one ∷ []) (all_stand_more (length mid) (length behind) os h.more left.stand) (right.stands, tt);
      many = long ∙ (ap (λ n. n + 1) left.many ∙ sym long_too);
    }
compiles s text true (Choose t a b) fit sound ns from = let never : true ≡ false = fit.0 in absurd (cc)
compiles s text false (Choose t a b) fit sound ns from =
    let parts = or_parts _ _ (or_parts _ _ sound).1 in
    let more = or_parts _ _ parts.1 in
    let mid = (compiled s text t ns).nodes in
    let one : IsOne ns mid (size t) (operand_of (compiled s text t ns).item) = compiles s text false t fit.1 parts.0 ns from in
    let behind = (compiled s text a mid).nodes in
    let two : IsOne mid behind (size a) (operand_of (compiled s text a mid).item) = compiles s text false a fit.2 more.0 mid one.grows.from in
    let last = (compiled s text b behind).nodes in
    let three : IsOne behind last (size b) (operand_of (compiled s text b behind).item) = compiles s text false b fit.3 more.1 behind two.grows.from in
    choice ns mid behind last (size t) (size a) (size b) _ _ _ one two three

no_types : (s : Statics) (n : _) (types : Types) → verdict s n ≡ Ok types → n.faults.types ≡ false
no_types s n types is = by n.faults.types refl
  where
    by : (b : Bool) → n.faults.types ≡ b → b ≡ false
    by false e = refl
    by true e =
        let never : Err fault.Types ≡ Ok types = sym (ap (λ (b : Bool). if b then Err fault.Types else (if n.faults.path then Err fault.NoPath
        else (if n.faults.variable then Err fault.NoVariable else Ok (types_of s n.shape)))) e) ∙ is in absurd (cc)

-- the nodes of a tree are an expression, of which each node is the operand of one other at most
pub record IsSound (nodes : List Node) : Type 0 where
  pub expression : IsExpression nodes
  pub single : operands_in nodes ≤ length nodes

pub all_sound : (s : Statics) (text : List ℕ) (t : Formula) (types : Types) → Fits false t → size t ≤ 2 * most_tokens → types_or_fault s text t ≡ Ok types
    → IsSound (nodes_of s text t)
all_sound s text t types fit few is =
    let b = compiled s text t [] in
    let one : IsOne [] b.nodes (size t) (operand_of b.item) = compiles s text false t fit (no_types s (noted s text t) types is) [] tt in
    let h = has_node [] b.nodes (size t) (operand_of b.item) one in
    let g = h.grows in
    record {
      expression = record {
        some = omega (arith, h.within);
        few = omega (arith, g.few, few);
        below = below_all (whole b) g.from;
      };
      single = omega (arith, g.single);
    }

pub tree_sound : (s : Statics) (text : List ℕ) (nodes : List TreeNode) (types : Types) → HasTree text nodes
    → ((t : Formula) → nodes ≡ nodes_listed t 0 → types_or_fault s text t ≡ Ok types) → IsSound (all_nodes s text nodes)
tree_sound s text nodes types tree checked =
    let reads = tree.2 in
    let made = makes (tokens_of reads) reads.reads.expression 0 in
    let counted = reads.reads.counted in
    let most : 2 * length (spelling reads.reads.expression) ≤ 2 * most_tokens = omega (arith, counted, tree.1) in
    subst (λ ns. IsSound ns) (sym (all_compiled s text (tree_of reads) nodes tree.3))
    (all_sound s text (tree_of reads) types made.fits (omega (arith, made.few, most)) (checked (tree_of reads) tree.3))
