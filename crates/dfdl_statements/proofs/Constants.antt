-- A node of a value is an expression, and what texts of no value are answered as.
use Rattle.std.proofs.Common.{◌≡◌, ◌↔◌, ℕ, zero, suc, List, [], ◌∷◌, Some, Result, Ok, Err, refl, sym, subst, lit<, true, false}
use Rattle.std.specs.Result.{IsErrOf}
use Rattle.std.specs.List.{slice_get}
use Rattle.dfdl_value.specs.declared.value.Value.{Value}
use Rattle.dfdl_value.specs.declared.read.NoValue.{NoValue}
use Rattle.dfdl_value.specs.declared.read.NoValue.TheVariants as why
use Rattle.dfdl_value.specs.declared.read.ReadFault.{ReadFault}
use Rattle.dfdl_value.specs.declared.read.ReadFault.TheVariants as told
use Rattle.dfdl_expressions.specs.declared.node.Node.{Node}
use Rattle.dfdl_expressions.specs.declared.node.Node.TheVariants.{Constant}
use Rattle.dfdl_expressions.specs.Nodes.{IsExpression, are_below, operands_of}
use Rattle.dfdl_statements.specs.declared.fault.Fault.{Fault}
use Rattle.dfdl_statements.specs.Making.{constant}
use Rattle.dfdl_statements.specs.MakingShown.{Gives, unread}

below_one : (v : Value) (number : ℕ) (n : Node) → slice_get (Constant v ∷ []) number ≡ Some n → are_below number (operands_of n) ≡ true
below_one v zero n is = let same : Constant v ≡ n = cc in subst (λ m. are_below 0 (operands_of m) ≡ true) same refl
below_one v (suc number) n is = let never : ⊥ = cc in absurd never

pub one_node : (v : Value) → IsExpression (Constant v ∷ [])
one_node v = record {
  some = lit< tt;
  few = lit< tt;
  below = λ number n within is. below_one v number n is;
}

-- the nodes of a value are an expression
pub one_node_at : (v : Value) (nodes : List Node) → nodes ≡ Constant v ∷ [] → IsExpression nodes
one_node_at v nodes is = subst IsExpression (sym is) (one_node v)

-- a text that is a value
pub value_gives : (due : Result Value NoValue) (v : Value) (answer : Result (List Node) Fault) → due ≡ Ok v → Gives (Ok (Constant v ∷ [])) answer
    → Gives (constant due) answer
value_gives due v answer is given = subst (λ d. Gives (constant d) answer) (sym is) given

-- a text that is none
pub no_value_gives : (due : Result Value NoValue) (fault : ReadFault) (answer : Fault)
    → (IsErrOf {T = Value} (Err fault) told.NotAValue ↔ (due ≡ Err why.NotAValue)) → (IsErrOf {T = Value} (Err fault) told.PastType ↔ (due ≡ Err why.PastType))
    → answer ≡ unread fault → Gives (constant due) (Err answer)
no_value_gives due told.NotAValue answer none past same =
    subst (λ a. Gives (constant due) (Err a)) (sym same) (subst (λ d. Gives (constant d) (Err (unread told.NotAValue))) (sym (none.0 refl)) refl)
no_value_gives due told.PastType answer none past same =
    subst (λ a. Gives (constant due) (Err a)) (sym same) (subst (λ d. Gives (constant d) (Err (unread told.PastType))) (sym (past.0 refl)) refl)
no_value_gives due told.OutOfMemory answer none past same = subst (λ a. Gives (constant due) (Err a)) (sym same) tt

-- no value's node is refused
pub never_none : (v : Value) (nodes : List Node) → ((false ≡ true) ↔ IsExpression nodes) → nodes ≡ Constant v ∷ [] → ⊥
never_none v nodes sound is = let never : false ≡ true = sound.1 (one_node_at v nodes is) in cc
