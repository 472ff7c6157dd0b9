-- What is made of a text by its tree, or why nothing is.
use Rattle.std.proofs.Common.{◌≡◌, ℕ, List, Bool, true, false, if◌then◌else◌, Option, Some, None, Result, Ok, Err, refl, sym, ap, subst, ◌∙◌}
use Rattle.std.specs.List.{list_any}
use Rattle.dfdl_expressions.specs.declared.node.Node.{Node}
use Rattle.dfdl_expression_text.specs.Expressions.{ReadsBytes, IsFaultOf}
use Rattle.dfdl_expression_text.specs.declared.fault.ExpressionFault.{ExpressionFault}
use Rattle.dfdl_expression_text.specs.declared.fault.ExpressionFault.TheVariants as text_fault
use Rattle.dfdl_expression_tree.specs.declared.node.Node.{Node as TreeNode}
use Rattle.dfdl_expression_tree.specs.Readings.{HasTree, tree_of}
use Rattle.dfdl_expression_tree.specs.Trees.{Formula, listed}
use Rattle.dfdl_expression_types.specs.declared.fault.TypeFault.{TypeFault}
use Rattle.dfdl_expression_types.specs.declared.fault.TypeFault.TheVariants as type_fault
use Rattle.dfdl_expression_types.specs.declared.statics.Statics.{Statics}
use Rattle.dfdl_expression_types.specs.declared.types.Types.{Types}
use Rattle.dfdl_expression_types.specs.Verdicts.{types_or_fault}
use Rattle.dfdl_expression_compile.specs.Compiling.{nodes_of}
use Rattle.dfdl_expression_compile.specs.Resolving.{Resolves}
use Rattle.dfdl_expression_compile.specs.declared.resolving.Resolved.{Resolved}
use Rattle.dfdl_report.specs.declared.cause.SchemaCause.TheVariants.{ExpressionMalformed}
use Rattle.dfdl_statements.specs.declared.fault.Fault.{Fault}
use Rattle.dfdl_statements.specs.declared.fault.Fault.TheVariants.{Cause}
use Rattle.dfdl_statements.specs.Making.{checked, compiled, fitting, inside_braces}
use Rattle.dfdl_statements.specs.MakingShown.{Gives, malformed, unfit}
use Rattle.dfdl_statements.specs.Unbound.{has_unbound, is_unbound_in}
use Rattle.dfdl_statements.specs.Texts.{IsReading}

-- any two readings of a text have one tree
abbrev OneTree : Type 0
OneTree = (bytes : List ℕ) (m n : ℕ) (first : ReadsBytes m bytes) (second : ReadsBytes n bytes) → tree_of first ≡ tree_of second

tree_listed : OneTree → (text : List ℕ) (nodes : List TreeNode) (found : Option Formula) → HasTree text nodes → IsReading text found
    → (f : Formula) × (found ≡ Some f) × (nodes ≡ listed f 0)
tree_listed one text nodes None tree none = absurd (none (tree.0, tree.1, tree.2))
tree_listed one text nodes (Some f) tree is = (f, refl, tree.3 ∙ ap (λ t. listed t 0) (one text tree.0 is.0 tree.2 is.2 ∙ sym is.3))

checked_by : (due : Result Types TypeFault) (nodes : List Node) (r : Resolved) (wanted : Types) (answer : Result (List Node) Fault)
    → Resolves due nodes (Ok r) → Gives (fitting r.types wanted r.expression) answer → Gives (checked due wanted nodes) answer
checked_by due nodes r wanted answer is given =
    subst (λ d. Gives (checked d wanted nodes) answer) (sym is.0) (subst (λ ns. Gives (fitting r.types wanted ns) answer) is.1 given)

unfit_by : (due : Result Types TypeFault) (nodes : List Node) (wanted : Types) (why : TypeFault) (answer : Fault)
    → Resolves due nodes (Err why) → answer ≡ unfit why → Gives (checked due wanted nodes) (Err answer)
unfit_by due nodes wanted type_fault.Types answer is same =
    subst (λ a. Gives (checked due wanted nodes) (Err a)) (sym same) (subst (λ d. Gives (checked d wanted nodes) (Err (unfit type_fault.Types))) (sym is) refl)
unfit_by due nodes wanted type_fault.NoPath answer is same =
    subst (λ a. Gives (checked due wanted nodes) (Err a)) (sym same) (subst (λ d. Gives (checked d wanted nodes) (Err (unfit type_fault.NoPath))) (sym is) refl)
unfit_by due nodes wanted type_fault.NoVariable answer is same =
    subst (λ a. Gives (checked due wanted nodes) (Err a)) (sym same) (subst (λ d. Gives (checked d wanted nodes) (Err (unfit type_fault.NoVariable))) (sym is) refl)
unfit_by due nodes wanted type_fault.OutOfMemory answer is same =
    subst (λ a. Gives (checked due wanted nodes) (Err a)) (sym same) tt

-- a text that is no expression
pub refused : (s : Statics) (wanted : Types) (text : List ℕ) (found : Option Formula) (why : ExpressionFault) (answer : Fault)
    → IsFaultOf text why → IsReading text found → answer ≡ malformed why → Gives (compiled s wanted text found) (Err answer)
refused s wanted text found text_fault.OutOfMemory answer why reading same =
    subst (λ a. Gives (compiled s wanted text found) (Err a)) (sym same) tt
refused s wanted text None (text_fault.Malformed at) answer why reading same =
    subst (λ a. Gives (compiled s wanted text None) (Err a)) (sym same) refl
refused s wanted text (Some f) (text_fault.Malformed at) answer why reading same = absurd (why.no_text (reading.0, reading.1, reading.2))

module _ (s : Statics) (wanted : Types) (text : List ℕ) (nodes : List TreeNode) (found : Option Formula) (one : OneTree) (tree : HasTree text nodes)
    (reading : IsReading text found) where
  -- a text in whose tree a prefix isn't declared
  pub unbound : (b : Bool) → b ≡ list_any (is_unbound_in s text) nodes → b ≡ true → Gives (compiled s wanted text found) (Err (Cause ExpressionMalformed))
  unbound b same is =
      let made = tree_listed one text nodes found tree reading in
      let there : has_unbound s text made.0 ≡ true = ap (list_any (is_unbound_in s text)) (sym made.2) ∙ (sym same ∙ is) in
      subst (λ o. Gives (compiled s wanted text o) (Err (Cause ExpressionMalformed))) (sym made.1)
      (subst (λ (t : Bool). Gives (if t then Err ExpressionMalformed else checked (types_or_fault s text made.0) wanted (nodes_of s text made.0))
      (Err (Cause ExpressionMalformed))) (sym there) refl)

  -- what is made of a text in whose tree each prefix is declared
  bound : (b : Bool) (answer : Result (List Node) Fault) (f : Formula) → b ≡ list_any (is_unbound_in s text) nodes → b ≡ false → nodes ≡ listed f 0
      → Gives (checked (types_or_fault s text f) wanted (nodes_of s text f)) answer → Gives (compiled s wanted text (Some f)) answer
  bound b answer f same is list given =
      let there : has_unbound s text f ≡ false = ap (list_any (is_unbound_in s text)) (sym list) ∙ (sym same ∙ is) in
      subst (λ (t : Bool). Gives (if t then Err ExpressionMalformed else checked (types_or_fault s text f) wanted (nodes_of s text f)) answer) (sym there) given

  -- a text whose tree was compiled
  pub resolved : (b : Bool) → b ≡ list_any (is_unbound_in s text) nodes → b ≡ false → (r : Resolved) (answer : Result (List Node) Fault)
      → ((f : Formula) → nodes ≡ listed f 0 → Resolves (types_or_fault s text f) (nodes_of s text f) (Ok r))
      → Gives (fitting r.types wanted r.expression) answer → Gives (compiled s wanted text found) answer
  resolved b same is r answer all given =
      let made = tree_listed one text nodes found tree reading in
      subst (λ o. Gives (compiled s wanted text o) answer) (sym made.1)
      (bound b answer made.0 same is made.2 (checked_by (types_or_fault s text made.0) (nodes_of s text made.0) r wanted answer (all made.0 made.2) given))

  -- a text in whose tree something doesn't fit
  pub unresolved : (b : Bool) → b ≡ list_any (is_unbound_in s text) nodes → b ≡ false → (why : TypeFault) (answer : Fault)
      → ((f : Formula) → nodes ≡ listed f 0 → Resolves (types_or_fault s text f) (nodes_of s text f) (Err why))
      → answer ≡ unfit why → Gives (compiled s wanted text found) (Err answer)
  unresolved b tests is why answer all same =
      let made = tree_listed one text nodes found tree reading in
      subst (λ o. Gives (compiled s wanted text o) (Err answer)) (sym made.1)
      (bound b (Err answer) made.0 tests is made.2 (unfit_by (types_or_fault s text made.0) (nodes_of s text made.0) wanted why answer (all made.0 made.2) same))

-- a text with braces, and one without
pub inside_gives : (read : List ℕ → Option Formula) (s : Statics) (wanted : Types) (o : Option (List ℕ)) (text : List ℕ) (answer : Result (List Node) Fault)
    → Some text ≡ o → Gives (compiled s wanted text (read text)) answer → Gives (inside_braces read s wanted o) answer
inside_gives read s wanted o text answer is given = subst (λ p. Gives (inside_braces read s wanted p) answer) is given

pub outside_gives : (read : List ℕ → Option Formula) (s : Statics) (wanted : Types) (o : Option (List ℕ)) → None ≡ o
    → Gives (inside_braces read s wanted o) (Err (Cause ExpressionMalformed))
outside_gives read s wanted o is = subst (λ p. Gives (inside_braces read s wanted p) (Err (Cause ExpressionMalformed))) is refl
