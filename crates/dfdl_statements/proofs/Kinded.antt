-- What is made of the text of a statement, by its kind.
use Rattle.std.proofs.Common.{◌≡◌, ℕ, List, Bool, true, false, if◌then◌else◌, Option, Some, None, Result, Ok, Err, IfOk, refl, sym, ap, subst, ◌∙◌}
use Rattle.dfdl_forms.specs.declared.simple.Simple.{Simple}
use Rattle.dfdl_value.specs.ReadValues.{reading_of}
use Rattle.dfdl_expressions.specs.declared.node.Node.{Node}
use Rattle.dfdl_expression_tree.specs.Trees.{Formula}
use Rattle.dfdl_expression_types.specs.declared.statics.Statics.{Statics}
use Rattle.dfdl_expression_types.specs.declared.types.Types.{Types}
use Rattle.dfdl_expression_types.specs.declared.types.ValueType.{ValueType}
use Rattle.dfdl_expression_types.specs.TypeSets.{only, type_of}
use Rattle.dfdl_scope.specs.Expressions.{is_expression, literal}
use Rattle.dfdl_statements.specs.declared.fault.Fault.{Fault}
use Rattle.dfdl_report.specs.declared.cause.SchemaCause.{SchemaCause}
use Rattle.dfdl_statements.specs.declared.written.Target.{Target}
use Rattle.dfdl_expression_types.specs.declared.types.ValueType.TheVariants as one
use Rattle.dfdl_terms.specs.declared.statement.Statement.{Statement}
use Rattle.dfdl_statements.specs.declared.written.Asked.{Asked}
use Rattle.dfdl_statements.specs.declared.written.Source.{Source}
use Rattle.dfdl_statements.specs.declared.written.Source.TheVariants as written
use Rattle.dfdl_statements.specs.Making.{Nodes, as_calculation, as_opening, as_question, as_setting, as_test, bare_opening, constant, expression, made, opening_made, opening_with, setting, setting_made, types_asked}
use Rattle.dfdl_statements.specs.MakingShown.{Gives, cause_in}

module _ (read : List ℕ → Option Formula) (s : Statics) (wanted : Types) (text : List ℕ) (answer : Result (List Node) Fault) where
  -- what gives an expression of one type
  pub of_type : (v : ValueType) → wanted ≡ only v → Gives (expression read s wanted text) answer → Gives (expression read s (only v) text) answer
  of_type v is given = subst (λ w. Gives (expression read s w text) answer) is given

  pub of_kind : (v : ValueType) (kind : Simple) → wanted ≡ only v → v ≡ type_of kind → Gives (expression read s wanted text) answer
      → Gives (expression read s (only (type_of kind)) text) answer
  of_kind v kind is of given = subst (λ w. Gives (expression read s w text) answer) (is ∙ ap only of) given

  -- a variable that is set by an expression
  pub set_by : (v : ValueType) (kind : Simple) (b : Bool) → b ≡ is_expression text → b ≡ true → wanted ≡ only v → v ≡ type_of kind
      → Gives (expression read s wanted text) answer → Gives (setting read s kind text) answer
  set_by v kind b same so is of given =
      subst (λ t. Gives (if t then expression read s (only (type_of kind)) text else constant (reading_of kind (literal text))) answer) (sym so ∙ same)
      (of_kind v kind is of given)

-- a variable that is set by a constant
pub set_to : (read : List ℕ → Option Formula) (s : Statics) (text inner : List ℕ) (answer : Result (List Node) Fault) (kind : Simple) (b : Bool)
    → b ≡ is_expression text → b ≡ false → inner ≡ literal text → Gives (constant (reading_of kind inner)) answer → Gives (setting read s kind text) answer
set_to read s text inner answer kind b same so is given =
    subst (λ t. Gives (if t then expression read s (only (type_of kind)) text else constant (reading_of kind (literal text))) answer) (sym so ∙ same)
    (subst (λ t. Gives (constant (reading_of kind t)) answer) is given)

-- why nothing is made, where that is the same as something else
pub caused : {E : Type 0} (r : Result (Option SchemaCause) E) (a b : Option SchemaCause) → IfOk r (λ cause. cause ≡ a) → a ≡ b → IfOk r (λ cause. cause ≡ b)
caused r a b given same = subst (λ o. IfOk r (λ cause. cause ≡ o)) same given

pub test_cause : (discriminates : Bool) (message : Option (List ℕ)) (due : Nodes) → cause_in due ≡ cause_in (as_test discriminates message due)
test_cause discriminates message (Ok nodes) = refl
test_cause discriminates message (Err cause) = refl

pub setting_cause : (target : Target) (due : Nodes) → cause_in due ≡ cause_in (as_setting target due)
setting_cause target (Ok nodes) = refl
setting_cause target (Err cause) = refl

pub opening_cause : (target : Target) (due : Nodes) → cause_in due ≡ cause_in (as_opening target due)
opening_cause target (Ok nodes) = refl
opening_cause target (Err cause) = refl

pub calculation_cause : (kind : Simple) (output : Bool) (due : Nodes) → cause_in due ≡ cause_in (as_calculation kind output due)
calculation_cause kind output (Ok nodes) = refl
calculation_cause kind output (Err cause) = refl

pub question_cause : (due : Nodes) → cause_in due ≡ cause_in (as_question due)
question_cause (Ok nodes) = refl
question_cause (Err cause) = refl

pub of_asked : (read : List ℕ → Option Formula) (s : Statics) (text seen : List ℕ) (asked : Asked) (wanted : Types) (answer : Result (List Node) Fault)
    → seen ≡ text → wanted ≡ types_asked asked → Gives (expression read s wanted seen) answer → Gives (expression read s (types_asked asked) text) answer
of_asked read s text seen asked wanted answer same types given =
    subst (λ w. Gives (expression read s w text) answer) types (subst (λ t. Gives (expression read s wanted t) answer) same given)

module _ (read : List ℕ → Option Formula) (s : Statics) (answer : Result Statement Fault) (source : Source) where
  -- what is made of each kind
  pub test_made : (text seen : List ℕ) (discriminates : Bool) (message : Option (List ℕ)) (wanted : Types) (found : Result (List Node) Fault)
      → source ≡ written.Test text discriminates message → seen ≡ text → wanted ≡ only one.Truth → Gives (expression read s wanted seen) found
      → ((due : Nodes) → Gives due found → Gives (as_test discriminates message due) answer) → Gives (made read s source) answer
  test_made text seen discriminates message wanted found is same types given all =
      subst (λ o. Gives (made read s o) answer) (sym is)
      (all (expression read s (only one.Truth) text)
      (of_type read s wanted text found one.Truth types (subst (λ t. Gives (expression read s wanted t) found) same given)))

  pub set_made : (text seen : List ℕ) (variable : Option Target) → source ≡ written.Setting variable text → seen ≡ text
      → Gives (setting_made read s variable seen) answer → Gives (made read s source) answer
  set_made text seen variable is same given =
      subst (λ o. Gives (made read s o) answer) (sym is) (subst (λ t. Gives (setting_made read s variable t) answer) same given)

  pub opened_made : (text : Option (List ℕ)) (variable : Option Target) → source ≡ written.Opening variable text
      → Gives (opening_made read s variable text) answer → Gives (made read s source) answer
  opened_made text variable is given = subst (λ o. Gives (made read s o) answer) (sym is) given

  pub calculation_made : (text seen : List ℕ) (kind : Simple) (output : Bool) (v : ValueType) (wanted : Types) (found : Result (List Node) Fault)
      → source ≡ written.Calculation kind text output → seen ≡ text → wanted ≡ only v → v ≡ type_of kind → Gives (expression read s wanted seen) found
      → ((due : Nodes) → Gives due found → Gives (as_calculation kind output due) answer) → Gives (made read s source) answer
  calculation_made text seen kind output v wanted found is same types of given all =
      subst (λ o. Gives (made read s o) answer) (sym is)
      (all (expression read s (only (type_of kind)) text)
      (of_kind read s wanted text found v kind types of (subst (λ t. Gives (expression read s wanted t) found) same given)))

  pub question_made : (text seen : List ℕ) (asked : Asked) (wanted : Types) (found : Result (List Node) Fault)
      → source ≡ written.Question asked text → seen ≡ text → wanted ≡ types_asked asked → Gives (expression read s wanted seen) found
      → ((due : Nodes) → Gives due found → Gives (as_question due) answer) → Gives (made read s source) answer
  question_made text seen asked wanted found is same types given all =
      subst (λ o. Gives (made read s o) answer) (sym is)
      (all (expression read s (types_asked asked) text) (of_asked read s text seen asked wanted found same types given))

-- what sets a variable, if there is one
pub target_made : (read : List ℕ → Option Formula) (s : Statics) (answer : Result Statement Fault) (text : List ℕ) (variable : Option Target) (target : Target)
    (found : Result (List Node) Fault) → variable ≡ Some target → Gives (setting read s target.kind text) found
    → ((due : Nodes) → Gives due found → Gives (as_setting target due) answer) → Gives (setting_made read s variable text) answer
target_made read s answer text variable target found is given all =
    subst (λ o. Gives (setting_made read s o text) answer) (sym is) (all (setting read s target.kind text) given)

-- what opens an instance of a variable by a text, without one, and if there is a variable
pub start_made : (read : List ℕ → Option Formula) (s : Statics) (answer : Result Statement Fault) (start : Option (List ℕ)) (text seen : List ℕ) (target : Target)
    (found : Result (List Node) Fault) → start ≡ Some text → seen ≡ text → Gives (setting read s target.kind seen) found
    → ((due : Nodes) → Gives due found → Gives (as_opening target due) answer) → Gives (opening_with read s target start) answer
start_made read s answer start text seen target found is same given all =
    subst (λ o. Gives (opening_with read s target o) answer) (sym is)
    (all (setting read s target.kind text) (subst (λ t. Gives (setting read s target.kind t) found) same given))

pub bare_made : (read : List ℕ → Option Formula) (s : Statics) (answer : Statement) (start : Option (List ℕ)) (target : Target) → start ≡ None
    → answer ≡ bare_opening target → Gives (opening_with read s target start) (Ok answer)
bare_made read s answer start target is same =
    subst (λ o. Gives (opening_with read s target o) (Ok answer)) (sym is) (ap Ok (sym same))

pub opened_target : (read : List ℕ → Option Formula) (s : Statics) (answer : Result Statement Fault) (text : Option (List ℕ)) (variable : Option Target) (target : Target)
    → variable ≡ Some target → Gives (opening_with read s target text) answer → Gives (opening_made read s variable text) answer
opened_target read s answer text variable target is given = subst (λ o. Gives (opening_made read s o text) answer) (sym is) given

module _ {E : Type 0} (read : List ℕ → Option Formula) (s : Statics) (r : Result (Option SchemaCause) E) where
  -- why nothing is made of each kind
  pub test_told : (source : Source) (text seen : List ℕ) (discriminates : Bool) (message : Option (List ℕ)) (wanted : Types) (found : Result (List Node) Fault)
      → source ≡ written.Test text discriminates message → seen ≡ text → wanted ≡ only one.Truth → Gives (expression read s wanted seen) found
      → ((due : Nodes) → Gives due found → IfOk r (λ cause. cause ≡ cause_in due)) → IfOk r (λ cause. cause ≡ cause_in (made read s source))
  test_told source text seen discriminates message wanted found is same types given all =
      let due = expression read s (only one.Truth) text in
      subst (λ o. IfOk r (λ cause. cause ≡ cause_in (made read s o))) (sym is)
      (caused r (cause_in due) (cause_in (as_test discriminates message due))
      (all due (of_type read s wanted text found one.Truth types (subst (λ t. Gives (expression read s wanted t) found) same given)))
      (test_cause discriminates message due))

  pub set_told : (source : Source) (text seen : List ℕ) (variable : Option Target) → source ≡ written.Setting variable text → seen ≡ text
      → IfOk r (λ cause. cause ≡ cause_in (setting_made read s variable seen)) → IfOk r (λ cause. cause ≡ cause_in (made read s source))
  set_told source text seen variable is same given =
      subst (λ o. IfOk r (λ cause. cause ≡ cause_in (made read s o))) (sym is)
      (subst (λ t. IfOk r (λ cause. cause ≡ cause_in (setting_made read s variable t))) same given)

  pub opened_told : (source : Source) (text : Option (List ℕ)) (variable : Option Target) → source ≡ written.Opening variable text
      → IfOk r (λ cause. cause ≡ cause_in (opening_made read s variable text)) → IfOk r (λ cause. cause ≡ cause_in (made read s source))
  opened_told source text variable is given = subst (λ o. IfOk r (λ cause. cause ≡ cause_in (made read s o))) (sym is) given

  pub start_told : (start : Option (List ℕ)) (text seen : List ℕ) (target : Target) (found : Result (List Node) Fault) → start ≡ Some text → seen ≡ text
      → Gives (setting read s target.kind seen) found → ((due : Nodes) → Gives due found → IfOk r (λ cause. cause ≡ cause_in due))
      → IfOk r (λ cause. cause ≡ cause_in (opening_with read s target start))
  start_told start text seen target found is same given all =
      let due = setting read s target.kind text in
      subst (λ o. IfOk r (λ cause. cause ≡ cause_in (opening_with read s target o))) (sym is)
      (caused r (cause_in due) (cause_in (as_opening target due)) (all due (subst (λ t. Gives (setting read s target.kind t) found) same given))
      (opening_cause target due))

  pub opened_target_told : (text : Option (List ℕ)) (variable : Option Target) (target : Target) → variable ≡ Some target
      → IfOk r (λ cause. cause ≡ cause_in (opening_with read s target text)) → IfOk r (λ cause. cause ≡ cause_in (opening_made read s variable text))
  opened_target_told text variable target is given = subst (λ o. IfOk r (λ cause. cause ≡ cause_in (opening_made read s o text))) (sym is) given

  pub calculation_told : (source : Source) (text seen : List ℕ) (kind : Simple) (output : Bool) (v : ValueType) (wanted : Types)
      (found : Result (List Node) Fault) → source ≡ written.Calculation kind text output → seen ≡ text → wanted ≡ only v → v ≡ type_of kind → Gives (expression read s wanted seen) found
      → ((due : Nodes) → Gives due found → IfOk r (λ cause. cause ≡ cause_in due)) → IfOk r (λ cause. cause ≡ cause_in (made read s source))
  calculation_told source text seen kind output v wanted found is same types of given all =
      let due = expression read s (only (type_of kind)) text in
      subst (λ o. IfOk r (λ cause. cause ≡ cause_in (made read s o))) (sym is)
      (caused r (cause_in due) (cause_in (as_calculation kind output due))
      (all due (of_kind read s wanted text found v kind types of (subst (λ t. Gives (expression read s wanted t) found) same given)))
      (calculation_cause kind output due))

  pub question_told : (source : Source) (text seen : List ℕ) (asked : Asked) (wanted : Types) (found : Result (List Node) Fault)
      → source ≡ written.Question asked text → seen ≡ text → wanted ≡ types_asked asked → Gives (expression read s wanted seen) found
      → ((due : Nodes) → Gives due found → IfOk r (λ cause. cause ≡ cause_in due)) → IfOk r (λ cause. cause ≡ cause_in (made read s source))
  question_told source text seen asked wanted found is same types given all =
      let due = expression read s (types_asked asked) text in
      subst (λ o. IfOk r (λ cause. cause ≡ cause_in (made read s o))) (sym is)
      (caused r (cause_in due) (cause_in (as_question due)) (all due (of_asked read s text seen asked wanted found same types given)) (question_cause due))

  pub target_told : (text : List ℕ) (variable : Option Target) (target : Target) (found : Result (List Node) Fault) → variable ≡ Some target
      → Gives (setting read s target.kind text) found → ((due : Nodes) → Gives due found → IfOk r (λ cause. cause ≡ cause_in due))
      → IfOk r (λ cause. cause ≡ cause_in (setting_made read s variable text))
  target_told text variable target found is given all =
      let due = setting read s target.kind text in
      subst (λ o. IfOk r (λ cause. cause ≡ cause_in (setting_made read s o text))) (sym is)
      (caused r (cause_in due) (cause_in (as_setting target due)) (all due given) (setting_cause target due))
