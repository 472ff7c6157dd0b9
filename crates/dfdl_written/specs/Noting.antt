-- The statements of the documents as they are written: of each component the tests of patterns, what opens instances of variables, what sets
-- variables, the tests of expressions, the calculations of its value, for writing and of one that has no representation, and the questions how
-- long its content is, how often it occurs and which branch is taken ('DFDL Schema Component Model', on asserts and discriminators; 'Syntax of DFDL Annotation Elements', on newVariableInstance
-- and setVariable; 'Calculated Values'; 'Lengths', on lengthKind explicit; 'Arrays and Optional Elements', on occursCountKind expression;
-- 'Choices', on choiceDispatchKey).
use Rattle.std.specs.Prelude.{◌≡◌, ℕ, List, [], ◌∷◌, ◌++◌, Bool, true, false, All, map, slice_get, Option, None, Some, option_map, unwrap_or, codes}
use Rattle.std.specs.BTreeMap.{BTreeMap}
use Rattle.std.specs.Prelude.{String}
use Rattle.std.specs.Option.{option_and_then}
use Rattle.std.specs.List.{AllZip}
use Rattle.dfdl_report.specs.declared.place.Place.{Place}
use Rattle.dfdl_forms.specs.declared.simple.Simple.{Simple}
use Rattle.dfdl_forms.specs.declared.simple.Simple.TheVariants.{UnsignedByte}
use Rattle.dfdl_documents.specs.Documents.{SchemaDocument}
use Rattle.dfdl_components.specs.Globals.{site}
use Rattle.dfdl_components.specs.Sites.{IsSite}
use Rattle.dfdl_components.specs.declared.site.Site.{Site}
use Rattle.dfdl_chains.specs.Settings.{IsSetterOf}
use Rattle.dfdl_chains.specs.declared.settings.Setter.{Setter}
use Rattle.dfdl_terms.specs.declared.statement.PatternTest.{PatternTest}
use Rattle.dfdl_checks.specs.declared.expression_tests.CheckForm.{CheckForm}
use Rattle.dfdl_checks.specs.declared.measures.MeasureForm.{MeasureForm}
use Rattle.dfdl_checks.specs.Subjects.{simple_of}
use Rattle.dfdl_chains.specs.Chains.{chain_sites}
use Rattle.dfdl_chains.specs.Declarations.{attribute_of}
use Rattle.dfdl_chains.specs.Kinds.{kind_at}
use Rattle.dfdl_chains.specs.Tests.{given_by}
use Rattle.dfdl_breaches.specs.declared.judgement.Judgement.{Judgement}
use Rattle.dfdl_breaches.specs.Elements.{place_of}
use Rattle.dfdl_breaches.specs.Judging.{IsCheckOf}
use Rattle.dfdl_references.specs.Writers.{writer_of}
use Rattle.dfdl_statements.specs.declared.written.Asked.{Asked}
use Rattle.dfdl_statements.specs.declared.written.Asked.TheVariants as asked
use Rattle.dfdl_statements.specs.declared.written.Source.{Source}
use Rattle.dfdl_statements.specs.declared.written.Source.TheVariants as source
use Rattle.dfdl_statements.specs.declared.written.Target.{Target}
use Rattle.dfdl_statements.specs.declared.written.Written.{Written}
use Rattle.dfdl_variables.specs.Numbers.{variable_named}
use Rattle.dfdl_variables.specs.Variables.{text_or_empty, variables_of}
use Rattle.dfdl_variables.specs.declared.variable.Declared.{Declared}
use Rattle.dfdl_written.specs.Prefixes.{HasNamespaces}
use Rattle.dfdl_written.specs.Variables.{sound_type}
use Rattle.dfdl_written.specs.declared.noted.Noted.{Noted}
use Rattle.dfdl_written.specs.declared.noted.Stated.{Stated}

-- a statement of a component that begins at this place, whose text stands at this element
abbrev pub noted_with : Place → Site → Source → Noted
noted_with place own written = record { source = written; place = place; site = own }

-- a test of a pattern
abbrev pub noted_test : Place → Site → PatternTest → Noted
noted_test place own test = noted_with place own (source.Pattern test)

-- a test of an expression
abbrev pub noted_check : Place → CheckForm → Noted
noted_check place check = noted_with place (site check.document check.element) (source.Test check.text check.discriminates check.message)

-- a variable of a number and a type, as it is set
abbrev pub target_with : ℕ → Simple → Target
target_with number kind = record { number = number; kind = kind }

-- the variable of a number, where its definition is sound
abbrev pub target_of : List Declared → ℕ → Option Target
target_of variables number = option_map (target_with number) (option_and_then sound_type (slice_get variables number))

-- the variable that a name names at an element, where its definition is sound
abbrev pub target_named : List SchemaDocument → Site → List ℕ → Option Target
target_named documents own name = option_and_then (target_of (variables_of documents)) (variable_named documents own name)

-- the variable that a setVariable sets, or of which a newVariableInstance opens one: that which its attribute `ref` names
abbrev pub target_at : List SchemaDocument → Site → Option Target
target_at documents own = option_and_then (target_named documents own) (attribute_of documents own (codes "ref"))

-- what it sets the variable to: what its attribute `value` gives, else the element's text without the white space around it
abbrev pub value_at : List SchemaDocument → Site → List ℕ
value_at documents own = text_or_empty (given_by (codes "value") documents own)

-- what an instance begins with that a newVariableInstance opens: what its attribute `defaultValue` gives, else the element's text without the white
-- space around it, if there is one
abbrev pub start_at : List SchemaDocument → Site → Option (List ℕ)
start_at documents own = given_by (codes "defaultValue") documents own

-- a newVariableInstance, or a setVariable
abbrev pub setter_source : List SchemaDocument → Bool → Site → Source
setter_source documents true own = source.Opening (target_at documents own) (start_at documents own)
setter_source documents false own = source.Setting (target_at documents own) (value_at documents own)

abbrev pub noted_setting : List SchemaDocument → Place → Setter → Noted
noted_setting documents place own = noted_with place own.site (setter_source documents own.opens own.site)

-- the type of a value that is calculated; there are such values of elements of simple types alone
abbrev pub calculated_type : List SchemaDocument → Site → Simple
calculated_type documents own = unwrap_or (simple_of (kind_at documents own)) UnsignedByte

-- where the expression is written that is a property of a component
abbrev pub expression_site : List SchemaDocument → List ℕ → Site → Site
expression_site documents name own = unwrap_or (writer_of documents (chain_sites documents own) name) own

-- the property by which a value is calculated, for writing or not
abbrev pub calculating_property : Bool → List ℕ
calculating_property true = codes "outputValueCalc"
calculating_property false = codes "inputValueCalc"

-- the calculation of the value of a component, for writing or not
abbrev pub noted_calculation : List SchemaDocument → Bool → Place → Site → List ℕ → Noted
noted_calculation documents output place own text =
    noted_with place (expression_site documents (calculating_property output) own) (source.Calculation (calculated_type documents own) text output)

-- the property whose expression is asked
abbrev pub property_asked : Asked → List ℕ
property_asked asked.Length = codes "length"
property_asked asked.Count = codes "occursCount"
property_asked asked.Key = codes "choiceDispatchKey"

-- a question that a row of the component asks
abbrev pub noted_question : List SchemaDocument → Place → Site → Asked → List ℕ → Noted
noted_question documents place own question text =
    noted_with place (expression_site documents (property_asked question) own) (source.Question question text)

-- what is noted of an expression, where there is one
abbrev pub noted_if : (List ℕ → Noted) → Option (List ℕ) → List Noted
noted_if noted None = []
noted_if noted (Some text) = noted text ∷ []

-- the expression of a length
abbrev pub length_text : MeasureForm → List ℕ
length_text measure = measure.text

-- the questions that the rows of a component that begins at this place ask: how long its content is, how often it occurs, and which branch
-- is taken
abbrev pub noted_questions : List SchemaDocument → Place → Site → Option MeasureForm → Option (List ℕ) → Option (List ℕ) → List Noted
noted_questions documents place own measure count key =
    noted_if (noted_question documents place own asked.Length) (option_map length_text measure)
    ++ (noted_if (noted_question documents place own asked.Count) count
    ++ noted_if (noted_question documents place own asked.Key) key)

-- the expressions that are properties of such a component: the calculations of its value, and the questions
abbrev pub noted_expressions : List SchemaDocument → Place → Site → Option (List ℕ) → Option (List ℕ) → Option MeasureForm → Option (List ℕ) → Option (List ℕ)
    → List Noted
noted_expressions documents place own output calculation measure count key =
    noted_if (noted_calculation documents true place own) output
    ++ (noted_if (noted_calculation documents false place own) calculation ++ noted_questions documents place own measure count key)

-- the statements before these, of a component that begins at this place
abbrev pub noted_parts : List SchemaDocument → Place → Site → List PatternTest → List Setter → List CheckForm → List Noted
noted_parts documents place own tests settings checks =
    map (noted_test place own) tests ++ (map (noted_setting documents place) settings ++ map (noted_check place) checks)

-- what a component states of which this is told
abbrev pub stated_by : Judgement → Stated
stated_by judgement = record {
  tests = judgement.tests;
  settings = judgement.settings;
  checks = judgement.checks;
  output = judgement.output;
  calculation = judgement.calculation;
  measure = judgement.measure;
  count = judgement.count;
  key = judgement.key;
}

-- the statements of a component that states this
abbrev pub noted_from : List SchemaDocument → Site → Stated → List Noted
noted_from documents own stated =
    noted_parts documents (place_of documents own) own stated.tests stated.settings stated.checks
    ++ noted_expressions documents (place_of documents own) own stated.output stated.calculation stated.measure stated.count stated.key

-- the statements of a component of which this is told
abbrev pub noted_by : List SchemaDocument → Site → Judgement → List Noted
noted_by documents own judgement = noted_from documents own (stated_by judgement)

-- the statements of some components, one after the other
abbrev pub noted_each : List SchemaDocument → List Site → List Stated → List Noted
noted_each documents (own ∷ sites) (stated ∷ others) = noted_from documents own stated ++ noted_each documents sites others
noted_each documents [] stated = []
noted_each documents (own ∷ sites) [] = []

-- what a component states is written at elements of the documents
pub record StatesWithin (documents : List SchemaDocument) (stated : Stated) : Type 0 where
  pub settings : All (IsSetterOf documents) stated.settings
  pub checks : All (IsCheckOf documents) stated.checks

-- the text of a statement stands at an element of the documents
abbrev pub IsNotedWithin : List SchemaDocument → Noted → Type 0
IsNotedWithin documents noted = IsSite documents noted.site

-- a map has the namespaces of the prefixes in scope where a statement's text stands
abbrev pub HasItsNamespaces : {Y : Type 0} → List SchemaDocument → Noted → BTreeMap (String Y) (String Y) → Type 0
HasItsNamespaces documents noted prefixes = HasNamespaces documents noted.site prefixes

-- a statement that is written just as it is noted, with the namespaces of the prefixes in scope
pub record IsAsNoted (documents : List SchemaDocument) (noted : Noted) (written : Written) : Type 0 where
  pub source : written.source ≡ noted.source
  pub place : written.place ≡ noted.place
  pub prefixes : HasNamespaces documents noted.site written.prefixes.now

-- the same of each of some
abbrev pub AreAsNoted : List SchemaDocument → List Noted → List Written → Type 0
AreAsNoted documents noted written = AllZip (IsAsNoted documents) noted written
