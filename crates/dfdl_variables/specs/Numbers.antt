-- The numbers of variables, and which variable a name refers to ('Syntax of DFDL Annotation Elements', on setVariable and
-- newVariableInstance).
use Rattle.std.specs.Prelude.{ℕ, List, Option, option_and_then}
use Rattle.std.specs.List.{position}
use Rattle.dfdl_documents.specs.Documents.{SchemaDocument}
use Rattle.dfdl_components.specs.declared.kind.ComponentKind.TheVariants as kind
use Rattle.dfdl_components.specs.declared.site.Site.{Site}
use Rattle.dfdl_components.specs.Naming.{resolved}
use Rattle.dfdl_components.specs.Sites.{is_same}
use Rattle.dfdl_chains.specs.Declarations.{component_of}
use Rattle.dfdl_variables.specs.declared.variable.Declared.{Declared}
use Rattle.dfdl_variables.specs.Variables.{variables_of}

-- the number of the variable that an element defines: its place among these
abbrev pub number_in : List Declared → Site → Option ℕ
number_in variables own = position (λ (variable : Declared). is_same variable.site own) variables

-- the element that defines the variable which a name that is written at an element refers to, if it refers to one
abbrev pub definition_named : List SchemaDocument → Site → List ℕ → Option Site
definition_named documents writer text = component_of (resolved documents writer kind.Variable text)

-- the number of the variable which a name that is written at an element refers to, if it refers to one
abbrev pub variable_named : List SchemaDocument → Site → List ℕ → Option ℕ
variable_named documents writer text = option_and_then (number_in (variables_of documents)) (definition_named documents writer text)
