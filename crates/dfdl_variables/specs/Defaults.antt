-- The default values of variables ('Syntax of DFDL Annotation Elements', on defineVariable).
use Rattle.std.specs.Prelude.{ℕ, List, Option, Some, None, Result, Ok, Err, codes, encode_utf8_all, if◌then◌else◌}
use Rattle.dfdl_markup.specs.Trees.{node_at}
use Rattle.dfdl_forms.specs.declared.simple.Simple.{Simple}
use Rattle.dfdl_value.specs.ReadValues.{Reading, reading_of}
use Rattle.dfdl_value.specs.Types.{IsOfType}
use Rattle.dfdl_value.specs.declared.value.Value.{Value}
use Rattle.dfdl_documents.specs.Documents.{SchemaDocument}
use Rattle.dfdl_components.specs.declared.site.Site.{Site}
use Rattle.dfdl_components.specs.Sites.{nodes_of}
use Rattle.dfdl_scope.specs.Expressions.{is_expression, literal}
use Rattle.dfdl_chains.specs.Declarations.{attribute_of}
use Rattle.dfdl_chains.specs.Tests.{given_or_inside}
use Rattle.dfdl_variables.specs.declared.malformed.Malformed.{Malformed}
use Rattle.dfdl_variables.specs.declared.malformed.Malformed.TheVariants.{TypeNotCarried, DefaultByExpression, DefaultNotAValue}

-- the text of a default: that of the attribute `defaultValue`, else what stands in the element, without the white
-- space around it
abbrev pub default_text : List SchemaDocument → Site → Option (List ℕ)
default_text documents own =
    given_or_inside (attribute_of documents own (codes "defaultValue"))
    (encode_utf8_all (node_at (nodes_of documents own.document) own.element).text)

-- what a variable begins with, if with something, or what is wrong with its definition
abbrev pub Start : Type 0
Start = Result (Option Value) Malformed

-- the same of a default that is read
abbrev pub start_read : Reading → Start
start_read (Ok value) = Ok (Some value)
start_read (Err why) = Err DefaultNotAValue

-- of a text that a type's value is read from
abbrev pub start_text : Simple → List ℕ → Start
start_text simple text = start_read (reading_of simple text)

-- of a default of a type: an expression is none, and any other text says what it says of the type
abbrev pub start_said : Simple → List ℕ → Start
start_said simple text =
    if is_expression text then Err DefaultByExpression else start_text simple (literal text)

-- of a definition with a type, and a default if it has one
abbrev pub start_of : Simple → Option (List ℕ) → Start
start_of simple None = Ok None
start_of simple (Some text) = start_said simple text

-- of a definition whose type is carried, or isn't
abbrev pub start_by : Option Simple → Option (List ℕ) → Start
start_by None text = Err TypeNotCarried
start_by (Some simple) text = start_of simple text

-- if it begins with a value, that is one of the type
abbrev pub IsStartOf : Simple → Start → Type 0
IsStartOf simple (Ok (Some value)) = IsOfType simple value
IsStartOf simple (Ok None) = Unit {0}
IsStartOf simple (Err why) = Unit {0}

-- the same, where it has a type
abbrev pub IsStartBy : Option Simple → Start → Type 0
IsStartBy None start = Unit {0}
IsStartBy (Some simple) start = IsStartOf simple start
