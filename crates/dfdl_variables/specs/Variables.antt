-- THE variables that the documents of a schema define ('Syntax of DFDL Annotation Elements', on defineVariable).
use Rattle.std.specs.Prelude.{ℕ, List, [], ◌∷◌, Bool, true, false, Option, Some, None, codes, if◌then◌else◌}
use Rattle.std.specs.List.{flat_map}
use Rattle.dfdl_constructs.specs.declared.role.Role.{Role}
use Rattle.dfdl_constructs.specs.declared.role.Role.TheVariants as role
use Rattle.dfdl_documents.specs.Documents.{SchemaDocument}
use Rattle.dfdl_components.specs.declared.site.Site.{Site}
use Rattle.dfdl_components.specs.Sites.{role_of}
use Rattle.dfdl_chains.specs.Declarations.{attribute_of}
use Rattle.dfdl_chains.specs.Everywhere.{all_sites}
use Rattle.dfdl_chains.specs.Facts.{is_true}
use Rattle.dfdl_variables.specs.declared.variable.Declared.{Declared}
use Rattle.dfdl_variables.specs.Types.{type_at}
use Rattle.dfdl_variables.specs.Defaults.{default_text, start_by, IsStartBy}

-- the element defines a variable
abbrev pub is_definition : Role → Bool
is_definition role.DefineVariable = true
is_definition _ = false

-- a text, or none where there isn't one
abbrev pub text_or_empty : Option (List ℕ) → List ℕ
text_or_empty None = []
text_or_empty (Some text) = text

-- the local name of the variable that an element defines, which loaded documents give
abbrev pub name_at : List SchemaDocument → Site → List ℕ
name_at documents own = text_or_empty (attribute_of documents own (codes "name"))

-- its value may be given from outside
abbrev pub is_external : List SchemaDocument → Site → Bool
is_external documents own = is_true (attribute_of documents own (codes "external"))

-- the variable that an element defines. Its number is its place in the list of all
unfoldable pub declared_at : List SchemaDocument → Site → Declared
declared_at documents own = record {
  name = name_at documents own;
  site = own;
  simple = type_at documents own;
  is_external = is_external documents own;
  start = start_by (type_at documents own) (default_text documents own);
}

-- what a variable begins with, if with a value, is one of its type
abbrev pub IsTyped : Declared → Type 0
IsTyped variable = IsStartBy variable.simple variable.start

-- the variable that an element defines, if it does
abbrev pub declared_if : List SchemaDocument → Site → List Declared
declared_if documents own = if is_definition (role_of documents own) then declared_at documents own ∷ [] else []

-- the variables of all documents, in the order of the elements that define them
unfoldable pub variables_of : List SchemaDocument → List Declared
variables_of documents = flat_map (declared_if documents) (all_sites documents)
