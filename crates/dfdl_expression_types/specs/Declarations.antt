-- What a schema declares, as an expression sees it.
use Rattle.std.specs.Prelude.{ℕ, Option, List, option_map, string_bytes}
use Rattle.std.specs.List.{slice_get}
use Rattle.std.specs.BTreeMap.{get_by_text}
use Rattle.dfdl_expression_types.specs.declared.statics.Element.{Element}
use Rattle.dfdl_expression_types.specs.declared.statics.Variable.{Variable}
use Rattle.dfdl_expression_types.specs.declared.statics.Statics.{Statics}

-- the element of a number
abbrev pub element_at : Statics → ℕ → Option Element
element_at s number = slice_get s.elements.now number

-- the number of a local name
abbrev pub name_number : Statics → List ℕ → Option ℕ
name_number s local = get_by_text s.names.now local

-- the variable of a name
abbrev pub variable_named : Statics → List ℕ → Option Variable
variable_named s name = get_by_text s.variables.now name

-- the namespace of a prefix
abbrev pub namespace_of : Statics → List ℕ → Option (List ℕ)
namespace_of s prefix = option_map string_bytes (get_by_text s.prefixes.now prefix)
