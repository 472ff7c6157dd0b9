-- What unparsing goes by: the rows with their tables, the components that they come from, and how each of these is written.
use Rattle.std.specs.Prelude.{ℕ, List, slice_get, Option, None, Some}
use Rattle.std.specs.Option.{option_and_then}
use Rattle.dfdl_terms.specs.Rows.{Table}
use Rattle.dfdl_terms.specs.declared.delimiters.Delimiters.{Delimiters}
use Rattle.dfdl_terms.specs.declared.row.Primitive.{Primitive}
use Rattle.dfdl_rows.specs.Components.{Schema}
use Rattle.dfdl_rows.specs.declared.component.Component.{Component}
use Rattle.dfdl_rows.specs.declared.component.Component.TheVariants.{Sequence, Choice, ComplexElement, SimpleElement, CalculatedElement, Hidden}
use Rattle.dfdl_rows.specs.declared.component.LeafLength.{LeafLength}
use Rattle.dfdl_terms.specs.declared.writing.Writing.{Writing}

-- a schema as it is unparsed
pub record Plan : Type 0 where
  pub table : Table
  pub schema : Schema
  pub writings : List Writing
  pub root : ℕ

-- how the content of a simple element lies: its primitive, that of nil where there is one, and what gives its length
pub record Form : Type 0 where
  pub prim : Primitive
  pub nil : Option Primitive
  pub length : LeafLength

-- the primitive of a number, if there is a number
abbrev pub primitive_if : Plan → Option ℕ → Option Primitive
primitive_if plan None = None
primitive_if plan (Some number) = slice_get plan.table.primitives number

-- a form, where its primitive is told
abbrev pub form_with : Option Primitive → LeafLength → Option Primitive → Option Form
form_with nil length None = None
form_with nil length (Some prim) = Some (record { prim = prim; nil = nil; length = length })

-- the form of a component that is a simple element
abbrev pub form_by : Plan → Component → Option Form
form_by plan (Sequence framing separated initiated) = None
form_by plan (Choice framing initiated dispatch) = None
form_by plan (ComplexElement name framing box occurs often) = None
form_by plan (SimpleElement name simple prim framing own_length tried scanned occurs often) =
    form_with (primitive_if plan tried.nil) own_length (slice_get plan.table.primitives prim)
form_by plan (CalculatedElement name simple statement framing) = None
form_by plan Hidden = None

-- the form of the component of a number, where that is a simple element
abbrev pub form_of : Plan → ℕ → Option Form
form_of plan c = option_and_then (form_by plan) (slice_get plan.schema.components c)

-- how the component of a number is written
abbrev pub writing_of : Plan → ℕ → Option Writing
writing_of plan c = slice_get plan.writings c

-- the list of delimiters of a number
abbrev pub list_of : Plan → ℕ → Option Delimiters
list_of plan list = slice_get plan.table.delimiters list
