-- The elements of a document are a tree of the schema's elements.
use Rattle.std.specs.Prelude.{◌≡◌, ◌<◌, ◌≤◌, ℕ, List, Some, slice_get, false}
use Rattle.dfdl_forms.specs.declared.simple.Simple.{Simple}
use Rattle.dfdl_terms.specs.declared.row.Primitive.{Primitive}
use Rattle.dfdl_terms.specs.declared.statement.Calculation.{Calculation as CalculationOf}
use Rattle.dfdl_terms.specs.declared.statement.Statement.TheVariants.{Calculation}
use Rattle.dfdl_terms.specs.declared.statement.Statements.{Statements}
use Rattle.dfdl_terms.specs.declared.row.Row.TheVariants.{Elem}
use Rattle.dfdl_terms.specs.declared.representations.Representations.{Representations}
use Rattle.dfdl_terms.specs.Leaves.{ReadsBy}
use Rattle.dfdl_terms.specs.Rows.{IsElementRow, Table}
use Rattle.dfdl_region.specs.declared.node.Node.{Node}
use Rattle.dfdl_region.specs.declared.node.Content.TheVariants.{Begun}

-- the element of this number begins inside of an earlier one, or is the first and its own parent, and its row is an element's
pub record IsNode (table : Table) (number : ℕ) (node : Node) : Type 0 where
  pub parent : node.parent ≤ number
  pub earlier : 0 < number → node.parent < number
  pub element : IsElementRow (slice_get table.rows node.element)

-- each of the elements is so
abbrev pub IsTree : Table → List Node → Type 0
IsTree table nodes = (number : ℕ) (node : Node) → slice_get nodes number ≡ Some node → IsNode table number node

-- the primitive of this number is in the tables
abbrev pub IsInTables : Table → ℕ → Type 0
IsInTables table prim = (primitive : Primitive) × (slice_get table.primitives prim ≡ Some primitive)

-- the statement of this number of the tables is a calculated value, and not one of unparsing alone
abbrev pub IsCalculation : Table → ℕ → Type 0
IsCalculation table number =
    (calculation : CalculationOf) × (slice_get table.statements number ≡ Some (Calculation calculation)) × (calculation.output ≡ false)

-- the body of each element of a simple type reads a value by a primitive of the tables, or calculates one
abbrev pub HasLeaves : Table → Type 0
HasLeaves table = (id : ℕ) (name : List ℕ) (simple : Simple) (tried : Representations) (behind : Statements) (body : ℕ)
    → slice_get table.rows id ≡ Some (Elem name (Some simple) tried behind body)
    → ReadsBy table.rows (IsInTables table) (IsCalculation table) body

-- each of the elements is read
abbrev pub AreRead : List Node → Type 0
AreRead nodes = (number : ℕ) (node : Node) → slice_get nodes number ≡ Some node → node.content ≡ Begun → ⊥
