-- Where the content of a simple element is read.
use Rattle.std.specs.Prelude.{◌≡◌, ℕ, List, Some, slice_get}
use Rattle.dfdl_terms.specs.declared.row.Row.{Row}
use Rattle.dfdl_terms.specs.declared.row.Row.TheVariants.{Leaf, Group, PrefixedLeaf, MeasuredLeaf, Scope, Statement}
use Rattle.dfdl_terms.specs.declared.prefix.Measure.{Measure}
use Rattle.dfdl_terms.specs.declared.prefix.Prefix.{Prefix}

-- The row of a number reads a value by a primitive whose number is one of these, or calculates one by a statement whose number is one
-- of those: it is a leaf, with or without a prefix or a length by an expression, or the row of a statement, or a group with such a row, or a scope around one.
pub data ReadsBy (rows : List Row) (IsOne IsCalculation : ℕ → Type 0) : ℕ → Type 0 where
  leaf : (id prim : ℕ) → slice_get rows id ≡ Some (Leaf prim) → IsOne prim → ReadsBy rows IsOne IsCalculation id
  prefixed : (id prim : ℕ) (prefix : Prefix) → slice_get rows id ≡ Some (PrefixedLeaf prefix prim) → IsOne prim → ReadsBy rows IsOne IsCalculation id
  measured : (id prim : ℕ) (measure : Measure) → slice_get rows id ≡ Some (MeasuredLeaf measure prim) → IsOne prim → ReadsBy rows IsOne IsCalculation id
  grouped : (id at child : ℕ) (children : List ℕ) → slice_get rows id ≡ Some (Group children) → slice_get children at ≡ Some child
      → ReadsBy rows IsOne IsCalculation child → ReadsBy rows IsOne IsCalculation id
  scoped : (id list body : ℕ) → slice_get rows id ≡ Some (Scope list body) → ReadsBy rows IsOne IsCalculation body → ReadsBy rows IsOne IsCalculation id
  calculated : (id number : ℕ) → slice_get rows id ≡ Some (Statement number) → IsCalculation number → ReadsBy rows IsOne IsCalculation id
