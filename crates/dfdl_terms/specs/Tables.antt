-- What rows name by numbers.
use Rattle.std.specs.Prelude.{ℕ, List, Option}
use Rattle.dfdl_vars.specs.declared.values.VarDef.{VarDef}
use Rattle.dfdl_terms.specs.declared.row.Primitive.{Primitive}
use Rattle.dfdl_terms.specs.declared.delimiters.Delimiters.{Delimiters}
use Rattle.dfdl_terms.specs.declared.statement.Statement.{Statement}

-- the primitives, the lists of literals of initiators, terminators and separators, the statements, the number of the local name of each row's
-- element, and the variables
pub record Named : Type 0 where
  pub primitives : List Primitive
  pub delimiters : List Delimiters
  pub statements : List Statement
  pub names : List (Option ℕ)
  pub variables : List VarDef
