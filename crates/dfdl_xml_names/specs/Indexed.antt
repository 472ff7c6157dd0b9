-- Mirror for the prover: what is kept of many attributes.
use Rattle.std.specs.Prelude.{◌≡◌, List, Option, IfSome}
use Rattle.dfdl_markup.specs.Values as values
use Rattle.dfdl_markup.specs.Values.{have_same, names_of, same_name}
use Rattle.dfdl_xml_names.specs.Kept.{HasNames}
use Rattle.dfdl_xml_names.specs.Expanded.{IsResolved}
use Rattle.dfdl_xml_names.specs.declared.index.Index.{Index}
use Rattle.dfdl_xml_names.specs.declared.names.Written.{Written}

-- the set is that of the attributes, and it is known whether two are written alike
pub record IsWritten (written : Written) (attributes : List values.Attribute) : Type 0 where
  pub names : HasNames written.names attributes
  pub repeated : written.repeated ≡ have_same same_name (names_of attributes)

-- the attributes are written so, and their names are resolved by the scope
pub record IsIndexOf (index : Index) (scope : List values.Binding) (attributes : List values.Attribute) : Type 0 where
  pub written : IsWritten index.written attributes
  pub resolved : IsResolved index.resolved scope (names_of attributes)

-- the index, if there is one, is that of the attributes
abbrev pub IsKept : Option Index → List values.Binding → List values.Attribute → Type 0
IsKept index scope attributes = IfSome index (λ kept. IsIndexOf kept scope attributes)
