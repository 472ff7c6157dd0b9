-- Mirror for the prover: which elements have elements in them.
use Rattle.std.specs.Prelude.{Bool, true, false}
use Rattle.dfdl_region.specs.declared.node.Content.{Content}
use Rattle.dfdl_region.specs.declared.node.Content.TheVariants.{Begun, Complex, Nil, Signed, Unsigned, Decimal, Truth, Text, Octets}

-- an element with this content has elements in it
abbrev pub has_elements : Content → Bool
has_elements Begun = true
has_elements Complex = true
has_elements Nil = false
has_elements (Signed number) = false
has_elements (Unsigned number) = false
has_elements (Decimal number) = false
has_elements (Truth truth) = false
has_elements (Text from len) = false
has_elements (Octets from len) = false
