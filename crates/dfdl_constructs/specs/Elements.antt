-- The elements and attributes of a schema document, by their namespaces and local names, whatever
-- the prefixes are ('Namespaces in XML 1.0').
use Rattle.std.specs.Prelude.{ℕ, ◌&&◌, Bool, not, if◌then◌else◌, List, [], ◌∷◌, Option, None, Some}
use Rattle.std.specs.Prelude.{codes, bytes_eq, is_some, encode_utf8_all}
use Rattle.dfdl_markup.specs.Values.{Attribute, declares}
use Rattle.dfdl_markup.specs.Trees.{Node, node_at, namespace_at, attribute_namespace_at, local_part}

-- the namespace of XML Schema
unfoldable pub schema_namespace : List ℕ
schema_namespace = codes "http://www.w3.org/2001/XMLSchema"

-- the namespace of DFDL's annotation elements and properties
unfoldable pub dfdl_namespace : List ℕ
dfdl_namespace = codes "http://www.ogf.org/dfdl/dfdl-1.0/"

-- the local name of an element
abbrev pub local_name : List Node → ℕ → List ℕ
local_name nodes element = encode_utf8_all (local_part (node_at nodes element).name)

-- the element's name is in this namespace
abbrev pub is_in_namespace : List Node → ℕ → List ℕ → Bool
is_in_namespace nodes element namespace =
    bytes_eq (encode_utf8_all (namespace_at nodes element)) namespace

-- the attribute of an element declares a namespace
abbrev pub is_declaration : Attribute → Bool
is_declaration attribute = is_some (declares attribute.name)

-- the attribute of an element declares none, and has this namespace and this local name
abbrev pub is_attribute : List Node → ℕ → List ℕ → List ℕ → Attribute → Bool
is_attribute nodes element namespace name attribute =
    not (is_declaration attribute)
    && (bytes_eq (encode_utf8_all (local_part attribute.name)) name
    && bytes_eq (encode_utf8_all (attribute_namespace_at nodes element attribute.name)) namespace)

-- the value of the first attribute that is the one
abbrev pub value_among : (Attribute → Bool) → List Attribute → Option (List ℕ)
value_among is_one [] = None
value_among is_one (attribute ∷ attributes) =
    if is_one attribute then Some (encode_utf8_all attribute.value)
    else value_among is_one attributes

-- the value of an element's attribute of this namespace and local name, as it is: no white space is
-- taken off
abbrev pub value_of : List Node → ℕ → List ℕ → List ℕ → Option (List ℕ)
value_of nodes element namespace name =
    value_among (is_attribute nodes element namespace name) (node_at nodes element).attributes

-- the value of an element's attribute of no namespace
abbrev pub plain_of : List Node → ℕ → List ℕ → Option (List ℕ)
plain_of nodes element name = value_of nodes element [] name

-- the value of an element's attribute of DFDL's namespace: a property in short form
abbrev pub dfdl_of : List Node → ℕ → List ℕ → Option (List ℕ)
dfdl_of nodes element name = value_of nodes element dfdl_namespace name

-- the element has an attribute of no namespace with this name
abbrev pub has : List Node → ℕ → List ℕ → Bool
has nodes element name = is_some (plain_of nodes element name)
