-- Which documents a document names: the `include` and `import` elements right inside of its
-- `schema` that have a `schemaLocation` ('DFDL Schema Component Model').
use Rattle.std.specs.Prelude.{ℕ, ◌&&◌, Bool, not, if◌then◌else◌, List, [], ◌∷◌, map}
use Rattle.std.specs.Prelude.{Option, None, Some, option_map, option_and_then, is_some, codes}
use Rattle.std.specs.Prelude.{encode_utf8_all}
use Rattle.std.specs.List.{cons_option}
use Rattle.std.specs.Str.{bytes_eq}
use Rattle.dfdl_markup.specs.Values.{Attribute, declares}
use Rattle.dfdl_markup.specs.Trees.{Node, node_at, namespace_at, attribute_namespace_at, local_part}
use Rattle.dfdl_documents.specs.declared.reference.ReferenceKind.{ReferenceKind}
use Rattle.dfdl_documents.specs.declared.reference.ReferenceKind.TheVariants.{Include, Import}
use Rattle.dfdl_documents.specs.Locations.{name_from}
use Rattle.dfdl_documents.specs.Documents.{SchemaDocument, Reference}

-- the namespace of XML Schema
unfoldable pub schema_namespace : List ℕ
schema_namespace = codes "http://www.w3.org/2001/XMLSchema"

-- the element is XML Schema's of this local name
abbrev pub is_schema_element : List Node → ℕ → List ℕ → Bool
is_schema_element nodes element name =
    bytes_eq (encode_utf8_all (local_part (node_at nodes element).name)) name
    && bytes_eq (encode_utf8_all (namespace_at nodes element)) schema_namespace

-- the attribute declares no namespace, has none, and has this name
abbrev pub is_plain_attribute : List Node → ℕ → List ℕ → Attribute → Bool
is_plain_attribute nodes element name attribute =
    not (is_some (declares attribute.name))
    && (bytes_eq (encode_utf8_all (local_part attribute.name)) name
    && bytes_eq (encode_utf8_all (attribute_namespace_at nodes element attribute.name)) [])

-- the value of the first attribute that passes a test
abbrev pub value_among : (Attribute → Bool) → List Attribute → Option (List ℕ)
value_among is_one [] = None
value_among is_one (attribute ∷ attributes) =
    if is_one attribute then Some (encode_utf8_all attribute.value)
    else value_among is_one attributes

-- the value of an element's attribute of no namespace
abbrev pub plain_of : List Node → ℕ → List ℕ → Option (List ℕ)
plain_of nodes element name =
    value_among (is_plain_attribute nodes element name) (node_at nodes element).attributes

-- the element's attribute `schemaLocation`
abbrev pub location_at : List Node → ℕ → Option (List ℕ)
location_at nodes element = plain_of nodes element (codes "schemaLocation")

-- the element is an `include` or an `import`
abbrev pub kind_at : List Node → ℕ → Option ReferenceKind
kind_at nodes element =
    if is_schema_element nodes element (codes "include") then Some Include
    else (if is_schema_element nodes element (codes "import") then Some Import else None)

-- the reference of this kind that an element with this location is
abbrev pub reference_to : List ℕ → ReferenceKind → ℕ → List ℕ → Reference
reference_to name kind element location = record {
  kind = kind;
  element = element;
  name = name_from name location;
}

-- the reference that an element of a document is
abbrev pub reference_at : SchemaDocument → ℕ → Option Reference
reference_at document element =
    option_and_then (λ kind. option_map (reference_to document.name kind element)
    (location_at document.nodes element)) (kind_at document.nodes element)

-- the references that these elements of a document are
abbrev pub references_among : SchemaDocument → List ℕ → List Reference
references_among document [] = []
references_among document (element ∷ elements) =
    cons_option (reference_at document element) (references_among document elements)

-- the references of a document, in their order
abbrev pub references_of : SchemaDocument → List Reference
references_of document =
    if is_schema_element document.nodes 0 (codes "schema")
    then references_among document (node_at document.nodes 0).children
    else []

-- the names in references
abbrev pub names_in : List Reference → List (List ℕ)
names_in references = map (λ (r : Reference). r.name) references

-- the names of the documents that a document names
abbrev pub names_of : SchemaDocument → List (List ℕ)
names_of document = names_in (references_of document)
