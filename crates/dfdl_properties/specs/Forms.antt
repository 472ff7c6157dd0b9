-- The forms in which properties are written: short form, attribute form and element form ('Syntax of
-- DFDL Annotation Elements'). Other attributes, and names that are no property's, are read past;
-- `ref` is one of them, since it names a format.
use Rattle.std.specs.Prelude.{ℕ, List, [], ◌∷◌, ◌++◌, Option, Some, None, if◌then◌else◌, Bool, true, false}
use Rattle.std.specs.Prelude.{◌&&◌, not, nat_lt, length, filter, bytes_eq, codes, encode_utf8_all}
use Rattle.std.specs.List.{flat_map}
use Rattle.dfdl_lemmas.specs.Trimmed.{without_leading, without_trailing}
use Rattle.dfdl_markup.specs.Grammar.{is_white}
use Rattle.dfdl_markup.specs.Values.{Attribute}
use Rattle.dfdl_markup.specs.Trees.{Node, node_at, attribute_namespace_at, local_part}
use Rattle.dfdl_constructs.specs.declared.role.Role.{Role}
use Rattle.dfdl_constructs.specs.declared.role.Role.TheVariants as role
use Rattle.dfdl_constructs.specs.Elements.{dfdl_namespace, is_declaration, plain_of}
use Rattle.dfdl_constructs.specs.Roles.{role_at}
use Rattle.dfdl_scope.specs.Table.{is_property}
use Rattle.dfdl_properties.specs.Written.{Written}

-- the attribute of an element writes a property: it declares no namespace, and its name is in this
-- namespace and is a property's
abbrev pub writes_property : List Node → ℕ → List ℕ → Attribute → Bool
writes_property nodes element namespace attribute =
    not (is_declaration attribute)
    && (is_property (encode_utf8_all (local_part attribute.name))
    && bytes_eq (encode_utf8_all (attribute_namespace_at nodes element attribute.name)) namespace)

-- the property that an attribute writes
abbrev pub written_by : Attribute → Written
written_by attribute = record {
  name = encode_utf8_all (local_part attribute.name);
  value = encode_utf8_all attribute.value;
}

-- the properties that those of an element's attributes write whose names are in this namespace
abbrev pub among_attributes : List Node → ℕ → List ℕ → List Attribute → List Written
among_attributes nodes element namespace [] = []
among_attributes nodes element namespace (attribute ∷ attributes) =
    if writes_property nodes element namespace attribute
    then written_by attribute ∷ among_attributes nodes element namespace attributes
    else among_attributes nodes element namespace attributes

abbrev pub by_attributes : List Node → ℕ → List ℕ → List Written
by_attributes nodes element namespace =
    among_attributes nodes element namespace (node_at nodes element).attributes

-- short form: attributes of DFDL's namespace at a component
abbrev pub short_form : List Node → ℕ → List Written
short_form nodes component = by_attributes nodes component dfdl_namespace

-- attribute form: attributes of no namespace at an annotation element
abbrev pub attribute_form : List Node → ℕ → List Written
attribute_form nodes element = by_attributes nodes element []

-- a text without the white space around it
abbrev pub trimmed : List ℕ → List ℕ
trimmed text = without_trailing is_white (without_leading is_white text)

-- the document has such an element, and its role is of this kind
abbrev pub is_one : List Node → (Role → Bool) → ℕ → Bool
is_one nodes kind element = nat_lt element (length nodes) && kind (role_at nodes element)

-- the children of an element whose roles are of this kind
abbrev pub children_of : List Node → (Role → Bool) → ℕ → List ℕ
children_of nodes kind element = filter (is_one nodes kind) (node_at nodes element).children

-- a `dfdl:property`
abbrev pub is_written_property : Role → Bool
is_written_property role.Property = true
is_written_property _ = false

-- the property of a name and a value, where it is a property's name
abbrev pub if_property : Option (List ℕ) → List ℕ → List Written
if_property None value = []
if_property (Some name) value =
    if is_property name then record { name = name; value = value } ∷ [] else []

-- what a `dfdl:property` writes: its attribute `name` is the name, and its text is the value, without
-- the white space around it
abbrev pub by_element : List Node → ℕ → List Written
by_element nodes property =
    if_property (plain_of nodes property (codes "name"))
    (trimmed (encode_utf8_all (node_at nodes property).text))

-- element form: the elements `dfdl:property` in an annotation element
abbrev pub element_form : List Node → ℕ → List Written
element_form nodes element = flat_map (by_element nodes) (children_of nodes is_written_property element)

-- the properties that are written in an annotation element: in attribute form, and then in element
-- form
abbrev pub written_in : List Node → ℕ → List Written
written_in nodes element = attribute_form nodes element ++ element_form nodes element
