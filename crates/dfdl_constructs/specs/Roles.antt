-- What each element of a schema document stands for: its role, from its name, from the role of the
-- element that it stands in, and from the attributes `ref` and `source` ('DFDL Schema Component
-- Model', 'Syntax of DFDL Annotation Elements').
use Rattle.std.specs.Prelude.{◌≡◌, ℕ, zero, suc, ◌<◌, ◌==◌, ◌&&◌, ◌||◌, Bool, false, true, nat_lt}
use Rattle.std.specs.Prelude.{List, length, get_or, Option, Some, None, if◌then◌else◌, codes, bytes_eq}
use Rattle.std.specs.List.{list_any, find}
use Rattle.dfdl_markup.specs.Trees.{Node, node_at}
use Rattle.dfdl_constructs.specs.declared.role.AnnotationPoint.{AnnotationPoint}
use Rattle.dfdl_constructs.specs.declared.role.Role.{Role}
use Rattle.dfdl_constructs.specs.declared.role.Role.TheVariants as role
use Rattle.dfdl_constructs.specs.Elements.{schema_namespace, local_name, is_in_namespace, plain_of, has}
use Rattle.dfdl_constructs.specs.Parts.{Part, Many, Single, part_named, parts_in, namespace_in, otherwise_in}

-- the element is among these
abbrev pub is_among : ℕ → List ℕ → Bool
is_among element children = list_any (λ child. child == element) children

-- the last of the first elements that has this one among its children
abbrev pub parent_before : ℕ → List Node → ℕ → Option ℕ
parent_before zero nodes element = None
parent_before (suc n) nodes element =
    if is_among element (node_at nodes n).children then Some n else parent_before n nodes element

-- the element that an element stands in, which has its start tag before
abbrev pub parent_of : List Node → ℕ → Option ℕ
parent_of nodes element = parent_before element nodes element

-- the part, where the element's name is in this namespace
abbrev pub if_in : List Node → ℕ → List ℕ → Option Part → Option Part
if_in nodes element namespace None = None
if_in nodes element namespace (Some part) =
    if is_in_namespace nodes element namespace then Some part else None

-- the part that an element is, in an element of this role
abbrev pub part_at : List Node → Role → ℕ → Option Part
part_at nodes role element =
    if_in nodes element (namespace_in role) (part_named (parts_in role) (local_name nodes element))

-- the part stands only once
abbrev pub is_single : Option Part → Bool
is_single None = false
is_single (Some (Many name role)) = false
is_single (Some (Single name role)) = true

-- the document has such an element, and it is a part that stands only once
abbrev pub is_single_at : List Node → Role → ℕ → Bool
is_single_at nodes role element =
    nat_lt element (length nodes) && is_single (part_at nodes role element)

-- the part that stands only once in an element of this role: the type of an element, the group of a
-- complex type or of a global group, the restriction of a simple type, the format or escape scheme of
-- a definition
abbrev pub single_in : List Node → Role → ℕ → Option ℕ
single_in nodes role element =
    find (is_single_at nodes role) (node_at nodes element).children

-- the element is this one
abbrev pub is_that : Option ℕ → ℕ → Bool
is_that None element = false
is_that (Some other) element = other == element

-- the source of DFDL's annotations, with or without the last slash
abbrev pub is_dfdl_source_text : Option (List ℕ) → Bool
is_dfdl_source_text None = false
is_dfdl_source_text (Some source) =
    bytes_eq source (codes "http://www.ogf.org/dfdl/") || bytes_eq source (codes "http://www.ogf.org/dfdl")

abbrev pub is_dfdl_source : List Node → ℕ → Bool
is_dfdl_source nodes element = is_dfdl_source_text (plain_of nodes element (codes "source"))

-- a local element with a `ref` is a reference
abbrev pub by_reference : List Node → ℕ → Role → Role
by_reference nodes element role.LocalElement =
    if has nodes element (codes "ref") then role.ElementReference else role.LocalElement
by_reference nodes element role = role

-- the role of an element that is this part, where the part that stands once is placed
abbrev pub role_of_part : List Node → ℕ → Option ℕ → Role → Option Part → Role
role_of_part nodes element single otherwise None = otherwise
role_of_part nodes element single otherwise (Some (Many name role)) = by_reference nodes element role
role_of_part nodes element single otherwise (Some (Single name role)) =
    if is_that single element then by_reference nodes element role else otherwise

-- the element is XML Schema's of this name
abbrev pub is_schema_element : List Node → ℕ → List ℕ → Bool
is_schema_element nodes element name =
    bytes_eq (local_name nodes element) name && is_in_namespace nodes element schema_namespace

-- the role of an `appinfo`: DFDL's annotations, or information of another source
abbrev pub role_by_source : List Node → AnnotationPoint → ℕ → Role
role_by_source nodes at element =
    if is_dfdl_source nodes element then role.Annotations at else role.Information

-- the role of an element in an annotation
abbrev pub role_in_annotation : List Node → AnnotationPoint → ℕ → Role
role_in_annotation nodes at element =
    if is_schema_element nodes element (codes "documentation") then role.Information
    else (if is_schema_element nodes element (codes "appinfo") then role_by_source nodes at element
    else role.OutsideSubset)

-- the annotation point of an annotation
abbrev pub point_of : Role → Option AnnotationPoint
point_of (role.Annotation at) = Some at
point_of _ = None

-- the role of an element in an element of this role, with this part that stands once in it
abbrev pub role_in_by : List Node → Role → Option ℕ → ℕ → Option AnnotationPoint → Role
role_in_by nodes role single element (Some at) = role_in_annotation nodes at element
role_in_by nodes role single element None =
    role_of_part nodes element single (otherwise_in role) (part_at nodes role element)

-- the same, from the role alone
abbrev pub role_in : List Node → Role → Option ℕ → ℕ → Role
role_in nodes role single element = role_in_by nodes role single element (point_of role)

-- the role of an element that stands in no other
abbrev pub root_role : List Node → ℕ → Role
root_role nodes element =
    if is_schema_element nodes element (codes "schema") then role.Schema else role.OutsideSubset

-- the role, where the element that it stands in is placed, and the roles of the elements before it
abbrev pub role_by : List Node → (ℕ → Role) → ℕ → Option ℕ → Role
role_by nodes role_before element None = root_role nodes element
role_by nodes role_before element (Some parent) =
    role_in nodes (role_before parent) (single_in nodes (role_before parent) parent) element

-- the role of an element that stands in less than so many others
abbrev pub role_within : ℕ → List Node → ℕ → Role
role_within zero nodes element = role.Skipped
role_within (suc n) nodes element =
    role_by nodes (role_within n nodes) element (parent_of nodes element)

-- the role of an element
unfoldable pub role_at : List Node → ℕ → Role
role_at nodes element = role_within (suc element) nodes element

-- these are the roles of the elements of a document
pub record AreRoles (nodes : List Node) (roles : List Role) : Type 0 where
  pub count : length roles ≡ length nodes
  pub each : (element : ℕ) → element < length nodes
      → get_or roles element role.Skipped ≡ role_at nodes element

-- the part that stands only once in an element
abbrev pub single_at : List Node → ℕ → Option ℕ
single_at nodes element = single_in nodes (role_at nodes element) element
