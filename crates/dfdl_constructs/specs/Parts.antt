-- The constructs of a schema document, and which may stand in which ('DFDL Schema Component Model',
-- 'Syntax of DFDL Annotation Elements', and the profile's subset of XML Schema).
use Rattle.std.specs.Prelude.{ℕ, List, [], ◌∷◌, ◌++◌, Option, Some, None, codes}
use Rattle.std.specs.Prelude.{if◌then◌else◌, bytes_eq}
use Rattle.dfdl_constructs.specs.declared.role.AnnotationPoint.{AnnotationPoint}
use Rattle.dfdl_constructs.specs.declared.role.AnnotationPoint.TheVariants as point
use Rattle.dfdl_constructs.specs.declared.role.Role.{Role}
use Rattle.dfdl_constructs.specs.declared.role.Role.TheVariants as role
use Rattle.dfdl_constructs.specs.Elements.{schema_namespace, dfdl_namespace}

-- what may stand in a construct, by its local name, and what it is then: any number of times, or only
-- once and then with no other such part beside it
pub data Part : Type 0 where
  Many : List ℕ → Role → Part
  Single : List ℕ → Role → Part

-- the local name of a part
abbrev pub name_of : Part → List ℕ
name_of (Many name role) = name
name_of (Single name role) = name

-- what may stand in what can have annotations
abbrev pub annotated : AnnotationPoint → List Part
annotated at = Many (codes "annotation") (role.Annotation at) ∷ []

-- what may stand in a schema
unfoldable pub schema_parts : List Part
schema_parts =
    annotated point.Schema
    ++ Many (codes "include") role.Include
    ∷ Many (codes "import") role.Import
    ∷ Many (codes "element") role.GlobalElement
    ∷ Many (codes "complexType") role.GlobalComplexType
    ∷ Many (codes "simpleType") role.GlobalSimpleType
    ∷ Many (codes "group") role.GlobalGroup
    ∷ []

-- in an element: one type
unfoldable pub element_parts : List Part
element_parts =
    annotated point.Element
    ++ Single (codes "complexType") role.LocalComplexType
    ∷ Single (codes "simpleType") role.LocalSimpleType
    ∷ []

-- in a complex type: one group
unfoldable pub complex_type_parts : List Part
complex_type_parts =
    annotated point.Other
    ++ Single (codes "sequence") role.Sequence
    ∷ Single (codes "choice") role.Choice
    ∷ Single (codes "group") role.GroupReference
    ∷ []

-- in a global group: one sequence or choice
unfoldable pub group_parts : List Part
group_parts =
    annotated point.Other
    ++ Single (codes "sequence") role.Sequence
    ∷ Single (codes "choice") role.Choice
    ∷ []

-- in a sequence or choice: elements and groups
unfoldable pub particles : AnnotationPoint → List Part
particles at =
    annotated at
    ++ Many (codes "element") role.LocalElement
    ∷ Many (codes "sequence") role.Sequence
    ∷ Many (codes "choice") role.Choice
    ∷ Many (codes "group") role.GroupReference
    ∷ []

-- in a simple type: one restriction
unfoldable pub simple_type_parts : List Part
simple_type_parts = annotated point.SimpleType ++ Single (codes "restriction") role.Restriction ∷ []

-- in a restriction: facets
unfoldable pub restriction_parts : List Part
restriction_parts =
    annotated point.Other
    ++ Many (codes "minLength") role.MinLength
    ∷ Many (codes "maxLength") role.MaxLength
    ∷ Many (codes "length") role.Facet
    ∷ Many (codes "minInclusive") role.Facet
    ∷ Many (codes "maxInclusive") role.Facet
    ∷ Many (codes "minExclusive") role.Facet
    ∷ Many (codes "maxExclusive") role.Facet
    ∷ Many (codes "totalDigits") role.Facet
    ∷ Many (codes "fractionDigits") role.Facet
    ∷ Many (codes "enumeration") role.Facet
    ∷ Many (codes "whiteSpace") role.Facet
    ∷ Many (codes "pattern") role.Facet
    ∷ []

-- the statements of every annotation point that can have any
abbrev pub statements : List Part
statements =
    Many (codes "assert") role.Assert
    ∷ Many (codes "discriminator") role.Discriminator
    ∷ Many (codes "setVariable") role.SetVariable
    ∷ []

-- the statements of a group
abbrev pub group_statements : List Part
group_statements = Many (codes "newVariableInstance") role.NewVariableInstance ∷ statements

-- which annotation elements may stand at an annotation point
unfoldable pub annotations : AnnotationPoint → List Part
annotations point.Schema =
    Many (codes "format") role.DefaultFormat
    ∷ Many (codes "defineFormat") role.DefineFormat
    ∷ Many (codes "defineEscapeScheme") role.DefineEscapeScheme
    ∷ Many (codes "defineVariable") role.DefineVariable
    ∷ []
annotations point.Element = Many (codes "element") role.ComponentProperties ∷ statements
annotations point.SimpleType = Many (codes "simpleType") role.ComponentProperties ∷ statements
annotations point.Sequence = Many (codes "sequence") role.ComponentProperties ∷ group_statements
annotations point.Choice = Many (codes "choice") role.ComponentProperties ∷ group_statements
annotations point.GroupReference = Many (codes "group") role.ComponentProperties ∷ group_statements
annotations point.Other = []

-- in a definition of a format: the format
unfoldable pub define_format_parts : List Part
define_format_parts = Single (codes "format") role.DefinedFormat ∷ []

-- in a definition of an escape scheme: the scheme
unfoldable pub define_escape_scheme_parts : List Part
define_escape_scheme_parts = Single (codes "escapeScheme") role.EscapeScheme ∷ []

-- in a format, in an escape scheme, and in the properties of a component: properties in element form
unfoldable pub properties : List Part
properties = Many (codes "property") role.Property ∷ []

-- what may stand in a construct
unfoldable pub parts_in : Role → List Part
parts_in role.Schema = schema_parts
parts_in role.Include = annotated point.Other
parts_in role.Import = annotated point.Other
parts_in role.GlobalElement = element_parts
parts_in role.LocalElement = element_parts
parts_in role.ElementReference = annotated point.Element
parts_in role.GlobalComplexType = complex_type_parts
parts_in role.LocalComplexType = complex_type_parts
parts_in role.GlobalSimpleType = simple_type_parts
parts_in role.LocalSimpleType = simple_type_parts
parts_in role.Restriction = restriction_parts
parts_in role.MinLength = annotated point.Other
parts_in role.MaxLength = annotated point.Other
parts_in role.Facet = annotated point.Other
parts_in role.GlobalGroup = group_parts
parts_in role.GroupReference = annotated point.GroupReference
parts_in role.Sequence = particles point.Sequence
parts_in role.Choice = particles point.Choice
parts_in (role.Annotations at) = annotations at
parts_in role.DefineFormat = define_format_parts
parts_in role.DefineEscapeScheme = define_escape_scheme_parts
parts_in role.DefaultFormat = properties
parts_in role.DefinedFormat = properties
parts_in role.EscapeScheme = properties
parts_in role.ComponentProperties = properties
parts_in _ = []

-- the namespace of what may stand in a construct: DFDL's inside of its annotations, else XML Schema's
abbrev pub namespace_in : Role → List ℕ
namespace_in (role.Annotations at) = dfdl_namespace
namespace_in role.DefineFormat = dfdl_namespace
namespace_in role.DefineEscapeScheme = dfdl_namespace
namespace_in role.DefaultFormat = dfdl_namespace
namespace_in role.DefinedFormat = dfdl_namespace
namespace_in role.EscapeScheme = dfdl_namespace
namespace_in role.ComponentProperties = dfdl_namespace
namespace_in _ = schema_namespace

-- what every other element in a construct is: an unknown annotation inside of DFDL's annotations; not
-- looked at in what is information, is refused itself, or has a content of its own; and elsewhere
-- outside the subset
abbrev pub otherwise_in : Role → Role
otherwise_in (role.Annotations at) = role.UnknownAnnotation
otherwise_in role.DefineFormat = role.UnknownAnnotation
otherwise_in role.DefineEscapeScheme = role.UnknownAnnotation
otherwise_in role.DefaultFormat = role.UnknownAnnotation
otherwise_in role.DefinedFormat = role.UnknownAnnotation
otherwise_in role.EscapeScheme = role.UnknownAnnotation
otherwise_in role.ComponentProperties = role.UnknownAnnotation
otherwise_in role.DefineVariable = role.Skipped
otherwise_in role.Property = role.Skipped
otherwise_in role.Assert = role.Skipped
otherwise_in role.Discriminator = role.Skipped
otherwise_in role.SetVariable = role.Skipped
otherwise_in role.NewVariableInstance = role.Skipped
otherwise_in role.Information = role.Skipped
otherwise_in role.OutsideSubset = role.Skipped
otherwise_in role.UnknownAnnotation = role.Skipped
otherwise_in role.Skipped = role.Skipped
otherwise_in _ = role.OutsideSubset

-- the part of this name
abbrev pub part_named : List Part → List ℕ → Option Part
part_named [] name = None
part_named (part ∷ parts) name = if bytes_eq (name_of part) name then Some part else part_named parts name
