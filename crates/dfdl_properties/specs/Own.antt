-- The own properties of a component and of a format, and the default format of a document ('Syntax of
-- DFDL Annotation Elements', 'Property Scoping and DFDL Schema Checking').
use Rattle.std.specs.Prelude.{ℕ, List, [], ◌∷◌, ◌++◌, Option, Some, None, Bool, true, false}
use Rattle.std.specs.List.{flat_map}
use Rattle.dfdl_markup.specs.Trees.{Node}
use Rattle.dfdl_constructs.specs.declared.role.Role.{Role}
use Rattle.dfdl_constructs.specs.declared.role.Role.TheVariants as role
use Rattle.dfdl_scope.specs.Scoping.{Given}
use Rattle.dfdl_properties.specs.Written.{Written, first_of, has_second}
use Rattle.dfdl_properties.specs.Forms.{children_of, short_form, written_in}

-- an `xs:annotation`
abbrev pub is_annotation : Role → Bool
is_annotation (role.Annotation at) = true
is_annotation _ = false

-- an `xs:appinfo` with DFDL's annotations
abbrev pub is_dfdl_information : Role → Bool
is_dfdl_information (role.Annotations at) = true
is_dfdl_information _ = false

-- the annotation element of the component's kind, as `dfdl:sequence` at a sequence
abbrev pub is_component_properties : Role → Bool
is_component_properties role.ComponentProperties = true
is_component_properties _ = false

-- the properties that are written in an `xs:appinfo` of a component, and in an `xs:annotation`
abbrev pub in_information : List Node → ℕ → List Written
in_information nodes information =
    flat_map (written_in nodes) (children_of nodes is_component_properties information)

abbrev pub in_annotation : List Node → ℕ → List Written
in_annotation nodes annotation =
    flat_map (in_information nodes) (children_of nodes is_dfdl_information annotation)

-- and in all annotations of the component
abbrev pub in_annotations : List Node → ℕ → List Written
in_annotations nodes component =
    flat_map (in_annotation nodes) (children_of nodes is_annotation component)

-- the own properties of a component as they are written: in short form, and then in its annotations
abbrev pub own_at : List Node → ℕ → List Written
own_at nodes component = short_form nodes component ++ in_annotations nodes component

-- what a component gives by itself, and which properties it gives twice
abbrev pub given_at : List Node → ℕ → Given
given_at nodes component = first_of (own_at nodes component)

abbrev pub repeats_at : List Node → ℕ → List ℕ → Bool
repeats_at nodes component = has_second (own_at nodes component)

-- what a `dfdl:format` gives by itself, without the format that it refers to
abbrev pub format_given_at : List Node → ℕ → Given
format_given_at nodes format = first_of (written_in nodes format)

-- a `dfdl:format` that is the default of a document
abbrev pub is_default_format : Role → Bool
is_default_format role.DefaultFormat = true
is_default_format _ = false

-- the formats directly in a schema's `xs:annotation`
abbrev pub formats_in : List Node → ℕ → List ℕ
formats_in nodes annotation =
    flat_map (children_of nodes is_default_format) (children_of nodes is_dfdl_information annotation)

-- the first of these numbers
abbrev pub first : List ℕ → Option ℕ
first [] = None
first (number ∷ others) = Some number

-- the default format of a document: the first that stands directly in the annotations of its schema,
-- which is its first element
abbrev pub default_format_of : List Node → Option ℕ
default_format_of nodes = first (flat_map (formats_in nodes) (children_of nodes is_annotation 0))
