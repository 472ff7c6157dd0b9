-- Where a property is written ('Property Scoping and DFDL Schema Checking', 'Syntax of DFDL Annotation Elements'): the names
-- in its value are resolved by the namespaces that are in scope at that element.
use Rattle.std.specs.Prelude.{ℕ, zero, suc, List, Option, Some, None, Bool, if◌then◌else◌, is_some, option_map}
use Rattle.std.specs.List.{find}
use Rattle.std.specs.Option.{option_or, option_and_then}
use Rattle.dfdl_markup.specs.Trees.{Node}
use Rattle.dfdl_constructs.specs.Elements.{dfdl_of, has}
use Rattle.dfdl_documents.specs.Documents.{SchemaDocument}
use Rattle.dfdl_components.specs.declared.site.Site.{Site}
use Rattle.dfdl_components.specs.Globals.{is_text, name_at, site}
use Rattle.dfdl_components.specs.Recursion.{count_of}
use Rattle.dfdl_components.specs.Sites.{nodes_of}
use Rattle.dfdl_properties.specs.Forms.{children_of, is_written_property}
use Rattle.dfdl_properties.specs.Own.{is_annotation, is_component_properties, is_dfdl_information}
use Rattle.dfdl_references.specs.References.{default_of, first_found, format_after, format_of}

-- the `name` of an element is this one
abbrev pub is_called : List Node → List ℕ → ℕ → Bool
is_called nodes name element = is_text name (name_at nodes element)

-- the first `dfdl:property` in an element that has this name
abbrev pub property_in : List Node → List ℕ → ℕ → Option ℕ
property_in nodes name element = find (is_called nodes name) (children_of nodes is_written_property element)

-- where an annotation element, or a format, writes a property: at itself in attribute form, else at its first `dfdl:property`
-- of that name
abbrev pub writer_in : List Node → List ℕ → ℕ → Option ℕ
writer_in nodes name element = if has nodes element name then Some element else property_in nodes name element

-- where the annotation elements of a component write a property, the first that does: those in an `xs:appinfo`, those in an
-- `xs:annotation`, and those in all annotations of the component
abbrev pub writer_in_information : List Node → List ℕ → ℕ → Option ℕ
writer_in_information nodes name information =
    first_found (writer_in nodes name) (children_of nodes is_component_properties information)

abbrev pub writer_in_annotation : List Node → List ℕ → ℕ → Option ℕ
writer_in_annotation nodes name annotation =
    first_found (writer_in_information nodes name) (children_of nodes is_dfdl_information annotation)

abbrev pub writer_in_annotations : List Node → List ℕ → ℕ → Option ℕ
writer_in_annotations nodes name component =
    first_found (writer_in_annotation nodes name) (children_of nodes is_annotation component)

-- where a component writes a property by itself: at its own element in short form, else in its annotations
abbrev pub own_writer : List Node → List ℕ → ℕ → Option ℕ
own_writer nodes name component =
    if is_some (dfdl_of nodes component name) then Some component else writer_in_annotations nodes name component

-- where a format writes a property by itself
abbrev pub format_own_writer : List SchemaDocument → List ℕ → Site → Option Site
format_own_writer documents name format =
    option_map (site format.document) (writer_in (nodes_of documents format.document) name format.element)

-- where a format writes a property: by itself, else where the format that it refers to does. At most so many formats that
-- refer to one another are looked at
unfoldable pub writer_within : ℕ → List SchemaDocument → List ℕ → Site → Option Site
writer_within zero documents name format = None
writer_within (suc n) documents name format =
    option_or (format_own_writer documents name format)
    (option_and_then (writer_within n documents name) (format_after documents format))

-- where a format writes a property: no format reaches itself, so there are no more of them than there are elements
abbrev pub format_writer : List SchemaDocument → List ℕ → Site → Option Site
format_writer documents name format = writer_within (count_of documents) documents name format

-- where a component writes a property explicitly: by itself, else where the format that it refers to does
abbrev pub explicit_writer : List SchemaDocument → List ℕ → Site → Option Site
explicit_writer documents name own =
    option_or (option_map (site own.document) (own_writer (nodes_of documents own.document) name own.element))
    (option_and_then (format_writer documents name) (format_of documents own))

-- where a component writes a property by default: where the default format of its document does
abbrev pub default_writer : List SchemaDocument → List ℕ → Site → Option Site
default_writer documents name own = option_and_then (format_writer documents name) (default_of documents own.document)

-- where the property of a chain of components is written by default: by the first default format that does
abbrev pub by_default_writer : List SchemaDocument → List Site → List ℕ → Option Site
by_default_writer documents chain name = first_found (default_writer documents name) chain

-- where the property of a chain of components is written: explicitly by the first that does, else by default by the first
-- that does
abbrev pub writer_of : List SchemaDocument → List Site → List ℕ → Option Site
writer_of documents chain name =
    option_or (first_found (explicit_writer documents name) chain) (by_default_writer documents chain name)
