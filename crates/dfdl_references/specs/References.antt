-- The formats that components and formats refer to, and the default formats of documents ('Property Scoping and DFDL
-- Schema Checking'). A `ref` names a definition, and stands for the format in it.
use Rattle.std.specs.Prelude.{ℕ, List, [], ◌∷◌, Option, Some, None, Bool, true, false, ◌||◌, codes, option_map}
use Rattle.std.specs.Option.{option_or}
use Rattle.dfdl_markup.specs.Trees.{Node}
use Rattle.dfdl_constructs.specs.declared.role.Role.{Role}
use Rattle.dfdl_constructs.specs.declared.role.Role.TheVariants as role
use Rattle.dfdl_constructs.specs.Elements.{plain_of, dfdl_of}
use Rattle.dfdl_documents.specs.Documents.{SchemaDocument}
use Rattle.dfdl_components.specs.declared.kind.ComponentKind.TheVariants as kind
use Rattle.dfdl_components.specs.declared.named.Named.{Named}
use Rattle.dfdl_components.specs.declared.named.Named.TheVariants.{Component}
use Rattle.dfdl_components.specs.declared.site.Site.{Site}
use Rattle.dfdl_components.specs.Sites.{nodes_of}
use Rattle.dfdl_components.specs.Globals.{site}
use Rattle.dfdl_components.specs.Naming.{resolved}
use Rattle.dfdl_properties.specs.Forms.{children_of}
use Rattle.dfdl_properties.specs.Own.{is_annotation, is_dfdl_information, is_component_properties, is_default_format, default_format_of, first}

-- a `dfdl:format` that is defined with a name
abbrev pub is_defined_format : Role → Bool
is_defined_format role.DefinedFormat = true
is_defined_format _ = false

-- a format: a document's default one, or one that is defined with a name
abbrev pub is_format : Role → Bool
is_format role = is_default_format role || is_defined_format role

-- the format in a definition
abbrev pub format_in : List Node → ℕ → Option ℕ
format_in nodes definition = first (children_of nodes is_defined_format definition)

-- the format of what is named
abbrev pub format_of_named : List SchemaDocument → Option Named → Option Site
format_of_named documents (Some (Component definition)) =
    option_map (site definition.document) (format_in (nodes_of documents definition.document) definition.element)
format_of_named documents _ = None

-- the format that a text names which is written at an element, where there is a text
abbrev pub format_named : List SchemaDocument → Site → Option (List ℕ) → Option Site
format_named documents own None = None
format_named documents own (Some text) = format_of_named documents (resolved documents own kind.Format text)

-- the format that a format, or an annotation element, refers to by its `ref`
abbrev pub format_after : List SchemaDocument → Site → Option Site
format_after documents own = format_named documents own (plain_of (nodes_of documents own.document) own.element (codes "ref"))

-- the format that a component refers to in short form, by `dfdl:ref`
abbrev pub format_in_short : List SchemaDocument → Site → Option Site
format_in_short documents own = format_named documents own (dfdl_of (nodes_of documents own.document) own.element (codes "ref"))

-- the first that is found for some
abbrev pub first_found : {A B : Type 0} → (A → Option B) → List A → Option B
first_found found [] = None
first_found found (one ∷ others) = option_or (found one) (first_found found others)

-- the first format that an annotation element of a component refers to: in an `xs:appinfo`, in an `xs:annotation`, and in
-- all annotations of the component
abbrev pub format_in_information : List SchemaDocument → ℕ → ℕ → Option Site
format_in_information documents document information =
    first_found (λ element. format_after documents (site document element))
    (children_of (nodes_of documents document) is_component_properties information)

abbrev pub format_in_annotation : List SchemaDocument → ℕ → ℕ → Option Site
format_in_annotation documents document annotation =
    first_found (format_in_information documents document) (children_of (nodes_of documents document) is_dfdl_information annotation)

abbrev pub format_in_annotations : List SchemaDocument → Site → Option Site
format_in_annotations documents own =
    first_found (format_in_annotation documents own.document) (children_of (nodes_of documents own.document) is_annotation own.element)

-- the format that a component refers to: in short form, else in its annotations
abbrev pub format_of : List SchemaDocument → Site → Option Site
format_of documents own = option_or (format_in_short documents own) (format_in_annotations documents own)

-- the default format of a document
abbrev pub default_of : List SchemaDocument → ℕ → Option Site
default_of documents document = option_map (site document) (default_format_of (nodes_of documents document))
