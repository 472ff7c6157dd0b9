-- Recursive definitions ('DFDL Schema Component Model'): what an element of a schema consists of, and
-- which elements reach themselves through that. All elements of all documents are numbered, document by
-- document. The first element that reaches itself is a global component, since each way back leads
-- through the name of one, and what it leads to stands inside of that.
use Rattle.std.specs.Prelude.{ℕ, zero, suc, ◌+◌, ◌<◌, Bool, nat_lt, List, [], ◌∷◌, ◌++◌, length, Option, Some, None, codes, if◌then◌else◌}
use Rattle.std.specs.List.{flat_map}
use Rattle.dfdl_markup.specs.Trees.{node_at}
use Rattle.dfdl_constructs.specs.declared.role.Role.{Role}
use Rattle.dfdl_constructs.specs.declared.role.Role.TheVariants as role
use Rattle.dfdl_documents.specs.Documents.{SchemaDocument}
use Rattle.dfdl_order.specs.Cycles.{reaches_itself}
use Rattle.dfdl_components.specs.declared.kind.ComponentKind.{ComponentKind}
use Rattle.dfdl_components.specs.declared.kind.ComponentKind.TheVariants as kind
use Rattle.dfdl_components.specs.declared.named.Named.{Named}
use Rattle.dfdl_components.specs.declared.named.Named.TheVariants.{Component, Carried, NotCarried}
use Rattle.dfdl_components.specs.declared.site.Site.{Site}
use Rattle.dfdl_components.specs.Sites.{nodes_of, role_of}
use Rattle.dfdl_components.specs.Globals.{site}
use Rattle.dfdl_components.specs.References.{Referring, Plain, Short, referring, kind_referred, name_given}
use Rattle.dfdl_components.specs.Naming.{resolved}

-- the properties by which a component names what it consists of, in short form and in attribute form
abbrev pub short_properties : List Referring
short_properties = Short (codes "hiddenGroupRef") kind.Group ∷ Short (codes "prefixLengthType") kind.Type ∷ []

abbrev pub plain_properties : List Referring
plain_properties = Plain (codes "hiddenGroupRef") kind.Group ∷ Plain (codes "prefixLengthType") kind.Type ∷ []

-- the properties of this kind that a construct can have as attributes
unfoldable pub naming_properties : Role → List Referring
naming_properties role.GlobalElement = short_properties
naming_properties role.LocalElement = short_properties
naming_properties role.ElementReference = short_properties
naming_properties role.GroupReference = short_properties
naming_properties role.GlobalSimpleType = short_properties
naming_properties role.LocalSimpleType = short_properties
naming_properties role.Sequence = short_properties
naming_properties role.Choice = short_properties
naming_properties role.ComponentProperties = plain_properties
naming_properties _ = []

-- how many elements stand in the documents before one
abbrev pub start_of : List SchemaDocument → ℕ → ℕ
start_of documents zero = 0
start_of documents (suc n) = start_of documents n + length (nodes_of documents n)

-- how many elements there are
abbrev pub count_of : List SchemaDocument → ℕ
count_of documents = start_of documents (length documents)

-- the number of an element among those of all documents
abbrev pub number_of : List SchemaDocument → Site → ℕ
number_of documents own = start_of documents own.document + own.element

-- the number, where it is that of an element
abbrev pub if_element : List SchemaDocument → ℕ → List ℕ
if_element documents number = if nat_lt number (count_of documents) then number ∷ [] else []

-- the number of the component that is named
abbrev pub component_numbers : List SchemaDocument → Option Named → List ℕ
component_numbers documents (Some (Component own)) = if_element documents (number_of documents own)
component_numbers documents _ = []

-- the number of the component that a name names, where there is a name
abbrev pub numbers_named : List SchemaDocument → Site → ComponentKind → Option (List ℕ) → List ℕ
numbers_named documents own kind None = []
numbers_named documents own kind (Some text) = component_numbers documents (resolved documents own kind text)

-- the number of the component that an attribute of an element refers to
abbrev pub numbers_referred : List SchemaDocument → Site → Referring → List ℕ
numbers_referred documents own r =
    numbers_named documents own (kind_referred r) (name_given (nodes_of documents own.document) own.element r)

-- the number of an element that stands in one
abbrev pub number_inside : List SchemaDocument → Site → ℕ → List ℕ
number_inside documents own child = if_element documents (start_of documents own.document + child)

-- what an element consists of: the elements that stand in it, and the components that it refers to
abbrev pub parts_of : List SchemaDocument → Site → List ℕ
parts_of documents own =
    flat_map (number_inside documents own) (node_at (nodes_of documents own.document) own.element).children
    ++ (flat_map (numbers_referred documents own) (referring (role_of documents own))
    ++ flat_map (numbers_referred documents own) (naming_properties (role_of documents own)))

-- what each of the first elements of a document consists of
abbrev pub uses_in : List SchemaDocument → ℕ → ℕ → List (List ℕ)
uses_in documents document zero = []
uses_in documents document (suc n) = uses_in documents document n ++ parts_of documents (site document n) ∷ []

-- what each element of the first documents consists of
abbrev pub uses_before : List SchemaDocument → ℕ → List (List ℕ)
uses_before documents zero = []
uses_before documents (suc n) = uses_before documents n ++ uses_in documents n (length (nodes_of documents n))

-- what each element of all documents consists of
unfoldable pub all_uses : List SchemaDocument → List (List ℕ)
all_uses documents = uses_before documents (length documents)

-- an element reaches itself through what it consists of
abbrev pub is_recursive : List SchemaDocument → Site → Bool
is_recursive documents own = reaches_itself (all_uses documents) (number_of documents own)
