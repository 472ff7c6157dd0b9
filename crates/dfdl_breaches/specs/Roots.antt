-- The root of a schema, and the order of bits that is told there ('DFDL Schema Component Model', and 'Properties Common to both
-- Content and Framing', bitOrder).
use Rattle.std.specs.Prelude.{ℕ, List, map, length, Option, None, Some, option_map, codes, if◌then◌else◌, Bool, true, false}
use Rattle.dfdl_forms.specs.declared.order.BitOrder.{BitOrder}
use Rattle.dfdl_forms.specs.declared.order.BitOrder.TheVariants.{MostFirst}
use Rattle.dfdl_markup.specs.Trees.{Node}
use Rattle.dfdl_constructs.specs.declared.role.Role.{Role}
use Rattle.dfdl_constructs.specs.declared.role.Role.TheVariants as role
use Rattle.dfdl_constructs.specs.Roles.{role_at}
use Rattle.dfdl_documents.specs.Documents.{SchemaDocument}
use Rattle.dfdl_components.specs.declared.site.Site.{Site}
use Rattle.dfdl_components.specs.Globals.{site}
use Rattle.dfdl_components.specs.Searching.{first_below}
use Rattle.dfdl_components.specs.Sites.{nodes_of}
use Rattle.dfdl_scope.specs.Scoping.{Element, told}
use Rattle.dfdl_checks.specs.Orders.{bit_order}
use Rattle.dfdl_chains.specs.Chains.{chain_sites}
use Rattle.dfdl_breaches.specs.Elements.{element_at}

-- a global element
abbrev pub is_global_element : Role → Bool
is_global_element role.GlobalElement = true
is_global_element _ = false

-- the element of the first document, if it is global
abbrev pub if_global_element : List Node → ℕ → Option ℕ
if_global_element nodes element = if is_global_element (role_at nodes element) then Some element else None

-- the root: the first global element of the first document
unfoldable pub root_of : List SchemaDocument → Option Site
root_of documents =
    option_map (site 0) (first_below (if_global_element (nodes_of documents 0)) (length (nodes_of documents 0)))

-- the chain that a component's properties are asked of
abbrev pub chain_at : List SchemaDocument → Site → List Element
chain_at documents own = map (element_at documents) (chain_sites documents own)

-- the order of bits that is told at a component; the most significant bit comes first where none is
abbrev pub bit_order_at : List SchemaDocument → Site → BitOrder
bit_order_at documents own = bit_order (told (chain_at documents own) (codes "bitOrder"))

-- the order of bits that is told at a root that may be lacking
abbrev pub bit_order_if : List SchemaDocument → Option Site → BitOrder
bit_order_if documents None = MostFirst
bit_order_if documents (Some root) = bit_order_at documents root

-- the order of bits that is told at the root
unfoldable pub root_bits_by : List SchemaDocument → BitOrder
root_bits_by documents = bit_order_if documents (root_of documents)
