-- The infoset of parsed data, and its text: compact JSON and one line feed ('The DFDL Information Set').
use Rattle.std.specs.Prelude.{ℕ, ◌+◌, nat_eq, Bool, true, false, if◌then◌else◌, List, [], ◌∷◌, ◌++◌, Option, Some}
use Rattle.serde_json.specs.Data.{Data, null, string, array, object, Items, no_items, item, Members, no_members, put}
use Rattle.serde_json.specs.Find.{get_member}
use Rattle.serde_json.specs.Written.{compact_text}
use Rattle.dfdl_value.specs.declared.value.Value.TheVariants.{Int, Uns, Dec, Truth as TruthValue, Bytes}
use Rattle.dfdl_value.specs.Writing.{text_of}
use Rattle.dfdl_terms.specs.Rows.{Table}
use Rattle.dfdl_terms.specs.Arrays.{is_item}
use Rattle.dfdl_region.specs.declared.node.Node.{Node}
use Rattle.dfdl_region.specs.declared.node.Content.{Content}
use Rattle.dfdl_region.specs.declared.node.Content.TheVariants.{Begun, Complex, Nil, Signed, Unsigned, Decimal, Truth, Text, Octets}
use Rattle.dfdl_region.specs.Bytes.{bytes_at}
use Rattle.dfdl_json.specs.Children.{name_of}
use Rattle.dfdl_json.specs.Hidden.{is_hidden}

-- the data of an element with this content, where these are the bytes of the document's text: a value is its text, a nil
-- element is null, and another element, read to its end or not, has a member for each element in it
abbrev pub data_of : List ℕ → Content → Members → Data
data_of bytes (Signed number) entries = string (text_of (Int number))
data_of bytes (Unsigned number) entries = string (text_of (Uns number))
data_of bytes (Decimal number) entries = string (text_of (Dec number))
data_of bytes (Truth truth) entries = string (text_of (TruthValue truth))
data_of bytes (Text from len) entries = string (bytes_at bytes from len)
data_of bytes (Octets from len) entries = string (text_of (Bytes (bytes_at bytes from len)))
data_of bytes Nil entries = null
data_of bytes Complex entries = object entries
data_of bytes Begun entries = object entries

-- the items of a member that is an array; any other has none
abbrev pub items_in : Option Data → Items
items_in (Some (array items)) = items
items_in _ = no_items

-- what an element's name has with the data of this element in front of what it has by those behind: where elements are
-- items, an array of one more, and else this data
abbrev pub with_element : Bool → Data → Option Data → Data
with_element true own behind = array (item own (items_in behind))
with_element false own behind = own

-- the members that an element has with this element in it, by those that it has of the elements behind
abbrev pub put_element : Bool → List ℕ → Data → Members → Members
put_element items name own entries = put name (with_element items own (get_member name entries)) entries

-- a node is a member of the element of a number: it stands in it, and isn't hidden
abbrev pub is_member : Bool → ℕ → ℕ → Bool
is_member hidden parent number = if hidden then false else nat_eq parent number

-- the members that the element of a number has of these nodes, the first of which has the number `from`: one for each
-- that stands in it, or for all items of an array, whose own members are of the nodes behind it
abbrev pub members_of : Table → List ℕ → ℕ → List Node → ℕ → Members
members_of t bytes from [] number = no_members
members_of t bytes from (node ∷ nodes) number =
    if is_member (is_hidden t node.element) node.parent number
    then put_element (is_item t.rows node.element) (name_of t node.element)
    (data_of bytes node.content (members_of t bytes (from + 1) nodes from)) (members_of t bytes (from + 1) nodes number)
    else members_of t bytes (from + 1) nodes number

-- the infoset of nodes, the first of which is the root element, and the bytes of the document's text: an object with one
-- member, which has the root element's name
abbrev pub infoset_of : Table → List Node → List ℕ → Data
infoset_of t [] bytes = object no_members
infoset_of t (root ∷ nodes) bytes =
    object (put (name_of t root.element) (data_of bytes root.content (members_of t bytes 1 nodes 0)) no_members)

-- the line of an infoset
abbrev pub line_of : Table → List Node → List ℕ → List ℕ
line_of t nodes bytes = compact_text (infoset_of t nodes bytes) ++ 10 ∷ []
