-- The tree that a document has: its elements in the order of their start tags.
use Rattle.std.specs.Prelude.{ℕ, zero, suc, ◌+◌, ◌==◌, ◌&&◌, Bool, false, List, [], ◌∷◌}
use Rattle.std.specs.Prelude.{◌++◌, length, get_or, Option, Some, None, if◌then◌else◌, encode_utf8}
use Rattle.std.specs.List.{flat_map}
use Rattle.dfdl_markup.specs.Grammar.{Name, Plain, Prefixed, Content, Nothing, Character}
use Rattle.dfdl_markup.specs.Grammar.{Referring, Comment, Instruction, Section, Single, Nested}
use Rattle.dfdl_markup.specs.Grammar.{spelling, tag_characters, Document, mark_characters}
use Rattle.dfdl_markup.specs.Grammar.{declaration_characters}
use Rattle.dfdl_markup.specs.Values.{Attribute, referred, Binding, scope_in, outer_scope, found}
use Rattle.dfdl_markup.specs.Values.{declares}
use Rattle.dfdl_markup.specs.Rules.{attributes_of}

-- an element: its name and attributes as they are written, the number of the element that it stands
-- in, those that stand in it, the characters directly inside of it, and the byte of the document at
-- which its start tag begins
pub record Node : Type 0 where
  pub name : Name
  pub attributes : List Attribute
  pub parent : Option ℕ
  pub children : List ℕ
  pub text : List ℕ
  pub at : ℕ

-- how many bytes characters have in UTF-8
abbrev pub size : List ℕ → ℕ
size characters = length (flat_map encode_utf8 characters)

-- what a character of text is read as, behind a CR or not: CR LF and CR are LF
abbrev pub line_read : Bool → ℕ → List ℕ
line_read behind_cr c =
    if behind_cr && c == 10 then [] else (if c == 13 then 10 ∷ [] else c ∷ [])

-- what a text is read as
abbrev pub lines_read : Bool → List ℕ → List ℕ
lines_read behind_cr [] = []
lines_read behind_cr (c ∷ text) = line_read behind_cr c ++ lines_read (c == 13) text

-- the characters of a content that stand in no element of it, joined
abbrev pub text_of : Bool → Content → List ℕ
text_of behind_cr Nothing = []
text_of behind_cr (Character c next) = line_read behind_cr c ++ text_of (c == 13) next
text_of behind_cr (Referring reference next) = referred reference ∷ text_of false next
text_of behind_cr (Comment text next) = text_of false next
text_of behind_cr (Instruction target text next) = text_of false next
text_of behind_cr (Section text next) = lines_read false text ++ text_of false next
text_of behind_cr (Single tag next) = text_of false next
text_of behind_cr (Nested tag inner end space next) = text_of false next

-- how many elements a content has
abbrev pub elements : Content → ℕ
elements Nothing = 0
elements (Character c next) = elements next
elements (Referring reference next) = elements next
elements (Comment text next) = elements next
elements (Instruction target text next) = elements next
elements (Section text next) = elements next
elements (Single tag next) = suc (elements next)
elements (Nested tag inner end space next) = suc (elements inner + elements next)

-- the numbers of its elements that stand in no other, where the first element has this number
abbrev pub numbers : Content → ℕ → List ℕ
numbers Nothing first = []
numbers (Character c next) first = numbers next first
numbers (Referring reference next) first = numbers next first
numbers (Comment text next) first = numbers next first
numbers (Instruction target text next) first = numbers next first
numbers (Section text next) first = numbers next first
numbers (Single tag next) first = first ∷ numbers next (suc first)
numbers (Nested tag inner end space next) first =
    first ∷ numbers next (suc (first + elements inner))

-- its elements, where the first has this number, the content stands in this element and begins at
-- this byte
abbrev pub nodes_of : Content → Option ℕ → ℕ → ℕ → List Node
nodes_of Nothing parent first at = []
nodes_of (Character c next) parent first at =
    nodes_of next parent first (at + size (spelling (Character c Nothing)))
nodes_of (Referring reference next) parent first at =
    nodes_of next parent first (at + size (spelling (Referring reference Nothing)))
nodes_of (Comment text next) parent first at =
    nodes_of next parent first (at + size (spelling (Comment text Nothing)))
nodes_of (Instruction target text next) parent first at =
    nodes_of next parent first (at + size (spelling (Instruction target text Nothing)))
nodes_of (Section text next) parent first at =
    nodes_of next parent first (at + size (spelling (Section text Nothing)))
nodes_of (Single tag next) parent first at =
    record {
      name = tag.name;
      attributes = attributes_of tag;
      parent = parent;
      children = [];
      text = [];
      at = at;
    }
    ∷ nodes_of next parent (suc first) (at + size (spelling (Single tag Nothing)))
nodes_of (Nested tag inner end space next) parent first at =
    record {
      name = tag.name;
      attributes = attributes_of tag;
      parent = parent;
      children = numbers inner (suc first);
      text = text_of false inner;
      at = at;
    }
    ∷ (nodes_of inner (Some first) (suc first) (at + size (60 ∷ (tag_characters tag ++ 62 ∷ [])))
    ++ nodes_of next parent (suc (first + elements inner))
    (at + size (spelling (Nested tag inner end space Nothing))))

-- the elements of a document
abbrev pub document_nodes : Document → List Node
document_nodes document =
    nodes_of document.content None 0
    (size (mark_characters document.mark ++ declaration_characters document.declaration))

-- no element
abbrev pub no_node : Node
no_node = record {
  name = Plain [];
  attributes = [];
  parent = None;
  children = [];
  text = [];
  at = 0;
}

-- the element of a number
abbrev pub node_at : List Node → ℕ → Node
node_at nodes element = get_or nodes element no_node

-- the bindings inside of an element: its own, before those around it; at most so many elements up
abbrev pub scope_from : ℕ → List Node → Option ℕ → List Binding
scope_from zero nodes element = outer_scope
scope_from (suc most) nodes None = outer_scope
scope_from (suc most) nodes (Some element) =
    scope_in (node_at nodes element).attributes
    (scope_from most nodes (node_at nodes element).parent)

-- the bindings inside of the element of a number, which stands behind those that it stands in
abbrev pub scope_at : List Node → ℕ → List Binding
scope_at nodes element = scope_from (suc element) nodes (Some element)

-- a namespace, where it is not the empty one, which undeclares
abbrev pub unless_empty : Option (List ℕ) → Option (List ℕ)
unless_empty (Some []) = None
unless_empty (Some (c ∷ namespace)) = Some (c ∷ namespace)
unless_empty None = None

-- the namespace that a prefix, or the empty one, stands for at an element
abbrev pub prefix_at : List Node → ℕ → List ℕ → Option (List ℕ)
prefix_at nodes element prefix = unless_empty (found (scope_at nodes element) prefix)

-- the namespace, or the empty text where there is none
abbrev pub or_empty : Option (List ℕ) → List ℕ
or_empty None = []
or_empty (Some namespace) = namespace

-- the prefix of a name, and its local part
abbrev pub prefix_of : Name → List ℕ
prefix_of (Plain part) = []
prefix_of (Prefixed prefix part) = prefix

abbrev pub local_part : Name → List ℕ
local_part (Plain part) = part
local_part (Prefixed prefix part) = part

-- the namespace of an element's name
abbrev pub namespace_at : List Node → ℕ → List ℕ
namespace_at nodes element = or_empty (prefix_at nodes element (prefix_of (node_at nodes element).name))

-- the namespace of an attribute's name at an element: none without a prefix, and none of what
-- declares a prefix
abbrev pub attribute_namespace_by : List Node → ℕ → Name → Option (List ℕ) → List ℕ
attribute_namespace_by nodes element (Prefixed prefix part) None =
    or_empty (prefix_at nodes element prefix)
attribute_namespace_by nodes element name declared = []

abbrev pub attribute_namespace_at : List Node → ℕ → Name → List ℕ
attribute_namespace_at nodes element name =
    attribute_namespace_by nodes element name (declares name)

-- the name of an attribute: its local part, or all of it where it declares a prefix
abbrev pub attribute_name_by : Name → Option (List ℕ) → List ℕ
attribute_name_by name None = local_part name
attribute_name_by (Plain part) (Some prefix) = part
attribute_name_by (Prefixed prefix part) (Some declared) = prefix ++ 58 ∷ part

abbrev pub attribute_name_of : Name → List ℕ
attribute_name_of name = attribute_name_by name (declares name)
