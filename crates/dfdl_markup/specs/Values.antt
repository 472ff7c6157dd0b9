-- What references, values, names and prefixes come to: 'Attribute-Value Normalization' and
-- 'End-of-Line Handling' of XML 1.0, and the scoping of 'Namespaces in XML 1.0'.
use Rattle.std.specs.Prelude.{ℕ, ◌+◌, ◌-◌, ◌*◌, ◌==◌, ◌&&◌, ◌||◌, Bool, true, false, not}
use Rattle.std.specs.Prelude.{nat_le, List, [], ◌∷◌, ◌++◌, map, Option, Some, None, codes}
use Rattle.std.specs.Prelude.{if◌then◌else◌}
use Rattle.std.specs.List.{list_any, filter_map}
use Rattle.std.specs.Str.{bytes_eq}
use Rattle.dfdl_markup.specs.Grammar.{is_white, Name, Plain, Prefixed, name_characters, Reference}
use Rattle.dfdl_markup.specs.Grammar.{Named, Numbered, Item, Letter, Referred, Given}

-- the character is a digit of that base: hexadecimal or decimal
unfoldable pub is_digit : Bool → ℕ → Bool
is_digit false c = nat_le 48 c && nat_le c 57
is_digit true c = (nat_le 48 c && nat_le c 57)
    || ((nat_le 65 c && nat_le c 70) || (nat_le 97 c && nat_le c 102))

-- what a digit is worth
unfoldable pub digit_value : ℕ → ℕ
digit_value c =
    if nat_le c 57 then c - 48 else (if nat_le c 70 then c - 55 else c - 87)

-- the base
abbrev pub base_of : Bool → ℕ
base_of true = 16
base_of false = 10

-- the number that a number becomes by digits behind it
abbrev pub number_on : Bool → ℕ → List ℕ → ℕ
number_on hexadecimal value [] = value
number_on hexadecimal value (c ∷ digits) =
    number_on hexadecimal (value * base_of hexadecimal + digit_value c) digits

-- the entities that need no declaration, and their characters
unfoldable pub entities : List (List ℕ × ℕ)
entities =
    (codes "amp", 38) ∷ (codes "lt", 60) ∷ (codes "gt", 62) ∷ (codes "quot", 34)
    ∷ (codes "apos", 39) ∷ []

-- the character of the first entity of the name
abbrev pub entity_among : List (List ℕ × ℕ) → List ℕ → Option ℕ
entity_among [] name = None
entity_among (entity ∷ others) name =
    if bytes_eq entity.0 name then Some entity.1 else entity_among others name

-- the character of an entity, where there is one of the name
abbrev pub entity : List ℕ → Option ℕ
entity name = entity_among entities name

-- the number, or 0 where there is none
abbrev pub or_zero : Option ℕ → ℕ
or_zero None = 0
or_zero (Some c) = c

-- the character that a reference stands for
abbrev pub referred : Reference → ℕ
referred (Named name) = or_zero (entity name)
referred (Numbered hexadecimal digits) = number_on hexadecimal 0 digits

-- what a character of a value is read as, behind a CR or not: white space is a space, and CR LF one
abbrev pub letter_read : Bool → ℕ → List ℕ
letter_read behind_cr c =
    if behind_cr && c == 10 then [] else (if is_white c then 32 ∷ [] else c ∷ [])

-- what items are read as, behind a CR or not
abbrev pub items_read : Bool → List Item → List ℕ
items_read behind_cr [] = []
items_read behind_cr (Letter c ∷ items) = letter_read behind_cr c ++ items_read (c == 13) items
items_read behind_cr (Referred reference ∷ items) = referred reference ∷ items_read false items

-- the value of an attribute
abbrev pub value_of : List Item → List ℕ
value_of items = items_read false items

-- the items end in a CR, or there is none and a CR stands before them
abbrev pub ends_in_cr : Bool → List Item → Bool
ends_in_cr behind_cr [] = behind_cr
ends_in_cr behind_cr (Letter c ∷ items) = ends_in_cr (c == 13) items
ends_in_cr behind_cr (Referred reference ∷ items) = ends_in_cr false items

-- an attribute: its name as it is written, and its value
pub record Attribute : Type 0 where
  pub name : Name
  pub value : List ℕ

-- the attribute that is written so
abbrev pub attribute_of : Given → Attribute
attribute_of given = record { name = given.name; value = value_of given.value }

-- the two names are written alike
abbrev pub same_name : Name → Name → Bool
same_name a b = bytes_eq (name_characters a) (name_characters b)

-- the namespaces of the prefixes `xml` and `xmlns`
unfoldable pub xml_namespace : List ℕ
xml_namespace = codes "http://www.w3.org/XML/1998/namespace"

unfoldable pub xmlns_namespace : List ℕ
xmlns_namespace = codes "http://www.w3.org/2000/xmlns/"

unfoldable pub xml_prefix : List ℕ
xml_prefix = codes "xml"

unfoldable pub xmlns_prefix : List ℕ
xmlns_prefix = codes "xmlns"

-- the prefix that an attribute of this name declares, the empty one for the default namespace
abbrev pub declares : Name → Option (List ℕ)
declares (Plain part) = if bytes_eq part xmlns_prefix then Some [] else None
declares (Prefixed prefix part) = if bytes_eq prefix xmlns_prefix then Some part else None

-- the namespace that a prefix stands for; that of the empty prefix is empty where a default
-- namespace is undeclared
pub record Binding : Type 0 where
  pub prefix : List ℕ
  pub namespace : List ℕ

-- the binding of a prefix to a namespace, if there is a prefix
abbrev pub bound_to : List ℕ → Option (List ℕ) → Option Binding
bound_to namespace None = None
bound_to namespace (Some prefix) = Some (record { prefix = prefix; namespace = namespace })

-- the binding that an attribute declares
abbrev pub binding_of : Attribute → Option Binding
binding_of attribute = bound_to attribute.value (declares attribute.name)

-- the bindings that attributes declare
abbrev pub bindings_of : List Attribute → List Binding
bindings_of attributes = filter_map binding_of attributes

-- the bindings outside of all elements
unfoldable pub outer_scope : List Binding
outer_scope =
    record { prefix = xml_prefix; namespace = xml_namespace }
    ∷ record { prefix = xmlns_prefix; namespace = xmlns_namespace } ∷ []

-- the namespace that the first binding of a prefix has
abbrev pub found : List Binding → List ℕ → Option (List ℕ)
found [] prefix = None
found (binding ∷ scope) prefix =
    if bytes_eq binding.prefix prefix then Some binding.namespace else found scope prefix

-- both are found, and are one
abbrev pub same_found : Option (List ℕ) → Option (List ℕ) → Bool
same_found (Some a) (Some b) = bytes_eq a b
same_found _ _ = false

-- both names have a prefix, one local part, and prefixes that are found with one namespace
abbrev pub same_expanded : List Binding → Name → Name → Bool
same_expanded scope (Prefixed p a) (Prefixed q b) =
    bytes_eq a b && same_found (found scope p) (found scope q)
same_expanded scope _ _ = false

-- two of the names are alike
abbrev pub have_same : (Name → Name → Bool) → List Name → Bool
have_same same [] = false
have_same same (name ∷ names) = list_any (same name) names || have_same same names

-- the names of attributes
abbrev pub names_of : List Attribute → List Name
names_of attributes = map (λ attribute. attribute.name) attributes

-- some text is there
abbrev pub is_some_text : Option (List ℕ) → Bool
is_some_text None = false
is_some_text (Some text) = true

-- the prefix of a name is found, if it has one
abbrev pub is_found : List Binding → Name → Bool
is_found scope (Plain part) = true
is_found scope (Prefixed prefix part) = is_some_text (found scope prefix)

-- the scope inside of an element's tag: what it declares, before what is declared around it
abbrev pub scope_in : List Attribute → List Binding → List Binding
scope_in attributes scope = bindings_of attributes ++ scope

-- the value that a declaration of this prefix must have, where it is `xml` or `xmlns`
abbrev pub fixed_namespace : List ℕ → Option (List ℕ)
fixed_namespace prefix =
    if bytes_eq prefix xml_prefix then Some xml_namespace
    else (if bytes_eq prefix xmlns_prefix then Some xmlns_namespace else None)

-- a prefix that is none of these two may stand for the namespace: not for theirs, and for none at
-- all where it is the empty one alone
abbrev pub may_bind : List ℕ → List ℕ → Bool
may_bind [] namespace =
    not (bytes_eq namespace xml_namespace) && not (bytes_eq namespace xmlns_namespace)
may_bind (c ∷ prefix) [] = false
may_bind (c ∷ prefix) (d ∷ namespace) =
    not (bytes_eq (d ∷ namespace) xml_namespace)
    && not (bytes_eq (d ∷ namespace) xmlns_namespace)
