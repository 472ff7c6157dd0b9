-- What an expression is told of items: the value of the only one, and the number of the innermost occurrence. 'DFDL Expression
-- Language'.
use Rattle.std.specs.Prelude.{ℕ, zero, suc, ◌+◌, nat_lt, Bool, false, if◌then◌else◌, List, [], ◌∷◌, length, Option, Some, None, Result, Ok, Err, slice_get}
use Rattle.std.specs.Str.{is_utf8}
use Rattle.dfdl_value.specs.declared.value.Value.{Value}
use Rattle.dfdl_value.specs.declared.value.Value.TheVariants as value
use Rattle.dfdl_terms.specs.Arrays.{is_marked}
use Rattle.dfdl_region.specs.Bytes.{bytes_at}
use Rattle.dfdl_region.specs.declared.node.Node.{Node}
use Rattle.dfdl_region.specs.declared.node.Content.{Content}
use Rattle.dfdl_region.specs.declared.node.Content.TheVariants as content
use Rattle.dfdl_paths.specs.declared.found.Found.{Found}
use Rattle.dfdl_paths.specs.declared.found.Found.TheVariants as found
use Rattle.dfdl_paths.specs.declared.place.Place.{Place}
use Rattle.dfdl_paths.specs.declared.place.Place.TheVariants.{Above, At, Inside}
use Rattle.dfdl_paths.specs.Elements.{around, place_of}

-- the only item, if there is one
abbrev pub found_of : List ℕ → Found
found_of [] = found.None
found_of (number ∷ []) = found.One number
found_of (number ∷ other ∷ rest) = found.Several

-- so many bytes of a text from one on, where they are there
abbrev pub part_at : List ℕ → ℕ → ℕ → Option (List ℕ)
part_at bytes from len = if nat_lt (length bytes) (from + len) then None else Some (bytes_at bytes from len)

-- the string that bytes are, as UTF-8. Where they aren't there, or are none, there is no value yet (E1)
abbrev pub text_value : Option (List ℕ) → Result Value ℕ
text_value None = Err 1
text_value (Some bytes) = if is_utf8 bytes then Ok (value.Text bytes) else Err 1

-- the hexBinary that bytes are
abbrev pub octets_value : Option (List ℕ) → Result Value ℕ
octets_value None = Err 1
octets_value (Some bytes) = Ok (value.Bytes bytes)

-- the value of a content, or the number of the fault: one that isn't read has no value yet (E1), nil and elements are none (E3)
abbrev pub content_value : List ℕ → Content → Result Value ℕ
content_value bytes content.Begun = Err 1
content_value bytes content.Complex = Err 3
content_value bytes content.Nil = Err 3
content_value bytes (content.Signed number) = Ok (value.Int number)
content_value bytes (content.Unsigned number) = Ok (value.Uns number)
content_value bytes (content.Decimal number) = Ok (value.Dec number)
content_value bytes (content.Truth truth) = Ok (value.Truth truth)
content_value bytes (content.Text from len) = text_value (part_at bytes from len)
content_value bytes (content.Octets from len) = octets_value (part_at bytes from len)

-- that of an element, if it is there
abbrev pub node_value : List ℕ → Option Node → Result Value ℕ
node_value bytes None = Err 1
node_value bytes (Some node) = content_value bytes node.content

-- the value of the only item: no item is E1, several are E2
abbrev pub found_value : List Node → List ℕ → Found → Result Value ℕ
found_value nodes bytes found.None = Err 1
found_value nodes bytes (found.One number) = node_value bytes (slice_get nodes number)
found_value nodes bytes found.Several = Err 2

-- the element of a number is an item of an array
abbrev pub is_item_by : List Bool → Option Node → Bool
is_item_by marks None = false
is_item_by marks (Some node) = is_marked marks node.element

-- what is around a place, if an element is
abbrev pub index_around : (ℕ → ℕ) → Place → ℕ
index_around index Above = 1
index_around index (At number) = index number
index_around index (Inside number) = 1

-- the number of the innermost item of an array, from an element outwards, at most so many elements further out; 1 where there is
-- none
unfoldable pub index_within : List Bool → List Node → ℕ → ℕ → ℕ
index_within marks nodes zero number = 1
index_within marks nodes (suc more) number =
    if is_item_by marks (slice_get nodes number) then place_of nodes number
    else index_around (index_within marks nodes more) (around nodes number)

-- `occursIndex()` at an element
abbrev pub index_of : List Bool → List Node → ℕ → ℕ
index_of marks nodes number = index_within marks nodes (suc number) number
