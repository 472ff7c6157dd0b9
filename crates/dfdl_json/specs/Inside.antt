-- Mirror for the prover: the members of elements whose objects are being filled.
use Rattle.std.specs.Prelude.{◌≡◌, ℕ, ◌<◌, Bool, true, false, nat_eq, if◌then◌else◌, List, length, slice_index_or, String, Option}
use Rattle.std.specs.BTreeMap.{BTreeMap}
use Rattle.std.specs.declared.alloc.Global.{Global}
use Rattle.serde_json.specs.Data.{Data, array, Items, no_items, item, Members, no_members, member, put}
use Rattle.serde_json.specs.Find.{get_member}
use Rattle.serde_json.specs.View.{members_view}
use Rattle.serde_json.specs.declared.value.Value.{Value}
use Rattle.dfdl_json.specs.Lines.{items_in}

-- the members of an object
abbrev pub shown : BTreeMap (String Global) Value → Members
shown object = members_view object.entries

-- each of these objects has the members that are told
pub record HaveMembers (objects : List (BTreeMap (String Global) Value)) (count : ℕ) (told : ℕ → Members) : Type 0 where
  pub counted : length objects ≡ count
  pub each : (j : ℕ) (other : BTreeMap (String Global) Value) → j < count → shown (slice_index_or objects j other) ≡ told j

-- items with one more at the end
abbrev pub ended : Items → Data → Items
ended no_items last = item last no_items
ended (item first rest) last = item first (ended rest last)

-- items in the opposite order
abbrev pub turned_items : Items → Items
turned_items no_items = no_items
turned_items (item first rest) = ended (turned_items rest) first

-- an array with its items in the opposite order, and any other value
abbrev pub turned : Data → Data
turned (array items) = array (turned_items items)
turned value = value

-- members with their arrays in the opposite order
abbrev pub all_turned : Members → Members
all_turned no_members = no_members
all_turned (member name value rest) = member name (turned value) (all_turned rest)

-- what a name has while items are put at the end of its array
abbrev pub with_last : Bool → Data → Option Data → Data
with_last true value held = array (ended (items_in held) value)
with_last false value held = value

-- one more member, or one more item at the end of an array, where it is put
abbrev pub put_if : Bool → Bool → List ℕ → Data → Members → Members
put_if here items name value entries = if here then put name (with_last items value (get_member name entries)) entries else entries

-- the object of this number has one more member or item, if there is one, and the others are as before
pub record IsPut (number : ℕ) (items : Bool) (name : List ℕ) (value : Data) (old new : List (BTreeMap (String Global) Value)) : Type 0 where
  pub counted : length new ≡ length old
  pub each : (j : ℕ) (other : BTreeMap (String Global) Value) → j < length old
      → shown (slice_index_or new j other) ≡ put_if (nat_eq number j) items name value (shown (slice_index_or old j other))
