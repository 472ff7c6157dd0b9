-- One more node of an infoset, and that the infoset has no float.
use Rattle.std.proofs.Common.{◌≡◌, ℕ, suc, ◌+◌, ◌-◌, ◌≤◌, Bool, true, false, cond, Option, Some, ◌||◌, List, [], ◌∷◌, ◌++◌, length, drop, get_or, refl, sym, ap, subst, ◌∙◌, arith, nat_cmp, String, Global, drop-cons}
use Rattle.std.specs.BTreeMap.{BTreeMap}
use Rattle.std.specs.declared.cmp.Ordering.TheVariants.{Less, Equal, Greater}
use Rattle.std.specs.Ordering.{match_ordering}
use Rattle.std.specs.Cmp.Lexicographic.{slice_cmp}
use Rattle.std.proofs.lemmas.Bool.{or_parts, or_from}
use Rattle.serde_json.specs.Data.{Data, null, boolean, number as count, string, array, object, Members, no_members, member, put}
use Rattle.serde_json.specs.Find.{get_member}
use Rattle.serde_json.specs.Written.{has_float, items_have_float, members_have_float, compact_text}
use Rattle.serde_json.specs.declared.value.Value.{Value}
use Rattle.dfdl_region.specs.declared.node.Node.{Node}
use Rattle.dfdl_region.specs.declared.node.Content.{Content}
use Rattle.dfdl_region.specs.declared.node.Content.TheVariants.{Begun, Complex, Nil, Signed, Unsigned, Decimal, Truth, Text, Octets}
use Rattle.dfdl_terms.specs.Rows.{Table}
use Rattle.dfdl_terms.specs.Arrays.{MarksItems, is_item, is_marked}
use Rattle.dfdl_json.specs.Children.{name_of}
use Rattle.dfdl_json.specs.Hidden.{is_hidden, MarksHidden}
use Rattle.dfdl_json.specs.Inside.{HaveMembers, all_turned, put_if, turned}
use Rattle.dfdl_json.specs.Lines.{data_of, infoset_of, is_member, items_in, line_of, members_of, put_element, with_element}
use Rattle.dfdl_json.proofs.Turned.{all_twice, plain_data, put_element_turned}

-- one more element, where it is put
abbrev elem_if : Bool → Bool → List ℕ → Data → Members → Members
elem_if here items name value entries = cond here (put_element items name value entries) entries

in_place : (here items : Bool) (name : List ℕ) (value : Data) (entries : Members) → turned value ≡ value
    → put_if here items name value (all_turned entries) ≡ all_turned (elem_if here items name value entries)
in_place true items name value entries plain = put_element_turned items name value entries plain
in_place false items name value entries plain = refl

-- the members by a node and those behind it
more_members : (t : Table) (bytes : List ℕ) (nodes : List Node) (k at : ℕ) (node : Node) (items hidden : Bool) (j : ℕ) → at ≡ suc k → at ≤ length nodes
    → node ≡ get_or nodes k node → items ≡ is_item t.rows node.element → hidden ≡ is_hidden t node.element
    → put_if (is_member hidden node.parent j) items (name_of t node.element)
    (data_of bytes node.content (all_turned (all_turned (members_of t bytes at (drop at nodes) k)))) (all_turned (members_of t bytes at (drop at nodes) j))
    ≡ all_turned (members_of t bytes k (drop k nodes) j)
more_members t bytes nodes k at node items hidden j is within node_is items_is hidden_is =
    let next : at ≡ k + 1 = omega (arith, is) in
    let inside : Members = members_of t bytes at (drop at nodes) k in
    let behind : Members = members_of t bytes at (drop at nodes) j in
    ap (λ m. put_if (is_member hidden node.parent j) items (name_of t node.element) (data_of bytes node.content m) (all_turned behind)) (all_twice inside)
    ∙ (ap (λ b. put_if (is_member hidden node.parent j) b (name_of t node.element) (data_of bytes node.content inside) (all_turned behind)) items_is
    ∙ (in_place (is_member hidden node.parent j) (is_item t.rows node.element) (name_of t node.element) (data_of bytes node.content inside) behind (plain_data bytes node.content inside)
    ∙ (ap (λ n. all_turned (elem_if (is_member hidden node.parent j) (is_item t.rows node.element) (name_of t node.element)
    (data_of bytes node.content (members_of t bytes n (drop at nodes) k)) (members_of t bytes n (drop at nodes) j))) next
    ∙ (ap (λ b. all_turned (elem_if (is_member b node.parent j) (is_item t.rows node.element) (name_of t node.element)
    (data_of bytes node.content (members_of t bytes (k + 1) (drop at nodes) k)) (members_of t bytes (k + 1) (drop at nodes) j))) hidden_is
    ∙ ap (λ ns. all_turned (members_of t bytes k ns j)) (sym (left_here is within node_is))))))
  where
    left_here : at ≡ suc k → at ≤ length nodes → node ≡ get_or nodes k node → drop k nodes ≡ node ∷ drop at nodes
    left_here e w n = drop-cons nodes k node (omega (arith, e, w)) ∙ rw (← n, e) refl

pub node_put : (t : Table) (bytes : List ℕ) (nodes : List Node) (marks hides : List Bool) (at : ℕ) (node : Node) (objects : List (BTreeMap (String Global) Value)) → 1 ≤ at → at ≤ length nodes
    → node ≡ get_or nodes (at - 1) node → MarksItems t.rows marks → MarksHidden t hides
    → HaveMembers objects (at - 1) (λ j. put_if (is_member (is_marked hides node.element) node.parent j) (is_marked marks node.element) (name_of t node.element)
    (data_of bytes node.content (all_turned (all_turned (members_of t bytes at (drop at nodes) (at - 1))))) (all_turned (members_of t bytes at (drop at nodes) j)))
    → HaveMembers objects (at - 1) (λ j. all_turned (members_of t bytes (at - 1) (drop (at - 1) nodes) j))
node_put t bytes nodes marks hides at node objects some within node_is marked hidden have = record {
  counted = have.counted;
  each = λ j other here. have.each j other here
      ∙ more_members t bytes nodes (at - 1) at node (is_marked marks node.element) (is_marked hides node.element) j (omega (arith, some)) within node_is
      (marked node.element) (hidden node.element);
}

-- a count by its predecessor
pub counted_up : (objects : List (BTreeMap (String Global) Value)) (at : ℕ) (told : ℕ → Members) → 1 ≤ at → HaveMembers objects at told → HaveMembers objects (suc (at - 1)) told
counted_up objects at told some have = subst (λ (n : ℕ). HaveMembers objects n told) (let same : at ≡ suc (at - 1) = omega (arith, some) in same) have

put-no_float : (k : List ℕ) (d : Data) (ms : Members) → has_float d ≡ false → members_have_float ms ≡ false → members_have_float (put k d ms) ≡ false
put-no_float k d no_members plain none = or_from (has_float d) false plain refl
put-no_float k d (member l e ms) plain none =
    let parts = or_parts (has_float e) (members_have_float ms) none in
    elim (slice_cmp nat_cmp k l) as (λ o. members_have_float (match_ordering o (member k d (member l e ms)) (member l d ms) (member l e (put k d ms))) ≡ false) [
      | Less ↦ or_from (has_float d) (has_float e || members_have_float ms) plain none
      | Equal ↦ or_from (has_float d) (members_have_float ms) plain parts.1
      | Greater ↦ or_from (has_float e) (members_have_float (put k d ms)) parts.0 (put-no_float k d ms plain parts.1)
    ]

data-no_float : (bytes : List ℕ) (content : Content) (entries : Members) → members_have_float entries ≡ false → has_float (data_of bytes content entries) ≡ false
data-no_float bytes (Signed z) entries none = refl
data-no_float bytes (Unsigned n) entries none = refl
data-no_float bytes (Decimal d) entries none = refl
data-no_float bytes (Truth truth) entries none = refl
data-no_float bytes (Text from len) entries none = refl
data-no_float bytes (Octets from len) entries none = refl
data-no_float bytes Nil entries none = refl
data-no_float bytes Complex entries none = none
data-no_float bytes Begun entries none = none

found-no_float : (k : List ℕ) (ms : Members) → members_have_float ms ≡ false → items_have_float (items_in (get_member k ms)) ≡ false
found-no_float k no_members none = refl
found-no_float k (member l e ms) none =
    let parts = or_parts (has_float e) (members_have_float ms) none in
    elim (slice_cmp nat_cmp k l) as (λ o. items_have_float (items_in (match_ordering o (get_member k ms) (Some e) (get_member k ms))) ≡ false) [
      | Less ↦ found-no_float k ms parts.1
      | Equal ↦ items-no_float e parts.0
      | Greater ↦ found-no_float k ms parts.1
    ]
  where
    items-no_float : (d : Data) → has_float d ≡ false → items_have_float (items_in (Some d)) ≡ false
    items-no_float (array items) plain = plain
    items-no_float null plain = refl
    items-no_float (boolean b) plain = refl
    items-no_float (count n) plain = refl
    items-no_float (string text) plain = refl
    items-no_float (object entries) plain = refl

with-no_float : (items : Bool) (d : Data) (behind : Option Data) → has_float d ≡ false → items_have_float (items_in behind) ≡ false → has_float (with_element items d behind) ≡ false
with-no_float true d behind plain none = or_from (has_float d) (items_have_float (items_in behind)) plain none
with-no_float false d behind plain none = plain

elem_if-no_float : (here items : Bool) (k : List ℕ) (d : Data) (ms : Members) → has_float d ≡ false → members_have_float ms ≡ false → members_have_float (elem_if here items k d ms) ≡ false
elem_if-no_float true items k d ms plain none =
    put-no_float k (with_element items d (get_member k ms)) ms (with-no_float items d (get_member k ms) plain (found-no_float k ms none)) none
elem_if-no_float false items k d ms plain none = none

members-no_float : (t : Table) (bytes : List ℕ) (from : ℕ) (nodes : List Node) (number : ℕ) → members_have_float (members_of t bytes from nodes number) ≡ false
members-no_float t bytes from [] number = refl
members-no_float t bytes from (node ∷ nodes) number =
    elem_if-no_float (is_member (is_hidden t node.element) node.parent number) (is_item t.rows node.element) (name_of t node.element) (data_of bytes node.content (members_of t bytes (from + 1) nodes from)) (members_of t bytes (from + 1) nodes number)
    (data-no_float bytes node.content (members_of t bytes (from + 1) nodes from) (members-no_float t bytes (from + 1) nodes from)) (members-no_float t bytes (from + 1) nodes number)

infoset-no_float : (t : Table) (nodes : List Node) (bytes : List ℕ) → has_float (infoset_of t nodes bytes) ≡ false
infoset-no_float t [] bytes = refl
infoset-no_float t (root ∷ nodes) bytes =
    put-no_float (name_of t root.element) (data_of bytes root.content (members_of t bytes 1 nodes 0)) no_members (data-no_float bytes root.content (members_of t bytes 1 nodes 0) (members-no_float t bytes 1 nodes 0)) refl

-- the line of a value
pub line_is : (t : Table) (nodes : List Node) (bytes : List ℕ) (whole : Data) (text line : List ℕ) → whole ≡ infoset_of t nodes bytes → (has_float whole ≡ false → text ≡ compact_text whole)
    → line ≡ text ++ 10 ∷ [] → line ≡ line_of t nodes bytes
line_is t nodes bytes whole text line is written ended =
    ended ∙ ap (λ xs. xs ++ 10 ∷ []) (written (ap has_float is ∙ infoset-no_float t nodes bytes) ∙ ap compact_text is)

-- the infoset by the value of its root element, whose members have their arrays turned round
pub whole_is : (t : Table) (nodes : List Node) (bytes : List ℕ) (root : Node) (members entries : Members) (name : List ℕ) (value : Data)
    → 1 ≤ length nodes → root ≡ get_or nodes 0 root → members ≡ all_turned (members_of t bytes 1 (drop 1 nodes) 0)
    → value ≡ data_of bytes root.content (all_turned members) → name ≡ name_of t root.element → entries ≡ put name value no_members
    → object entries ≡ infoset_of t nodes bytes
whole_is t [] bytes root told entries name value some root_is members_are value_is name_is entries_are = absurd (omega (arith, some))
whole_is t (first ∷ nodes) bytes root told entries name value some root_is members_are value_is name_is entries_are =
    let inside : Members = members_of t bytes 1 nodes 0 in
    ap object entries_are
    ∙ (ap (λ n. object (put n value no_members)) name_is
    ∙ (ap (λ d. object (put (name_of t root.element) d no_members)) (value_is
    ∙ ap (data_of bytes root.content) (ap all_turned members_are ∙ all_twice inside))
    ∙ ap (λ (r : Node). object (put (name_of t r.element) (data_of bytes r.content inside) no_members)) root_is))
