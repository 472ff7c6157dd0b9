-- Arrays that are made from the last item to the first, and turned round.
use Rattle.std.proofs.Common.{◌≡◌, ℕ, Bool, true, false, cond, List, [], ◌∷◌, ◌++◌, reverse, Option, None, Some, option_map, String, Global, Ordering, Less, Equal, Greater, string_bytes, string_cmp, nat_cmp, is_eq, Vec, refl, sym, ap, ◌∙◌}
use Rattle.std.proofs.lemmas.Cmp.{nat_list_cmp_total}
use Rattle.std.proofs.lemmas.Grind.{reverse_onto}
use Rattle.std.proofs.lemmas.Map.Text.{is_eq-slice_cmp}
use Rattle.std.proofs.lemmas.Slice.Eq.{bytes_eq-Decides}
use Rattle.std.specs.BTreeMap.{is_at}
use Rattle.std.specs.Cmp.Lexicographic.{slice_cmp}
use Rattle.std.specs.List.{AllByRecursion}
use Rattle.std.specs.List.Sorted.{IsStrictlySortedBy}
use Rattle.std.specs.Map.{keys_of, lookup, set_value}
use Rattle.std.specs.Map.Calls.{RetainsPairs}
use Rattle.std.specs.Ordering.{match_ordering, ordering_reverse}
use Rattle.serde_json.proofs.Views.{Entry, view-Array, view-lookup}
use Rattle.serde_json.specs.Data.{Data, null, boolean, number, string, array, object, Items, no_items, item, Members, no_members, member, put}
use Rattle.serde_json.specs.Find.{get_member}
use Rattle.serde_json.specs.View.{view, items_view, members_view}
use Rattle.serde_json.specs.declared.value.Value.{Value, Array}
use Rattle.dfdl_region.specs.declared.node.Content.{Content}
use Rattle.dfdl_region.specs.declared.node.Content.TheVariants.{Begun, Complex, Nil, Signed, Unsigned, Decimal, Truth, Text, Octets}
use Rattle.dfdl_json.specs.Inside.{all_turned, ended, put_if, turned, turned_items, with_last}
use Rattle.dfdl_json.specs.Lines.{data_of, items_in, put_element, with_element}

turned_ended : (rest : Items) (last : Data) → turned_items (ended rest last) ≡ item last (turned_items rest)
turned_ended no_items last = refl
turned_ended (item first rest) last = ap (λ ds. ended ds first) (turned_ended rest last)

items_twice : (all : Items) → turned_items (turned_items all) ≡ all
items_twice no_items = refl
items_twice (item first rest) = turned_ended (turned_items rest) first ∙ ap (item first) (items_twice rest)

turned_twice : (d : Data) → turned (turned d) ≡ d
turned_twice (array items) = ap array (items_twice items)
turned_twice null = refl
turned_twice (boolean b) = refl
turned_twice (number n) = refl
turned_twice (string text) = refl
turned_twice (object entries) = refl

-- members that are turned round twice are as before
pub all_twice : (entries : Members) → all_turned (all_turned entries) ≡ entries
all_twice no_members = refl
all_twice (member name value rest) =
    ap (λ d. member name d (all_turned (all_turned rest))) (turned_twice value) ∙ ap (member name value) (all_twice rest)

one_of : (o : Ordering) (name : List ℕ) (value : Data) (less same more : Option Data)
    → option_map turned (match_ordering o less same more) ≡ match_ordering o (option_map turned less) (option_map turned same) (option_map turned more)
one_of Less name value less same more = refl
one_of Equal name value less same more = refl
one_of Greater name value less same more = refl

found_turned : (name : List ℕ) (entries : Members) → get_member name (all_turned entries) ≡ option_map turned (get_member name entries)
found_turned name no_members = refl
found_turned name (member other value rest) =
    ap (λ r. match_ordering (slice_cmp nat_cmp name other) r (Some (turned value)) r) (found_turned name rest)
    ∙ sym (one_of (slice_cmp nat_cmp name other) name value (get_member name rest) (Some value) (get_member name rest))

order_turned : (o : Ordering) (less same more : Members)
    → all_turned (match_ordering o less same more) ≡ match_ordering o (all_turned less) (all_turned same) (all_turned more)
order_turned Less less same more = refl
order_turned Equal less same more = refl
order_turned Greater less same more = refl

-- a member that is put among those that are turned round
put_turned : (name : List ℕ) (value : Data) (entries : Members) → all_turned (put name value entries) ≡ put name (turned value) (all_turned entries)
put_turned name value no_members = refl
put_turned name value (member other own rest) =
    order_turned (slice_cmp nat_cmp name other) (member name value (member other own rest)) (member other value rest) (member other own (put name value rest))
    ∙ ap (λ r. match_ordering (slice_cmp nat_cmp name other) (member name (turned value) (member other (turned own) (all_turned rest)))
    (member other (turned value) (all_turned rest)) (member other (turned own) r)) (put_turned name value rest)

items_turned : (held : Option Data) → items_in (option_map turned held) ≡ turned_items (items_in held)
items_turned None = refl
items_turned (Some (array items)) = refl
items_turned (Some null) = refl
items_turned (Some (boolean b)) = refl
items_turned (Some (number n)) = refl
items_turned (Some (string text)) = refl
items_turned (Some (object entries)) = refl

element_turned : (items : Bool) (value : Data) (held : Option Data) → turned value ≡ value
    → turned (with_element items value held) ≡ with_last items value (option_map turned held)
element_turned true value held plain = ap (λ ds. array (ended ds value)) (sym (items_turned held))
element_turned false value held plain = plain

-- an element that is put among members that are turned round
pub put_element_turned : (items : Bool) (name : List ℕ) (value : Data) (entries : Members) → turned value ≡ value
    → put_if true items name value (all_turned entries) ≡ all_turned (put_element items name value entries)
put_element_turned items name value entries plain =
    ap (λ h. put name (with_last items value h) (all_turned entries)) (found_turned name entries)
    ∙ (ap (λ d. put name d (all_turned entries)) (sym (element_turned items value (get_member name entries) plain))
    ∙ sym (put_turned name (with_element items value (get_member name entries)) entries))

-- an element's data is no array
pub plain_data : (bytes : List ℕ) (content : Content) (entries : Members) → turned (data_of bytes content entries) ≡ data_of bytes content entries
plain_data bytes (Signed z) entries = refl
plain_data bytes (Unsigned n) entries = refl
plain_data bytes (Decimal d) entries = refl
plain_data bytes (Truth truth) entries = refl
plain_data bytes (Text from len) entries = refl
plain_data bytes (Octets from len) entries = refl
plain_data bytes Nil entries = refl
plain_data bytes Complex entries = refl
plain_data bytes Begun entries = refl

-- one value more
pub view_ended : (values : List Value) (last : Value) → items_view (values ++ last ∷ []) ≡ ended (items_view values) (view last)
view_ended [] last = refl
view_ended (first ∷ rest) last = ap (item (view first)) (view_ended rest last)

-- values in the opposite order
pub view_turned : (values : List Value) → items_view (reverse values) ≡ turned_items (items_view values)
view_turned [] = refl
view_turned (first ∷ rest) =
    ap items_view (reverse_onto rest first []) ∙ (view_ended (reverse rest) first ∙ ap (λ ds. ended ds (view first)) (view_turned rest))

-- every entry stays, with its value turned round
pub retained : {F : Type 0} (T : F → String Global → Value → Bool → Value → F → Type 0)
    → ((f : F) (k : String Global) (v : Value) (b : Bool) (w : Value) (f' : F) → T f k v b w f' → (b ≡ true) × (view w ≡ turned (view v)))
    → (f : F) (es kept : List Entry) → RetainsPairs T f es kept → members_view kept ≡ all_turned (members_view es)
retained T told f [] kept is = ap members_view is
retained T told f (e ∷ es) kept (b, w, after, rest, call, others, is) =
    let said = told f e.0 e.1 b w after call in
    ap members_view is
    ∙ (ap (λ c. members_view (cond c ((e.0, w) ∷ rest) rest)) said.0
    ∙ (ap (λ d. member (string_bytes e.0) d (members_view rest)) said.1
    ∙ ap (member (string_bytes e.0) (turned (view e.1))) (retained T told after es rest others)))

-- a name that is found behind a key is above it
above_by : (name : List ℕ) (first : String Global) (e : Entry) (later : Option Value) (v : Value) → string_cmp first e.0 ≡ Less
    → (later ≡ Some v → slice_cmp nat_cmp name (string_bytes first) ≡ Greater) → (o : Ordering) → slice_cmp nat_cmp name (string_bytes e.0) ≡ o
    → cond (is_eq o) (Some e.1) later ≡ Some v → slice_cmp nat_cmp name (string_bytes first) ≡ Greater
above_by name first e later v less behind Less is found = behind found
above_by name first e later v less behind Greater is found = behind found
above_by name first e later v less behind Equal is found =
    let same : name ≡ string_bytes e.0 = (bytes_eq-Decides name (string_bytes e.0)).0 (sym (is_eq-slice_cmp name (string_bytes e.0)) ∙ ap is_eq is) in
    nat_list_cmp_total.antisymm name (string_bytes first)
    ∙ ap ordering_reverse (ap (slice_cmp nat_cmp (string_bytes first)) same ∙ less)

above : (name : List ℕ) (first : String Global) (es : List Entry) (v : Value) → AllByRecursion (λ y. string_cmp first y ≡ Less) (keys_of es)
    → lookup (is_at (λ k. slice_cmp nat_cmp name (string_bytes k))) es ≡ Some v → slice_cmp nat_cmp name (string_bytes first) ≡ Greater
above name first [] v sorted found = absurd (cc)
above name first (e ∷ es) v sorted found =
    above_by name first e (lookup (is_at (λ k. slice_cmp nat_cmp name (string_bytes k))) es) v sorted.0 (above name first es v sorted.1)
    (slice_cmp nat_cmp name (string_bytes e.0)) refl found

-- a value that is written at a name that is there is put there
put_by : (name : List ℕ) (e : Entry) (es written : List Entry) (later : Option Value) (v w : Value)
    → (later ≡ Some v → slice_cmp nat_cmp name (string_bytes e.0) ≡ Greater) → (later ≡ Some v → members_view written ≡ put name (view w) (members_view es))
    → (o : Ordering) → slice_cmp nat_cmp name (string_bytes e.0) ≡ o → cond (is_eq o) (Some e.1) later ≡ Some v
    → members_view (cond (is_eq o) ((e.0, w) ∷ es) (e ∷ written))
    ≡ match_ordering o (member name (view w) (members_view (e ∷ es))) (member (string_bytes e.0) (view w) (members_view es))
    (member (string_bytes e.0) (view e.1) (put name (view w) (members_view es)))
put_by name e es written later v w over rest Less is found = absurd (cc (is, over found))
put_by name e es written later v w over rest Equal is found = refl
put_by name e es written later v w over rest Greater is found = ap (member (string_bytes e.0) (view e.1)) (rest found)

pub written_is_put : (name : List ℕ) (es : List Entry) (v w : Value) → IsStrictlySortedBy string_cmp (keys_of es)
    → lookup (is_at (λ k. slice_cmp nat_cmp name (string_bytes k))) es ≡ Some v
    → members_view (set_value (is_at (λ k. slice_cmp nat_cmp name (string_bytes k))) es w) ≡ put name (view w) (members_view es)
unfolding IsStrictlySortedBy
written_is_put name [] v w sorted found = absurd (cc)
written_is_put name (e ∷ es) v w sorted found =
    put_by name e es (set_value (is_at (λ k. slice_cmp nat_cmp name (string_bytes k))) es w) (lookup (is_at (λ k. slice_cmp nat_cmp name (string_bytes k))) es) v w
    (above name e.0 es v sorted.0) (written_is_put name es v w sorted.1) (slice_cmp nat_cmp name (string_bytes e.0)) refl found

-- what an array has when its items are turned round, or one more is put behind them
pub array_turned : (held : Value) (old new : Vec Value Global) → held ≡ Array old → new.items ≡ reverse old.items → view (Array new) ≡ turned (view held)
array_turned held old new is items =
    view-Array new ∙ (ap (λ vs. array (items_view vs)) items ∙ (ap array (view_turned old.items) ∙ (ap turned (sym (view-Array old)) ∙ ap (λ h. turned (view h)) (sym is))))

pub array_ended : (held value : Value) (old new : Vec Value Global) → held ≡ Array old → new.items ≡ old.items ++ value ∷ []
    → view (Array new) ≡ with_last true (view value) (Some (view held))
array_ended held value old new is items =
    view-Array new ∙ (ap (λ vs. array (items_view vs)) items ∙ (ap array (view_ended old.items value)
    ∙ (ap (λ d. with_last true (view value) (Some d)) (sym (view-Array old)) ∙ ap (λ h. with_last true (view value) (Some (view h))) (sym is))))

-- an item that is put behind those of an array
pub item_put : (name : List ℕ) (es lent : List Entry) (v w : Value) (value : Data) → IsStrictlySortedBy string_cmp (keys_of es)
    → lookup (is_at (λ k. slice_cmp nat_cmp name (string_bytes k))) es ≡ Some v
    → lent ≡ set_value (is_at (λ k. slice_cmp nat_cmp name (string_bytes k))) es w → view w ≡ with_last true value (Some (view v))
    → members_view lent ≡ put name (with_last true value (get_member name (members_view es))) (members_view es)
item_put name es lent v w value sorted found is ends =
    ap members_view is
    ∙ (written_is_put name es v w sorted found
    ∙ ap (λ d. put name d (members_view es)) (ends ∙ ap (with_last true value) (sym (ap (option_map view) found) ∙ view-lookup name es)))

-- the first item of an array
pub first_put : (name : List ℕ) (es old new : List Entry) (first : Value) (value : Data)
    → lookup (is_at (λ k. slice_cmp nat_cmp name (string_bytes k))) es ≡ None → old ≡ es → view first ≡ with_last true value None
    → members_view new ≡ put name (view first) (members_view old)
    → members_view new ≡ put name (with_last true value (get_member name (members_view es))) (members_view es)
first_put name es old new first value none is starts puts =
    puts
    ∙ (ap (λ xs. put name (view first) (members_view xs)) is
    ∙ ap (λ d. put name d (members_view es)) (starts ∙ ap (with_last true value) (sym (ap (option_map view) none) ∙ view-lookup name es)))
