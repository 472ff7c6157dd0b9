-- What the elements of an infoset have, by their nodes.
use Rattle.std.proofs.Common.{◌≡◌, ℕ, ◌+◌, ◌<◌, true, false, cond, List, length, drop, Some, get_or, slice_get, refl, sym, ap, subst, ◌∙◌}
use Rattle.std.proofs.lemmas.Option.{slice_get-get_or}
use Rattle.json.specs.Written.{Written}
use Rattle.serde_json.specs.Data.{Members, object, array, item}
use Rattle.dfdl_region.specs.declared.node.Node.{Node}
use Rattle.dfdl_region.specs.declared.node.Content.{Content}
use Rattle.dfdl_region.specs.declared.node.Content.TheVariants.{Begun, Complex, Nil, Signed, Unsigned, Decimal, Truth, Text, Octets}
use Rattle.dfdl_region.specs.Texts.{HasText}
use Rattle.dfdl_terms.specs.Arrays.{is_marked}
use Rattle.dfdl_json.specs.Adding.{Adds, data_tokens}
use Rattle.dfdl_json.specs.Children.{name_of}
use Rattle.dfdl_json.specs.Lines as lines
use Rattle.dfdl_json.specs.Ranks.{rank_of}
use Rattle.dfdl_json.specs.Ready.{IsReady, elements}
use Rattle.dfdl_json.specs.Sorted.{is_item_in, name_in, own_in, rank_in, run, value_at}
use Rattle.dfdl_json.specs.Values.{has_elements}
use Rattle.dfdl_json.specs.declared.writing.Infoset.{Infoset}
use Rattle.dfdl_json.proofs.Writes.{adds_as}

got : (nodes : List Node) (i : ℕ) (node : Node) → i < length nodes → node ≡ get_or nodes i node → slice_get nodes i ≡ Some node
got nodes i node within is = slice_get-get_or nodes i node within ∙ ap Some (sym is)

pub rank_is : (infoset : Infoset) (i : ℕ) (node : Node) → i < length infoset.nodes.now → node ≡ get_or infoset.nodes.now i node
    → rank_of infoset.ranks.ranks.items node.element ≡ (elements infoset).rank i
rank_is infoset i node within is = sym (ap (rank_in infoset.ranks.ranks.items) (got infoset.nodes.now i node within is))

pub item_is : (infoset : Infoset) (i : ℕ) (node : Node) → IsReady infoset → i < length infoset.nodes.now → node ≡ get_or infoset.nodes.now i node
    → is_marked infoset.items node.element ≡ (elements infoset).is_item i
item_is infoset i node ready within is =
    ready.items node.element ∙ sym (ap (is_item_in infoset.terms.now) (got infoset.nodes.now i node within is))

pub name_is : (infoset : Infoset) (i : ℕ) (node : Node) → i < length infoset.nodes.now → node ≡ get_or infoset.nodes.now i node
    → name_of infoset.terms.now node.element ≡ (elements infoset).name i
name_is infoset i node within is = sym (ap (name_in infoset.terms.now) (got infoset.nodes.now i node within is))

pub own_is : (infoset : Infoset) (i : ℕ) (node : Node) → i < length infoset.nodes.now → node ≡ get_or infoset.nodes.now i node
    → lines.data_of infoset.text.now node.content (lines.members_of infoset.terms.now infoset.text.now (i + 1) (drop (i + 1) infoset.nodes.now) i)
    ≡ (elements infoset).own i
own_is infoset i node within is =
    sym (ap (own_in infoset.terms.now infoset.text.now infoset.nodes.now i) (got infoset.nodes.now i node within is))

object_of : (bytes : List ℕ) (content : Content) (entries : Members) → has_elements content ≡ true → lines.data_of bytes content entries ≡ object entries
object_of bytes Complex entries has = refl
object_of bytes Begun entries has = refl
object_of bytes Nil entries has = absurd (cc)
object_of bytes (Signed z) entries has = absurd (cc)
object_of bytes (Unsigned n) entries has = absurd (cc)
object_of bytes (Decimal d) entries has = absurd (cc)
object_of bytes (Truth truth) entries has = absurd (cc)
object_of bytes (Text from len) entries has = absurd (cc)
object_of bytes (Octets from len) entries has = absurd (cc)

-- an object is written for an element that has elements in it
pub own_object : (infoset : Infoset) (i : ℕ) (node : Node) (old new : Written) → i < length infoset.nodes.now → node ≡ get_or infoset.nodes.now i node
    → has_elements node.content ≡ true
    → Adds old new (data_tokens (object (lines.members_of infoset.terms.now infoset.text.now (i + 1) (drop (i + 1) infoset.nodes.now) i)))
    → Adds old new (data_tokens ((elements infoset).own i))
own_object infoset i node old new within is has adds =
    adds_as old new _ _
    (ap data_tokens (sym (object_of infoset.text.now node.content _ has) ∙ own_is infoset i node within is)) adds

-- a value is written for an element that has none
pub own_simple : (infoset : Infoset) (i : ℕ) (node : Node) (old new : Written) → i < length infoset.nodes.now → node ≡ get_or infoset.nodes.now i node
    → Adds old new (data_tokens (lines.data_of infoset.text.now node.content (lines.members_of infoset.terms.now infoset.text.now (i + 1) (drop (i + 1) infoset.nodes.now) i)))
    → Adds old new (data_tokens ((elements infoset).own i))
own_simple infoset i node old new within is adds = adds_as old new _ _ (ap data_tokens (own_is infoset i node within is)) adds

-- the bytes of a node's value are there
pub texts_of : (infoset : Infoset) (i : ℕ) (node : Node) → IsReady infoset → i < length infoset.nodes.now → node ≡ get_or infoset.nodes.now i node → HasText infoset.text.now node.content
texts_of infoset i node ready within is = subst (λ (n : Node). HasText infoset.text.now n.content) (sym is) (ready.texts i node within)

-- an array is what the name of an item has
pub value_array : (infoset : Infoset) (i : ℕ) (is : List ℕ) (old new : Written) → (elements infoset).is_item i ≡ true
    → Adds old new (data_tokens (array (item ((elements infoset).own i) (run (elements infoset) ((elements infoset).rank i) is))))
    → Adds old new (data_tokens (value_at (elements infoset) i is))
value_array infoset i is old new items adds =
    adds_as old new _ _
    (ap (λ b. data_tokens (cond b (array (item ((elements infoset).own i) (run (elements infoset) ((elements infoset).rank i) is))) ((elements infoset).own i))) (sym items)) adds

-- and its own data what that of another element has
pub value_element : (infoset : Infoset) (i : ℕ) (is : List ℕ) (old new : Written) → (elements infoset).is_item i ≡ false
    → Adds old new (data_tokens ((elements infoset).own i)) → Adds old new (data_tokens (value_at (elements infoset) i is))
value_element infoset i is old new items adds =
    adds_as old new _ _
    (ap (λ b. data_tokens (cond b (array (item ((elements infoset).own i) (run (elements infoset) ((elements infoset).rank i) is))) ((elements infoset).own i))) (sym items)) adds
