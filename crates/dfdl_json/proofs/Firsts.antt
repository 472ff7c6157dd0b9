-- The members of an element link by link.
use Rattle.std.proofs.Common.{◌≡◌, ℕ, ◌<◌, ◌≤◌, ◌&&◌, nat_eq, nat_lt, Bool, true, false, cond, List, [], ◌∷◌, length, Option, None, Some, slice_get, refl, sym, ap, subst, ◌∙◌, arith}
use Rattle.std.proofs.lemmas.Bool.{eq-eqb, ne_eqb, ltb-true}
use Rattle.std.proofs.lemmas.Option.{slice_get_within}
use Rattle.serde_json.specs.Data.{Items, no_items, item}
use Rattle.dfdl_region.specs.declared.node.Node.{Node}
use Rattle.dfdl_json.specs.Chains.{IsChain, reach}
use Rattle.dfdl_json.specs.Hidden.{is_hidden}
use Rattle.dfdl_json.specs.Ready.{AreMembers, IsFirst, elements, stands}
use Rattle.dfdl_json.specs.Sorted.{behind, run, stands_in}
use Rattle.dfdl_json.specs.declared.chains.Link.{Link}
use Rattle.dfdl_json.specs.declared.writing.Infoset.{Infoset}

first_by : (infoset : Infoset) (number place i : ℕ) (link : Link) (is : List ℕ) → i ≡ link.node → stands infoset number i ≡ true → i < length infoset.nodes.now
    → AreMembers infoset number ((elements infoset).rank i) link.next is → reach link.next ≤ place
    → IsFirst infoset number (Some place) (i ∷ is) link
first_by infoset number place i link is same there within behind less =
    subst (λ (j : ℕ). IsFirst infoset number (Some place) (j ∷ is) link) (sym same)
    (record {
      rest = is;
      is_link = refl;
      starts = record {
        within = subst (λ (j : ℕ). j < length infoset.nodes.now) same within;
        stands_there = ap (stands infoset number) (sym same) ∙ there;
        behind = subst (λ (j : ℕ). AreMembers infoset number ((elements infoset).rank j) link.next is) same behind;
      };
      less = (let reached : reach link.next ≤ place = less in omega (arith, reached));
    })

-- the link that stands where members are has the first of them
pub first_link : (infoset : Infoset) (number r place : ℕ) (link : Link) (is : List ℕ) → AreMembers infoset number r (Some place) is
    → slice_get infoset.members.links.items place ≡ Some link → IsFirst infoset number (Some place) is link
first_link infoset number r place link [] are found = absurd (let none : Some place ≡ None = are.linked in cc)
first_link infoset number r place link (i ∷ is) are found =
    let (k, other, here, there, node, less, chain) = are.linked in
    let (from, stands_there, within, sorted) = are.sorted in
    let spot : place ≡ k = cc in
    let same : other ≡ link = (let both : Some other ≡ Some link = sym there ∙ (ap (slice_get infoset.members.links.items) (sym spot) ∙ found) in cc) in
    first_by infoset number place i link is (sym node ∙ ap (λ (l : Link). l.node) same) stands_there within
    (record { linked = subst (λ (l : Link). IsChain infoset.members.links.items l.next is) same chain; sorted = sorted })
    (let reached : reach other.next ≤ k = less in
    let as_other : reach link.next ≡ reach other.next = ap (λ (l : Link). reach l.next) (sym same) in omega (arith, reached, as_other, spot))

-- a link stands where there are members
pub some_link : (infoset : Infoset) (number r place : ℕ) (is : List ℕ) → AreMembers infoset number r (Some place) is → place < length infoset.members.links.items
some_link infoset number r place [] are = absurd (let none : Some place ≡ None = are.linked in cc)
some_link infoset number r place (i ∷ is) are =
    let (k, other, here, there, node, less, chain) = are.linked in
    let spot : place ≡ k = cc in
    let within : k < length infoset.members.links.items = slice_get_within infoset.members.links.items k other there in omega (arith, within, spot)

-- there are no members where there is no link
pub no_link : (infoset : Infoset) (number r : ℕ) (is : List ℕ) → AreMembers infoset number r None is → is ≡ []
no_link infoset number r [] are = refl
no_link infoset number r (i ∷ is) are = let (k, other, here, there, node, less, chain) = are.linked in absurd (let none : None ≡ Some k = here in cc)

-- the members behind a first one whose name has the rank
pub named : (infoset : Infoset) (number rank : ℕ) (at : Option ℕ) (is : List ℕ) (link : Link) → (first : IsFirst infoset number at is link)
    → (elements infoset).rank link.node ≡ rank
    → AreMembers infoset number rank link.next first.rest × (behind (elements infoset) rank is ≡ behind (elements infoset) rank first.rest)
named infoset number rank at is link first same = (
  subst (λ (r : ℕ). AreMembers infoset number r link.next first.rest) same first.starts.behind,
  ap (behind (elements infoset) rank) first.is_link
      ∙ ap (λ b. cond b (behind (elements infoset) rank first.rest) (link.node ∷ first.rest)) (eq-eqb ((elements infoset).rank link.node) rank same),
)

-- none of the rank goes on where the first one has another
pub other_name : (infoset : Infoset) (number rank : ℕ) (at : Option ℕ) (is : List ℕ) (link : Link) → (first : IsFirst infoset number at is link)
    → ((elements infoset).rank link.node ≡ rank → ⊥)
    → (behind (elements infoset) rank is ≡ is) × (run (elements infoset) rank is ≡ no_items)
other_name infoset number rank at is link first other = (
  ap (behind (elements infoset) rank) first.is_link
      ∙ (ap (λ b. cond b (behind (elements infoset) rank first.rest) (link.node ∷ first.rest)) (ne_eqb ((elements infoset).rank link.node) rank other)
      ∙ sym first.is_link),
  ap (run (elements infoset) rank) first.is_link
      ∙ ap (λ b. cond (b && (elements infoset).is_item link.node) (item ((elements infoset).own link.node) (run (elements infoset) rank first.rest)) no_items)
      (ne_eqb ((elements infoset).rank link.node) rank other),
)

no_item : (b : Bool) (items : Items) → cond (b && false) items no_items ≡ no_items
no_item true items = refl
no_item false items = refl

-- none goes on where the first one is no item
pub other_item : (infoset : Infoset) (number rank : ℕ) (at : Option ℕ) (is : List ℕ) (link : Link) → (first : IsFirst infoset number at is link)
    → (elements infoset).is_item link.node ≡ false → run (elements infoset) rank is ≡ no_items
other_item infoset number rank at is link first plain =
    ap (run (elements infoset) rank) first.is_link
    ∙ (ap (λ b. cond (nat_eq ((elements infoset).rank link.node) rank && b) (item ((elements infoset).own link.node) (run (elements infoset) rank first.rest)) no_items) plain
    ∙ no_item (nat_eq ((elements infoset).rank link.node) rank) (item ((elements infoset).own link.node) (run (elements infoset) rank first.rest)))

-- an item goes on with those behind it
pub item_on : (infoset : Infoset) (number rank : ℕ) (at : Option ℕ) (is : List ℕ) (link : Link) → (first : IsFirst infoset number at is link)
    → (elements infoset).rank link.node ≡ rank → (elements infoset).is_item link.node ≡ true
    → run (elements infoset) rank is ≡ item ((elements infoset).own link.node) (run (elements infoset) rank first.rest)
item_on infoset number rank at is link first same items =
    ap (run (elements infoset) rank) first.is_link
    ∙ (ap (λ b. cond (b && (elements infoset).is_item link.node) (item ((elements infoset).own link.node) (run (elements infoset) rank first.rest)) no_items)
    (eq-eqb ((elements infoset).rank link.node) rank same)
    ∙ ap (λ b. cond b (item ((elements infoset).own link.node) (run (elements infoset) rank first.rest)) no_items) items)

stands_behind : (hides : ℕ → Bool) (number i : ℕ) (o : Option Node) → stands_in hides number i o ≡ true → number < i
stands_behind hides number i None is = absurd (cc)
stands_behind hides number i (Some node) is = ltb-true number i (first_true (nat_lt number i) _ is)
  where
    first_true : (b c : Bool) → (b && c) ≡ true → b ≡ true
    first_true true c is = refl
    first_true false c is = is

-- a member stands behind its element
pub later : (infoset : Infoset) (number i : ℕ) → stands infoset number i ≡ true → number < i
later infoset number i is = stands_behind (is_hidden infoset.terms.now) number i (slice_get infoset.nodes.now i) is
