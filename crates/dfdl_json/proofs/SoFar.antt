-- What is written of an object or an array so far, and how it goes on.
use Rattle.std.proofs.Common.{◌≡◌, ℕ, ◌+◌, ◌-◌, ◌<◌, ◌≤◌, true, List, [], ◌∷◌, ◌++◌, append_assoc, length, drop, Option, None, slice_index_or, refl, sym, ap, subst, ◌∙◌, arith}
use Rattle.json.specs.Token as token
use Rattle.json.specs.Written.{Written}
use Rattle.serde_json.specs.Data.{Data, object, Items, no_items, Members, no_members}
use Rattle.dfdl_json.specs.Adding.{Adds, data_tokens}
use Rattle.dfdl_json.specs.Chains.{IsChain, reach}
use Rattle.dfdl_json.specs.Lines as lines
use Rattle.dfdl_json.specs.Ready.{AreMembers, IsFirst, IsReady, elements, stands, tokens_of_items, tokens_of_members}
use Rattle.dfdl_json.specs.Sorted.{AreFrom, all_put, behind, members_of, run, value_at}
use Rattle.dfdl_json.specs.declared.chains.Link.{Link}
use Rattle.dfdl_json.specs.declared.writing.Infoset.{Infoset}
use Rattle.dfdl_json.proofs.Collected.{collected_from, from_lower}
use Rattle.dfdl_json.proofs.Document.{are_named, members_are}
use Rattle.dfdl_json.proofs.Firsts.{item_on, named}
use Rattle.dfdl_json.proofs.Runs.{first_member}

-- the members of the element of a number
abbrev pub members_in : Infoset → ℕ → Members
members_in infoset number = lines.members_of infoset.terms.now infoset.text.now (number + 1) (drop (number + 1) infoset.nodes.now) number

-- an object up to the members from a link on
pub record ObjectSoFar (infoset : Infoset) (number : ℕ) (old now : Written) (at : Option ℕ) : Type 0 where
  pub from : ℕ
  pub left : List ℕ
  pub members : AreMembers infoset number from at left
  pub before : now.before ≡ old.before
  pub tokens : now.tokens ++ tokens_of_members (all_put (elements infoset) left no_members) ≡ old.tokens ++ data_tokens (object (members_in infoset number))

-- all members of an element
pub all_members : (infoset : Infoset) (number : ℕ) (at : Option ℕ) → IsReady infoset → number < length infoset.nodes.now
    → at ≡ slice_index_or infoset.members.firsts.items number None
    → AreMembers infoset number 0 at (members_of infoset.terms.now infoset.ranks.ranks.items infoset.ranks.count infoset.nodes.now number)
all_members infoset number at ready within is =
    let all : List ℕ = members_of infoset.terms.now infoset.ranks.ranks.items infoset.ranks.count infoset.nodes.now number in
    let count : ℕ = infoset.ranks.count in
    record {
      linked = subst (λ (o : Option ℕ). IsChain infoset.members.links.items o all) (sym is) (ready.members.each number within);
      sorted = from_lower (elements infoset).rank (stands infoset number) (length infoset.nodes.now) 0 (count - count) all (omega arith)
          (collected_from (elements infoset).rank (stands infoset number) count (length infoset.nodes.now) count);
    }

-- an object begins
pub object_begins : (infoset : Infoset) (number : ℕ) (old now : Written) (at : Option ℕ) → IsReady infoset → number < length infoset.nodes.now
    → Adds old now (token.begin_object ∷ [])
    → AreMembers infoset number 0 at (members_of infoset.terms.now infoset.ranks.ranks.items infoset.ranks.count infoset.nodes.now number)
    → ObjectSoFar infoset number old now at
object_begins infoset number old now at ready within adds are =
    let all : Members = all_put (elements infoset) (members_of infoset.terms.now infoset.ranks.ranks.items infoset.ranks.count infoset.nodes.now number) no_members in
    record {
      from = 0;
      left = members_of infoset.terms.now infoset.ranks.ranks.items infoset.ranks.count infoset.nodes.now number;
      members = are;
      before = adds.before;
      tokens = ap (λ ts. ts ++ tokens_of_members all) adds.tokens
          ∙ (append_assoc old.tokens (token.begin_object ∷ []) (tokens_of_members all)
          ∙ ap (λ ms. old.tokens ++ data_tokens (object ms))
          (members_are infoset.terms.now infoset.ranks.ranks.items infoset.text.now infoset.ranks.count infoset.nodes.now number ready.ranks within));
    }

-- an object goes on with its next member
pub object_goes_on : (infoset : Infoset) (number : ℕ) (old now new : Written) (at next : Option ℕ) (link : Link) → IsReady infoset
    → (so_far : ObjectSoFar infoset number old now at) → (first : IsFirst infoset number at so_far.left link)
    → Adds now new (token.key ((elements infoset).name link.node) ∷ data_tokens (value_at (elements infoset) link.node first.rest))
    → AreMembers infoset number ((elements infoset).rank link.node) next (behind (elements infoset) ((elements infoset).rank link.node) first.rest)
    → ObjectSoFar infoset number old new next
object_goes_on infoset number old now new at next link ready so_far first adds are =
    let others : Members = all_put (elements infoset) (behind (elements infoset) ((elements infoset).rank link.node) first.rest) no_members in
    let value : Data = value_at (elements infoset) link.node first.rest in
    record {
      from = (elements infoset).rank link.node;
      left = behind (elements infoset) ((elements infoset).rank link.node) first.rest;
      members = are;
      before = adds.before ∙ so_far.before;
      tokens = ap (λ ts. ts ++ tokens_of_members others) adds.tokens
          ∙ (append_assoc now.tokens (token.key ((elements infoset).name link.node) ∷ data_tokens value) (tokens_of_members others)
          ∙ (ap (λ ms. now.tokens ++ tokens_of_members ms)
          (sym (ap (λ is. all_put (elements infoset) is no_members) first.is_link
          ∙ first_member (elements infoset) (stands infoset number) (length infoset.nodes.now) so_far.from link.node first.rest
          (are_named infoset.terms.now infoset.ranks.ranks.items infoset.text.now infoset.ranks.count infoset.nodes.now ready.ranks)
          (subst (λ (is : List ℕ). AreFrom (elements infoset).rank (stands infoset number) (length infoset.nodes.now) so_far.from is) first.is_link so_far.members.sorted)))
          ∙ so_far.tokens));
    }

-- an object ends
pub object_ends : (infoset : Infoset) (number : ℕ) (old now new : Written) (at : Option ℕ) → (so_far : ObjectSoFar infoset number old now at) → so_far.left ≡ []
    → Adds now new (token.end_object ∷ []) → Adds old new (data_tokens (object (members_in infoset number)))
object_ends infoset number old now new at so_far none adds = record {
  before = adds.before ∙ so_far.before;
  tokens = adds.tokens ∙ (ap (λ is. now.tokens ++ tokens_of_members (all_put (elements infoset) is no_members)) (sym none) ∙ so_far.tokens);
}

-- an array up to the items from a link on
pub record ItemsSoFar (infoset : Infoset) (number rank : ℕ) (old now : Written) (next at : Option ℕ) (is : List ℕ) : Type 0 where
  pub left : List ℕ
  pub members : AreMembers infoset number rank at left
  pub before : now.before ≡ old.before
  pub tokens : now.tokens ++ tokens_of_items (run (elements infoset) rank left) ≡ old.tokens ++ tokens_of_items (run (elements infoset) rank is)
  pub behind_left : behind (elements infoset) rank left ≡ behind (elements infoset) rank is
  pub less : reach at ≤ reach next

pub items_begin : (infoset : Infoset) (number rank : ℕ) (old : Written) (next : Option ℕ) (is : List ℕ) → AreMembers infoset number rank next is
    → ItemsSoFar infoset number rank old old next next is
items_begin infoset number rank old next is are = record {
  left = is;
  members = are;
  before = refl;
  tokens = refl;
  behind_left = refl;
  less = omega arith;
}

-- an array goes on with its next item
pub items_go_on : (infoset : Infoset) (number rank : ℕ) (old now new : Written) (next at : Option ℕ) (is : List ℕ) (link : Link)
    → (so_far : ItemsSoFar infoset number rank old now next at is) → (first : IsFirst infoset number at so_far.left link)
    → (elements infoset).rank link.node ≡ rank → (elements infoset).is_item link.node ≡ true
    → Adds now new (data_tokens ((elements infoset).own link.node)) → ItemsSoFar infoset number rank old new next link.next is
items_go_on infoset number rank old now new next at is link so_far first same items adds =
    let goes = named infoset number rank at so_far.left link first same in
    let own : Data = (elements infoset).own link.node in
    let others : Items = run (elements infoset) rank first.rest in
    record {
      left = first.rest;
      members = goes.0;
      before = adds.before ∙ so_far.before;
      tokens = ap (λ ts. ts ++ tokens_of_items others) adds.tokens
          ∙ (append_assoc now.tokens (data_tokens own) (tokens_of_items others)
          ∙ (ap (λ ds. now.tokens ++ tokens_of_items ds) (sym (item_on infoset number rank at so_far.left link first same items)) ∙ so_far.tokens));
      behind_left = sym goes.1 ∙ so_far.behind_left;
      less = (let nearer : reach link.next < reach at = first.less in let reached : reach at ≤ reach next = so_far.less in omega (arith, nearer, reached));
    }

-- an array ends
pub items_end : (infoset : Infoset) (number rank : ℕ) (old now new : Written) (next at : Option ℕ) (is : List ℕ)
    → (so_far : ItemsSoFar infoset number rank old now next at is) → run (elements infoset) rank so_far.left ≡ no_items
    → Adds now new (token.end_array ∷ [])
    → Adds old new (tokens_of_items (run (elements infoset) rank is)) × (rest : List ℕ) × AreMembers infoset number rank at rest
    × (behind (elements infoset) rank rest ≡ behind (elements infoset) rank is) × (reach at ≤ reach next)
items_end infoset number rank old now new next at is so_far none adds = (
  record {
    before = adds.before ∙ so_far.before;
    tokens = adds.tokens ∙ (ap (λ ds. now.tokens ++ tokens_of_items ds) (sym none) ∙ so_far.tokens);
  },
  so_far.left,
  so_far.members,
  so_far.behind_left,
  so_far.less,
)

-- the members that are passed over up to a link
pub record PassedSoFar (infoset : Infoset) (number rank : ℕ) (next at : Option ℕ) (is : List ℕ) : Type 0 where
  pub left : List ℕ
  pub members : AreMembers infoset number rank at left
  pub behind_left : behind (elements infoset) rank left ≡ behind (elements infoset) rank is
  pub less : reach at ≤ reach next

pub passing_begins : (infoset : Infoset) (number rank : ℕ) (next : Option ℕ) (is : List ℕ) → AreMembers infoset number rank next is
    → PassedSoFar infoset number rank next next is
passing_begins infoset number rank next is are = record { left = is; members = are; behind_left = refl; less = omega arith }

pub passing_goes_on : (infoset : Infoset) (number rank : ℕ) (next at : Option ℕ) (is : List ℕ) (link : Link)
    → (so_far : PassedSoFar infoset number rank next at is) → (first : IsFirst infoset number at so_far.left link)
    → (elements infoset).rank link.node ≡ rank → PassedSoFar infoset number rank next link.next is
passing_goes_on infoset number rank next at is link so_far first same =
    let goes = named infoset number rank at so_far.left link first same in
    record {
      left = first.rest;
      members = goes.0;
      behind_left = sym goes.1 ∙ so_far.behind_left;
      less = (let nearer : reach link.next < reach at = first.less in let reached : reach at ≤ reach next = so_far.less in omega (arith, nearer, reached));
    }

pub passing_ends : (infoset : Infoset) (number rank : ℕ) (next at : Option ℕ) (is : List ℕ) → (so_far : PassedSoFar infoset number rank next at is)
    → behind (elements infoset) rank so_far.left ≡ so_far.left
    → AreMembers infoset number rank at (behind (elements infoset) rank is) × (reach at ≤ reach next)
passing_ends infoset number rank next at is so_far none =
    (subst (λ (left : List ℕ). AreMembers infoset number rank at left) (sym none ∙ so_far.behind_left) so_far.members, so_far.less)
