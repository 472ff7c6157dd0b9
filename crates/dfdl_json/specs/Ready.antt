-- Mirror for the prover: an infoset whose members are sorted, and what is written of it.
use Rattle.std.specs.Prelude.{◌≡◌, ℕ, ◌<◌, Bool, true, List, ◌∷◌, length, Option}
use Rattle.json.specs.Token as token
use Rattle.json.specs.Tree.{items_tokens, members_tokens}
use Rattle.serde_json.specs.Data.{Items, Members}
use Rattle.serde_json.specs.Written.{items_outline, members_outline}
use Rattle.dfdl_region.specs.Texts.{HaveTexts}
use Rattle.dfdl_terms.specs.Arrays.{MarksItems}
use Rattle.dfdl_json.specs.Chains.{HaveChains, IsChain, reach}
use Rattle.dfdl_json.specs.Hidden.{is_hidden}
use Rattle.dfdl_json.specs.Ranks.{AreRanks}
use Rattle.dfdl_json.specs.Sorted.{Elements, AreFrom, elements_of, members_of, stands_at}
use Rattle.dfdl_json.specs.declared.chains.Link.{Link}
use Rattle.dfdl_json.specs.declared.writing.Infoset.{Infoset}

-- the tokens of items, with the bracket behind them
abbrev pub tokens_of_items : Items → List token.Token
tokens_of_items items = items_tokens (items_outline items)

-- the tokens of members, with the brace behind them
abbrev pub tokens_of_members : Members → List token.Token
tokens_of_members ms = members_tokens (members_outline ms)

-- what the elements of an infoset have
abbrev pub elements : Infoset → Elements
elements infoset = elements_of infoset.terms.now infoset.ranks.ranks.items infoset.text.now infoset.nodes.now

-- an element is a member of that of a number
abbrev pub stands : Infoset → ℕ → ℕ → Bool
stands infoset number i = stands_at (is_hidden infoset.terms.now) infoset.nodes.now number i

-- the members of an infoset's elements are sorted
pub record IsReady (infoset : Infoset) : Type 0 where
  pub items : MarksItems infoset.terms.now.rows infoset.items
  pub ranks : AreRanks infoset.terms.now infoset.ranks.ranks.items infoset.ranks.count
  pub members : HaveChains infoset.members (length infoset.nodes.now)
      (λ number. members_of infoset.terms.now infoset.ranks.ranks.items infoset.ranks.count infoset.nodes.now number)
  pub texts : HaveTexts infoset.nodes.now infoset.text.now

-- from a link on stand these members of the element of a number, by ranks from this one on
pub record AreMembers (infoset : Infoset) (number r : ℕ) (at : Option ℕ) (is : List ℕ) : Type 0 where
  pub linked : IsChain infoset.members.links.items at is
  pub sorted : AreFrom (elements infoset).rank (stands infoset number) (length infoset.nodes.now) r is

-- a link has a member of the element of a number, and behind it stand these
pub record Starts (infoset : Infoset) (number : ℕ) (link : Link) (is : List ℕ) : Type 0 where
  pub within : link.node < length infoset.nodes.now
  pub stands_there : stands infoset number link.node ≡ true
  pub behind : AreMembers infoset number ((elements infoset).rank link.node) link.next is

-- the first of these members is that of a link
pub record IsFirst (infoset : Infoset) (number : ℕ) (at : Option ℕ) (is : List ℕ) (link : Link) : Type 0 where
  pub rest : List ℕ
  pub is_link : is ≡ link.node ∷ rest
  pub starts : Starts infoset number link rest
  pub less : reach link.next < reach at
