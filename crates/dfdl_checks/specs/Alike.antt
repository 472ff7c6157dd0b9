-- Components that differ in nothing that is asked of them: their elements give the same values, name by name.
use Rattle.std.specs.Prelude.{◌≡◌, ℕ, List, Option, Some, None}
use Rattle.std.specs.List.{AllZip}
use Rattle.dfdl_scope.specs.Scoping.{Element}
use Rattle.dfdl_checks.specs.Judged.{Judged, PrefixJudged}

-- two elements of chains stand at one place, and give the same
pub record IsAlikeElement (a b : Element) : Type 0 where
  pub place : a.place ≡ b.place
  pub own : (name : List ℕ) → a.own name ≡ b.own name
  pub is_twice : (name : List ℕ) → a.is_twice name ≡ b.is_twice name
  pub format : (name : List ℕ) → a.format name ≡ b.format name
  pub by_default : (name : List ℕ) → a.by_default name ≡ b.by_default name

-- two chains have alike elements, one after the other
abbrev pub AreAlikeChains : List Element → List Element → Type 0
AreAlikeChains xs ys = AllZip IsAlikeElement xs ys

-- two types of prefixes have alike chains, and are the same else
pub record IsAlikePrefix (a b : PrefixJudged) : Type 0 where
  pub simple : a.simple ≡ b.simple
  pub place : a.place ≡ b.place
  pub chain : AreAlikeChains a.chain b.chain
  pub scheme : a.scheme ≡ b.scheme

-- the same of two that may be lacking
abbrev pub AreAlikePrefixes : Option PrefixJudged → Option PrefixJudged → Type 0
AreAlikePrefixes None None = Unit {0}
AreAlikePrefixes (Some a) (Some b) = IsAlikePrefix a b
AreAlikePrefixes _ _ = ⊥

-- two components have alike chains, and are the same else
pub record IsAlike (a b : Judged) : Type 0 where
  pub purpose : a.purpose ≡ b.purpose
  pub kind : a.kind ≡ b.kind
  pub place : a.place ≡ b.place
  pub chain : AreAlikeChains a.chain b.chain
  pub facts : a.facts ≡ b.facts
  pub root_bits_by : a.root_bits_by ≡ b.root_bits_by
  pub prefix : AreAlikePrefixes a.prefix b.prefix
  pub scheme : a.scheme ≡ b.scheme
  pub pattern_is_refused : a.pattern_is_refused ≡ b.pattern_is_refused
  pub tests : a.tests ≡ b.tests
  pub sets_variables : a.sets_variables ≡ b.sets_variables
  pub standing : a.standing ≡ b.standing
  pub group_is_unknown : a.group_is_unknown ≡ b.group_is_unknown
