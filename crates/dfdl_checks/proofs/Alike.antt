-- Components that are alike are the same, since functions that agree at each name are.
use Rattle.std.proofs.Common.{◌≡◌, refl, ap, List, ◌∷◌, [], Option, Some, None}
use mathlib.Core.Path.{fun_ext}
use Rattle.dfdl_scope.specs.Scoping.{Element}
use Rattle.dfdl_checks.specs.Alike.{AreAlikeChains, AreAlikePrefixes, IsAlike, IsAlikeElement, IsAlikePrefix}
use Rattle.dfdl_checks.specs.Judged.{Judged, PrefixJudged}

-- elements that are alike are the same
same-element : (a b : Element) → IsAlikeElement a b → a ≡ b
same-element a b alike = λ i. record {
  place = alike.place i;
  own = fun_ext alike.own i;
  is_twice = fun_ext alike.is_twice i;
  format = fun_ext alike.format i;
  by_default = fun_ext alike.by_default i;
}

-- chains that are alike are the same
pub same-chain : (xs ys : List Element) → AreAlikeChains xs ys → xs ≡ ys
same-chain [] [] alike = refl
same-chain [] (b ∷ ys) alike = absurd alike
same-chain (a ∷ xs) [] alike = absurd alike
same-chain (a ∷ xs) (b ∷ ys) alike = λ i. same-element a b alike.0 i ∷ same-chain xs ys alike.1 i

-- types of prefixes that are alike are the same
same-type : (a b : PrefixJudged) → IsAlikePrefix a b → a ≡ b
same-type a b alike = λ i. record {
  simple = alike.simple i;
  place = alike.place i;
  chain = same-chain a.chain b.chain alike.chain i;
  scheme = alike.scheme i;
}

-- so are those that may be lacking
same-prefix : (p q : Option PrefixJudged) → AreAlikePrefixes p q → p ≡ q
same-prefix None None alike = refl
same-prefix None (Some b) alike = absurd alike
same-prefix (Some a) None alike = absurd alike
same-prefix (Some a) (Some b) alike = ap Some (same-type a b alike)

-- components that are alike are the same
pub same-component : (a b : Judged) → IsAlike a b → a ≡ b
same-component a b alike = λ i. record {
  purpose = alike.purpose i;
  kind = alike.kind i;
  place = alike.place i;
  chain = same-chain a.chain b.chain alike.chain i;
  facts = alike.facts i;
  root_bits_by = alike.root_bits_by i;
  prefix = same-prefix a.prefix b.prefix alike.prefix i;
  scheme = alike.scheme i;
  pattern_is_refused = alike.pattern_is_refused i;
  tests = alike.tests i;
  sets_variables = alike.sets_variables i;
  standing = alike.standing i;
  group_is_unknown = alike.group_is_unknown i;
}
