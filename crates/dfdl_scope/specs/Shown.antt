-- Mirror for the prover: what properties, formats and chains are seen as.
use Rattle.std.specs.Prelude.{ℕ, List, map, Option, option_map, Some, None, Bool}
use Rattle.std.specs.BTreeMap.{BTreeMap, get_by}
use Rattle.std.specs.BTreeSet.{BTreeSet, contains_by}
use Rattle.std.specs.Cmp.Lexicographic.{slice_cmp}
use Rattle.std.specs.Ordering.{nat_cmp}
use denote.Ref.{Bor}
use Rattle.dfdl_scope.specs.Scoping as scoping
use Rattle.dfdl_scope.specs.Scoping.{Given, nothing}
use Rattle.dfdl_scope.specs.declared.properties.Properties.{Properties}
use Rattle.dfdl_scope.specs.declared.format.Format.{Format}
use Rattle.dfdl_scope.specs.declared.component.Element.{Element}
use Rattle.dfdl_scope.specs.declared.component.Component.{Component}

-- a text that may be lacking
abbrev pub lent_text : Option (Bor (List ℕ)) → Option (List ℕ)
lent_text text = option_map (λ t. t.now) text

-- the value of a name in an ordered map
abbrev pub value_in : BTreeMap (Bor (List ℕ)) (Bor (List ℕ)) → Given
value_in values name = lent_text (get_by (λ k. slice_cmp nat_cmp name k.now) values)

-- what properties give
abbrev pub given : Properties → Given
given properties = value_in properties.values

-- the set has the name
abbrev pub is_in : BTreeSet (Bor (List ℕ)) → List ℕ → Bool
is_in names name = contains_by (λ k. slice_cmp nat_cmp name k.now) names

-- which names properties give twice
abbrev pub given_twice : Properties → List ℕ → Bool
given_twice properties = is_in properties.twice

-- what a format gives
abbrev pub format_given : Format → Given
format_given format = given format.joined

-- what a format gives that may be lacking
abbrev pub given_if : Option (Bor Format) → Given
given_if None = nothing
given_if (Some format) = format_given format.now

-- an element of a chain
abbrev pub element_of : Element → scoping.Element
element_of element = record {
  place = element.place;
  own = given element.own.now;
  is_twice = given_twice element.own.now;
  format = given_if element.format;
  by_default = given_if element.default;
}

-- the chain of a component
abbrev pub chain_of : Component → List scoping.Element
chain_of component = map element_of component.chain.items
