-- A component as the rules see it.
use Rattle.std.specs.Prelude.{ℕ, List, Option, Bool}
use Rattle.dfdl_forms.specs.declared.order.BitOrder.{BitOrder}
use Rattle.dfdl_forms.specs.declared.simple.Simple.{Simple}
use Rattle.dfdl_report.specs.declared.place.Place.{Place}
use Rattle.dfdl_scope.specs.Scoping.{Element}
use Rattle.dfdl_escape_schemes.specs.declared.named.NamedScheme.{NamedScheme}
use Rattle.dfdl_checks.specs.declared.occurring.Bounds.{Bounds}
use Rattle.dfdl_checks.specs.declared.purpose.Purpose.{Purpose}
use Rattle.dfdl_checks.specs.declared.subject.Kind.{Kind}
use Rattle.dfdl_checks.specs.declared.subject.Standing.{Standing}

-- what a component states besides its properties and tests: of an element, minOccurs and maxOccurs, whether it may be nil, and
-- the text of its default value; whether a newVariableInstance stands at it; of an element, whether it is declared where it stands; of a
-- sequence or a choice, whether nothing is in it; and of an element of a simple type, the least and the greatest length of its values
pub record FactsJudged : Type 0 where
  pub bounds : Bounds
  pub is_nillable : Bool
  pub default : Option (List ℕ)
  pub opens_instances : Bool
  pub is_local : Bool
  pub is_empty : Bool
  pub min_length : Option ℕ
  pub max_length : Option ℕ

-- an assert or a discriminator as it is written: which element of which document it is, whether it is a discriminator, its testKind,
-- its failureType, the text of its pattern, the text of its expression, and its message, as far as they are given
pub record TestJudged : Type 0 where
  pub document : ℕ
  pub element : ℕ
  pub discriminates : Bool
  pub kind : Option (List ℕ)
  pub failure : Option (List ℕ)
  pub pattern : Option (List ℕ)
  pub test : Option (List ℕ)
  pub message : Option (List ℕ)

-- the type of a length prefix: which simple type it comes to, if that is carried, its start tag, the chain that its properties
-- are asked of, and what its property escapeSchemeRef names
pub record PrefixJudged : Type 0 where
  pub simple : Option Simple
  pub place : Place
  pub chain : List Element
  pub scheme : NamedScheme

-- a component: what its rows are made for, its kind, its start tag, the chain that its properties are asked of, what else
-- it states, the order of bits of the schema's root, the type that its property prefixLengthType names, if it names one, what its
-- property escapeSchemeRef names, whether the pattern of its length or that of one of its tests can't be built, its tests in
-- their order, whether a setVariable stands at it, where it stands, and whether its property hiddenGroupRef names nothing
pub record Judged : Type 0 where
  pub purpose : Purpose
  pub kind : Kind
  pub place : Place
  pub chain : List Element
  pub facts : FactsJudged
  pub root_bits_by : BitOrder
  pub prefix : Option PrefixJudged
  pub scheme : NamedScheme
  pub pattern_is_refused : Bool
  pub tests : List TestJudged
  pub sets_variables : Bool
  pub standing : Standing
  pub group_is_unknown : Bool
