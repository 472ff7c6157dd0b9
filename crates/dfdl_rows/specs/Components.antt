-- The components of a schema: what each one is, and which components it has as its parts ('DFDL Schema Component Model').
use Rattle.std.specs.Prelude.{◌≡◌, ℕ, ◌<◌, ◌≤◌, Bool, true, false, List, [], length, map, All, get_or, Option, None, Some}
use Rattle.dfdl_report.specs.declared.place.Place.{Place}
use Rattle.dfdl_terms.specs.declared.delimiters.Delimiter.{Delimiter}
use Rattle.dfdl_terms.specs.declared.framing.Framing.{Framing}
use Rattle.dfdl_terms.specs.declared.occurs.Occurs.{Occurs}
use Rattle.dfdl_terms.specs.declared.representations.Representations.{Representations}
use Rattle.dfdl_terms.specs.Framing.{no_fill}
use Rattle.dfdl_terms.specs.Occurs.{occurs_once}
use Rattle.dfdl_terms.specs.Rows.{AreStatements, AreWithin, IsWithin}
use Rattle.dfdl_order.specs.Parts.{uses_of, IsOrder, Places}
use Rattle.dfdl_rows.specs.declared.component.Component.{Component}
use Rattle.dfdl_rows.specs.declared.component.Component.TheVariants.{Sequence, Choice, ComplexElement, SimpleElement, CalculatedElement, Hidden}
use Rattle.dfdl_rows.specs.declared.component.Separated.{Separated}
use Rattle.dfdl_rows.specs.declared.component.Dispatch.{Dispatch}
use Rattle.dfdl_rows.specs.declared.component.ContentBox.{ContentBox}
use Rattle.dfdl_rows.specs.declared.component.ContentBox.TheVariants.{Unbounded, Sized, Prefixed, Measured}
use Rattle.dfdl_rows.specs.declared.component.LeafLength.{LeafLength}
use Rattle.dfdl_rows.specs.declared.component.LeafLength.TheVariants as leaf_length
use Rattle.dfdl_rows.specs.Framing.{has_framing}
use Rattle.dfdl_rows.specs.Slots.{slots_of}
use Rattle.dfdl_rows.specs.declared.times.Times.{Times}
use Rattle.dfdl_rows.specs.Times.{question_of}
use Rattle.dfdl_rows.specs.declared.refusal.Refusal.{Refusal}

-- no representation is tried before the normal one
abbrev pub no_trials : Representations
no_trials = record {
  nil = None;
  empty = None;
  refuses_empty = false;
  are_several = false;
  where_tried = record { empty = None; refuses_empty = false; are_several = false };
}

-- by a component's number: its parts in schema order, what it is, the refusal of its own, if it has one, and where it begins
pub record Schema : Type 0 where
  pub uses : List (List ℕ)
  pub components : List Component
  pub refusals : List (Option Refusal)
  pub places : List Place

-- what a component is
abbrev pub component_at : List Component → ℕ → Component
component_at components c = get_or components c (Sequence no_fill None false)

-- where a component begins
abbrev pub place_at : List Place → ℕ → Place
place_at places c = get_or places c (record { document = 0; at = 0 })

-- each key of a choice leads to one of so many branches
abbrev pub HasBranches : ℕ → Option Dispatch → Type 0
HasBranches count None = Unit {0}
HasBranches count (Some dispatch) = All (λ key. key.branch < count) dispatch.keys

-- a component of this kind can have these parts: a complex element its content, a hidden group that group, and any other element none; the keys
-- of a choice lead to parts of it
abbrev pub CanHave : Component → List ℕ → Type 0
CanHave (Sequence framing separated initiated) parts = Unit {0}
CanHave (Choice framing initiated dispatch) parts = HasBranches (length parts) dispatch
CanHave (ComplexElement name framing box occurs often) parts = length parts ≡ 1
CanHave (SimpleElement name simple prim framing own_length tried scanned occurs often) parts = parts ≡ []
CanHave (CalculatedElement name simple statement framing) parts = parts ≡ []
CanHave Hidden parts = length parts ≡ 1

-- the lists are those of one schema
pub record AreOfOne (uses : List (List ℕ)) (components : List Component) (refusals : List (Option Refusal)) (places : List Place) : Type 0 where
  pub counted : length components ≡ length uses
  pub judged : length refusals ≡ length uses
  pub placed : length places ≡ length uses
  pub fit : (c : ℕ) → c < length uses → CanHave (component_at components c) (uses_of uses c)

-- the components can be put in an order in which each stands behind its parts
abbrev pub HasOrder : List (List ℕ) → Type 0
HasOrder uses = (order : Places) × IsOrder uses order

-- the primitive of the length prefix before a simple content, where there is one, is one of so many
abbrev pub HasPrefixPrimitive : ℕ → LeafLength → Type 0
HasPrefixPrimitive count leaf_length.Own = Unit {0}
HasPrefixPrimitive count (leaf_length.Prefixed prefix) = prefix.prim < count
HasPrefixPrimitive count (leaf_length.Measured measure) = Unit {0}

-- the primitive of the length prefix of a box, where it has one, is one of so many
abbrev pub HasBoxPrimitive : ℕ → ContentBox → Type 0
HasBoxPrimitive count Unbounded = Unit {0}
HasBoxPrimitive count (Sized bits) = Unit {0}
HasBoxPrimitive count (Prefixed prefix) = prefix.prim < count
HasBoxPrimitive count (Measured measure) = Unit {0}

-- the primitives of a component are some of so many: those of a simple element, whose representations are tried by some too,
-- and those of length prefixes; a calculated value is read by none
abbrev pub HasPrimitive : ℕ → Component → Type 0
HasPrimitive count (Sequence framing separated initiated) = Unit {0}
HasPrimitive count (Choice framing initiated dispatch) = Unit {0}
HasPrimitive count (ComplexElement name framing box occurs often) = HasBoxPrimitive count box
HasPrimitive count (SimpleElement name simple prim framing own_length tried scanned occurs often) = (prim < count) × HasPrefixPrimitive count own_length × AreWithin count tried
HasPrimitive count (CalculatedElement name simple statement framing) = Unit {0}
HasPrimitive count Hidden = Unit {0}

-- what frames the content of a component
abbrev pub framing_in : Component → Framing
framing_in (Sequence framing separated initiated) = framing
framing_in (Choice framing initiated dispatch) = framing
framing_in (ComplexElement name framing box occurs often) = framing
framing_in (SimpleElement name simple prim framing own_length tried scanned occurs often) = framing
framing_in (CalculatedElement name simple statement framing) = framing
framing_in Hidden = no_fill

-- the list of a delimiter, where there is one, is one of so many
abbrev pub HasList : ℕ → Option Delimiter → Type 0
HasList count None = Unit {0}
HasList count (Some delimiter) = delimiter.list < count

-- the separators in the content of a component, where it is a sequence with some
abbrev pub separated_in : Component → Option Separated
separated_in (Sequence framing separated initiated) = separated
separated_in (Choice framing initiated dispatch) = None
separated_in (ComplexElement name framing box occurs often) = None
separated_in (SimpleElement name simple prim framing own_length tried scanned occurs often) = None
separated_in (CalculatedElement name simple statement framing) = None
separated_in Hidden = None

-- the list of separators, where there are some, is one of so many
abbrev pub HasSeparators : ℕ → Option Separated → Type 0
HasSeparators count None = Unit {0}
HasSeparators count (Some separated) = separated.list < count

-- the lists of a component's initiator, terminator and separators are some of so many
abbrev pub HasDelimiters : ℕ → Component → Type 0
HasDelimiters count component =
    HasList count (framing_in component).initiator × HasList count (framing_in component).terminator × HasSeparators count (separated_in component)

-- the statement that calculates the value of a component, where one does, is one of so many
abbrev pub HasCalculation : ℕ → Component → Type 0
HasCalculation count (Sequence framing separated initiated) = Unit {0}
HasCalculation count (Choice framing initiated dispatch) = Unit {0}
HasCalculation count (ComplexElement name framing box occurs often) = Unit {0}
HasCalculation count (SimpleElement name simple prim framing own_length tried scanned occurs often) = Unit {0}
HasCalculation count (CalculatedElement name simple statement framing) = statement < count
HasCalculation count Hidden = Unit {0}

-- the question that tells how long a box is, where one does, is one of so many statements
abbrev pub HasBoxQuestion : ℕ → ContentBox → Type 0
HasBoxQuestion count Unbounded = Unit {0}
HasBoxQuestion count (Sized bits) = Unit {0}
HasBoxQuestion count (Prefixed prefix) = Unit {0}
HasBoxQuestion count (Measured measure) = measure.question < count

-- so is that which tells how long a simple content is
abbrev pub HasLeafQuestion : ℕ → LeafLength → Type 0
HasLeafQuestion count leaf_length.Own = Unit {0}
HasLeafQuestion count (leaf_length.Prefixed prefix) = Unit {0}
HasLeafQuestion count (leaf_length.Measured measure) = measure.question < count

-- so is that which tells the key of a choice
abbrev pub HasKeyQuestion : ℕ → Option Dispatch → Type 0
HasKeyQuestion count None = Unit {0}
HasKeyQuestion count (Some dispatch) = dispatch.question < count

-- the questions of a component are some of so many statements: that which tells how long its content is, that which tells how often it occurs,
-- and that which tells the key of a choice
abbrev pub HasQuestions : ℕ → Component → Type 0
HasQuestions count (Sequence framing separated initiated) = Unit {0}
HasQuestions count (Choice framing initiated dispatch) = HasKeyQuestion count dispatch
HasQuestions count (ComplexElement name framing box occurs often) = HasBoxQuestion count box × IsWithin count (question_of often)
HasQuestions count (SimpleElement name simple prim framing own_length tried scanned occurs often) = HasLeafQuestion count own_length × IsWithin count (question_of often)
HasQuestions count (CalculatedElement name simple statement framing) = Unit {0}
HasQuestions count Hidden = Unit {0}

-- what frames the content of a component names some of so many statements: tests, openings, settings, and those behind it
abbrev pub HasFramingStatements : ℕ → Framing → Type 0
HasFramingStatements count framing =
    AreStatements count framing.before × AreStatements count framing.openings × AreStatements count framing.settings × AreStatements count framing.behind

-- the statements of a component are some of so many: those that frame it, that which calculates its value, and its questions
abbrev pub HasStatements : ℕ → Component → Type 0
HasStatements count component = HasFramingStatements count (framing_in component) × HasCalculation count component × HasQuestions count component

-- the box around the content of a component
abbrev pub box_in : Component → ContentBox
box_in (Sequence framing separated initiated) = Unbounded
box_in (Choice framing initiated dispatch) = Unbounded
box_in (ComplexElement name framing box occurs often) = box
box_in (SimpleElement name simple prim framing own_length tried scanned occurs often) = Unbounded
box_in (CalculatedElement name simple statement framing) = Unbounded
box_in Hidden = Unbounded

-- what gives the length of the content of a simple element; other components have none to be given
abbrev pub length_in : Component → LeafLength
length_in (Sequence framing separated initiated) = leaf_length.Own
length_in (Choice framing initiated dispatch) = leaf_length.Own
length_in (ComplexElement name framing box occurs often) = leaf_length.Own
length_in (SimpleElement name simple prim framing own_length tried scanned occurs often) = own_length
length_in (CalculatedElement name simple statement framing) = leaf_length.Own
length_in Hidden = leaf_length.Own

-- how often a component occurs where it stands in a group
abbrev pub occurs_in : Component → Occurs
occurs_in (Sequence framing separated initiated) = occurs_once
occurs_in (Choice framing initiated dispatch) = occurs_once
occurs_in (ComplexElement name framing box occurs often) = occurs
occurs_in (SimpleElement name simple prim framing own_length tried scanned occurs often) = occurs
occurs_in (CalculatedElement name simple statement framing) = occurs_once
occurs_in Hidden = occurs_once

-- the question that tells how often a component occurs, where one does
abbrev pub question_in : Component → Option ℕ
question_in (Sequence framing separated initiated) = None
question_in (Choice framing initiated dispatch) = None
question_in (ComplexElement name framing box occurs often) = question_of often
question_in (SimpleElement name simple prim framing own_length tried scanned occurs often) = question_of often
question_in (CalculatedElement name simple statement framing) = None
question_in Hidden = None

-- a component is a choice
abbrev pub is_choice : Component → Bool
is_choice (Sequence framing separated initiated) = false
is_choice (Choice framing initiated dispatch) = true
is_choice (ComplexElement name framing box occurs often) = false
is_choice (SimpleElement name simple prim framing own_length tried scanned occurs often) = false
is_choice (CalculatedElement name simple statement framing) = false
is_choice Hidden = false

-- a component is a hidden group
abbrev pub is_hidden : Component → Bool
is_hidden (Sequence framing separated initiated) = false
is_hidden (Choice framing initiated dispatch) = false
is_hidden (ComplexElement name framing box occurs often) = false
is_hidden (SimpleElement name simple prim framing own_length tried scanned occurs often) = false
is_hidden (CalculatedElement name simple statement framing) = false
is_hidden Hidden = true

-- the value of a component is calculated
abbrev pub is_calculated : Component → Bool
is_calculated (Sequence framing separated initiated) = false
is_calculated (Choice framing initiated dispatch) = false
is_calculated (ComplexElement name framing box occurs often) = false
is_calculated (SimpleElement name simple prim framing own_length tried scanned occurs often) = false
is_calculated (CalculatedElement name simple statement framing) = true
is_calculated Hidden = false

-- there is neither a statement nor fill nor a delimiter nor a box around the content of a component, no separator in it, and neither a length prefix
-- before it nor an expression that gives its length, no instance of a variable is open in it, it is no choice and no hidden group, and it occurs no more
-- than once, and no occurrence of it is tried or told by an expression; its value isn't calculated
pub record IsBareComponent (component : Component) : Type 0 where
  pub unframed : has_framing (framing_in component) ≡ false
  pub unopened : (framing_in component).openings.count ≡ 0
  pub unconcluded : (framing_in component).behind.count ≡ 0
  pub unboxed : box_in component ≡ Unbounded
  pub unmeasured : length_in component ≡ leaf_length.Own
  pub unseparated : separated_in component ≡ None
  pub unchosen : is_choice component ≡ false
  pub unhidden : is_hidden component ≡ false
  pub uncalculated : is_calculated component ≡ false
  pub once : (occurs_in component).least ≤ 1
  pub untried : (occurs_in component).further ≡ 0
  pub untold : question_in component ≡ None

-- how often each part of a component occurs in it, in schema order
abbrev pub slots_at : Schema → ℕ → List Times
slots_at s c = map (λ p. slots_of (component_at s.components p) (uses_of s.uses p)) (uses_of s.uses c)
