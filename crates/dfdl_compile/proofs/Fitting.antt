-- The components of documents are those of one schema.
use Rattle.std.proofs.Common.{◌≡◌, ℕ, zero, suc, ◌+◌, ◌<◌, ◌≤◌, List, [], ◌∷◌, ◌++◌, length, map, drop, get_or, slice_get, All, Bool, false, nat_lt, Option, Some, None, IfSome, option_map, ap, sym, subst, ◌∙◌, refl, arith, append_assoc, drop-cons}
use Rattle.std.proofs.lemmas.List.Sums.{sum_by_more}
use Rattle.std.proofs.lemmas.List.{append-nil, get_or-map}
use Rattle.std.proofs.lemmas.List.{length-map}
use Rattle.std.proofs.lemmas.Option.{slice_get-get_or, slice_get_past}
use Rattle.std.proofs.lemmas.Bool.Decides.{nat_tests}
use Rattle.std.proofs.lemmas.List.Elements.{All-nil, All-append, All-push, All-cons}
use Rattle.dfdl_constructs.specs.declared.role.Role.{Role}
use Rattle.dfdl_constructs.specs.declared.role.Role.TheVariants as role
use Rattle.dfdl_documents.specs.Documents.{SchemaDocument}
use Rattle.dfdl_order.specs.Parts.{IsClosed}
use Rattle.dfdl_components.specs.declared.site.Site.{Site}
use Rattle.dfdl_components.specs.Globals.{site}
use Rattle.dfdl_components.specs.Sites.{IsSite, nodes_of, role_of}
use Rattle.dfdl_components.specs.Recursion.{count_of, number_of}
use Rattle.dfdl_checks.specs.declared.purpose.Purpose.{Purpose}
use Rattle.dfdl_checks.specs.declared.purpose.Purpose.TheVariants.{Parsing, Unparsing}
use Rattle.dfdl_checks.specs.declared.subject.Kind.{Kind}
use Rattle.dfdl_checks.specs.declared.subject.Kind.TheVariants as kind
use Rattle.dfdl_chains.specs.declared.typed.Typed.{Typed}
use Rattle.dfdl_chains.specs.declared.typed.Typed.TheVariants.{Carried, NotCarried, Defined}
use Rattle.dfdl_chains.specs.Chains.{group_content}
use Rattle.dfdl_chains.specs.Derivation.{type_of}
use Rattle.dfdl_chains.specs.Everywhere.{for_each, sites_in, sites_before, all_sites}
use Rattle.dfdl_chains.specs.Kinds.{kind_of_type, kind_of_content, kind_of_group, kind_by, kind_at}
use Rattle.dfdl_chains.specs.Parts.{contents, parts_by as role_parts, parts_at}
use Rattle.dfdl_chains.proofs.Numbering.{number_below, length_all}
use Rattle.dfdl_chains.proofs.Within.{parts_are_within}
use Rattle.dfdl_breaches.proofs.Numbering.{at-number, numbered, value-at}
use Rattle.dfdl_breaches.specs.declared.judgement.Judgement.{Judgement}
use Rattle.dfdl_compile.proofs.Hiding.{AreGroupsWithin, hidden_within}
use Rattle.dfdl_compile.proofs.Calculating.{AreCalculatedSimple, calculated_alone}
use Rattle.dfdl_breaches.specs.Judging.{judgement_at}
use Rattle.dfdl_compile.specs.Primitives.{primitive_by}
use Rattle.dfdl_rows.specs.Components.{Schema, AreOfOne, CanHave, HasBranches}
use Rattle.dfdl_terms.specs.Framing.{no_fill}
use Rattle.dfdl_terms.specs.declared.framing.Framing.{Framing}
use Rattle.dfdl_terms.specs.declared.prefix.Measure.{Measure}
use Rattle.dfdl_rows.specs.declared.component.BranchKey.{BranchKey}
use Rattle.dfdl_rows.specs.declared.component.Counted.{Counted}
use Rattle.dfdl_rows.specs.declared.component.Dispatch.{Dispatch}
use Rattle.dfdl_rows.specs.declared.component.Separated.{Separated}
use Rattle.dfdl_rows.specs.declared.component.Component.{Component}
use Rattle.dfdl_rows.specs.declared.component.Component.TheVariants.{Sequence, Choice, ComplexElement, SimpleElement, CalculatedElement, Hidden}
use Rattle.dfdl_rows.specs.declared.refusal.Refusal.{Refusal}
use Rattle.dfdl_report.specs.declared.place.Place.{Place}
use Rattle.dfdl_breaches.specs.Elements.{place_of}
use Rattle.dfdl_compile.specs.Delimiters.{framing_with, separated_by, stated_around}
use Rattle.dfdl_compile.specs.declared.stating.StatedAround.{StatedAround}
use Rattle.dfdl_compile.specs.Shown.{HidesElement}
use Rattle.dfdl_written.specs.Noting.{calculated_type}
use Rattle.dfdl_compile.specs.Statements.{calculation_number, count_by, count_number, first_statement, is_set_first, judgements_of, key_number, measure_number, statements_before}
use Rattle.dfdl_compile.specs.Keying.{dispatch_told, keys_at_number, keys_in, keys_told}
use Rattle.dfdl_compile.specs.Empties.{is_framed_alike}
use Rattle.dfdl_compile.specs.Components.{branch_key, branch_keys, dispatch_at, dispatch_with, keyed_by, keys_at, refusal_at, calculated_by, choice_by, component_by, component_at, component_with, counted_by, hiding_by, measure_by, parts_by, element_name, empty_number, framing_of, nil_number, number_if, part_numbers, prefix_by, prefix_number, separator_number, terminator_number, tried_by, tried_number, components_of}

-- each key is that of one of the branches
keys_within : (told : Site → List (List ℕ)) (parts : List Site) (place count : ℕ) → place + length parts ≤ count
    → All (λ key. key.branch < count) (branch_keys told place parts)
keys_within told [] place count fit = All-nil (λ (key : BranchKey). key.branch < count)
keys_within told (part ∷ parts) place count fit =
    All-append (λ (key : BranchKey). key.branch < count) (map (branch_key place) (told part)) (branch_keys told (place + 1) parts)
    (every (told part)) (keys_within told parts (place + 1) count (omega (arith, fit)))
  where
    every : (keys : List (List ℕ)) → All (λ key. key.branch < count) (map (branch_key place) keys)
    every [] = All-nil (λ (key : BranchKey). key.branch < count)
    every (key ∷ keys) = All-cons (λ (k : BranchKey). k.branch < count) (branch_key place key) (map (branch_key place) keys) (omega (arith, fit)) (every keys)

-- the keys by which a branch is taken, if it is
abbrev keys_by : Option Dispatch → List BranchKey
keys_by None = []
keys_by (Some dispatch) = dispatch.keys

dispatch_fits : (told : Site → List (List ℕ)) (parts : List Site) (count : ℕ) → count ≡ length parts → (question : Option ℕ) (dispatch : Dispatch)
    → option_map (dispatch_with (branch_keys told 0 parts)) question ≡ Some dispatch → HasBranches count (Some dispatch)
unfolding keys_by
dispatch_fits told parts count many None dispatch is = absurd (cc)
dispatch_fits told parts count many (Some number) dispatch is =
    let same : branch_keys told 0 parts ≡ dispatch.keys = ap keys_by is in
    subst (λ (keys : List BranchKey). All (λ key. key.branch < count) keys) same (keys_within told parts 0 count (omega (arith, many)))

-- a list that is made from one that is made
pub twice : {X Y Z : Type 0} (g : Y → Z) (f : X → Y) (xs : List X) → map g (map f xs) ≡ map (λ x. g (f x)) xs
twice g f [] = refl
twice {X} {Y} {Z} g f (x ∷ xs) = ap (λ (zs : List Z). g (f x) ∷ zs) (twice g f xs)

length_of : {X Y : Type 0} (f : X → Y) (xs : List X) → length (map f xs) ≡ length xs
length_of f xs = length-map xs f

-- each of a list that is made
pub each : {X Y : Type 0} (Q : X → Type 0) (P : Y → Type 0) (f : X → Y) → ((x : X) → Q x → P (f x)) → (xs : List X) → All Q xs → All P (map f xs)
each Q P f holds [] all = All-nil P
each {X} {Y} Q P f holds (x ∷ xs) all = All-cons P (f x) (map f xs) (holds x (all 0 x (omega arith)))
    (each Q P f holds xs (λ k d less. all (suc k) d (omega (arith, less))))

-- the elements of the documents are elements of them
in_within : (documents : List SchemaDocument) (d n : ℕ) → d < length documents → n ≤ length (nodes_of documents d) → All (IsSite documents) (sites_in d n)
in_within documents d zero low few = All-nil (IsSite documents)
in_within documents d (suc n) low few = All-push (IsSite documents) (sites_in d n) (site d n) (in_within documents d n low (omega (arith, few))) (low, omega (arith, few))

before_within : (documents : List SchemaDocument) (n : ℕ) → n ≤ length documents → All (IsSite documents) (sites_before documents n)
before_within documents zero few = All-nil (IsSite documents)
before_within documents (suc n) few = All-append (IsSite documents) (sites_before documents n) (sites_in n (length (nodes_of documents n)))
    (before_within documents n (omega (arith, few))) (in_within documents n (length (nodes_of documents n)) (omega (arith, few)) (omega arith))

pub all_within : (documents : List SchemaDocument) → All (IsSite documents) (all_sites documents)
unfolding all_sites
all_within documents = before_within documents (length documents) (omega arith)

pub sites_within : (documents : List SchemaDocument) (sites : List Site) → sites ≡ all_sites documents → All (IsSite documents) sites
sites_within documents sites are = subst (λ (xs : List Site). All (IsSite documents) xs) (sym are) (all_within documents)

-- there are as many components as elements
pub length_uses : (purpose : Purpose) (refused : Site → Bool) (documents : List SchemaDocument) → length (components_of purpose refused documents).uses ≡ count_of documents
unfolding components_of
length_uses purpose refused documents = length_of (part_numbers purpose refused documents) (all_sites documents) ∙ length_all documents

-- the parts of a component are elements of the documents, those of one that hides a group too
pub hiding_within : (documents : List SchemaDocument) (own : Site) (hidden : Option Site) → IsSite documents own → IfSome hidden (IsSite documents)
    → All (IsSite documents) (parts_by documents own hidden)
hiding_within documents own None within there = parts_are_within documents own within
hiding_within documents own (Some content) within there = All-cons (IsSite documents) content [] there (All-nil (IsSite documents))

parts_below : (purpose : Purpose) (refused : Site → Bool) (documents : List SchemaDocument) → AreGroupsWithin documents → (own : Site) → IsSite documents own
    → All (λ p. p < count_of documents) (part_numbers purpose refused documents own)
parts_below purpose refused documents law own within =
    each (IsSite documents) (λ p. p < count_of documents) (number_of documents) (number_below documents)
    (parts_by documents own (judgement_at purpose refused documents own).hidden)
    (hiding_within documents own (judgement_at purpose refused documents own).hidden within (hidden_within purpose refused documents law own))

uses_below : (purpose : Purpose) (refused : Site → Bool) (documents : List SchemaDocument) → AreGroupsWithin documents
    → All (λ parts. All (λ p. p < count_of documents) parts) (components_of purpose refused documents).uses
unfolding components_of
uses_below purpose refused documents law = each (IsSite documents) (λ parts. All (λ p. p < count_of documents) parts) (part_numbers purpose refused documents) (parts_below purpose refused documents law) (all_sites documents) (all_within documents)

-- the groups that are hidden are elements of the documents
pub each_hides : (purpose : Purpose) (refused : Site → Bool) (documents : List SchemaDocument) → AreGroupsWithin documents → (judgements : List Judgement)
    → judgements ≡ for_each documents (judgement_at purpose refused documents) → All (HidesElement documents) judgements
each_hides purpose refused documents law judgements told =
    subst (λ (js : List Judgement). All (HidesElement documents) js) (sym told)
    (each (IsSite documents) (HidesElement documents) (judgement_at purpose refused documents) (λ own within. hidden_within purpose refused documents law own)
    (all_sites documents) (all_within documents))

-- each part is a component
pub closed : (purpose : Purpose) (refused : Site → Bool) (documents : List SchemaDocument) → AreGroupsWithin documents → (uses : List (List ℕ)) → uses ≡ (components_of purpose refused documents).uses → IsClosed uses
closed purpose refused documents law uses are = subst IsClosed (sym are)
    (subst (λ (n : ℕ). All (λ parts. All (λ p. p < n) parts) (components_of purpose refused documents).uses) (sym (length_uses purpose refused documents)) (uses_below purpose refused documents law))

-- what two lists have at one place
fits : {X A B : Type 0} (P : A → B → Type 0) (f : X → A) (g : X → B) → ((x : X) → P (f x) (g x)) → (a : A) (b : B) (xs : List X) (c : ℕ) → c < length xs
    → P (get_or (map f xs) c a) (get_or (map g xs) c b)
fits P f g holds a b [] c less = absurd (omega (arith, less))
fits P f g holds a b (x ∷ xs) zero less = holds x
fits P f g holds a b (x ∷ xs) (suc c) less = fits P f g holds a b xs c (omega (arith, less))

module _ (purpose : Purpose) (refused : Site → Bool) (documents : List SchemaDocument) (own : Site) where
  -- its length by a question, where it has one
  abbrev pub measured : Option Measure
  measured =
      option_map (measure_by (measure_number (first_statement purpose refused documents own) (judgement_at purpose refused documents own)))
      (judgement_at purpose refused documents own).measure

  -- what gives how often it occurs
  abbrev pub often : Counted
  often = counted_by (judgement_at purpose refused documents own).is_parsed
      (number_if (count_number (first_statement purpose refused documents own) (judgement_at purpose refused documents own))
      (judgement_at purpose refused documents own).count)

  -- the element or group of this kind that an element of the documents is
  abbrev pub of_kind : Kind → Component
  of_kind kind = component_by purpose (element_name documents own) (primitive_by (judgement_at purpose refused documents own)) (number_of documents own)
      (framing_of documents (first_statement purpose refused documents own) own (judgement_at purpose refused documents own)) (judgement_at purpose refused documents own).size
      (option_map (prefix_by (prefix_number documents own)) (judgement_at purpose refused documents own).prefix) measured
      (tried_by (is_framed_alike (judgement_at purpose refused documents own)) (nil_number documents own) (empty_number documents own) (tried_number documents own)
      (judgement_at purpose refused documents own).others)
      (option_map (separated_by (separator_number documents own)) (judgement_at purpose refused documents own).markup.separator)
      (judgement_at purpose refused documents own).initiates (judgement_at purpose refused documents own).occurs often kind

  abbrev pub made : Role → Component
  made r = of_kind (kind_by documents own r)

  -- the element of a calculated value that it is where it is one
  abbrev pub of_calculation : Component
  of_calculation = CalculatedElement (element_name documents own) (calculated_type documents own)
      (calculation_number (first_statement purpose refused documents own) (judgement_at purpose refused documents own))
      (framing_of documents (first_statement purpose refused documents own) own (judgement_at purpose refused documents own))

  -- that or another component
  abbrev pub calculation_or : Option (List ℕ) → Component → Component
  calculation_or calculation component = calculated_by calculation (element_name documents own) (calculated_type documents own)
      (calculation_number (first_statement purpose refused documents own) (judgement_at purpose refused documents own))
      (framing_of documents (first_statement purpose refused documents own) own (judgement_at purpose refused documents own)) component

  pub made_is : component_at purpose refused documents own
      ≡ keyed_by (dispatch_at purpose refused documents own) (hiding_by (judgement_at purpose refused documents own).hidden
      (calculation_or (judgement_at purpose refused documents own).calculation (made (role_of documents own))))
  unfolding kind_at
  made_is = refl

  -- what holds of it, of one whose value is calculated, and of one that hides a group
  pub by_calculation : (P : Component → Type 0) (o : Option (List ℕ)) (component : Component) → ((text : List ℕ) → o ≡ Some text → P of_calculation)
      → P component → P (calculation_or o component)
  by_calculation P None component calculated holds = holds
  by_calculation P (Some text) component calculated holds = calculated text refl

  by_hiding : (P : Component → Type 0) (hidden : Option Site) (component : Component) → P Hidden → P component → P (hiding_by hidden component)
  by_hiding P None component hides holds = holds
  by_hiding P (Some content) component hides holds = hides

  -- and of a choice by a key, where it holds of the choice
  pub by_key : (P : Component → Type 0) (o : Option Dispatch) (component : Component)
      → ((dispatch : Dispatch) (framing : Framing) (initiated : Bool) (other : Option Dispatch) → o ≡ Some dispatch → P (Choice framing initiated other)
      → P (Choice framing initiated (Some dispatch)))
      → P component → P (keyed_by o component)
  by_key P None component keyed holds = holds
  by_key P (Some dispatch) (Choice framing initiated other) keyed holds = keyed dispatch framing initiated other refl holds
  by_key P (Some dispatch) (Sequence framing separated initiated) keyed holds = holds
  by_key P (Some dispatch) (ComplexElement name framing box occurs often) keyed holds = holds
  by_key P (Some dispatch) (SimpleElement name simple prim framing own_length tried scanned occurs often) keyed holds = holds
  by_key P (Some dispatch) (CalculatedElement name simple statement framing) keyed holds = holds
  by_key P (Some dispatch) Hidden keyed holds = holds

  pub by_component : (P : Component → Type 0) → P Hidden
      → ((text : List ℕ) → (judgement_at purpose refused documents own).calculation ≡ Some text → P of_calculation)
      → ((dispatch : Dispatch) (framing : Framing) (initiated : Bool) (other : Option Dispatch) → dispatch_at purpose refused documents own ≡ Some dispatch
      → P (Choice framing initiated other) → P (Choice framing initiated (Some dispatch)))
      → P (of_kind (kind_at documents own)) → P (component_at purpose refused documents own)
  by_component P hides calculated keyed holds =
      by_key P (dispatch_at purpose refused documents own)
      (hiding_by (judgement_at purpose refused documents own).hidden
      (calculation_or (judgement_at purpose refused documents own).calculation (of_kind (kind_at documents own)))) keyed
      (by_hiding P (judgement_at purpose refused documents own).hidden
      (calculation_or (judgement_at purpose refused documents own).calculation (of_kind (kind_at documents own))) hides
      (by_calculation P (judgement_at purpose refused documents own).calculation (of_kind (kind_at documents own)) calculated holds))

  typed_fits : (t : Typed) → CanHave (of_kind (kind_of_type t)) (map (number_of documents) (contents documents t))
  typed_fits (Carried simple) = refl
  typed_fits NotCarried = refl
  typed_fits (Defined type) = refl

  choice_fits : (q : Purpose) (framing : Framing) (separated : Option Separated) (initiated : Bool) (parts : List ℕ)
      → CanHave (choice_by q framing separated initiated) parts
  choice_fits Parsing framing separated initiated parts = tt
  choice_fits Unparsing framing separated initiated parts = tt

  group_fits : (k : Kind) (r : Role) → k ≡ kind_of_group r → (parts : List ℕ) → CanHave (of_kind k) parts
  group_fits kind.Sequence r is parts = tt
  group_fits kind.HiddenSequence r is parts = tt
  group_fits kind.Choice r is parts =
      choice_fits purpose (framing_of documents (first_statement purpose refused documents own) own (judgement_at purpose refused documents own))
      (option_map (separated_by (separator_number documents own)) (judgement_at purpose refused documents own).markup.separator)
      (judgement_at purpose refused documents own).initiates parts
  group_fits kind.ComplexElement role.Choice is parts = absurd (cc)
  group_fits kind.ComplexElement _ is parts = absurd (cc)
  group_fits (kind.SimpleElement simple) role.Choice is parts = absurd (cc)
  group_fits (kind.SimpleElement simple) _ is parts = absurd (cc)
  group_fits kind.UncarriedElement role.Choice is parts = absurd (cc)
  group_fits kind.UncarriedElement _ is parts = absurd (cc)
  group_fits (kind.CalculatedElement simple) role.Choice is parts = absurd (cc)
  group_fits (kind.CalculatedElement simple) _ is parts = absurd (cc)
  group_fits (kind.PrefixNumber simple) r is parts = tt

  content_fits : (o : Option Site) (parts : List ℕ) → CanHave (of_kind (kind_of_content documents o)) parts
  content_fits None parts = tt
  content_fits (Some group) parts = group_fits (kind_of_group (role_of documents group)) (role_of documents group) refl parts

  role_fits : (r : Role) → CanHave (made r) (map (number_of documents) (role_parts documents own r))
  role_fits role.GlobalElement = typed_fits (type_of documents own)
  role_fits role.LocalElement = typed_fits (type_of documents own)
  role_fits role.ElementReference = typed_fits (type_of documents own)
  role_fits role.GroupReference = content_fits (group_content documents own) (map (number_of documents) (role_parts documents own role.GroupReference))
  role_fits role.Choice = group_fits kind.Choice role.Choice refl (map (number_of documents) (role_parts documents own role.Choice))
  role_fits _ = tt

  calculation_fits : AreCalculatedSimple purpose refused documents → (o : Option (List ℕ)) → (judgement_at purpose refused documents own).calculation ≡ o
      → CanHave (calculation_or o (made (role_of documents own))) (map (number_of documents) (parts_at documents own))
  unfolding parts_at
  calculation_fits law None is = role_fits (role_of documents own)
  calculation_fits law (Some text) is = ap (map (number_of documents)) (calculated_alone purpose refused documents own text law is)

  hiding_fits : AreCalculatedSimple purpose refused documents → (hidden : Option Site)
      → CanHave (hiding_by hidden (calculation_or (judgement_at purpose refused documents own).calculation (made (role_of documents own))))
      (map (number_of documents) (parts_by documents own hidden))
  hiding_fits law None = calculation_fits law (judgement_at purpose refused documents own).calculation refl
  hiding_fits law (Some content) = refl

  -- the keys are those of its parts
  keys_fit : (o : Option Dispatch) (dispatch : Dispatch) → dispatch_at purpose refused documents own ≡ o → o ≡ Some dispatch
      → HasBranches (length (part_numbers purpose refused documents own)) (Some dispatch)
  keys_fit o dispatch at is =
      dispatch_fits (keys_at purpose refused documents) (parts_by documents own (judgement_at purpose refused documents own).hidden)
      (length (part_numbers purpose refused documents own)) (length_of (number_of documents) (parts_by documents own (judgement_at purpose refused documents own).hidden))
      (number_if (key_number (first_statement purpose refused documents own) (judgement_at purpose refused documents own))
      (judgement_at purpose refused documents own).key) dispatch (at ∙ is)

  pub can_have : AreCalculatedSimple purpose refused documents → CanHave (component_at purpose refused documents own) (part_numbers purpose refused documents own)
  can_have law =
      subst (λ (component : Component). CanHave component (part_numbers purpose refused documents own)) (sym made_is)
      (by_key (λ (component : Component). CanHave component (part_numbers purpose refused documents own)) (dispatch_at purpose refused documents own)
      (hiding_by (judgement_at purpose refused documents own).hidden (calculation_or (judgement_at purpose refused documents own).calculation (made (role_of documents own))))
      (λ dispatch framing initiated other is fits. keys_fit (dispatch_at purpose refused documents own) dispatch refl is)
      (hiding_fits law (judgement_at purpose refused documents own).hidden))

-- the lists of the components are those of one schema
of_one : (purpose : Purpose) (refused : Site → Bool) (documents : List SchemaDocument) → AreCalculatedSimple purpose refused documents → AreOfOne (components_of purpose refused documents).uses (components_of purpose refused documents).components (components_of purpose refused documents).refusals (components_of purpose refused documents).places
unfolding components_of
of_one purpose refused documents law = record {
  counted = length_of (component_at purpose refused documents) (all_sites documents) ∙ sym (length_of (part_numbers purpose refused documents) (all_sites documents));
  judged = length_of (refusal_at purpose refused documents) (all_sites documents) ∙ sym (length_of (part_numbers purpose refused documents) (all_sites documents));
  placed = length_of (place_of documents) (all_sites documents) ∙ sym (length_of (part_numbers purpose refused documents) (all_sites documents));
  fit = λ c less. fits CanHave (component_at purpose refused documents) (part_numbers purpose refused documents) (λ own. can_have purpose refused documents own law) (Sequence no_fill None false) [] (all_sites documents) c
      (omega (arith, less, length_of (part_numbers purpose refused documents) (all_sites documents)));
}

pub are_of_one : (purpose : Purpose) (refused : Site → Bool) (documents : List SchemaDocument) → AreCalculatedSimple purpose refused documents → (uses : List (List ℕ)) (components : List Component) (refusals : List (Option Refusal)) (places : List Place)
    → uses ≡ (components_of purpose refused documents).uses → components ≡ (components_of purpose refused documents).components → refusals ≡ (components_of purpose refused documents).refusals
    → places ≡ (components_of purpose refused documents).places → AreOfOne uses components refusals places
are_of_one purpose refused documents law uses components refusals places a b c d = rw (a, b, c, d) (of_one purpose refused documents law)

-- the components are those of the documents
made_of : List (List ℕ) → List Component → List (Option Refusal) → List Place → Schema
made_of uses components refusals places = record { uses = uses; components = components; refusals = refusals; places = places }

pub whole : (purpose : Purpose) (refused : Site → Bool) (documents : List SchemaDocument) (uses : List (List ℕ)) (components : List Component) (refusals : List (Option Refusal)) (places : List Place)
    → uses ≡ (components_of purpose refused documents).uses → components ≡ (components_of purpose refused documents).components → refusals ≡ (components_of purpose refused documents).refusals
    → places ≡ (components_of purpose refused documents).places → record { uses = uses; components = components; refusals = refusals; places = places } ≡ components_of purpose refused documents
unfolding made_of
whole purpose refused documents uses components refusals places a b c d =
    ap (λ (u : List (List ℕ)). made_of u components refusals places) a
    ∙ (ap (λ (k : List Component). made_of (components_of purpose refused documents).uses k refusals places) b
    ∙ (ap (λ (r : List (Option Refusal)). made_of (components_of purpose refused documents).uses (components_of purpose refused documents).components r places) c
    ∙ ap (λ (p : List Place). made_of (components_of purpose refused documents).uses (components_of purpose refused documents).components (components_of purpose refused documents).refusals p) d))

-- one more of a list that is made from another
pub list_more : {X Y : Type 0} (f : X → Y) (xs : List X) (at : ℕ) (d : X) (y : Y) (made next whole : List Y) → at < length xs → y ≡ f (get_or xs at d)
    → next ≡ made ++ y ∷ [] → made ++ map f (drop at xs) ≡ whole → next ++ map f (drop (at + 1) xs) ≡ whole
list_more {X} {Y} f xs at d y made next whole less y_is next_is same =
    let rest : List Y = map f (drop (at + 1) xs) in
    let after : suc at ≡ at + 1 = omega arith in
    let split : map f (drop at xs) ≡ f (get_or xs at d) ∷ rest
    = ap (map f) (drop-cons xs at d less ∙ ap (λ (k : ℕ). get_or xs at d ∷ drop k xs) after) in
    ap (λ (ys : List Y). ys ++ rest) (next_is ∙ ap (λ (z : Y). made ++ z ∷ []) y_is)
    ∙ (append_assoc made (f (get_or xs at d) ∷ []) rest ∙ (ap (λ (ys : List Y). made ++ ys) (sym split) ∙ same))

-- nothing is left of it
pub list_end : {X Y : Type 0} (f : X → Y) (xs : List X) (at : ℕ) (made whole : List Y) → length xs ≤ at → made ++ map f (drop at xs) ≡ whole → made ≡ whole
list_end {X} {Y} f xs at made whole all same =
    sym (append-nil made) ∙ (ap (λ (ys : List X). made ++ map f ys) (sym (none xs at all)) ∙ same)
  where
    none : (ns : List X) (i : ℕ) → length ns ≤ i → drop i ns ≡ []
    none [] zero less = refl
    none [] (suc i) less = refl
    none (n ∷ ns) zero less = absurd (omega (arith, less))
    none (n ∷ ns) (suc i) less = none ns i (omega (arith, less))

-- no keys are told past all that is told
pub none_told : (judgements : List Judgement) (number place : ℕ) (made : List BranchKey) → false ≡ nat_lt number (length judgements)
    → made ≡ made ++ map (branch_key place) (keys_told judgements number)
none_told judgements number place made past =
    let none : slice_get judgements number ≡ None = slice_get_past judgements number (grind (arith, nat_tests)) in
    sym (append-nil made) ∙ ap (λ (o : Option Judgement). made ++ map (branch_key place) (keys_in o)) (sym none)

-- the keys of one branch more
pub keys_more : (told : Site → List (List ℕ)) (xs : List Site) (at : ℕ) (d : Site) (place : ℕ) (keys : List (List ℕ)) (made next whole : List BranchKey)
    → at < length xs → place ≡ at → keys ≡ told (get_or xs at d) → next ≡ made ++ map (branch_key place) keys
    → made ++ branch_keys told at (drop at xs) ≡ whole → next ++ branch_keys told (at + 1) (drop (at + 1) xs) ≡ whole
keys_more told xs at d place keys made next whole less place_is keys_are next_is same =
    let rest : List BranchKey = branch_keys told (at + 1) (drop (at + 1) xs) in
    let here : List BranchKey = map (branch_key at) (told (get_or xs at d)) in
    let after : suc at ≡ at + 1 = omega arith in
    let split : branch_keys told at (drop at xs) ≡ here ++ rest
    = ap (branch_keys told at) (drop-cons xs at d less ∙ ap (λ (k : ℕ). get_or xs at d ∷ drop k xs) after) in
    ap (λ (ys : List BranchKey). ys ++ rest)
    (next_is ∙ (ap (λ (n : ℕ). made ++ map (branch_key n) keys) place_is ∙ ap (λ (ks : List (List ℕ)). made ++ map (branch_key at) ks) keys_are))
    ∙ (append_assoc made here rest ∙ (ap (λ (ys : List BranchKey). made ++ ys) (sym split) ∙ same))

-- no branch is left
pub keys_end : (told : Site → List (List ℕ)) (xs : List Site) (at : ℕ) (made whole : List BranchKey) → length xs ≤ at
    → made ++ branch_keys told at (drop at xs) ≡ whole → made ≡ whole
keys_end told xs at made whole all same =
    sym (append-nil made) ∙ (ap (λ (ys : List Site). made ++ branch_keys told at ys) (sym (none xs at all)) ∙ same)
  where
    none : (ns : List Site) (i : ℕ) → length ns ≤ i → drop i ns ≡ []
    none [] zero less = refl
    none [] (suc i) less = refl
    none (n ∷ ns) zero less = absurd (omega (arith, less))
    none (n ∷ ns) (suc i) less = none ns i (omega (arith, less))

-- the statements of one element more
pub statements_more : (judgements : List Judgement) (at : ℕ) (d j : Judgement) (first behind : ℕ) → at < length judgements → j ≡ get_or judgements at d
    → first ≡ statements_before judgements at → behind ≡ first + count_by j → behind ≡ statements_before judgements (at + 1)
statements_more judgements at d j first behind less there first_is behind_is =
    behind_is
    ∙ ((λ i. first_is i + count_by (there i))
    ∙ sym (sum_by_more count_by judgements at d less))

-- the element at a place of all has the place's number
pub number_at : (documents : List SchemaDocument) (at : ℕ) (d : Site) → at < length (all_sites documents) → number_of documents (get_or (all_sites documents) at d) ≡ at
number_at documents at d less =
    let there = numbered documents at (omega (arith, less, length_all documents)) in
    ap (λ (k : ℕ). number_of documents (get_or (all_sites documents) k d)) (sym there.number)
    ∙ (ap (number_of documents) (at-number documents there.own d there.is) ∙ there.number)

-- the group that an element hides of which this is told is one of the documents'
pub hides_there : (documents : List SchemaDocument) (judgements : List Judgement) (at : ℕ) (d j : Judgement) → at < length judgements → j ≡ get_or judgements at d
    → All (HidesElement documents) judgements → IfSome j.hidden (IsSite documents)
hides_there documents judgements at d j less is all = subst (λ (k : Judgement). IfSome k.hidden (IsSite documents)) (sym is) (all at d less)

-- what is told of an element is told at its number
told_there : (purpose : Purpose) (refused : Site → Bool) (documents : List SchemaDocument) (judgements : List Judgement)
    → judgements ≡ judgements_of purpose refused documents → (own : Site) → IsSite documents own
    → keys_at_number documents judgements own ≡ keys_at purpose refused documents own
told_there purpose refused documents judgements all own within =
    let low : number_of documents own < length (judgements_of purpose refused documents)
    = let below = number_below documents own within in
    omega (arith, below, length_of (judgement_at purpose refused documents) (all_sites documents), length_all documents) in
    ap (λ (js : List Judgement). keys_in (slice_get js (number_of documents own))) all
    ∙ (ap keys_in (slice_get-get_or (judgements_of purpose refused documents) (number_of documents own) (judgement_at purpose refused documents own) low)
    ∙ ap (λ (j : Judgement). j.keys) (value-at documents (judgement_at purpose refused documents) own (judgement_at purpose refused documents own) within))

keys_there : (purpose : Purpose) (refused : Site → Bool) (documents : List SchemaDocument) (judgements : List Judgement)
    → judgements ≡ judgements_of purpose refused documents → (parts : List Site) (place : ℕ) → All (IsSite documents) parts
    → branch_keys (keys_at_number documents judgements) place parts ≡ branch_keys (keys_at purpose refused documents) place parts
keys_there purpose refused documents judgements all [] place within = refl
keys_there purpose refused documents judgements all (part ∷ parts) place within =
    let here = told_there purpose refused documents judgements all part (within 0 part (omega arith)) in
    let rest = keys_there purpose refused documents judgements all parts (place + 1) (λ k d less. within (suc k) d (omega (arith, less))) in
    λ i. map (branch_key place) (here i) ++ rest i

-- the component at a place of all
pub component_there : (purpose : Purpose) (refused : Site → Bool) (documents : List SchemaDocument) (sites : List Site) (judgements : List Judgement) (at first : ℕ) (component : Component)
    (d : Site) (e j : Judgement) → sites ≡ all_sites documents → judgements ≡ map (judgement_at purpose refused documents) sites → at < length sites
    → j ≡ get_or judgements at e → first ≡ statements_before judgements at → component ≡ component_with purpose documents first (get_or sites at d) j
    → (dispatch : Option Dispatch) (keyed : Component) → IfSome j.hidden (IsSite documents) → dispatch ≡ dispatch_told documents judgements first (get_or sites at d) j
    → keyed ≡ keyed_by dispatch component → keyed ≡ component_at purpose refused documents (get_or sites at d)
component_there purpose refused documents sites judgements at first component d e j sites_are told less there first_is is dispatch keyed hidden dispatch_is keyed_is =
    let own : Site = get_or sites at d in
    let judged : j ≡ judgement_at purpose refused documents (get_or sites at d)
    = there ∙ (ap (λ (js : List Judgement). get_or js at e) told ∙ get_or-map (judgement_at purpose refused documents) sites at d e less) in
    let all : judgements ≡ judgements_of purpose refused documents = told ∙ ap (map (judgement_at purpose refused documents)) sites_are in
    let number : number_of documents (get_or sites at d) ≡ at
    = subst (λ (ss : List Site). at < length ss → number_of documents (get_or ss at d) ≡ at) (sym sites_are) (number_at documents at d) less in
    let counted : first ≡ first_statement purpose refused documents (get_or sites at d)
    = first_is ∙ (ap (λ (js : List Judgement). statements_before js at) all ∙ ap (statements_before (judgements_of purpose refused documents)) (sym number)) in
    let whole : component ≡ component_with purpose documents (first_statement purpose refused documents own) own (judgement_at purpose refused documents own)
    = is
    ∙ (ap (λ (n : ℕ). component_with purpose documents n own j) counted
    ∙ ap (component_with purpose documents (first_statement purpose refused documents own) own) judged) in
    let within : IsSite documents own = sites_within documents sites sites_are at d less in
    let keys : branch_keys (keys_at_number documents judgements) 0 (parts_by documents own j.hidden) ≡ branch_keys (keys_at purpose refused documents) 0 (parts_by documents own j.hidden)
    = keys_there purpose refused documents judgements all (parts_by documents own j.hidden) 0 (hiding_within documents own j.hidden within hidden) in
    let by_key : dispatch ≡ dispatch_at purpose refused documents own
    = dispatch_is
    ∙ ((λ i. option_map (dispatch_with (keys i)) (number_if (key_number (counted i) j) j.key))
    ∙ ap (λ (k : Judgement). option_map (dispatch_with (branch_keys (keys_at purpose refused documents) 0 (parts_by documents own k.hidden)))
    (number_if (key_number (first_statement purpose refused documents own) k) k.key)) judged) in
    keyed_is ∙ (λ i. keyed_by (by_key i) (whole i))

-- the numbers of the parts at a place of all
pub parts_there : (purpose : Purpose) (refused : Site → Bool) (documents : List SchemaDocument) (sites : List Site) (judgements : List Judgement) (at : ℕ) (parts : List Site)
    (numbers : List ℕ) (d : Site) (e j : Judgement) → judgements ≡ map (judgement_at purpose refused documents) sites → at < length sites
    → j ≡ get_or judgements at e → parts ≡ parts_by documents (get_or sites at d) j.hidden → numbers ≡ map (number_of documents) parts
    → numbers ≡ part_numbers purpose refused documents (get_or sites at d)
parts_there purpose refused documents sites judgements at parts numbers d e j told less there parts_are numbers_are =
    let judged : j ≡ judgement_at purpose refused documents (get_or sites at d)
    = there ∙ (ap (λ (js : List Judgement). get_or js at e) told ∙ get_or-map (judgement_at purpose refused documents) sites at d e less) in
    numbers_are
    ∙ (ap (map (number_of documents)) parts_are
    ∙ ap (λ (j : Judgement). map (number_of documents) (parts_by documents (get_or sites at d) j.hidden)) judged)

-- what frames the content of an element of the documents
pub framed : (documents : List SchemaDocument) (first : ℕ) (own : Site) (told : Judgement) (is_first : Bool) (stated : StatedAround) (initiator terminator : ℕ) (framing : Framing)
    → is_first ≡ is_set_first (kind_at documents own) → stated ≡ stated_around is_first first told
    → initiator ≡ number_of documents own → terminator ≡ terminator_number documents own
    → framing ≡ framing_with stated initiator terminator told → framing ≡ framing_of documents first own told
framed documents first own told is_first stated initiator terminator framing first_is stated_is initiator_is terminator_is is =
    is
    ∙ ((λ i. framing_with (stated_is i) (initiator_is i) (terminator_is i) told)
    ∙ ap (λ (b : Bool). framing_with (stated_around b first told) (number_of documents own) (terminator_number documents own) told) first_is)
