-- What is found in documents is an element of them.
use Rattle.std.proofs.Common.{◌≡◌, ℕ, zero, suc, ◌<◌, List, [], ◌∷◌, length, All, Option, Some, None, Bool, true, false, ◌&&◌, nat_lt, if◌then◌else◌, ◌⊎◌, bytes_eq, sym, subst, refl, arith, inl, inr, option_map, IfSome, is_some, codes}
use Rattle.std.specs.List.{find, flat_map}
use Rattle.std.proofs.lemmas.Bool.{ltb-true}
use Rattle.std.proofs.lemmas.List.Elements.{All-nil, All-append, All-cons}
use Rattle.dfdl_markup.specs.Trees.{Node, node_at}
use Rattle.dfdl_constructs.specs.declared.role.Role.{Role}
use Rattle.dfdl_constructs.specs.declared.role.Role.TheVariants as role
use Rattle.dfdl_constructs.specs.Elements.{schema_namespace}
use Rattle.dfdl_constructs.specs.Roles.{is_single_at, single_at}
use Rattle.dfdl_documents.specs.Documents.{SchemaDocument}
use Rattle.dfdl_forms.specs.declared.simple.Simple.{Simple}
use Rattle.dfdl_components.specs.declared.kind.ComponentKind.{ComponentKind}
use Rattle.dfdl_components.specs.declared.kind.ComponentKind.TheVariants as kind
use Rattle.dfdl_components.specs.declared.named.Named.{Named}
use Rattle.dfdl_components.specs.declared.named.Named.TheVariants as named
use Rattle.dfdl_components.specs.declared.site.Site.{Site}
use Rattle.dfdl_components.specs.Searching.{or_else, first_below}
use Rattle.dfdl_components.specs.BuiltIns.{carried_types, other_types}
use Rattle.dfdl_components.specs.Sites.{IsSite, nodes_of, role_of}
use Rattle.dfdl_components.specs.Globals.{site, global, global_in, first_in, is_named, named_at}
use Rattle.dfdl_components.specs.Naming.{built_in, is_among, named_in, resolved, namespace_written, is_type}
use Rattle.dfdl_constructs.specs.Values.{local_in, prefix_in}
use Rattle.dfdl_chains.specs.declared.typed.Typed.{Typed}
use Rattle.dfdl_chains.specs.declared.typed.Typed.TheVariants.{Carried, NotCarried, Defined}
use Rattle.dfdl_chains.specs.Declarations as declarations
use Rattle.dfdl_chains.specs.Declarations.{component_of, named_if, attribute_of, part_inside, referred, or_itself, declaration_by}
use Rattle.dfdl_chains.specs.Derivation as derivation
use Rattle.dfdl_chains.specs.Types.{simple_named}
use Rattle.std.proofs.Common.{Result, Ok, Err, OnOk}
use Rattle.std.proofs.lemmas.List.Concat.{flat_map-cons}
use Rattle.dfdl_chains.specs.Parts.{is_particle, is_particle_at, if_particle, particles, particles_if, content_of, contents, parts_by, parts_at}
use Rattle.std.specs.Option.{option_and_then}
use Rattle.dfdl_components.specs.Recursion.{count_of}
use Rattle.dfdl_chains.specs.Chains.{listed, declaration_sites, group_content, chain_by, chain_sites}
use Rattle.dfdl_chains.specs.Lengths.{types_by}
use Rattle.dfdl_chains.specs.Shown.{IsTypeOf}

-- one of two answers
or_is : {X : Type 0} (a b : Option X) (x : X) → or_else a b ≡ Some x → (a ≡ Some x) ⊎ (b ≡ Some x)
or_is None b x e = inr e
or_is (Some y) b x e = inl e

-- a number that has an answer
first_is : {X : Type 0} (answer : ℕ → Option X) (n : ℕ) (x : X) → first_below answer n ≡ Some x → (k : ℕ) × (k < n) × (answer k ≡ Some x)
unfolding first_below
first_is {X} answer zero x e = absurd (none x e)
  where
    none : (y : X) → None ≡ Some y → ⊥
    none y never = cc
first_is {X} answer (suc n) x e = elim (or_is (first_below answer n) (answer n) x e) [
  | inl before ↦ let found = first_is answer n x before in let low = found.1 in (found.0, omega (arith, low), found.2)
  | inr here ↦ (n, omega arith, here)
]

-- an answer under a test
if_is : {X : Type 0} (test : Bool) (o : Option X) (x : X) → (if test then o else None) ≡ Some x → o ≡ Some x
if_is true o x e = e
if_is {X} false o x e = absurd (none x e)
  where
    none : (y : X) → None ≡ Some y → ⊥
    none y never = cc

-- an answer that is made from another
map_is : {X Y : Type 0} (f : X → Y) (o : Option X) (y : Y) → option_map f o ≡ Some y → (x : X) × (o ≡ Some x) × (f x ≡ y)
map_is {X} {Y} f None y e = absurd (none y e)
  where
    none : (z : Y) → None ≡ Some z → ⊥
    none z never = cc
map_is {X} {Y} f (Some x) y e = (x, refl, same (f x) y e)
  where
    same : (a b : Y) → Some a ≡ Some b → a ≡ b
    same a b is = cc

-- the element of a name in a document
first_within : (nodes : List Node) (k : ComponentKind) (local : List ℕ) (e : ℕ) → first_in nodes k local ≡ Some e → e < length nodes
first_within nodes k local e is =
    let found = first_is (named_at nodes k local) (length nodes) e is in
    let here : Some found.0 ≡ Some e = if_is (is_named nodes k local found.0) (Some found.0) e found.2 in
    subst (λ (n : ℕ). n < length nodes) (same found.0 e here) found.1
  where
    same : (a b : ℕ) → Some a ≡ Some b → a ≡ b
    same a b one = cc

-- the component of a name
global_within : (documents : List SchemaDocument) (k : ComponentKind) (namespace local : List ℕ) (own : Site) → global documents k namespace local ≡ Some own → IsSite documents own
global_within documents k namespace local own is =
    let found = first_is (global_in documents k namespace local) (length documents) own is in
    let inside = map_is (site found.0) (first_in (nodes_of documents found.0) k local) own (if_is _ _ own found.2) in
    subst (IsSite documents) inside.2 (found.1, first_within (nodes_of documents found.0) k local inside.0 inside.1)

-- a simple type of XML Schema's is no component
built_in_not : (local : List ℕ) (own : Site) → built_in local ≡ Some (named.Component own) → ⊥
built_in_not local own is = by_tests (is_among carried_types local) (is_among other_types local) is
  where
    by_tests : (a b : Bool) → (if a then Some named.Carried else (if b then Some named.NotCarried else None)) ≡ Some (named.Component own) → ⊥
    by_tests true b never = cc
    by_tests false true never = cc
    by_tests false false never = cc

-- a component that a name names
resolved_within : (documents : List SchemaDocument) (from : Site) (k : ComponentKind) (text : List ℕ) (own : Site) → resolved documents from k text ≡ Some (named.Component own) → IsSite documents own
resolved_within documents from k text own is = by_namespace (namespace_written documents from (prefix_in text)) is
  where
    by_test : (test : Bool) (namespace : List ℕ) → (if test then built_in (local_in text) else option_map named.Component (global documents k namespace (local_in text))) ≡ Some (named.Component own) → IsSite documents own
    by_test true namespace e = absurd (built_in_not (local_in text) own e)
    by_test false namespace e =
        let made = map_is named.Component (global documents k namespace (local_in text)) (named.Component own) e in
        subst (IsSite documents) (same made.0 own made.2) (global_within documents k namespace (local_in text) made.0 made.1)
      where
        same : (a b : Site) → named.Component a ≡ named.Component b → a ≡ b
        same a b one = cc

    by_namespace : (namespace : Option (List ℕ)) → named_in documents k namespace (local_in text) ≡ Some (named.Component own) → IsSite documents own
    by_namespace None e = absurd (none (named.Component own) e)
      where
        none : (z : Named) → None ≡ Some z → ⊥
        none z never = cc
    by_namespace (Some namespace) e = by_test (is_type k && (bytes_eq namespace schema_namespace && is_some (built_in (local_in text)))) namespace e

-- what a name names is no component, or one of the documents
component_within : (documents : List SchemaDocument) (o : Option Named) → ((own : Site) → o ≡ Some (named.Component own) → IsSite documents own) → IfSome (component_of o) (IsSite documents)
component_within documents None found = tt
component_within documents (Some (named.Component own)) found = found own refl
component_within documents (Some named.Carried) found = tt
component_within documents (Some named.NotCarried) found = tt

named_if_within : (documents : List SchemaDocument) (from : Site) (k : ComponentKind) (text : Option (List ℕ)) (own : Site) → named_if documents from k text ≡ Some (named.Component own) → IsSite documents own
named_if_within documents from k None own e = absurd (none (named.Component own) e)
  where
    none : (z : Named) → None ≡ Some z → ⊥
    none z never = cc
named_if_within documents from k (Some text) own e = resolved_within documents from k text own e

-- the component that a `ref` names
pub referred_is_within : (documents : List SchemaDocument) (from : Site) (k : ComponentKind) → IfSome (referred documents from k) (IsSite documents)
referred_is_within documents from k = component_within documents (named_if documents from k (attribute_of documents from (codes "ref"))) (named_if_within documents from k (attribute_of documents from (codes "ref")))

pub referred_within : (documents : List SchemaDocument) (from : Site) (k : ComponentKind) (o : Option Site) → o ≡ referred documents from k → IfSome o (IsSite documents)
referred_within documents from k o is = subst (λ (p : Option Site). IfSome p (IsSite documents)) (sym is) (referred_is_within documents from k)

-- the group that a text names
pub named_group_within : (documents : List SchemaDocument) (from : Site) (text : List ℕ) (o : Option Site)
    → o ≡ component_of (resolved documents from kind.Group text) → IfSome o (IsSite documents)
named_group_within documents from text o is =
    subst (λ (p : Option Site). IfSome p (IsSite documents)) (sym is)
    (component_within documents (resolved documents from kind.Group text) (resolved_within documents from kind.Group text))

-- a component or the element itself
itself_within : (documents : List SchemaDocument) (own : Site) (o : Option Site) → IsSite documents own → IfSome o (IsSite documents) → IsSite documents (or_itself own o)
itself_within documents own None within other = within
itself_within documents own (Some s) within other = other

-- an element that a search finds
find_by : (test : ℕ → Bool) (y x : ℕ) (others : Option ℕ) → (others ≡ Some x → test x ≡ true) → (b : Bool) → test y ≡ b → (if b then Some y else others) ≡ Some x → test x ≡ true
find_by test y x others behind true is found = subst (λ (n : ℕ). test n ≡ true) (same y x found) is
  where
    same : (a b : ℕ) → Some a ≡ Some b → a ≡ b
    same a b one = cc
find_by test y x others behind false is found = behind found

find_is : (test : ℕ → Bool) (xs : List ℕ) (x : ℕ) → find test xs ≡ Some x → test x ≡ true
find_is test [] x e = absurd (none x e)
  where
    none : (y : ℕ) → None ≡ Some y → ⊥
    none y never = cc
find_is test (y ∷ ys) x e = find_by test y x (find test ys) (find_is test ys x) (test y) refl e

pub first_holds : (a b : Bool) → (a && b) ≡ true → a ≡ true
first_holds true b e = refl
first_holds false b e = e

-- the part that stands only once
pub inside_is_within : (documents : List SchemaDocument) (own : Site) → IsSite documents own → IfSome (part_inside documents own) (IsSite documents)
inside_is_within documents own within = by_part (single_at nodes own.element) refl
  where
    nodes : List Node
    nodes = nodes_of documents own.document

    by_part : (o : Option ℕ) → single_at (nodes_of documents own.document) own.element ≡ o → IfSome (option_map (site own.document) o) (IsSite documents)
    by_part None is = tt
    by_part (Some e) is =
        let test = find_is (is_single_at (nodes_of documents own.document) (role_of documents own)) (node_at (nodes_of documents own.document) own.element).children e is in
        (within.0, ltb-true e (length (nodes_of documents own.document)) (first_holds (nat_lt e (length (nodes_of documents own.document))) _ test))

pub inside_within : (documents : List SchemaDocument) (own : Site) (o : Option Site) → IsSite documents own → o ≡ part_inside documents own → IfSome o (IsSite documents)
inside_within documents own o within is = subst (λ (p : Option Site). IfSome p (IsSite documents)) (sym is) (inside_is_within documents own within)

-- the declaration of an element
pub declaration_within : (documents : List SchemaDocument) (own found : Site) (r : Role) → IsSite documents own → found ≡ declaration_by documents own r → IsSite documents found
declaration_within documents own found r within is = subst (IsSite documents) (sym is) (by_role r)
  where
    by_role : (q : Role) → IsSite documents (declaration_by documents own q)
    by_role role.ElementReference = itself_within documents own (referred documents own kind.Element) within (referred_is_within documents own kind.Element)
    by_role _ = within

-- a type that is named
typed_within : (documents : List SchemaDocument) (text : List ℕ) (o : Option Named) → ((own : Site) → o ≡ Some (named.Component own) → IsSite documents own) → IsTypeOf documents (derivation.typed_by text o)
typed_within documents text None found = tt
typed_within documents text (Some (named.Component own)) found = found own refl
typed_within documents text (Some named.Carried) found = by_simple (simple_named (local_in text))
  where
    by_simple : (o : Option Simple) → IsTypeOf documents (derivation.built_in o)
    by_simple None = tt
    by_simple (Some simple) = tt
typed_within documents text (Some named.NotCarried) found = tt

pub type_named_within : (documents : List SchemaDocument) (own : Site) (text : Option (List ℕ)) → IsTypeOf documents (derivation.type_named documents own text)
type_named_within documents own None = tt
type_named_within documents own (Some text) = typed_within documents text (resolved documents own kind.Type text) (resolved_within documents own kind.Type text)

given_is_within : (documents : List SchemaDocument) (own : Site) → IsSite documents own → IsTypeOf documents (derivation.given_type documents own)
given_is_within documents own within = by_part (part_inside documents own) (inside_is_within documents own within)
  where
    by_part : (o : Option Site) → IfSome o (IsSite documents) → IsTypeOf documents (derivation.inside_or o (derivation.type_named documents own (attribute_of documents own (codes "type"))))
    by_part None found = type_named_within documents own (attribute_of documents own (codes "type"))
    by_part (Some inside) found = found

pub given_within : (documents : List SchemaDocument) (own : Site) (t : Typed) → IsSite documents own → t ≡ derivation.given_type documents own → IsTypeOf documents t
given_within documents own t within is = subst (IsTypeOf documents) (sym is) (given_is_within documents own within)

base_is_within : (documents : List SchemaDocument) (own : Site) → IsSite documents own → IsTypeOf documents (derivation.base_type documents own)
base_is_within documents own within = by_part (part_inside documents own) (inside_is_within documents own within)
  where
    by_part : (o : Option Site) → IfSome o (IsSite documents) → IsTypeOf documents (derivation.base_by documents o)
    by_part None found = tt
    by_part (Some restriction) found = type_named_within documents restriction (attribute_of documents restriction (codes "base"))

pub base_within : (documents : List SchemaDocument) (own : Site) (t : Typed) → IsSite documents own → t ≡ derivation.base_type documents own → IsTypeOf documents t
base_within documents own t within is = subst (IsTypeOf documents) (sym is) (base_is_within documents own within)

-- a simple type that a document defines
pub simple_within : (documents : List SchemaDocument) (t : Typed) → IsTypeOf documents t → IfSome (derivation.simple_type documents t) (IsSite documents)
simple_within documents (Carried simple) within = tt
simple_within documents NotCarried within = tt
simple_within documents (Defined own) within = by_test (derivation.is_simple_type (role_of documents own))
  where
    by_test : (test : Bool) → IfSome (if test then Some own else None) (IsSite documents)
    by_test true = within
    by_test false = tt

-- the simple types that a type comes of
pub derived_within : (documents : List SchemaDocument) (n : ℕ) (t : Typed) → IsTypeOf documents t → All (IsSite documents) (derivation.derived_within n documents t)
unfolding derivation.derived_within
derived_within documents zero t within = All-nil (IsSite documents)
derived_within documents (suc n) t within = by_simple (derived_within documents n) (derivation.simple_type documents t) (simple_within documents t within)
  where
    by_simple : ((u : Typed) → IsTypeOf documents u → All (IsSite documents) (derivation.derived_within n documents u)) → (o : Option Site) → IfSome o (IsSite documents)
        → All (IsSite documents) (derivation.with_bases documents (derivation.derived_within n documents) o)
    by_simple further None found = All-nil (IsSite documents)
    by_simple further (Some own) found = All-cons (IsSite documents) own (derivation.derived_within n documents (derivation.base_type documents own)) found
        (further (derivation.base_type documents own) (base_is_within documents own found))

listed_within : (documents : List SchemaDocument) (o : Option Site) → IfSome o (IsSite documents) → All (IsSite documents) (listed o)
listed_within documents None found = All-nil (IsSite documents)
listed_within documents (Some own) found = All-cons (IsSite documents) own [] found (All-nil (IsSite documents))

declaration_is_within : (documents : List SchemaDocument) (own : Site) → IsSite documents own → IsSite documents (declarations.declaration documents own)
unfolding declarations.declaration
declaration_is_within documents own within = declaration_within documents own (declaration_by documents own (role_of documents own)) (role_of documents own) within refl

declared_sites_within : (documents : List SchemaDocument) (own : Site) → IsSite documents own → All (IsSite documents) (declaration_sites documents own)
unfolding derivation.simple_types_of
declared_sites_within documents own within = All-cons (IsSite documents) (declarations.declaration documents own) (derivation.simple_types_of documents own)
    (declaration_is_within documents own within)
    (derived_within documents (count_of documents) (derivation.given_type documents (declarations.declaration documents own))
    (given_is_within documents (declarations.declaration documents own) (declaration_is_within documents own within)))

-- the simple types of an element
pub types_within : (documents : List SchemaDocument) (own : Site) (r : Role) (types : List Site) → IsSite documents own → types ≡ types_by documents own r → All (IsSite documents) types
unfolding derivation.simple_types_of
types_within documents own r types within is = subst (λ (sites : List Site). All (IsSite documents) sites) (sym is) (by_role r)
  where
    derived : All (IsSite documents) (derivation.simple_types_of documents own)
    derived = derived_within documents (count_of documents) (derivation.given_type documents (declarations.declaration documents own))
        (given_is_within documents (declarations.declaration documents own) (declaration_is_within documents own within))

    by_role : (q : Role) → All (IsSite documents) (types_by documents own q)
    by_role role.GlobalElement = derived
    by_role role.LocalElement = derived
    by_role role.ElementReference = derived
    by_role _ = All-nil (IsSite documents)

group_within : (documents : List SchemaDocument) (own : Site) → IfSome (group_content documents own) (IsSite documents)
group_within documents own = by_group (referred documents own kind.Group) (referred_is_within documents own kind.Group)
  where
    by_group : (o : Option Site) → IfSome o (IsSite documents) → IfSome (option_and_then (part_inside documents) o) (IsSite documents)
    by_group None found = tt
    by_group (Some group) found = inside_is_within documents group found

-- the elements that a component is joined from
pub chain_is_within : (documents : List SchemaDocument) (own : Site) → IsSite documents own → All (IsSite documents) (chain_sites documents own)
unfolding chain_sites
chain_is_within documents own within = by_role (role_of documents own)
  where
    by_role : (r : Role) → All (IsSite documents) (chain_by documents own r)
    by_role role.GlobalElement = declared_sites_within documents own within
    by_role role.LocalElement = declared_sites_within documents own within
    by_role role.ElementReference = All-cons (IsSite documents) own (declaration_sites documents own) within (declared_sites_within documents own within)
    by_role role.GroupReference = All-cons (IsSite documents) own (listed (group_content documents own)) within (listed_within documents (group_content documents own) (group_within documents own))
    by_role _ = All-cons (IsSite documents) own [] within (All-nil (IsSite documents))

pub chain_within : (documents : List SchemaDocument) (own : Site) (chain : List Site) → IsSite documents own → chain ≡ chain_sites documents own → All (IsSite documents) chain
chain_within documents own chain within is = subst (λ (sites : List Site). All (IsSite documents) sites) (sym is) (chain_is_within documents own within)

-- what stands in a sequence or choice
particle_within : (documents : List SchemaDocument) (document element : ℕ) → document < length documents → All (IsSite documents) (if_particle documents document element)
particle_within documents document element low = by_test (is_particle_at documents (site document element)) refl
  where
    by_test : (test : Bool) → is_particle_at documents (site document element) ≡ test → All (IsSite documents) (if test then site document element ∷ [] else [])
    by_test true is = All-cons (IsSite documents) (site document element) [] (
      low,
      ltb-true element (length (nodes_of documents document))
          (first_holds (nat_lt element (length (nodes_of documents document))) (is_particle (role_of documents (site document element))) is),
    ) (All-nil (IsSite documents))
    by_test false is = All-nil (IsSite documents)

all_particles : (documents : List SchemaDocument) (document : ℕ) → document < length documents → (children : List ℕ) → All (IsSite documents) (flat_map (if_particle documents document) children)
all_particles documents document low [] = All-nil (IsSite documents)
all_particles documents document low (child ∷ children) =
    subst (λ (xs : List Site). All (IsSite documents) xs) (sym (flat_map-cons (if_particle documents document) child children))
    (All-append (IsSite documents) (if_particle documents document child) (flat_map (if_particle documents document) children)
    (particle_within documents document child low) (all_particles documents document low children))

particles_within : (documents : List SchemaDocument) (own : Site) → IsSite documents own → All (IsSite documents) (particles documents own)
particles_within documents own within = all_particles documents own.document within.0 (node_at (nodes_of documents own.document) own.element).children

particles_if_within : (documents : List SchemaDocument) (o : Option Site) → IfSome o (IsSite documents) → All (IsSite documents) (particles_if documents o)
particles_if_within documents None found = All-nil (IsSite documents)
particles_if_within documents (Some own) found = particles_within documents own found

-- the content of an element
contents_within : (documents : List SchemaDocument) (t : Typed) → IsTypeOf documents t → All (IsSite documents) (contents documents t)
contents_within documents (Carried simple) within = All-nil (IsSite documents)
contents_within documents NotCarried within = All-nil (IsSite documents)
contents_within documents (Defined own) within = All-cons (IsSite documents) (content_of documents own) []
    (itself_within documents own (part_inside documents own) within (inside_is_within documents own within)) (All-nil (IsSite documents))

primitive_is_within : (documents : List SchemaDocument) (n : ℕ) (t : Typed) → IsTypeOf documents t → IsTypeOf documents (derivation.primitive_within n documents t)
unfolding derivation.primitive_within
primitive_is_within documents zero t within = within
primitive_is_within documents (suc n) t within = by_simple (primitive_is_within documents n) (derivation.simple_type documents t) (simple_within documents t within)
  where
    by_simple : ((u : Typed) → IsTypeOf documents u → IsTypeOf documents (derivation.primitive_within n documents u)) → (o : Option Site) → IfSome o (IsSite documents)
        → IsTypeOf documents (derivation.or_base documents (derivation.primitive_within n documents) t o)
    by_simple further None found = within
    by_simple further (Some own) found = further (derivation.base_type documents own) (base_is_within documents own found)

type_is_within : (documents : List SchemaDocument) (own : Site) → IsSite documents own → IsTypeOf documents (derivation.type_of documents own)
unfolding derivation.type_of
type_is_within documents own within = primitive_is_within documents (count_of documents) (derivation.given_type documents (declarations.declaration documents own))
    (given_is_within documents (declarations.declaration documents own) (declaration_is_within documents own within))

-- what a component consists of
pub parts_are_within : (documents : List SchemaDocument) (own : Site) → IsSite documents own → All (IsSite documents) (parts_at documents own)
unfolding parts_at
parts_are_within documents own within = by_role (role_of documents own)
  where
    by_role : (r : Role) → All (IsSite documents) (parts_by documents own r)
    by_role role.GlobalElement = contents_within documents (derivation.type_of documents own) (type_is_within documents own within)
    by_role role.LocalElement = contents_within documents (derivation.type_of documents own) (type_is_within documents own within)
    by_role role.ElementReference = contents_within documents (derivation.type_of documents own) (type_is_within documents own within)
    by_role role.Sequence = particles_within documents own within
    by_role role.Choice = particles_within documents own within
    by_role role.GroupReference = particles_if_within documents (group_content documents own) (group_within documents own)
    by_role _ = All-nil (IsSite documents)

-- the same, after a call
pub parts_within : {E : Type 0} (documents : List SchemaDocument) (own : Site) (answer : Result (Unit {0}) E) (parts : List Site) → IsSite documents own
    → OnOk answer (parts ≡ parts_at documents own) → OnOk answer (All (IsSite documents) parts)
parts_within documents own (Ok u) parts within is = subst (λ (sites : List Site). All (IsSite documents) sites) (sym is) (parts_are_within documents own within)
parts_within documents own (Err e) parts within is = tt

pub chain_kept : {E : Type 0} (documents : List SchemaDocument) (own : Site) (answer : Result (Unit {0}) E) (chain : List Site) → IsSite documents own
    → OnOk answer (chain ≡ chain_sites documents own) → OnOk answer (All (IsSite documents) chain)
chain_kept documents own (Ok u) chain within is = chain_within documents own chain within is
chain_kept documents own (Err e) chain within is = tt
