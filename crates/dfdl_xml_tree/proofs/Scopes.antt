-- How the namespace of a prefix is found.
use Rattle.std.proofs.Common.{◌≡◌, ℕ, zero, suc, List, [], ◌∷◌, ◌++◌, Option, Some, None, refl, ap, sym, ◌∙◌}
use Rattle.std.proofs.Common.{Bool, true, false, if◌then◌else◌, bytes_eq, map, get_or, length, ◌≤◌, ◌<◌, ◌-◌, arith, inl, inr}
use Rattle.std.proofs.Math.ListN.{get_or-map, length-map}
use Rattle.std.proofs.lemmas.Bool.{cases_Bool}
use Rattle.std.proofs.lemmas.Slice.Eq.{bytes_eq-Decides}
use Rattle.std.specs.List.{cons_option}
use Rattle.dfdl_markup.specs.Values.{Attribute, Binding, bindings_of, found, declares, bound_to}
use Rattle.dfdl_markup.specs.Values.{outer_scope, fixed_namespace, xml_prefix, xmlns_prefix}
use Rattle.dfdl_markup.specs.Values.{xml_namespace, xmlns_namespace}
use Rattle.std.proofs.lemmas.Str.{chars-nil, encodes-chars}
use Rattle.std.specs.Prelude.{chars, encode_utf8_all, IsUtf8}
use Rattle.dfdl_markup.specs.Trees.{Node, node_at, no_node, scope_from, unless_empty}
use Rattle.dfdl_xml_tree.specs.Texts.{declared_by, declared_in, if_declared, or_else}

if_found : (b : Bool) (namespace : List ℕ) (others : Option (List ℕ))
    → or_else (if b then Some namespace else None) others ≡ (if b then Some namespace else others)
if_found true namespace others = refl
if_found false namespace others = refl

found_first : (namespace : List ℕ) (declared : Option (List ℕ)) (others : List Binding) (prefix : List ℕ)
    → or_else (if_declared namespace declared prefix) (found others prefix)
    ≡ found (cons_option (bound_to namespace declared) others) prefix
found_first namespace None others prefix = refl
found_first namespace (Some declared) others prefix =
    if_found (bytes_eq declared prefix) namespace (found others prefix)

-- the first attribute to declare it gives the first binding
pub declared_found : (attributes : List Attribute) (prefix : List ℕ)
    → declared_in attributes prefix ≡ found (bindings_of attributes) prefix
declared_found [] prefix = refl
declared_found (attribute ∷ attributes) prefix =
    ap (or_else (declared_by attribute prefix)) (declared_found attributes prefix)
    ∙ found_first attribute.value (declares attribute.name) (bindings_of attributes) prefix

if_others : (b : Bool) (namespace : List ℕ) (first others : Option (List ℕ))
    → (if b then Some namespace else or_else first others)
    ≡ or_else (if b then Some namespace else first) others
if_others true namespace first others = refl
if_others false namespace first others = refl

-- bindings before others
pub found_append : (bindings others : List Binding) (prefix : List ℕ)
    → found (bindings ++ others) prefix ≡ or_else (found bindings prefix) (found others prefix)
found_append [] others prefix = refl
found_append (binding ∷ bindings) others prefix =
    ap (λ o. if bytes_eq binding.prefix prefix then Some binding.namespace else o)
    (found_append bindings others prefix)
    ∙ if_others (bytes_eq binding.prefix prefix) binding.namespace (found bindings prefix)
    (found others prefix)

same_order : (a b : List ℕ) → bytes_eq a b ≡ bytes_eq b a
same_order a b = elim (cases_Bool (bytes_eq a b)) [
  | inl is ↦ is ∙ sym ((bytes_eq-Decides b a).1 (sym ((bytes_eq-Decides a b).0 is)))
  | inr other ↦ (elim (cases_Bool (bytes_eq b a)) [
    | inl is ↦ (let back = (bytes_eq-Decides a b).1 (sym ((bytes_eq-Decides b a).0 is)) in absurd cc)
    | inr no_more ↦ other ∙ sym no_more
  ])
]

-- outside of all elements
pub outer_found : (prefix : List ℕ) → found outer_scope prefix ≡ fixed_namespace prefix
unfolding outer_scope
outer_found prefix =
    ap (λ b. if b then Some xml_namespace
    else (if bytes_eq xmlns_prefix prefix then Some xmlns_namespace else None))
    (same_order xml_prefix prefix)
    ∙ ap (λ b. if bytes_eq prefix xml_prefix then Some xml_namespace
    else (if b then Some xmlns_namespace else None)) (same_order xmlns_prefix prefix)

-- inside of an element
pub inside_found : (most : ℕ) (nodes : List Node) (element : ℕ) (prefix : List ℕ)
    → found (scope_from (suc most) nodes (Some element)) prefix
    ≡ or_else (declared_in (node_at nodes element).attributes prefix)
    (found (scope_from most nodes (node_at nodes element).parent) prefix)
inside_found most nodes element prefix =
    found_append (bindings_of (node_at nodes element).attributes)
    (scope_from most nodes (node_at nodes element).parent) prefix
    ∙ ap (λ o. or_else o (found (scope_from most nodes (node_at nodes element).parent) prefix))
    (sym (declared_found (node_at nodes element).attributes prefix))

no_such : (nodes : List Node) (element : ℕ) → length nodes ≤ element → node_at nodes element ≡ no_node
no_such [] element h = refl
no_such (n ∷ nodes) zero h = absurd (omega arith)
no_such (n ∷ nodes) (suc element) h = no_such nodes element (omega arith)

scope_none : (most : ℕ) (nodes : List Node) → scope_from most nodes None ≡ outer_scope
scope_none zero nodes = refl
scope_none (suc most) nodes = refl

-- where there is no such element
pub beyond_found : (most : ℕ) (nodes : List Node) (element : ℕ) (prefix : List ℕ)
    → length nodes ≤ element
    → found (scope_from most nodes (Some element)) prefix ≡ fixed_namespace prefix
beyond_found zero nodes element prefix h = outer_found prefix
beyond_found (suc most) nodes element prefix h =
    inside_found most nodes element prefix
    ∙ ap (λ n. or_else (declared_in n.attributes prefix) (found (scope_from most nodes n.parent) prefix))
    (no_such nodes element h)
    ∙ ap (λ scope. found scope prefix) (scope_none most nodes) ∙ outer_found prefix

pub none_found : (most : ℕ) (nodes : List Node) (prefix : List ℕ)
    → found (scope_from most nodes None) prefix ≡ fixed_namespace prefix
none_found most nodes prefix =
    ap (λ scope. found scope prefix) (scope_none most nodes) ∙ outer_found prefix

pub no_more_found : (nodes : List Node) (element : Option ℕ) (prefix : List ℕ)
    → found (scope_from zero nodes element) prefix ≡ fixed_namespace prefix
no_more_found nodes element prefix = outer_found prefix

-- inside of an element that is there
pub found_here : (most : ℕ) (nodes : List Node) (element : Option ℕ) (number : ℕ) (n : Node)
    (prefix : List ℕ) → element ≡ Some number → (most ≡ 0 → ⊥) → node_at nodes number ≡ n
    → found (scope_from most nodes element) prefix
    ≡ or_else (declared_in n.attributes prefix) (found (scope_from (most - 1) nodes n.parent) prefix)
found_here zero nodes element number n prefix is some node = absurd (some refl)
found_here (suc most) nodes element number n prefix is some node =
    let less : most ≡ suc most - 1 = omega arith in
    ap (λ e. found (scope_from (suc most) nodes e) prefix) is
    ∙ inside_found most nodes number prefix
    ∙ ap (λ m. or_else (declared_in m.attributes prefix) (found (scope_from most nodes m.parent) prefix))
    node
    ∙ ap (λ m. or_else (declared_in n.attributes prefix) (found (scope_from m nodes n.parent) prefix)) less

any_default : {A : Type 0} (items : List A) (i : ℕ) (d e : A) → i < length items
    → get_or items i d ≡ get_or items i e
any_default [] i d e h = absurd (omega arith)
any_default (a ∷ items) zero d e h = refl
any_default (a ∷ items) (suc i) d e h = any_default items i d e (omega arith)

-- the element of a number, as a node
pub node_shown : {E : Type 0} (shown : E → Node) (elements : List E) (number : ℕ) (e : E)
    → number < length elements → e ≡ get_or elements number e
    → node_at (map shown elements) number ≡ shown e
node_shown shown elements number e h is =
    any_default (map shown elements) number no_node (shown e) (omega (arith, length-map elements shown))
    ∙ get_or-map shown elements number e ∙ ap shown (sym is)

-- where a namespace is declared there, and where it is not
pub or_some : (first others : Option (List ℕ)) (namespace : List ℕ) → Some namespace ≡ first
    → or_else first others ≡ Some namespace
or_some first others namespace is = ap (λ o. or_else o others) (sym is)

pub or_none : (first others : Option (List ℕ)) → None ≡ first → or_else first others ≡ others
or_none first others is = ap (λ o. or_else o others) (sym is)

-- the empty namespace undeclares, and another one does not
pub none_if_empty : (bytes : List ℕ) → length bytes ≡ 0 → None ≡ unless_empty (Some (chars bytes))
none_if_empty [] is = ap (λ cs. unless_empty (Some cs)) (sym chars-nil)
none_if_empty (b ∷ bytes) is = absurd (omega arith)

unless_some : (cs : List ℕ) → (cs ≡ [] → ⊥) → Some cs ≡ unless_empty (Some cs)
unless_some [] some = absurd (some refl)
unless_some (c ∷ cs) some = refl

pub some_if_not : (bytes : List ℕ) → IsUtf8 bytes → (length bytes ≡ 0 → ⊥)
    → Some (chars bytes) ≡ unless_empty (Some (chars bytes))
some_if_not bytes utf8 some =
    unless_some (chars bytes)
    (λ none. some (ap length (sym (encodes-chars bytes utf8)) ∙ ap (λ cs. length (encode_utf8_all cs)) none))
