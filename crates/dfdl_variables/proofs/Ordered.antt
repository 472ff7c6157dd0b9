-- The variables of a schema stand in the order of their elements.
use Rattle.std.proofs.Common.{◌≡◌, ℕ, zero, suc, ◌+◌, ◌<◌, ◌≤◌, ◌==◌, ◌&&◌, ◌||◌, Bool, true, false, nat_lt, List, []}
use Rattle.std.proofs.Common.{◌∷◌, ◌++◌, length, get_or, Some, None, sym, subst, refl, ◌∙◌, arith, if◌then◌else◌, inl, inr, length-append, append-nil}
use Rattle.std.specs.List.{flat_map, position_or_len}
use Rattle.std.specs.List.Sorted.{IsPartitionedBy}
use Rattle.std.proofs.lemmas.List.{flat_map_more, get_or_append_left}
use Rattle.std.proofs.lemmas.List.Concat.{flat_map-append}
use Rattle.std.proofs.lemmas.List.Quantifiers.{all_pairs_push}
use Rattle.std.proofs.lemmas.List.Sums.{position_or_len_is}
use Rattle.std.proofs.lemmas.Bool.{cases_lt}
use Rattle.std.proofs.lemmas.Bool.Decides.{nat_tests}
use Rattle.std.proofs.Math.Seq.{get_or-append_seam}
use Rattle.dfdl_documents.specs.Documents.{SchemaDocument}
use Rattle.dfdl_components.specs.declared.site.Site.{Site}
use Rattle.dfdl_components.specs.Sites.{nodes_of, role_of, is_same}
use Rattle.dfdl_components.specs.Globals.{site}
use Rattle.dfdl_chains.specs.Everywhere.{sites_in, sites_before, all_sites}
use Rattle.dfdl_variables.specs.declared.variable.Declared.{Declared}
use Rattle.dfdl_variables.specs.Variables.{declared_at, declared_if, is_definition, variables_of}
use Rattle.dfdl_variables.specs.Numbers.{number_in}
use Rattle.dfdl_variables.specs.Ordered.{stands_before, IsBefore, AreOrdered, IsDivided}

-- the order of elements
before_further : (d e f g h i : ℕ) → (nat_lt d f || (d == f && nat_lt e g)) ≡ true → (nat_lt f h || (f == h && nat_lt g i)) ≡ true
    → (nat_lt d h || (d == h && nat_lt e i)) ≡ true
before_further d e f g h i first second = grind (arith, nat_tests)

pub before_before : (a b c : Site) → stands_before a b ≡ true → stands_before b c ≡ true → stands_before a c ≡ true
before_before a b c first second = before_further a.document a.element b.document b.element c.document c.element first second

next_is_later : (d e : ℕ) → (nat_lt d d || (d == d && nat_lt e (suc e))) ≡ true
next_is_later d e = grind (arith, nat_tests)

before_next : (d e f g : ℕ) → (nat_lt d f || (d == f && nat_lt e g)) ≡ true → (nat_lt d f || (d == f && nat_lt e (suc g))) ≡ true
before_next d e f g before = grind (arith, nat_tests)

before_document : (d e f g : ℕ) → (nat_lt d f || (d == f && nat_lt e g)) ≡ true → (nat_lt d (suc f) || (d == suc f && nat_lt e 0)) ≡ true
before_document d e f g before = grind (arith, nat_tests)

before_same : (d e f g h i : ℕ) → (nat_lt d f || (d == f && nat_lt e g)) ≡ true → (f == h && g == i) ≡ true
    → (nat_lt d h || (d == h && nat_lt e i)) ≡ true
before_same d e f g h i before same = grind (arith, nat_tests)

before_not_same : (d e f g : ℕ) → (nat_lt d f || (d == f && nat_lt e g)) ≡ true → (d == f && e == g) ≡ false
before_not_same d e f g before = grind (arith, nat_tests)

another : (a b : Site) → stands_before a b ≡ true → is_same a b ≡ false
another a b before = before_not_same a.document a.element b.document b.element before

-- all these are defined before an element, in the order of their elements
record Stands (variables : List Declared) (own : Site) : Type 0 where
  ordered : AreOrdered variables
  before : (k : ℕ) (d : Declared) → k < length variables → stands_before (get_or variables k d).site own ≡ true

-- none at all
nothing_stands : (own : Site) → Stands [] own
nothing_stands own = record {
  ordered = λ i j d under low. absurd (omega arith);
  before = λ k d low. absurd (omega arith);
}

-- the same before an element further on
kept : (variables : List Declared) (own next : Site) → ((a : Site) → stands_before a own ≡ true → stands_before a next ≡ true)
    → Stands variables own → Stands variables next
kept variables own next further stands = record {
  ordered = stands.ordered;
  before = λ k d low. further (get_or variables k d).site (stands.before k d low);
}

-- one variable more
pushed : (variables : List Declared) (v : Declared) (next : Site) → ((a : Site) → stands_before a v.site ≡ true → stands_before a next ≡ true)
    → stands_before v.site next ≡ true → Stands variables v.site → Stands (variables ++ v ∷ []) next
pushed variables v next further last stands = record {
  ordered = all_pairs_push IsBefore variables v stands.ordered stands.before;
  before = λ k d low. elim (cases_lt k (length variables)) [
    | inl under ↦
        subst (λ (w : Declared). stands_before w.site next ≡ true) (sym (get_or_append_left variables (v ∷ []) d k under))
        (further (get_or variables k d).site (stands.before k d under))
    | inr over ↦
        let all : length (variables ++ v ∷ []) ≡ length variables + 1 = length-append variables (v ∷ []) in
        let is : k ≡ length variables = omega arith in
        subst (λ (n : ℕ). stands_before (get_or (variables ++ v ∷ []) n d).site next ≡ true) (sym is)
        (subst (λ (w : Declared). stands_before w.site next ≡ true) (sym (get_or-append_seam variables v [] d)) last)
  ];
}

-- what an element defines, if it does
one_more : (documents : List SchemaDocument) (d n : ℕ) (variables : List Declared) → Stands variables (site d n)
    → Stands (variables ++ declared_if documents (site d n)) (site d (suc n))
unfolding declared_at
one_more documents d n variables stands = by_test (is_definition (role_of documents (site d n)))
  where
    further : (a : Site) → stands_before a (site d n) ≡ true → stands_before a (site d (suc n)) ≡ true
    further a before = before_next a.document a.element d n before

    by_test : (test : Bool) → Stands (variables ++ (if test then declared_at documents (site d n) ∷ [] else [])) (site d (suc n))
    by_test true = pushed variables (declared_at documents (site d n)) (site d (suc n)) further (next_is_later d n) stands
    by_test false = subst (λ (s : List Declared). Stands s (site d (suc n))) (sym (append-nil variables))
        (kept variables (site d n) (site d (suc n)) further stands)

-- what a document defines, behind others
in_document : (documents : List SchemaDocument) (d n : ℕ) (others : List Declared) → Stands others (site d 0)
    → Stands (others ++ flat_map (declared_if documents) (sites_in d n)) (site d n)
in_document documents d zero others stands = subst (λ (s : List Declared). Stands s (site d 0)) (sym (append-nil others)) stands
in_document documents d (suc n) others stands =
    subst (λ (s : List Declared). Stands s (site d (suc n))) (flat_map_more (declared_if documents) others (sites_in d n) (site d n))
    (one_more documents d n (others ++ flat_map (declared_if documents) (sites_in d n)) (in_document documents d n others stands))

-- what the first documents define
in_documents : (documents : List SchemaDocument) (n : ℕ) → Stands (flat_map (declared_if documents) (sites_before documents n)) (site n 0)
in_documents documents zero = nothing_stands (site 0 0)
in_documents documents (suc n) =
    subst (λ (s : List Declared). Stands s (site (suc n) 0))
    (sym (flat_map-append (declared_if documents) (sites_before documents n) (sites_in n (length (nodes_of documents n)))))
    (kept (flat_map (declared_if documents) (sites_before documents n)
    ++ flat_map (declared_if documents) (sites_in n (length (nodes_of documents n))))
    (site n (length (nodes_of documents n))) (site (suc n) 0)
    (λ a before. before_document a.document a.element n (length (nodes_of documents n)) before)
    (in_document documents n (length (nodes_of documents n)) (flat_map (declared_if documents) (sites_before documents n))
    (in_documents documents n)))

-- all variables of a schema
pub all_ordered : (documents : List SchemaDocument) (variables : List Declared) → variables ≡ variables_of documents → AreOrdered variables
unfolding variables_of all_sites
all_ordered documents variables is = subst AreOrdered (sym is) (in_documents documents (length documents)).ordered

-- those before an element are the first ones
pub are_parted : (variables : List Declared) (own : Site) → AreOrdered variables
    → IsPartitionedBy (λ (v : Declared). stands_before v.site own) variables
are_parted variables own ordered i j d under low holds = elim (cases_lt i j) [
  | inl less ↦ before_before (get_or variables i d).site (get_or variables j d).site own (ordered i j d less low) holds
  | inr over ↦
      let is : i ≡ j = omega arith in
      subst (λ (n : ℕ). stands_before (get_or variables n d).site own ≡ true) (sym is) holds
]

-- the one that an element defines stands behind those before it
pub found_there : (variables : List Declared) (own : Site) (at : ℕ) (d : Declared) → IsDivided variables own at → at < length variables
    → is_same (get_or variables at d).site own ≡ true → Some at ≡ number_in variables own
found_there variables own at d divided low same =
    let is : position_or_len (λ (v : Declared). is_same v.site own) variables ≡ at =
    position_or_len_is (λ (v : Declared). is_same v.site own) variables at d (omega arith)
    (λ k under. another (get_or variables k d).site own (divided.0 k d (omega arith) under))
    (λ inside. same) in
    subst (λ (n : ℕ). Some at ≡ (if nat_lt n (length variables) then Some n else None)) (sym is) (if_low at (length variables) low)
  where
    if_low : (m n : ℕ) → m < n → Some m ≡ (if nat_lt m n then Some m else None)
    if_low m n low = grind (arith, nat_tests)

-- and if it isn't there, it is none of them
pub found_nowhere : (variables : List Declared) (own : Site) (at : ℕ) (d : Declared) → AreOrdered variables → IsDivided variables own at
    → (at < length variables → is_same (get_or variables at d).site own ≡ false) → None ≡ number_in variables own
found_nowhere variables own at d ordered divided other =
    let is : position_or_len (λ (v : Declared). is_same v.site own) variables ≡ length variables =
    position_or_len_is (λ (v : Declared). is_same v.site own) variables (length variables) d (omega arith) none (λ inside. absurd (omega arith)) in
    subst (λ (n : ℕ). None ≡ (if nat_lt n (length variables) then Some n else None)) (sym is) (if_past (length variables))
  where
    if_past : (n : ℕ) → None ≡ (if nat_lt n n then Some n else None)
    if_past n = grind (arith, nat_tests)

    behind : (k : ℕ) → at < k → k < length variables → (same : Bool) → is_same (get_or variables k d).site own ≡ same → same ≡ false
    behind k over low false is = refl
    behind k over low true is =
        let before = before_same (get_or variables at d).site.document (get_or variables at d).site.element
        (get_or variables k d).site.document (get_or variables k d).site.element own.document own.element (ordered at k d over low) is in
        let not_before = divided.1 at d (omega arith) (omega arith) in
        sym before ∙ not_before

    none : (k : ℕ) → k < length variables → is_same (get_or variables k d).site own ≡ false
    none k low = elim (cases_lt k at) [
      | inl under ↦ another (get_or variables k d).site own (divided.0 k d (omega arith) under)
      | inr over ↦ elim (cases_lt at k) [
        | inl less ↦
            behind k less low (is_same (get_or variables k d).site own) refl
        | inr not_less ↦
            let is : k ≡ at = omega arith in
            subst (λ (n : ℕ). n < length variables → is_same (get_or variables n d).site own ≡ false) (sym is) other low
      ]
    ]

-- nor if all are defined before the element
pub found_past : (variables : List Declared) (own : Site) (at : ℕ) → AreOrdered variables → IsDivided variables own at → length variables ≤ at
    → None ≡ number_in variables own
found_past [] own at ordered divided past = refl
found_past (v ∷ vs) own at ordered divided past = found_nowhere (v ∷ vs) own at v ordered divided (λ low. absurd (omega arith))
