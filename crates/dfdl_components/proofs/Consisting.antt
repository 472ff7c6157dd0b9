-- What elements consist of: as many lists as there are elements, and no number past them.
use Rattle.std.proofs.Common.{◌≡◌, ℕ, zero, suc, ◌+◌, ◌<◌, ◌≤◌, ◌-◌, List, [], ◌∷◌, ◌++◌, length, All, Option, Some, None, Bool, true, false, nat_eq, nat_lt, if◌then◌else◌, ◌⊎◌, ap, sym, subst, ◌∙◌, refl, arith, inl, inr, length-append}
use Rattle.std.specs.List.{flat_map}
use Rattle.std.proofs.lemmas.Bool.{cases_Bool, eq-eqb, ltb-true, le-ltb}
use Rattle.std.proofs.lemmas.Bool.Decides.{eqb_tells}
use Rattle.dfdl_order.specs.Cycles.{reaches_itself}
use Rattle.dfdl_components.specs.Counting.{IsFirstOrCount}
use Rattle.std.proofs.lemmas.List.{append_assoc, append-nil}
use Rattle.std.proofs.lemmas.List.Concat.{flat_map-cons}
use Rattle.std.proofs.lemmas.List.Elements.{All-nil, All-append, All-push}
use Rattle.dfdl_markup.specs.Trees.{node_at}
use Rattle.dfdl_documents.specs.Documents.{SchemaDocument}
use Rattle.dfdl_order.specs.Parts.{IsClosed}
use Rattle.dfdl_components.specs.declared.kind.ComponentKind.{ComponentKind}
use Rattle.dfdl_components.specs.declared.named.Named.{Named}
use Rattle.dfdl_components.specs.declared.named.Named.TheVariants.{Component, Carried, NotCarried}
use Rattle.dfdl_components.specs.declared.site.Site.{Site}
use Rattle.dfdl_components.specs.Sites.{IsSite, nodes_of, role_of}
use Rattle.dfdl_components.specs.Globals.{site}
use Rattle.dfdl_components.specs.References.{Referring, referring, kind_referred, name_given}
use Rattle.dfdl_components.specs.Naming.{resolved}
use Rattle.dfdl_components.specs.Recursion.{start_of, count_of, number_of, if_element, component_numbers, numbers_named, numbers_referred, number_inside, naming_properties, parts_of, uses_in, uses_before, all_uses, is_recursive}

-- later documents start later
later_start : (documents : List SchemaDocument) (n m : ℕ) → start_of documents n ≤ start_of documents (m + n)
later_start documents n zero =
    let same : n ≡ zero + n = omega arith in
    subst (λ (k : ℕ). start_of documents n ≤ start_of documents k) same (omega arith)
later_start documents n (suc m) =
    let before : start_of documents n ≤ start_of documents (m + n) = later_start documents n m in
    let same : suc (m + n) ≡ suc m + n = omega arith in
    let next : start_of documents n ≤ start_of documents (suc (m + n)) = omega (arith, before) in
    subst (λ (k : ℕ). start_of documents n ≤ start_of documents k) same next

start_past : (documents : List SchemaDocument) (n : ℕ) → length documents ≤ n → count_of documents ≤ start_of documents n
start_past documents n past =
    let same : n - length documents + length documents ≡ n = omega (arith, past) in
    subst (λ (k : ℕ). count_of documents ≤ start_of documents k) same (later_start documents (length documents) (n - length documents))

-- a place in no document has no number
pub nothing_past : (documents : List SchemaDocument) (own : Site) (xs : List ℕ) (n : ℕ) → n ≡ length documents → n ≤ own.document
    → xs ≡ xs ++ if_element documents (number_of documents own)
nothing_past documents own xs n is past =
    let low : count_of documents ≤ number_of documents own = omega (arith, start_past documents own.document (omega (arith, is, past))) in
    sym (ap (λ (b : Bool). xs ++ (if b then number_of documents own ∷ [] else [])) (le-ltb (number_of documents own) (count_of documents) low) ∙ append-nil xs)

-- one element more
pub pushed_more : (documents : List SchemaDocument) (d n : ℕ) (old uses new : List (List ℕ)) (parts : List ℕ) → uses ≡ old ++ uses_in documents d n
    → new ≡ uses ++ parts ∷ [] → parts ≡ parts_of documents (site d n) → new ≡ old ++ uses_in documents d (n + 1)
pushed_more documents d n old uses new parts before pushed is =
    let same : n + 1 ≡ suc n = omega arith in
    pushed
    ∙ (ap (λ (u : List (List ℕ)). u ++ parts ∷ []) before
    ∙ (append_assoc old (uses_in documents d n) (parts ∷ [])
    ∙ (ap (λ (p : List ℕ). old ++ (uses_in documents d n ++ p ∷ [])) is
    ∙ ap (λ (k : ℕ). old ++ uses_in documents d k) (sym same))))

-- one document more
pub before_more : (documents : List SchemaDocument) (d : ℕ) (old new : List (List ℕ)) → new ≡ old ++ uses_in documents d (length (nodes_of documents d))
    → old ≡ uses_before documents d → new ≡ uses_before documents (d + 1)
before_more documents d old new added before =
    let same : d + 1 ≡ suc d = omega arith in
    added
    ∙ (ap (λ (u : List (List ℕ)). u ++ uses_in documents d (length (nodes_of documents d))) before
    ∙ ap (λ (k : ℕ). uses_before documents k) (sym same))

length_in : (documents : List SchemaDocument) (d n : ℕ) → length (uses_in documents d n) ≡ n
length_in documents d zero = refl
length_in documents d (suc n) =
    let before : length (uses_in documents d n) ≡ n = length_in documents d n in
    let added : length (uses_in documents d n ++ parts_of documents (site d n) ∷ []) ≡ length (uses_in documents d n) + 1
    = length-append (uses_in documents d n) (parts_of documents (site d n) ∷ []) in
    omega (arith, before, added)

length_before : (documents : List SchemaDocument) (n : ℕ) → length (uses_before documents n) ≡ start_of documents n
length_before documents zero = refl
length_before documents (suc n) =
    let before : length (uses_before documents n) ≡ start_of documents n = length_before documents n in
    let here : length (uses_in documents n (length (nodes_of documents n))) ≡ length (nodes_of documents n) = length_in documents n (length (nodes_of documents n)) in
    let added : length (uses_before documents n ++ uses_in documents n (length (nodes_of documents n)))
    ≡ length (uses_before documents n) + length (uses_in documents n (length (nodes_of documents n)))
    = length-append (uses_before documents n) (uses_in documents n (length (nodes_of documents n))) in
    omega (arith, before, here, added)

pub length_all : (documents : List SchemaDocument) → length (all_uses documents) ≡ count_of documents
unfolding all_uses
length_all documents = length_before documents (length documents)

-- all in lists that a function gives
flat_all : {X : Type 0} (P : ℕ → Type 0) (f : X → List ℕ) (xs : List X) → ((x : X) → All P (f x)) → All P (flat_map f xs)
flat_all P f [] all = All-nil P
flat_all {X} P f (x ∷ xs) all = subst (λ (ys : List ℕ). All P ys) (sym (flat_map-cons f x xs)) (All-append P (f x) (flat_map f xs) (all x) (flat_all P f xs all))

module _ (documents : List SchemaDocument) where
  if_below : (number : ℕ) → All (λ p. p < count_of documents) (if_element documents number)
  if_below number = elim (cases_Bool (nat_lt number (count_of documents))) [
    | inl low ↦ subst (λ (ys : List ℕ). All (λ p. p < count_of documents) ys)
        (sym (ap (λ (b : Bool). if b then number ∷ [] else []) low))
        (All-push (λ p. p < count_of documents) [] number (All-nil (λ p. p < count_of documents)) (ltb-true number (count_of documents) low))
    | inr high ↦ subst (λ (ys : List ℕ). All (λ p. p < count_of documents) ys)
        (sym (ap (λ (b : Bool). if b then number ∷ [] else []) high)) (All-nil (λ p. p < count_of documents))
  ]

  component_below : (o : Option Named) → All (λ p. p < count_of documents) (component_numbers documents o)
  component_below None = All-nil (λ p. p < count_of documents)
  component_below (Some (Component own)) = if_below (number_of documents own)
  component_below (Some Carried) = All-nil (λ p. p < count_of documents)
  component_below (Some NotCarried) = All-nil (λ p. p < count_of documents)

  named_below : (own : Site) (kind : ComponentKind) (text : Option (List ℕ)) → All (λ p. p < count_of documents) (numbers_named documents own kind text)
  named_below own kind None = All-nil (λ p. p < count_of documents)
  named_below own kind (Some text) = component_below (resolved documents own kind text)

  referred_below : (own : Site) (r : Referring) → All (λ p. p < count_of documents) (numbers_referred documents own r)
  referred_below own r = named_below own (kind_referred r) (name_given (nodes_of documents own.document) own.element r)

  parts_below : (own : Site) → All (λ p. p < count_of documents) (parts_of documents own)
  parts_below own = All-append (λ p. p < count_of documents)
      (flat_map (number_inside documents own) (node_at (nodes_of documents own.document) own.element).children)
      (flat_map (numbers_referred documents own) (referring (role_of documents own))
      ++ flat_map (numbers_referred documents own) (naming_properties (role_of documents own)))
      (flat_all (λ p. p < count_of documents) (number_inside documents own) (node_at (nodes_of documents own.document) own.element).children
      (λ child. if_below (start_of documents own.document + child)))
      (All-append (λ p. p < count_of documents)
      (flat_map (numbers_referred documents own) (referring (role_of documents own)))
      (flat_map (numbers_referred documents own) (naming_properties (role_of documents own)))
      (flat_all (λ p. p < count_of documents) (numbers_referred documents own) (referring (role_of documents own)) (referred_below own))
      (flat_all (λ p. p < count_of documents) (numbers_referred documents own) (naming_properties (role_of documents own)) (referred_below own)))

  below_in : (d n : ℕ) → All (λ parts. All (λ p. p < count_of documents) parts) (uses_in documents d n)
  below_in d zero = All-nil (λ parts. All (λ p. p < count_of documents) parts)
  below_in d (suc n) = All-push (λ parts. All (λ p. p < count_of documents) parts) (uses_in documents d n) (parts_of documents (site d n)) (below_in d n)
      (parts_below (site d n))

  below_before : (n : ℕ) → All (λ parts. All (λ p. p < count_of documents) parts) (uses_before documents n)
  below_before zero = All-nil (λ parts. All (λ p. p < count_of documents) parts)
  below_before (suc n) = All-append (λ parts. All (λ p. p < count_of documents) parts) (uses_before documents n)
      (uses_in documents n (length (nodes_of documents n))) (below_before n) (below_in n (length (nodes_of documents n)))

  all_below : All (λ parts. All (λ p. p < count_of documents) parts) (all_uses documents)
  unfolding all_uses
  all_below = below_before (length documents)

-- each part is an element
pub closed : (documents : List SchemaDocument) → IsClosed (all_uses documents)
closed documents = subst (λ (n : ℕ). All (λ parts. All (λ p. p < n) parts) (all_uses documents)) (sym (length_all documents)) (all_below documents)

-- an element of the documents has a number below the count of all
later_count : (documents : List SchemaDocument) (n : ℕ) → n < length documents
    → start_of documents n + length (nodes_of documents n) ≤ count_of documents
later_count documents n within =
    let same : length documents - suc n + suc n ≡ length documents = omega (arith, within) in
    let later : start_of documents (suc n) ≤ count_of documents =
    subst (λ (k : ℕ). start_of documents (suc n) ≤ start_of documents k) same (later_start documents (suc n) (length documents - suc n)) in
    later

-- a number that another is not below is that or above it
below_or : (n m : ℕ) → n ≤ m → (n < m) ⊎ (n ≡ m)
below_or zero zero within = inr refl
below_or zero (suc m) within = inl (omega arith)
below_or (suc n) zero within = absurd (omega (arith, within))
below_or (suc n) (suc m) within = elim (below_or n m (omega (arith, within))) [
  | inl less ↦ inl (omega (arith, less))
  | inr is ↦ inr (ap suc is)
]

-- an element where none before it reaches itself does so exactly where it is the first one
pub at_first : (documents : List SchemaDocument) (own : Site) (first : ℕ) → IsSite documents own
    → IsFirstOrCount documents first → number_of documents own ≤ first
    → nat_eq (number_of documents own) first ≡ is_recursive documents own
at_first documents own first within is reached = elim (below_or (number_of documents own) first reached) [
  | inl less ↦ not_equal (number_of documents own) first less ∙ sym (is.before (number_of documents own) less)
  | inr same ↦ eq-eqb (number_of documents own) first same
      ∙ sym (subst (λ (n : ℕ). reaches_itself (all_uses documents) n ≡ true) (sym same) (is.at (subst (λ (n : ℕ). n < count_of documents) same below)))
]
  where
    below : number_of documents own < count_of documents
    below = let later = later_count documents own.document within.0 in let inside = within.1 in omega (arith, later, inside)

    not_equal : (n m : ℕ) → n < m → nat_eq n m ≡ false
    not_equal n m less = elim (eqb_tells n m) [
      | inl equal ↦ absurd (let is = equal.1 in omega (arith, less, is))
      | inr other ↦ other.0
    ]

-- and where it doesn't, the first one stands behind it
pub passed_first : (n m : ℕ) → n ≤ m → nat_eq n m ≡ false → n < m
passed_first n m within other = elim (below_or n m within) [
  | inl less ↦ less
  | inr same ↦ absurd (let equal = eq-eqb n m same in cc)
]
