-- Lists with a value for each element of all documents.
use Rattle.std.proofs.Common.{◌≡◌, refl, sym, ap, subst, ◌∙◌, ℕ, zero, suc, ◌+◌, ◌<◌, ◌≤◌, ◌-◌, List, [], ◌∷◌, ◌++◌, length, get_or, map, All, ◌⊎◌, inl, inr, arith, length-append}
use Rattle.std.proofs.lemmas.List.{get_or_append_left, get_or-append-add, get_or_at, get_or-map, map-append}
use Rattle.dfdl_documents.specs.Documents.{SchemaDocument}
use Rattle.dfdl_components.specs.declared.site.Site.{Site}
use Rattle.dfdl_components.specs.Sites.{IsSite, nodes_of}
use Rattle.dfdl_components.specs.Globals.{site}
use Rattle.dfdl_components.specs.Recursion.{all_uses, count_of, number_of, parts_of, start_of, uses_before, uses_in}
use Rattle.dfdl_chains.specs.Everywhere.{all_sites, for_each, sites_before, sites_in}

-- a number up to another is below it or is it
pub below-or : (i n : ℕ) → i ≤ n → (i < n) ⊎ (i ≡ n)
below-or zero zero within = inr refl
below-or zero (suc n) within = inl (omega arith)
below-or (suc i) zero within = absurd (omega (arith, within))
below-or (suc i) (suc n) within = elim (below-or i n (omega (arith, within))) [
  | inl less ↦ inl (omega (arith, less))
  | inr is ↦ inr (ap suc is)
]

-- a number is below another, or is not
pub either : (i k : ℕ) → (i < k) ⊎ (k ≤ i)
either i zero = inr (omega arith)
either zero (suc k) = inl (omega arith)
either (suc i) (suc k) = elim (either i k) [
  | inl less ↦ inl (omega (arith, less))
  | inr past ↦ inr (omega (arith, past))
]

-- later documents start behind the elements of a document
under-start : (documents : List SchemaDocument) (i n : ℕ) → i < n → start_of documents i + length (nodes_of documents i) ≤ start_of documents n
under-start documents i zero less = absurd (omega (arith, less))
under-start documents i (suc n) less = elim (below-or i n (omega (arith, less))) [
  | inl before ↦ let rest = under-start documents i n before in omega (arith, rest)
  | inr same ↦ subst (λ (k : ℕ). start_of documents i + length (nodes_of documents i) ≤ start_of documents k + length (nodes_of documents k)) same (omega arith)
]

length-in : (document n : ℕ) → length (sites_in document n) ≡ n
length-in document zero = refl
length-in document (suc n) =
    let before : length (sites_in document n) ≡ n = length-in document n in
    let added : length (sites_in document n ++ site document n ∷ []) ≡ length (sites_in document n) + 1
    = length-append (sites_in document n) (site document n ∷ []) in
    omega (arith, before, added)

-- the element of a document
at-in : (document n i : ℕ) (d : Site) → i < n → get_or (sites_in document n) i d ≡ site document i
at-in document zero i d low = absurd (omega (arith, low))
at-in document (suc n) i d low = elim (below-or i n (omega (arith, low))) [
  | inl less ↦
      let long : length (sites_in document n) ≡ n = length-in document n in
      get_or_append_left (sites_in document n) (site document n ∷ []) d i (omega (arith, less, long)) ∙ at-in document n i d less
  | inr same ↦ get_or_at (sites_in document n) (site document n) [] d i (length-in document n ∙ sym same) ∙ ap (site document) (sym same)
]

module _ (documents : List SchemaDocument) where
  length-before : (n : ℕ) → length (sites_before documents n) ≡ start_of documents n
  length-before zero = refl
  length-before (suc n) =
      let before : length (sites_before documents n) ≡ start_of documents n = length-before n in
      let here : length (sites_in n (length (nodes_of documents n))) ≡ length (nodes_of documents n) = length-in n (length (nodes_of documents n)) in
      let added : length (sites_before documents n ++ sites_in n (length (nodes_of documents n)))
      ≡ length (sites_before documents n) + length (sites_in n (length (nodes_of documents n)))
      = length-append (sites_before documents n) (sites_in n (length (nodes_of documents n))) in
      omega (arith, before, here, added)

  -- as many as there are elements
  pub length-sites : length (all_sites documents) ≡ count_of documents
  unfolding all_sites
  length-sites = length-before (length documents)

  -- an element of the first documents
  at-before : (n : ℕ) (own d : Site) → own.document < n → own.element < length (nodes_of documents own.document)
      → get_or (sites_before documents n) (start_of documents own.document + own.element) d ≡ own
  at-before zero own d low within = absurd (omega (arith, low))
  at-before (suc n) own d low within = elim (below-or own.document n (omega (arith, low))) [
    | inl less ↦
        let long : length (sites_before documents n) ≡ start_of documents n = length-before n in
        let under : start_of documents own.document + length (nodes_of documents own.document) ≤ start_of documents n = under-start documents own.document n less in
        get_or_append_left (sites_before documents n) (sites_in n (length (nodes_of documents n))) d
        (start_of documents own.document + own.element) (omega (arith, within, long, under))
        ∙ at-before n own d less within
    | inr same ↦
        subst (λ (k : ℕ). get_or (sites_before documents k ++ sites_in k (length (nodes_of documents k))) (start_of documents own.document + own.element) d ≡ own) same
        (ap (λ (k : ℕ). get_or (sites_before documents own.document ++ sites_in own.document (length (nodes_of documents own.document))) (k + own.element) d)
        (sym (length-before own.document))
        ∙ (get_or-append-add (sites_before documents own.document) (sites_in own.document (length (nodes_of documents own.document))) own.element d
        ∙ at-in own.document (length (nodes_of documents own.document)) own.element d within))
  ]

  -- an element stands at its number
  pub at-number : (own d : Site) → IsSite documents own → get_or (all_sites documents) (number_of documents own) d ≡ own
  unfolding all_sites
  at-number own d is = at-before (length documents) own d is.0 is.1

  -- the number of an element is below the count
  pub number-below : (own : Site) → IsSite documents own → number_of documents own < count_of documents
  number-below own is =
      let under : start_of documents own.document + length (nodes_of documents own.document) ≤ count_of documents = under-start documents own.document (length documents) is.0 in
      let within = is.1 in
      omega (arith, under, within)

  -- and so is its value in a list with one for each
  pub value-at : {X : Type 0} (value : Site → X) (own : Site) (e : X) → IsSite documents own
      → get_or (for_each documents value) (number_of documents own) e ≡ value own
  value-at value own e is =
      let low : number_of documents own < count_of documents = number-below own is in
      let long : length (all_sites documents) ≡ count_of documents = length-sites in
      get_or-map value (all_sites documents) (number_of documents own) own e (omega (arith, low, long)) ∙ ap value (at-number own own is)

  uses-in : (document n : ℕ) → uses_in documents document n ≡ map (parts_of documents) (sites_in document n)
  uses-in document zero = refl
  uses-in document (suc n) =
      ap (λ (xs : List (List ℕ)). xs ++ parts_of documents (site document n) ∷ []) (uses-in document n)
      ∙ sym (map-append (parts_of documents) (sites_in document n) (site document n ∷ []))

  uses-before : (n : ℕ) → uses_before documents n ≡ map (parts_of documents) (sites_before documents n)
  uses-before zero = refl
  uses-before (suc n) =
      ap (λ (xs : List (List ℕ)). xs ++ uses_in documents n (length (nodes_of documents n))) (uses-before n)
      ∙ (ap (λ (xs : List (List ℕ)). map (parts_of documents) (sites_before documents n) ++ xs) (uses-in n (length (nodes_of documents n)))
      ∙ sym (map-append (parts_of documents) (sites_before documents n) (sites_in n (length (nodes_of documents n)))))

  -- what each element consists of is a value for each
  pub uses-each : all_uses documents ≡ for_each documents (parts_of documents)
  unfolding all_uses all_sites
  uses-each = uses-before (length documents)

  -- an element of a number
  pub record IsNumbered (i : ℕ) : Type 0 where
    pub own : Site
    pub is : IsSite documents own
    pub number : number_of documents own ≡ i

  numbered-before : (n i : ℕ) → n ≤ length documents → i < start_of documents n → IsNumbered i
  numbered-before zero i most low = absurd (omega (arith, low))
  numbered-before (suc n) i most low = elim (either i (start_of documents n)) [
    | inl less ↦ numbered-before n i (omega (arith, most)) less
    | inr past ↦ record {
      own = site n (i - start_of documents n);
      is = (omega (arith, most), omega (arith, past, low));
      number = omega (arith, past);
    }
  ]

  -- each number below the count is that of an element
  pub numbered : (i : ℕ) → i < count_of documents → IsNumbered i
  numbered i low = numbered-before (length documents) i (omega arith) low

  -- each of all is an element of the documents
  pub all-within : All (IsSite documents) (all_sites documents)
  all-within = λ i d low.
      let long : length (all_sites documents) ≡ count_of documents = length-sites in
      let there = numbered i (omega (arith, low, long)) in
      subst (λ (k : ℕ). IsSite documents (get_or (all_sites documents) k d)) there.number
      (subst (IsSite documents) (sym (at-number there.own d there.is)) there.is)

pub sites_within : (documents : List SchemaDocument) (sites : List Site) → sites ≡ all_sites documents → All (IsSite documents) sites
sites_within documents sites is = subst (All (IsSite documents)) (sym is) (all-within documents)

pub number_below : (documents : List SchemaDocument) (own : Site) → IsSite documents own → number_of documents own < count_of documents
number_below documents own is = number-below documents own is
