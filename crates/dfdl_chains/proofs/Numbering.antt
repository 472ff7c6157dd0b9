-- The numbers of elements, and the list of all.
use Rattle.std.proofs.Common.{◌≡◌, ℕ, zero, suc, ◌+◌, ◌<◌, ◌≤◌, ◌-◌, List, [], ◌∷◌, ◌++◌, length, ap, sym, subst, ◌∙◌, refl, arith, length-append, append_assoc}
use Rattle.dfdl_documents.specs.Documents.{SchemaDocument}
use Rattle.dfdl_components.specs.declared.site.Site.{Site}
use Rattle.dfdl_components.specs.Sites.{IsSite, nodes_of}
use Rattle.dfdl_components.specs.Globals.{site}
use Rattle.dfdl_components.specs.Recursion.{start_of, count_of, number_of}
use Rattle.dfdl_chains.specs.Everywhere.{sites_in, sites_before, all_sites}

-- one element more
pub one_site_more : (d n : ℕ) (old sites new : List Site) → sites ≡ old ++ sites_in d n → new ≡ sites ++ site d n ∷ [] → new ≡ old ++ sites_in d (n + 1)
one_site_more d n old sites new before pushed =
    let same : n + 1 ≡ suc n = omega arith in
    pushed
    ∙ (ap (λ (s : List Site). s ++ site d n ∷ []) before
    ∙ (append_assoc old (sites_in d n) (site d n ∷ [])
    ∙ ap (λ (k : ℕ). old ++ sites_in d k) (sym same)))

-- one document more
pub one_document_more : (documents : List SchemaDocument) (d : ℕ) (old new : List Site) → new ≡ old ++ sites_in d (length (nodes_of documents d))
    → old ≡ sites_before documents d → new ≡ sites_before documents (d + 1)
one_document_more documents d old new added before =
    let same : d + 1 ≡ suc d = omega arith in
    added
    ∙ (ap (λ (s : List Site). s ++ sites_in d (length (nodes_of documents d))) before
    ∙ ap (λ (k : ℕ). sites_before documents k) (sym same))

-- later documents start later
later_start : (documents : List SchemaDocument) (n m : ℕ) → start_of documents n ≤ start_of documents (m + n)
later_start documents n zero =
    let same : n ≡ zero + n = omega arith in
    subst (λ (k : ℕ). start_of documents n ≤ start_of documents k) same (omega arith)
later_start documents n (suc m) =
    let before : start_of documents n ≤ start_of documents (m + n) = later_start documents n m in
    let same : suc (m + n) ≡ suc m + n = omega arith in
    let next : start_of documents n ≤ start_of documents (suc (m + n)) = omega (arith, before) in
    subst (λ (k : ℕ). start_of documents n ≤ start_of documents k) same next

-- an element's number is below the count of all
pub number_below : (documents : List SchemaDocument) (own : Site) → IsSite documents own → number_of documents own < count_of documents
number_below documents own within =
    let same : length documents - suc own.document + suc own.document ≡ length documents = omega (arith, within.0) in
    let later : start_of documents (suc own.document) ≤ count_of documents =
    subst (λ (k : ℕ). start_of documents (suc own.document) ≤ start_of documents k) same (later_start documents (suc own.document) (length documents - suc own.document)) in
    let inside = within.1 in
    omega (arith, later, inside)

length_in : (d n : ℕ) → length (sites_in d n) ≡ n
length_in d zero = refl
length_in d (suc n) =
    let before : length (sites_in d n) ≡ n = length_in d n in
    let added : length (sites_in d n ++ site d n ∷ []) ≡ length (sites_in d n) + 1 = length-append (sites_in d n) (site d n ∷ []) in
    omega (arith, before, added)

length_before : (documents : List SchemaDocument) (n : ℕ) → length (sites_before documents n) ≡ start_of documents n
length_before documents zero = refl
length_before documents (suc n) =
    let before : length (sites_before documents n) ≡ start_of documents n = length_before documents n in
    let here : length (sites_in n (length (nodes_of documents n))) ≡ length (nodes_of documents n) = length_in n (length (nodes_of documents n)) in
    let added : length (sites_before documents n ++ sites_in n (length (nodes_of documents n)))
    ≡ length (sites_before documents n) + length (sites_in n (length (nodes_of documents n)))
    = length-append (sites_before documents n) (sites_in n (length (nodes_of documents n))) in
    omega (arith, before, here, added)

-- there are as many as elements
pub length_all : (documents : List SchemaDocument) → length (all_sites documents) ≡ count_of documents
unfolding all_sites
length_all documents = length_before documents (length documents)
