-- The target namespace of a document, from that of the one that includes it.
use Rattle.std.proofs.Common.{◌≡◌, ℕ, zero, suc, ◌+◌, ◌<◌, List, [], ◌∷◌, ◌++◌, length, get_or, subst, inl, inr, length-append, Option, Some, None, Bool, true, false, if◌then◌else◌, ap, sym, ◌∙◌, refl, arith}
use Rattle.std.proofs.Math.ListN.{get_or-append}
use Rattle.std.proofs.Math.Seq.{get_or-append_seam}
use Rattle.std.proofs.lemmas.Bool.{cases_eq}
use Rattle.dfdl_documents.specs.Documents.{SchemaDocument, Reference}
use Rattle.dfdl_documents.specs.Loading.{document_at}
use Rattle.dfdl_documents.specs.References.{references_of}
use Rattle.dfdl_components.specs.Searching.{or_else, first_below}
use Rattle.dfdl_components.specs.Namespaces.{own_namespace, includer_of, includer_among, if_includes, includes_in, AreReferences, own_or, namespace_within, namespace_of}

-- where a document has its own
pub at_own : (documents : List SchemaDocument) (n d : ℕ) (namespace : List ℕ) → 0 < n → Some namespace ≡ own_namespace documents d
    → namespace_within n documents d ≡ namespace
at_own documents zero d namespace some own = absurd (omega (arith, some))
at_own documents (suc n) d namespace some own =
    ap (λ (o : Option (List ℕ)). own_or o (namespace_within n documents) (includer_of documents d)) (sym own)

-- where it has none, and none includes it
pub at_none : (documents : List SchemaDocument) (n d : ℕ) → 0 < n → None ≡ own_namespace documents d → None ≡ includer_of documents d
    → namespace_within n documents d ≡ []
at_none documents zero d some own includer = absurd (omega (arith, some))
at_none documents (suc n) d some own includer =
    ap (λ (o : Option (List ℕ)). own_or o (namespace_within n documents) (includer_of documents d)) (sym own)
    ∙ ap (λ (o : Option ℕ). own_or None (namespace_within n documents) o) (sym includer)

-- where it has none, and another includes it
pub at_includer : (documents : List SchemaDocument) (n m d o : ℕ) → n ≡ suc m → None ≡ own_namespace documents d → Some o ≡ includer_of documents d
    → namespace_within m documents o ≡ namespace_within n documents d
at_includer documents n m d o next own includer =
    sym (ap (λ (k : ℕ). namespace_within k documents d) next
    ∙ (ap (λ (p : Option (List ℕ)). own_or p (namespace_within m documents) (includer_of documents d)) (sym own)
    ∙ ap (λ (p : Option ℕ). own_or None (namespace_within m documents) p) (sym includer)))

pub at_end : (documents : List SchemaDocument) (n d : ℕ) → n ≡ 0 → namespace_within n documents d ≡ []
at_end documents n d none = ap (λ (k : ℕ). namespace_within k documents d) none

pub is_namespace : (documents : List SchemaDocument) (d : ℕ) → namespace_within (length documents + 1) documents d ≡ namespace_of documents d
unfolding namespace_of
is_namespace documents d = let same : length documents + 1 ≡ suc (length documents) = omega arith in ap (λ (k : ℕ). namespace_within k documents d) same

-- the first number that passes a test is below the bound
pub passing_below : (test : ℕ → Bool) (n x : ℕ) → first_below (λ i. if test i then Some i else None) n ≡ Some x → x < n
unfolding first_below
passing_below test zero x e = let never : None ≡ Some x = e in cc
passing_below test (suc n) x e = split (passing_below test n x) (first_below (λ i. if test i then Some i else None) n) refl e
  where
    here : (b : Bool) → (if b then Some n else None) ≡ Some x → x < suc n
    here true is = let same : n ≡ x = some_is n x is in omega (arith, same)
      where
        some_is : (a b : ℕ) → Some a ≡ Some b → a ≡ b
        some_is a b e = cc
    here false is = let never : None ≡ Some x = is in cc

    split : (first_below (λ i. if test i then Some i else None) n ≡ Some x → x < n) → (o : Option ℕ) → first_below (λ i. if test i then Some i else None) n ≡ o → or_else o (if test n then Some n else None) ≡ Some x → x < suc n
    split below None was is = here (test n) is
    split below (Some y) was is = let low : x < n = below (was ∙ is) in omega (arith, low)

pub includer_below : (documents : List SchemaDocument) (d o : ℕ) → Some o ≡ includer_of documents d → o < length documents
includer_below documents d o e = passing_below (λ other. includes_in (references_of (document_at documents other)) (document_at documents d).name) (length documents) o (sym e)

-- two answers that are one below the bound
same_below : (f g : ℕ → Option ℕ) (n : ℕ) → ((i : ℕ) → i < n → f i ≡ g i) → first_below f n ≡ first_below g n
unfolding first_below
same_below f g zero same = refl
same_below f g (suc n) same =
    ap (λ (o : Option ℕ). or_else o (f n)) (same_below f g n (λ i low. same i (omega (arith, low))))
    ∙ ap (λ (o : Option ℕ). or_else (first_below g n) o) (same n (omega arith))

-- the first list that includes a document is that of the first document that does
pub includer_is : (documents : List SchemaDocument) (all : List (List Reference)) (d : ℕ) → AreReferences documents (length documents) all
    → includer_among all (document_at documents d).name (length all) ≡ includer_of documents d
includer_is documents all d are =
    ap (includer_among all (document_at documents d).name) are.count
    ∙ same_below (λ other. if_includes (get_or all other []) (document_at documents d).name other)
    (λ other. if_includes (references_of (document_at documents other)) (document_at documents d).name other) (length documents)
    (λ i low. ap (λ (rs : List Reference). if_includes rs (document_at documents d).name i) (are.each i low))

-- the references of one document more
pub referenced : (documents : List SchemaDocument) (n : ℕ) (all new : List (List Reference)) (x : List Reference) → AreReferences documents n all
    → new ≡ all ++ x ∷ [] → x ≡ references_of (document_at documents n) → AreReferences documents (n + 1) new
referenced documents n all new x are added is = subst (AreReferences documents (n + 1)) (sym added) (record {
  count = omega (arith, length-append all (x ∷ []), are.count);
  each = λ i small. elim (cases_eq i n) [
    | inl last ↦
        ap (λ (k : ℕ). get_or (all ++ x ∷ []) k []) (last ∙ sym are.count)
        ∙ (get_or-append_seam all x [] [] ∙ (is ∙ ap (λ (k : ℕ). references_of (document_at documents k)) (sym last)))
    | inr other ↦ get_or-append all (x ∷ []) [] i (omega (arith, small, other, are.count)) ∙ are.each i (omega (arith, small, other))
  ];
})

-- the includer of one document more
pub included : (documents : List SchemaDocument) (n : ℕ) (old new : List (Option ℕ)) (x : Option ℕ) → length old ≡ n
    → ((i : ℕ) → i < n → get_or old i None ≡ includer_of documents i) → new ≡ old ++ x ∷ [] → x ≡ includer_of documents n
    → (i : ℕ) → i < n + 1 → get_or new i None ≡ includer_of documents i
included documents n old new x long each added is i small =
    ap (λ (xs : List (Option ℕ)). get_or xs i None) added ∙ (elim (cases_eq i n) [
      | inl last ↦
          ap (λ (k : ℕ). get_or (old ++ x ∷ []) k None) (last ∙ sym long)
          ∙ (get_or-append_seam old x [] None ∙ (is ∙ ap (includer_of documents) (sym last)))
      | inr other ↦ get_or-append old (x ∷ []) None i (omega (arith, small, other, long)) ∙ each i (omega (arith, small, other))
    ])
