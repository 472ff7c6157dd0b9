-- How the prefixes of documents are gathered.
use Rattle.std.proofs.Common.{◌≡◌, ℕ, zero, suc, ◌+◌, ◌<◌, ◌≤◌, ◌||◌, ◌&&◌, List, [], ◌∷◌, ◌++◌, length, drop, get_or, Bool, true, false, if◌then◌else◌, bytes_eq, ap, sym, subst, ◌∙◌, refl, inl, inr, arith, drop-cons}
use Rattle.std.specs.List.{list_any}
use Rattle.std.specs.Prelude.{encode_utf8_all}
use Rattle.std.proofs.Math.Bool.{or_assoc}
use Rattle.std.proofs.lemmas.Bool.{cases_lt}
use Rattle.std.proofs.lemmas.Slice.Eq.{bytes_eq-Decides}
use Rattle.std.proofs.lemmas.List.Folds.{list_any-append}
use Rattle.std.proofs.lemmas.List.{get_or_append_left, length-append}
use Rattle.std.proofs.Math.Seq.{get_or-append_seam}
use Rattle.dfdl_markup.specs.Trees.{local_part}
use Rattle.dfdl_markup.specs.Values.{Attribute}
use Rattle.dfdl_constructs.specs.Elements.{is_declaration}
use Rattle.dfdl_documents.specs.Documents.{SchemaDocument}
use Rattle.dfdl_documents.specs.Loading.{is_among}
use Rattle.dfdl_documents.specs.Names.{with_name}
use Rattle.dfdl_components.specs.Sites.{nodes_of}
use Rattle.dfdl_written.specs.Prefixes.{AreDeclaredIn, declares}

pub or_none : (b : Bool) → (b || false) ≡ b
or_none true = refl
or_none false = refl

-- a test that holds only where another does adds nothing to it
or_same : (a b : Bool) → (b ≡ true → a ≡ true) → a ≡ (a || b)
or_same true b holds = refl
or_same false true holds = holds refl
or_same false false holds = refl

-- the texts with one more
pub among_more : (names : List (List ℕ)) (name q : List ℕ) → is_among (with_name names name) q ≡ (is_among names q || bytes_eq name q)
among_more names name q = by (is_among names name) refl
  where
    by : (b : Bool) → is_among names name ≡ b → is_among (if b then names else names ++ name ∷ []) q ≡ (is_among names q || bytes_eq name q)
    by true there = or_same (is_among names q) (bytes_eq name q)
        (λ same. subst (λ (t : List ℕ). is_among names t ≡ true) ((bytes_eq-Decides name q).0 same) there)
    by false absent = list_any-append (λ (other : List ℕ). bytes_eq other q) names (name ∷ [])
        ∙ ap (λ (b : Bool). is_among names q || b) (or_none (bytes_eq name q))

-- the prefixes with that of an attribute, if it declares one
pub declared_more : (prefixes more : List (List ℕ)) (name q : List ℕ) (attribute : Attribute) → more ≡ with_name prefixes name
    → name ≡ encode_utf8_all (local_part attribute.name) → is_declaration attribute ≡ true → is_among more q ≡ (is_among prefixes q || declares q attribute)
declared_more prefixes more name q attribute more_is name_is declared =
    ap (λ (names : List (List ℕ)). is_among names q) more_is
    ∙ (among_more prefixes name q
    ∙ (ap (λ (t : List ℕ). is_among prefixes q || bytes_eq t q) name_is
    ∙ ap (λ (b : Bool). is_among prefixes q || (b && bytes_eq (encode_utf8_all (local_part attribute.name)) q)) (sym declared)))

pub declared_same : (prefixes : List (List ℕ)) (q : List ℕ) (attribute : Attribute) → is_declaration attribute ≡ false
    → is_among prefixes q ≡ (is_among prefixes q || declares q attribute)
declared_same prefixes q attribute none =
    sym (ap (λ (b : Bool). is_among prefixes q || (b && bytes_eq (encode_utf8_all (local_part attribute.name)) q)) none ∙ or_none (is_among prefixes q))

-- a test that one element more may pass
pub any_more : {X : Type 0} (p : X → Bool) (xs : List X) (at : ℕ) (d : X) (before after whole : Bool) → at < length xs
    → after ≡ (before || p (get_or xs at d)) → (before || list_any p (drop at xs)) ≡ whole → (after || list_any p (drop (at + 1) xs)) ≡ whole
any_more {X} p xs at d before after whole less step same =
    let next : suc at ≡ at + 1 = omega arith in
    let split : drop at xs ≡ get_or xs at d ∷ drop (at + 1) xs = drop-cons xs at d less ∙ ap (λ (k : ℕ). get_or xs at d ∷ drop k xs) next in
    ap (λ (b : Bool). b || list_any p (drop (at + 1) xs)) step
    ∙ (or_assoc before (p (get_or xs at d)) (list_any p (drop (at + 1) xs))
    ∙ (ap (λ (ys : List X). before || list_any p ys) (sym split) ∙ same))

-- none is left
pub any_end : {X : Type 0} (p : X → Bool) (xs : List X) (at : ℕ) (before whole : Bool) → length xs ≤ at → (before || list_any p (drop at xs)) ≡ whole → before ≡ whole
any_end {X} p xs at before whole all same = sym (or_none before) ∙ (ap (λ (ys : List X). before || list_any p ys) (sym (none xs at all)) ∙ same)
  where
    none : (ns : List X) (i : ℕ) → length ns ≤ i → drop i ns ≡ []
    none [] zero less = refl
    none [] (suc i) less = refl
    none (n ∷ ns) zero less = absurd (omega (arith, less))
    none (n ∷ ns) (suc i) less = none ns i (omega (arith, less))

-- the prefixes of the first documents
abbrev pub AreDeclaredBefore : List SchemaDocument → ℕ → List (List (List ℕ)) → Type 0
AreDeclaredBefore documents count prefixes =
    (length prefixes ≡ count) × ((d : ℕ) → d < count → AreDeclaredIn (nodes_of documents d) (get_or prefixes d []))

-- those of one document more
pub declared_behind : (documents : List SchemaDocument) (count : ℕ) (prefixes next : List (List (List ℕ))) (own : List (List ℕ))
    → next ≡ prefixes ++ own ∷ [] → AreDeclaredIn (nodes_of documents count) own → AreDeclaredBefore documents count prefixes
    → AreDeclaredBefore documents (count + 1) next
declared_behind documents count prefixes next own next_is declared (counted, each) =
    subst (λ (ps : List (List (List ℕ))). AreDeclaredBefore documents (count + 1) ps) (sym next_is) (long, by)
  where
    long : length (prefixes ++ own ∷ []) ≡ count + 1
    long = omega (arith, counted, length-append prefixes (own ∷ []))

    by : (d : ℕ) → d < count + 1 → AreDeclaredIn (nodes_of documents d) (get_or (prefixes ++ own ∷ []) d [])
    by d less = elim (cases_lt d count) [
      | inl below ↦ subst (λ (names : List (List ℕ)). AreDeclaredIn (nodes_of documents d) names)
          (sym (get_or_append_left prefixes (own ∷ []) [] d (omega (arith, below, counted)))) (each d below)
      | inr behind ↦
          let last : d ≡ count = omega (arith, less, behind) in
          let here : get_or (prefixes ++ own ∷ []) d [] ≡ own
          = ap (λ (k : ℕ). get_or (prefixes ++ own ∷ []) k []) (last ∙ sym counted) ∙ get_or-append_seam prefixes own [] [] in
          subst (λ (names : List (List ℕ)). AreDeclaredIn (nodes_of documents d) names) (sym here)
          (subst (λ (k : ℕ). AreDeclaredIn (nodes_of documents k) own) (sym last) declared)
    ]
