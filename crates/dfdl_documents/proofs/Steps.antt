-- How the loading of documents goes on, and how it ends.
use Rattle.std.proofs.Common.{◌≡◌, ℕ, zero, suc, List, [], ◌∷◌, ◌++◌, take, refl, sym, ap, ◌∙◌, ◌⊎◌, inl, inr, Some}
use Rattle.std.specs.List.{slice_get}
use Rattle.std.proofs.lemmas.List.Elements.{All-append, All-cons, All-nil}
use Rattle.dfdl_edge.specs.Files.{FilesSeen}
use Rattle.dfdl_documents.specs.Documents.{SchemaDocument}
use Rattle.dfdl_documents.specs.Loading.{IsFile, IsLoading, next_name}

-- an element of a list with one more is one of the list, or the last
last_or_before : (xs : List SchemaDocument) (x : SchemaDocument) (i : ℕ) (y : SchemaDocument)
    → slice_get (xs ++ x ∷ []) i ≡ Some y
    → ((slice_get xs i ≡ Some y) × (take i (xs ++ x ∷ []) ≡ take i xs))
    ⊎ ((y ≡ x) × (take i (xs ++ x ∷ []) ≡ xs))
last_or_before [] x zero y is = inr (cc, refl)
last_or_before [] x (suc i) y is = absurd cc
last_or_before (z ∷ xs) x zero y is = inl (is, refl)
last_or_before (z ∷ xs) x (suc i) y is =
    elim (last_or_before xs x i y is) [
      | inl p ↦ inl (p.0, ap (λ l. z ∷ l) p.1)
      | inr p ↦ inr (p.0, ap (λ l. z ∷ l) p.1)
    ]

-- nothing is loaded
pub loading_begins : (files : FilesSeen) (most : ℕ) (first : List ℕ) → IsLoading files most first []
loading_begins files most first = record {
  in_turn = λ i document is. absurd cc;
  are_files = All-nil (IsFile files most);
}

-- one more document is loaded
pub loading_grows : (files : FilesSeen) (most : ℕ) (first : List ℕ)
    (documents : List SchemaDocument) (document : SchemaDocument)
    → IsLoading files most first documents
    → next_name first documents ≡ Some document.name → IsFile files most document
    → IsLoading files most first (documents ++ document ∷ [])
loading_grows files most first documents document loading next file = record {
  in_turn = turn;
  are_files = All-append (IsFile files most) documents (document ∷ []) loading.are_files
      (All-cons (IsFile files most) document [] file (All-nil (IsFile files most)));
}
  where
    turn : (i : ℕ) (d : SchemaDocument) → slice_get (documents ++ document ∷ []) i ≡ Some d
        → next_name first (take i (documents ++ document ∷ [])) ≡ Some d.name
    turn i d is =
        elim (last_or_before documents document i d is) [
          | inl p ↦ ap (next_name first) p.1 ∙ loading.in_turn i d p.0
          | inr p ↦ ap (next_name first) p.1 ∙ (next ∙ ap (λ (e : SchemaDocument). Some e.name) (sym p.0))
        ]
