-- What the loop over documents keeps.
use Rattle.std.proofs.Common.{◌≡◌, ℕ, zero, suc, ◌+◌, ◌<◌, ◌≤◌, List, [], ◌∷◌, ◌++◌, length, refl, sym, ap, ◌∙◌, subst, arith, add-one, Option, None, Some, ◌⊎◌, inl, inr}
use Rattle.std.specs.List.{slice_get}
use Rattle.std.proofs.lemmas.List.{length_push}
use Rattle.dfdl_edge.specs.Faults.{one_more}
use Rattle.dfdl_edge.specs.Files.{FilesSeen}
use Rattle.dfdl_documents.specs.declared.documents.Loaded.{Loaded}
use Rattle.dfdl_documents.specs.Documents.{SchemaDocument}
use Rattle.dfdl_documents.specs.References.{names_of}
use Rattle.dfdl_documents.specs.Loading.{IsFile, IsLoading, AreLoaded, IsCounted, next_name, more_loads, after_loads}
use Rattle.dfdl_documents.specs.Names.{with_name, with_names}
use Rattle.dfdl_documents.specs.Shown.{document_of, load_of, LoadGives}
use Rattle.dfdl_documents.proofs.Queue.{IsQueue, queue_next, queue_begins, queue_grows}
use Rattle.dfdl_documents.proofs.Steps.{loading_begins, loading_grows}

-- so many documents are loaded, and these names are known
pub record IsSoFar (before now : FilesSeen) (most : ℕ) (first : List ℕ)
    (documents : List SchemaDocument) (names : List (List ℕ)) (number : ℕ) : Type 0 where
  pub count : length documents ≡ number
  pub loading : IsLoading before most first documents
  pub queue : IsQueue first documents names
  pub seen : now ≡ after_loads (length documents) before

pub begins : (before : FilesSeen) (most : ℕ) (first : List ℕ) (names : List (List ℕ))
    (documents : List SchemaDocument) → names ≡ with_name [] first → documents ≡ []
    → IsSoFar before before most first documents names 0
begins before most first names documents is none =
    let begun : IsSoFar before before most first [] (with_name [] first) 0 =
    record {
      count = refl;
      loading = loading_begins before most first;
      queue = queue_begins first;
      seen = refl;
    } in
    subst (λ (l : List (List ℕ)). IsSoFar before before most first documents l 0) (sym is)
    (subst (λ (ds : List SchemaDocument). IsSoFar before before most first ds (with_name [] first) 0) (sym none) begun)

-- the name that stands next is that of the next document
pub next_is : (before now : FilesSeen) (most : ℕ) (first : List ℕ)
    (documents : List SchemaDocument) (names : List (List ℕ)) (number : ℕ) (o : Option (List ℕ))
    → IsSoFar before now most first documents names number → slice_get names number ≡ o
    → next_name first documents ≡ o
next_is before now most first documents names number o so is =
    queue_next first documents names so.queue ∙ (ap (slice_get names) so.count ∙ is)

-- a document of the files after some loads is one of the files before
file_before : (n most : ℕ) (before : FilesSeen) (document : SchemaDocument)
    → IsFile (after_loads n before) most document → IsFile before most document
file_before n most before document file = record { there = file.there; read = file.read }

-- one more document
pub goes_on : (before now after : FilesSeen) (most : ℕ) (first name : List ℕ)
    (documents more : List SchemaDocument) (names others : List (List ℕ)) (number : ℕ)
    (loaded : Loaded)
    → IsSoFar before now most first documents names number → slice_get names number ≡ Some name
    → LoadGives now after (load_of name most number) loaded
    → others ≡ with_names names (names_of (document_of loaded))
    → more ≡ documents ++ document_of loaded ∷ []
    → IsSoFar before after most first more others (number + 1)
goes_on before now after most first name documents more names others number loaded so next gives named pushed =
    let document = document_of loaded in
    let own : slice_get names (length documents) ≡ Some document.name =
    ap (slice_get names) so.count ∙ (next ∙ ap Some (sym gives.name)) in
    let file : IsFile before most document =
    file_before (length documents) most before document (subst (λ (f : FilesSeen). IsFile f most document) so.seen gives.file) in
    let longer : length (documents ++ document ∷ []) ≡ suc (length documents) = length_push documents document ∙ add-one (length documents) in
    let step : IsSoFar before after most first (documents ++ document ∷ []) others (number + 1) =
    record {
      count = length_push documents document ∙ ap (λ n. n + 1) so.count;
      loading = loading_grows before most first documents document so.loading
          (queue_next first documents names so.queue ∙ own) file;
      queue = queue_grows first documents names others document so.queue own named;
      seen = gives.seen ∙ (ap (after_loads 1) so.seen ∙ ap (λ n. after_loads n before) (sym longer));
    } in
    subst (λ (ds : List SchemaDocument). IsSoFar before after most first ds others (number + 1)) (sym pushed) step

-- no name waits
pub all_loaded : (before now : FilesSeen) (most schemas : ℕ) (first : List ℕ)
    (documents : List SchemaDocument) (names : List (List ℕ)) (number : ℕ)
    → IsSoFar before now most first documents names number → slice_get names number ≡ None
    → number ≤ schemas → AreLoaded before most schemas first documents
all_loaded before now most schemas first documents names number so none few = record {
  loading = so.loading;
  no_more = next_is before now most first documents names number None so none;
  few = omega (arith, so.count);
}

-- as many loads as documents
pub counted_so_far : (before now : FilesSeen) (most schemas : ℕ) (first : List ℕ)
    (documents : List SchemaDocument) (names : List (List ℕ)) (number : ℕ)
    → IsSoFar before now most first documents names number → number ≤ schemas
    → IsCounted schemas before.loads now.loads
counted_so_far before now most schemas first documents names number so few = record {
  n = length documents;
  few = omega (arith, so.count);
  loads = ap (λ (s : FilesSeen). s.loads) so.seen;
}

at_most_one : (n k : ℕ) → n ≤ 1 → (before now after : ℕ) → now ≡ more_loads k before
    → after ≡ more_loads n now
    → (after ≡ more_loads k before) ⊎ (after ≡ more_loads (suc k) before)
at_most_one zero k few before now after first second = inl (second ∙ first)
at_most_one (suc zero) k few before now after first second = inr (second ∙ ap one_more first)
at_most_one (suc (suc n)) k few before now after first second = absurd (omega arith)

-- and at most one load more
pub counted_more : (before now : FilesSeen) (after most schemas : ℕ) (first : List ℕ)
    (documents : List SchemaDocument) (names : List (List ℕ)) (number : ℕ)
    → IsSoFar before now most first documents names number → number < schemas
    → IsCounted 1 now.loads after → IsCounted schemas before.loads after
counted_more before now after most schemas first documents names number so room once =
    elim (at_most_one once.n (length documents) once.few before.loads now.loads after (ap (λ (s : FilesSeen). s.loads) so.seen) once.loads) [
      | inl same ↦ record { n = length documents; few = omega (arith, so.count); loads = same }
      | inr more ↦ record { n = suc (length documents); few = omega (arith, so.count); loads = more }
    ]
