-- The names that are known, in the order in which they are first named: those of the documents that
-- are loaded, and those that wait.
use Rattle.std.proofs.Common.{◌≡◌, ℕ, zero, suc, List, [], ◌∷◌, ◌++◌, length, take, refl, sym, ap, ◌∙◌, arith, add-one, Bool, true, false, not, ◌||◌, if◌then◌else◌, Some}
use Rattle.std.specs.List.{find, slice_get, flat_map}
use Rattle.std.specs.Str.{bytes_eq}
use Rattle.std.proofs.lemmas.Grind.{flat_map-append}
use Rattle.std.proofs.lemmas.List.{append_assoc, append-nil, map-append, take-append-le, length_push}
use Rattle.std.proofs.lemmas.List.Folds.{list_any-append}
use Rattle.std.proofs.lemmas.Option.{slice_get_within}
use Rattle.std.proofs.lemmas.Slice.Eq.{bytes_eq-Decides}
use Rattle.dfdl_documents.specs.Documents.{SchemaDocument}
use Rattle.dfdl_documents.specs.References.{names_of}
use Rattle.dfdl_documents.specs.Loading.{is_among, loaded_names, all_names, next_name}
use Rattle.dfdl_documents.specs.Names.{with_name, with_names}

-- those of the names that are new, each once
abbrev pub news : List (List ℕ) → List (List ℕ) → List (List ℕ)
news names [] = []
news names (name ∷ others) =
    if is_among names name then news names others else name ∷ news (names ++ name ∷ []) others

-- the name is none of these
abbrev pub is_new : List (List ℕ) → List ℕ → Bool
is_new names name = not (is_among names name)

-- the names with others are those and what is new
pub with_news : (names others : List (List ℕ)) → with_names names others ≡ names ++ news names others
with_news names [] = sym (append-nil names)
with_news names (name ∷ others) = cases (is_among names name) (λ known. with_news known others)
  where
    cases : (b : Bool)
        → ((known : List (List ℕ)) → with_names known others ≡ known ++ news known others)
        → with_names (if b then names else names ++ name ∷ []) others
        ≡ names ++ (if b then news names others else name ∷ news (names ++ name ∷ []) others)
    cases true rest = rest names
    cases false rest = rest (names ++ name ∷ []) ∙ append_assoc names (name ∷ []) (news (names ++ name ∷ []) others)

-- others in two parts
pub with_both : (names xs ys : List (List ℕ))
    → with_names names (xs ++ ys) ≡ with_names (with_names names xs) ys
with_both names [] ys = refl
with_both names (x ∷ xs) ys = with_both (with_name names x) xs ys

or_true : (a : Bool) → (a || true) ≡ true
or_true true = refl
or_true false = refl

-- a name of the first ones is one of all
among_front : (names others : List (List ℕ)) (name : List ℕ) → is_among names name ≡ true
    → is_among (names ++ others) name ≡ true
among_front names others name is =
    list_any-append (λ (other : List ℕ). bytes_eq other name) names others
    ∙ ap (λ b. b || is_among others name) is

-- a name that stands between others is one of all
among_between : (names others : List (List ℕ)) (name : List ℕ)
    → is_among (names ++ name ∷ others) name ≡ true
among_between names others name =
    list_any-append (λ (other : List ℕ). bytes_eq other name) names (name ∷ others)
    ∙ (ap (λ b. is_among names name || (b || is_among others name)) ((bytes_eq-Decides name name).1 refl)
    ∙ or_true (is_among names name))

-- a name that is known is passed over
passed : (names : List (List ℕ)) (name : List ℕ) (others : List (List ℕ))
    → is_among names name ≡ true → find (is_new names) (name ∷ others) ≡ find (is_new names) others
passed names name others is =
    ap (λ b. if not b then Some name else find (is_new names) others) is

-- a name that is not known is found
stopped : (names : List (List ℕ)) (name : List ℕ) (others : List (List ℕ))
    → is_among names name ≡ false → find (is_new names) (name ∷ others) ≡ Some name
stopped names name others is =
    ap (λ b. if not b then Some name else find (is_new names) others) is

-- the first name that is none of the first m new ones is the new one of number m
pub first_new : (names others : List (List ℕ)) (m : ℕ)
    → find (is_new (names ++ take m (news names others))) others ≡ slice_get (news names others) m
first_new names [] m = refl
first_new names (name ∷ others) m = cases (is_among names name) refl (λ known k. first_new known others k)
  where
    known : (m : ℕ) → is_among names name ≡ true
        → ((known : List (List ℕ)) (k : ℕ) → find (is_new (known ++ take k (news known others))) others ≡ slice_get (news known others) k)
        → find (is_new (names ++ take m (news names others))) (name ∷ others) ≡ slice_get (news names others) m
    known m is rest =
        passed (names ++ take m (news names others)) name others (among_front names (take m (news names others)) name is)
        ∙ rest names m

    unknown : (m : ℕ) → is_among names name ≡ false
        → ((known : List (List ℕ)) (k : ℕ) → find (is_new (known ++ take k (news known others))) others ≡ slice_get (news known others) k)
        → find (is_new (names ++ take m (name ∷ news (names ++ name ∷ []) others))) (name ∷ others)
        ≡ slice_get (name ∷ news (names ++ name ∷ []) others) m
    unknown zero is rest = stopped (names ++ []) name others (ap (λ l. is_among l name) (append-nil names) ∙ is)
    unknown (suc m) is rest =
        let more = news (names ++ name ∷ []) others in
        passed (names ++ name ∷ take m more) name others (among_between names (take m more) name)
        ∙ (ap (λ l. find (is_new l) others) (sym (append_assoc names (name ∷ []) (take m more)))
        ∙ rest (names ++ name ∷ []) m)

    cases : (b : Bool) → is_among names name ≡ b
        → ((known : List (List ℕ)) (k : ℕ) → find (is_new (known ++ take k (news known others))) others ≡ slice_get (news known others) k)
        → find (is_new (names ++ take m (if b then news names others else name ∷ news (names ++ name ∷ []) others))) (name ∷ others)
        ≡ slice_get (if b then news names others else name ∷ news (names ++ name ∷ []) others) m
    cases true is rest = known m is rest
    cases false is rest = unknown m is rest

-- these names are all that the documents name, and their own names are the first of these
pub record IsQueue (first : List ℕ) (documents : List SchemaDocument)
    (names : List (List ℕ)) : Type 0 where
  pub known : names ≡ with_names [] (all_names first documents)
  pub front : take (length documents) names ≡ loaded_names documents

-- the next document is the one whose name stands behind those of the documents
pub queue_next : (first : List ℕ) (documents : List SchemaDocument) (names : List (List ℕ))
    → IsQueue first documents names → next_name first documents ≡ slice_get names (length documents)
queue_next first documents names queue =
    let all = all_names first documents in
    let new : names ≡ news [] all = queue.known ∙ with_news [] all in
    let own : loaded_names documents ≡ take (length documents) (news [] all) = sym queue.front ∙ ap (take (length documents)) new in
    ap (λ l. find (is_new l) all) own
    ∙ (first_new [] all (length documents) ∙ ap (λ l. slice_get l (length documents)) (sym new))

pub queue_begins : (first : List ℕ) → IsQueue first [] (with_name [] first)
queue_begins first = record { known = refl; front = refl }

one_more_taken : (xs : List (List ℕ)) (n : ℕ) (x : List ℕ) → slice_get xs n ≡ Some x
    → take (suc n) xs ≡ take n xs ++ x ∷ []
one_more_taken [] n x is = absurd cc
one_more_taken (y ∷ ys) zero x is = cc
one_more_taken (y ∷ ys) (suc n) x is = ap (λ l. y ∷ l) (one_more_taken ys n x is)

get_front : (xs ys : List (List ℕ)) (n : ℕ) (x : List ℕ) → slice_get xs n ≡ Some x
    → slice_get (xs ++ ys) n ≡ Some x
get_front [] ys n x is = absurd cc
get_front (z ∷ xs) ys zero x is = is
get_front (z ∷ xs) ys (suc n) x is = get_front xs ys n x is

-- one more document is loaded, and what it names waits
pub queue_grows : (first : List ℕ) (documents : List SchemaDocument) (names more : List (List ℕ))
    (document : SchemaDocument) → IsQueue first documents names
    → slice_get names (length documents) ≡ Some document.name
    → more ≡ with_names names (names_of document)
    → IsQueue first (documents ++ document ∷ []) more
queue_grows first documents names more document queue next are = record {
  known =
      are
      ∙ (ap (λ l. with_names l (names_of document)) queue.known
      ∙ (sym (with_both [] (all_names first documents) (names_of document))
      ∙ ap (λ l. with_names [] (first ∷ l)) flat));
  front =
      ap (λ n. take n more) count
      ∙ (ap (take (suc (length documents))) new
      ∙ (one_more_taken (names ++ news names (names_of document)) (length documents) document.name (get_front names _ _ _ next)
      ∙ (ap (λ l. l ++ document.name ∷ []) (take-append-le (length documents) names (news names (names_of document)) (omega (arith, slice_get_within names (length documents) document.name next)) ∙ queue.front)
      ∙ sym (map-append (λ (d : SchemaDocument). d.name) documents (document ∷ [])))));
}
  where
    flat : flat_map names_of documents ++ names_of document ≡ flat_map names_of (documents ++ document ∷ [])
    flat = sym (flat_map-append names_of documents (document ∷ []) ∙ ap (λ l. flat_map names_of documents ++ l) (append-nil (names_of document)))

    count : length (documents ++ document ∷ []) ≡ suc (length documents)
    count = length_push documents document ∙ add-one (length documents)

    new : more ≡ names ++ news names (names_of document)
    new = are ∙ with_news names (names_of document)
