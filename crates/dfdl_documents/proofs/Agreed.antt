-- Two lists of documents that are loaded agree as far as the shorter goes, and so what ends a loading
-- is one.
use Rattle.std.proofs.Common.{◌≡◌, ℕ, zero, suc, ◌<◌, ◌≤◌, List, [], ◌∷◌, ◌++◌, length, take, get_or, refl, sym, ap, ◌∙◌, subst, arith, Option, None, Some, All, IsSome, IfSome, ◌⊎◌, inl, inr}
use Rattle.std.specs.List.{slice_get}
use Rattle.std.proofs.lemmas.List.{take_all}
use Rattle.std.proofs.lemmas.Option.{slice_get_within}
use Rattle.dfdl_edge.specs.Files.{FilesSeen}
use Rattle.dfdl_markup.specs.Documents.{IsTreeOf}
use Rattle.dfdl_markup.specs.Trees.{Node}
use Rattle.dfdl_documents.specs.Documents.{SchemaDocument}
use Rattle.dfdl_documents.specs.Loading.{IsFile, IsLoading, IsWithinTree, next_name}
use Rattle.dfdl_documents.specs.Told.{AreTold}

-- the element of a place within a list
pub element_at : (xs : List SchemaDocument) (i : ℕ) → i < length xs
    → (x : SchemaDocument) × (slice_get xs i ≡ Some x)
element_at [] i within = absurd (omega arith)
element_at (x ∷ xs) zero within = (x, refl)
element_at (x ∷ xs) (suc i) within = element_at xs i (omega arith)

taken_more : (xs : List SchemaDocument) (i : ℕ) (x : SchemaDocument) → slice_get xs i ≡ Some x
    → take (suc i) xs ≡ take i xs ++ x ∷ []
taken_more [] i x is = absurd cc
taken_more (y ∷ ys) zero x is = cc
taken_more (y ∷ ys) (suc i) x is = ap (λ l. y ∷ l) (taken_more ys i x is)

-- what holds of all elements holds of the one at a place
pub at_place : (P : SchemaDocument → Type 0) (xs : List SchemaDocument) (i : ℕ) (x : SchemaDocument)
    → All P xs → slice_get xs i ≡ Some x → P x
at_place P xs i x all is =
    subst P (get_or_is xs i x is) (all i x (slice_get_within xs i x is))
  where
    get_or_is : (xs : List SchemaDocument) (i : ℕ) (x : SchemaDocument) → slice_get xs i ≡ Some x
        → get_or xs i x ≡ x
    get_or_is [] i x is = refl
    get_or_is (y ∷ ys) zero x is = cc
    get_or_is (y ∷ ys) (suc i) x is = get_or_is ys i x is

-- a document with this name and these elements
same_document : (a b : SchemaDocument) → a.name ≡ b.name → a.nodes ≡ b.nodes → a ≡ b
same_document a b name nodes =
    ap (λ n. the_document n a.nodes) name ∙ ap (λ ns. the_document b.name ns) nodes
  where
    the_document : List ℕ → List Node → SchemaDocument
    the_document name nodes = record { name = name; nodes = nodes }

-- how two lists of documents that are loaded stand to one another: one of them goes on with the
-- document that is the next of the other, or they are the same
pub data Stand (first : List ℕ) (a b : List SchemaDocument) : Type 0 where
  shorter : (d : SchemaDocument) → slice_get b (length a) ≡ Some d
      → next_name first a ≡ Some d.name → Stand first a b
  same : a ≡ b → Stand first a b
  longer : (d : SchemaDocument) → slice_get a (length b) ≡ Some d
      → next_name first b ≡ Some d.name → Stand first a b

module _ (one_tree : (bytes : List ℕ) (a b : List Node) → IsTreeOf bytes a → IsTreeOf bytes b → a ≡ b) where
  -- where its bytes are told, the file of a name is one document
  one_file : (files : FilesSeen) (most : ℕ) (a b : SchemaDocument) → a.name ≡ b.name
      → IsFile files most a → IsFile files most b → IsSome (files.content b.name) → a ≡ b
  one_file files most a b name first second told =
      same_document a b name
      (both (files.content b.name) told (subst (λ n. IfSome (files.content n) (λ bytes. IsWithinTree most bytes a)) name first.read) second.read)
    where
      both : (o : Option (List ℕ)) → IsSome o → IfSome o (λ bytes. IsWithinTree most bytes a)
          → IfSome o (λ bytes. IsWithinTree most bytes b) → a.nodes ≡ b.nodes
      both None told x y = absurd cc
      both (Some bytes) told x y = one_tree bytes a.nodes b.nodes x.tree y.tree

  same_front : (files : FilesSeen) (most : ℕ) (first : List ℕ) (a b : List SchemaDocument)
      → IsLoading files most first a → IsLoading files most first b → AreTold files b
      → (i : ℕ) → i ≤ length a → i ≤ length b → take i a ≡ take i b
  same_front files most first a b left right told zero in_a in_b = refl
  same_front files most first a b left right told (suc i) in_a in_b =
      let before = same_front files most first a b left right told i (omega arith) (omega arith) in
      let x = element_at a i (omega arith) in
      let y = element_at b i (omega arith) in
      let names : Some x.0.name ≡ Some y.0.name =
      sym (left.in_turn i x.0 x.1) ∙ (ap (next_name first) before ∙ right.in_turn i y.0 y.1) in
      let name : x.0.name ≡ y.0.name = cc in
      let one : x.0 ≡ y.0 =
      one_file files most x.0 y.0 name (at_place (IsFile files most) a i x.0 left.are_files x.1)
      (at_place (IsFile files most) b i y.0 right.are_files y.1)
      (at_place (λ (d : SchemaDocument). IsSome (files.content d.name)) b i y.0 told y.1) in
      taken_more a i x.0 x.1
      ∙ (ap (λ l. l ++ x.0 ∷ []) before ∙ (ap (λ (d : SchemaDocument). take i b ++ d ∷ []) one ∙ sym (taken_more b i y.0 y.1)))

  pub stand : (files : FilesSeen) (most : ℕ) (first : List ℕ) (a b : List SchemaDocument)
      → IsLoading files most first a → IsLoading files most first b → AreTold files b
      → Stand first a b
  stand files most first a b left right told = cases (by_length (length a) (length b))
    where
      by_length : (n m : ℕ) → (n < m) ⊎ ((n ≡ m) ⊎ (m < n))
      by_length zero zero = inr (inl refl)
      by_length zero (suc m) = inl (omega arith)
      by_length (suc n) zero = inr (inr (omega arith))
      by_length (suc n) (suc m) =
          elim (by_length n m) [
            | inl less ↦ inl (omega arith)
            | inr rest ↦ elim rest [ inl is ↦ inr (inl (ap suc is)) | inr more ↦ inr (inr (omega arith)) ]
          ]

      cases : (length a < length b) ⊎ ((length a ≡ length b) ⊎ (length b < length a)) → Stand first a b
      cases (inl less) =
          let y = element_at b (length a) less in
          let whole : take (length a) a ≡ a = take_all (length a) a (omega arith) in
          shorter y.0 y.1
          (ap (next_name first) (sym whole ∙ same_front files most first a b left right told (length a) (omega arith) (omega arith))
          ∙ right.in_turn (length a) y.0 y.1)
      cases (inr (inl is)) =
          let whole_a : take (length a) a ≡ a = take_all (length a) a (omega arith) in
          let whole_b : take (length a) b ≡ b = take_all (length a) b (omega arith) in
          same (sym whole_a ∙ (same_front files most first a b left right told (length a) (omega arith) (omega arith) ∙ whole_b))
      cases (inr (inr more)) =
          let x = element_at a (length b) more in
          let whole : take (length b) b ≡ b = take_all (length b) b (omega arith) in
          longer x.0 x.1
          (ap (next_name first) (sym whole ∙ sym (same_front files most first a b left right told (length b) (omega arith) (omega arith)))
          ∙ left.in_turn (length b) x.0 x.1)
