-- The statements of a component are elements of the documents.
use Rattle.std.proofs.Common.{◌≡◌, ℕ, ◌<◌, List, [], ◌∷◌, length, All, Bool, true, false, nat_lt, ◌&&◌, if◌then◌else◌, sym, subst, refl}
use Rattle.std.specs.List.{flat_map}
use Rattle.std.proofs.lemmas.Bool.{ltb-true}
use Rattle.std.proofs.lemmas.List.Concat.{flat_map-cons}
use Rattle.std.proofs.lemmas.List.Elements.{All-nil, All-append, All-cons, All-head, All-tail}
use Rattle.dfdl_markup.specs.Trees.{Node, node_at}
use Rattle.dfdl_documents.specs.Documents.{SchemaDocument}
use Rattle.dfdl_components.specs.declared.site.Site.{Site}
use Rattle.dfdl_components.specs.Globals.{site}
use Rattle.dfdl_components.specs.Sites.{IsSite, nodes_of, role_of}
use Rattle.dfdl_chains.specs.Chains.{chain_sites}
use Rattle.dfdl_chains.specs.Facts.{is_annotation_at}
use Rattle.dfdl_chains.specs.Settings.{IsSetterOf, is_setter, is_setter_at, own_setters, setter, setter_if, settings_at, setters_in, setters_within}
use Rattle.dfdl_chains.specs.Tests.{IsTestOf, in_annotation, is_test, is_test_at, own_tests, test_at, test_if, tests_at, tests_in, tests_within}
use Rattle.dfdl_chains.proofs.Within.{chain_is_within, first_holds}

-- what is found in each is such
each_found : {X A : Type 0} (P : A → Type 0) (found : X → List A) → ((x : X) → All P (found x)) → (xs : List X) → All P (flat_map found xs)
each_found P found each [] = All-nil P
each_found {X} {A} P found each (x ∷ xs) =
    subst (λ (ys : List A). All P ys) (sym (flat_map-cons found x xs))
    (All-append P (found x) (flat_map found xs) (each x) (each_found P found each xs))

-- the same of what is found in those that are such themselves
all_found : {X A : Type 0} (Q : X → Type 0) (P : A → Type 0) (found : X → List A) → ((x : X) → Q x → All P (found x)) → (xs : List X) → All Q xs
    → All P (flat_map found xs)
all_found Q P found each [] those = All-nil P
all_found {X} {A} Q P found each (x ∷ xs) those =
    subst (λ (ys : List A). All P ys) (sym (flat_map-cons found x xs))
    (All-append P (found x) (flat_map found xs) (each x (All-head Q x xs those)) (all_found Q P found each xs (All-tail Q x xs those)))

-- the same of what is found in an annotation
annotated : {X : Type 0} (P : X → Type 0) (found : ℕ → List X) → ((n : ℕ) → All P (found n)) → (nodes : List Node) (element : ℕ)
    → All P (in_annotation found nodes element)
annotated {X} P found each nodes element = by (is_annotation_at nodes element)
  where
    by : (test : Bool) → All P (if test then flat_map found (node_at nodes element).children else [])
    by true = each_found P found each (node_at nodes element).children
    by false = All-nil P

module _ (documents : List SchemaDocument) where
  -- a number that passes a test of these is one of an element
  passed : (document element : ℕ) (other : Bool) → document < length documents → (nat_lt element (length (nodes_of documents document)) && other) ≡ true
      → IsSite documents (site document element)
  passed document element other low is =
      (low, ltb-true element (length (nodes_of documents document)) (first_holds (nat_lt element (length (nodes_of documents document))) other is))

  setter_stands : (opens : Bool) (document : ℕ) → document < length documents → (element : ℕ) → All (IsSetterOf documents) (setter_if opens documents document element)
  setter_stands opens document low element = by (is_setter_at opens (nodes_of documents document) element) refl
    where
      by : (test : Bool) → is_setter_at opens (nodes_of documents document) element ≡ test
          → All (IsSetterOf documents) (if test then setter opens (site document element) ∷ [] else [])
      by true is =
          All-cons (IsSetterOf documents) (setter opens (site document element)) []
          (passed document element (is_setter opens (role_of documents (site document element))) low is) (All-nil (IsSetterOf documents))
      by false is = All-nil (IsSetterOf documents)

  test_stands : (document : ℕ) → document < length documents → (element : ℕ) → All (IsTestOf documents) (test_if documents document element)
  test_stands document low element = by (is_test_at (nodes_of documents document) element) refl
    where
      by : (test : Bool) → is_test_at (nodes_of documents document) element ≡ test
          → All (IsTestOf documents) (if test then test_at documents (site document element) ∷ [] else [])
      by true is =
          All-cons (IsTestOf documents) (test_at documents (site document element)) []
          (passed document element (is_test (role_of documents (site document element))) low is) (All-nil (IsTestOf documents))
      by false is = All-nil (IsTestOf documents)

  own_setters_stand : (opens : Bool) (own : Site) → IsSite documents own → All (IsSetterOf documents) (own_setters opens documents own)
  own_setters_stand opens own within =
      let nodes : List Node = nodes_of documents own.document in
      each_found (IsSetterOf documents) (setters_within opens documents own.document)
      (annotated (IsSetterOf documents) (setters_in opens documents own.document)
      (annotated (IsSetterOf documents) (setter_if opens documents own.document) (setter_stands opens own.document within.0) nodes) nodes)
      (node_at nodes own.element).children

  own_tests_stand : (own : Site) → IsSite documents own → All (IsTestOf documents) (own_tests documents own)
  own_tests_stand own within =
      let nodes : List Node = nodes_of documents own.document in
      each_found (IsTestOf documents) (tests_within documents own.document)
      (annotated (IsTestOf documents) (tests_in documents own.document)
      (annotated (IsTestOf documents) (test_if documents own.document) (test_stands own.document within.0) nodes) nodes)
      (node_at nodes own.element).children

  setters_stand : (opens : Bool) (own : Site) → IsSite documents own
      → All (IsSetterOf documents) (flat_map (own_setters opens documents) (chain_sites documents own))
  setters_stand opens own within =
      all_found (IsSite documents) (IsSetterOf documents) (own_setters opens documents) (own_setters_stand opens) (chain_sites documents own)
      (chain_is_within documents own within)

  -- what sets variables at a component are elements of the documents
  pub settings_stand : (own : Site) → IsSite documents own → All (IsSetterOf documents) (settings_at documents own)
  unfolding settings_at
  settings_stand own within =
      All-append (IsSetterOf documents) (flat_map (own_setters true documents) (chain_sites documents own))
      (flat_map (own_setters false documents) (chain_sites documents own)) (setters_stand true own within) (setters_stand false own within)

  -- so are its tests
  pub tests_stand : (own : Site) → IsSite documents own → All (IsTestOf documents) (tests_at documents own)
  unfolding tests_at
  tests_stand own within =
      all_found (IsSite documents) (IsTestOf documents) (own_tests documents) own_tests_stand (chain_sites documents own) (chain_is_within documents own within)
