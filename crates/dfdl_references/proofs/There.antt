-- Properties are written at elements of the documents.
use Rattle.std.proofs.Common.{◌≡◌, refl, sym, ap, subst, ◌∙◌, ℕ, zero, suc, ◌<◌, List, [], ◌∷◌, length, Option, Some, None, option_map, Bool, true, false, cond, if◌then◌else◌, filter, is_some, IfSome, arith}
use Rattle.std.specs.List.{find}
use Rattle.std.specs.Option.{option_or, option_and_then}
use Rattle.dfdl_markup.specs.Trees.{Node, node_at}
use Rattle.dfdl_markup.specs.Values.{Attribute}
use Rattle.dfdl_constructs.specs.Elements.{dfdl_namespace, dfdl_of, has, is_attribute, value_among}
use Rattle.dfdl_documents.specs.Documents.{SchemaDocument}
use Rattle.dfdl_components.specs.declared.site.Site.{Site}
use Rattle.dfdl_components.specs.Globals.{site}
use Rattle.dfdl_components.specs.Recursion.{count_of}
use Rattle.dfdl_components.specs.Sites.{IsSite, nodes_of}
use Rattle.dfdl_properties.specs.Forms.{is_one, is_written_property}
use Rattle.dfdl_references.proofs.Found.{document-there, or-site, or-zero, passed}
use Rattle.dfdl_references.specs.References.{default_of, first_found, format_after, format_of}
use Rattle.dfdl_references.specs.Writers.{by_default_writer, default_writer, explicit_writer, format_own_writer, format_writer, is_called, own_writer, property_in, writer_in, writer_in_annotation, writer_in_annotations, writer_in_information, writer_of, writer_within}

-- there is such an element, where it has an attribute
attribute-there : (nodes : List Node) (e : ℕ) (test : Attribute → Bool) → is_some (value_among test (node_at nodes e).attributes) ≡ true → e < length nodes
attribute-there [] e test has = absurd (grind (arith, has))
attribute-there (x ∷ xs) zero test has = omega arith
attribute-there (x ∷ xs) (suc e) test has = let rest = attribute-there xs e test has in omega (arith, rest)

-- what is first found for some is found for one of them
among : {A B : Type 0} (P : B → Type 0) (f : A → Option B) → ((x : A) (b : B) → f x ≡ Some b → P b) → (xs : List A) (b : B) → first_found f xs ≡ Some b → P b
among P f each [] b is = absurd (grind (arith, is))
among {A} {B} P f each (x ∷ xs) b is = by (f x) refl is (among P f each xs b)
  where
    by : (o : Option B) → f x ≡ o → option_or o (first_found f xs) ≡ Some b → (first_found f xs ≡ Some b → P b) → P b
    by None here at go = go at
    by (Some other) here at go = each x b (here ∙ at)

-- what is found among those that pass a test passes it
kept : (test called : ℕ → Bool) (xs : List ℕ) (n : ℕ) → find called (filter test xs) ≡ Some n → test n ≡ true
kept test called [] n is = absurd (grind (arith, is))
kept test called (x ∷ xs) n is = by (test x) (called x) refl is (kept test called xs n)
  where
    by : (b c : Bool) → test x ≡ b → find called (cond b (x ∷ filter test xs) (filter test xs)) ≡ Some n
        → (find called (filter test xs) ≡ Some n → test n ≡ true) → test n ≡ true
    by true c here at go = first (called x) at
      where
        first : (c : Bool) → cond c (Some x) (find called (filter test xs)) ≡ Some n → test n ≡ true
        first true same = subst (λ m. test m ≡ true) (ap or-zero same) here
        first false other = go other
    by false c here at go = go at

module _ (nodes : List Node) (name : List ℕ) where
  in-element : (e n : ℕ) → writer_in nodes name e ≡ Some n → n < length nodes
  in-element e n is = by (has nodes e name) refl is
    where
      by : (b : Bool) → has nodes e name ≡ b → (if b then Some e else property_in nodes name e) ≡ Some n → n < length nodes
      by true here at = subst (λ m. m < length nodes) (ap or-zero at) (attribute-there nodes e (is_attribute nodes e [] name) here)
      by false here at = (passed nodes is_written_property n (kept (is_one nodes is_written_property) (is_called nodes name) _ n at)).0

  in-information : (e n : ℕ) → writer_in_information nodes name e ≡ Some n → n < length nodes
  in-information e n is = among (λ m. m < length nodes) (writer_in nodes name) in-element _ n is

  in-annotation : (e n : ℕ) → writer_in_annotation nodes name e ≡ Some n → n < length nodes
  in-annotation e n is = among (λ m. m < length nodes) (writer_in_information nodes name) in-information _ n is

  in-component : (e n : ℕ) → own_writer nodes name e ≡ Some n → n < length nodes
  in-component e n is = by (is_some (dfdl_of nodes e name)) refl is
    where
      by : (b : Bool) → is_some (dfdl_of nodes e name) ≡ b → (if b then Some e else writer_in_annotations nodes name e) ≡ Some n → n < length nodes
      by true here at = subst (λ m. m < length nodes) (ap or-zero at) (attribute-there nodes e (is_attribute nodes e dfdl_namespace name) here)
      by false here at = among (λ m. m < length nodes) (writer_in_annotation nodes name) in-annotation _ n at

module _ (documents : List SchemaDocument) (name : List ℕ) where
  in-document : (d : ℕ) (o : Option ℕ) → ((n : ℕ) → o ≡ Some n → n < length (nodes_of documents d)) → (writer : Site)
      → option_map (site d) o ≡ Some writer → IsSite documents writer
  in-document d None each writer is = absurd (grind (arith, is))
  in-document d (Some n) each writer is =
      subst (IsSite documents) (ap (or-site (site d n)) is) (document-there documents d n (each n refl), each n refl)

  of-two : (o p : Option Site) (writer : Site) → (o ≡ Some writer → IsSite documents writer) → (p ≡ Some writer → IsSite documents writer)
      → option_or o p ≡ Some writer → IsSite documents writer
  of-two None p writer one other is = other is
  of-two (Some x) p writer one other is = one is

  of-next : (f : Site → Option Site) → ((own writer : Site) → f own ≡ Some writer → IsSite documents writer) → (o : Option Site) (writer : Site)
      → option_and_then f o ≡ Some writer → IsSite documents writer
  of-next f each None writer is = absurd (grind (arith, is))
  of-next f each (Some own) writer is = each own writer is

  of-format : (format writer : Site) → format_own_writer documents name format ≡ Some writer → IsSite documents writer
  of-format format writer is = in-document format.document _ (in-element _ name format.element) writer is

  within : (n : ℕ) (format writer : Site) → writer_within n documents name format ≡ Some writer → IsSite documents writer
  unfolding writer_within
  within zero format writer is = absurd (grind (arith, is))
  within (suc n) format writer is =
      of-two (format_own_writer documents name format) (option_and_then (writer_within n documents name) (format_after documents format)) writer
      (of-format format writer) (of-next (writer_within n documents name) (within n) (format_after documents format) writer) is

  of-explicit : (own writer : Site) → explicit_writer documents name own ≡ Some writer → IsSite documents writer
  of-explicit own writer is =
      of-two _ (option_and_then (format_writer documents name) (format_of documents own)) writer
      (in-document own.document _ (in-component _ name own.element) writer)
      (of-next (format_writer documents name) (within (count_of documents)) (format_of documents own) writer) is

  of-default : (own writer : Site) → default_writer documents name own ≡ Some writer → IsSite documents writer
  of-default own writer is = of-next (format_writer documents name) (within (count_of documents)) (default_of documents own.document) writer is

  of-chain : (chain : List Site) (writer : Site) → writer_of documents chain name ≡ Some writer → IsSite documents writer
  of-chain chain writer is =
      of-two (first_found (explicit_writer documents name) chain) (first_found (default_writer documents name) chain) writer
      (among (IsSite documents) (explicit_writer documents name) of-explicit chain writer)
      (among (IsSite documents) (default_writer documents name) of-default chain writer) is

-- where the property of a chain is written
pub writer_there : (documents : List SchemaDocument) (chain : List Site) (name : List ℕ) (o : Option Site) → o ≡ writer_of documents chain name → IfSome o (IsSite documents)
writer_there documents chain name None is = tt
writer_there documents chain name (Some writer) is = of-chain documents name chain writer (sym is)

-- where it is written by default
pub default_writer_there : (documents : List SchemaDocument) (chain : List Site) (name : List ℕ) (o : Option Site) → o ≡ by_default_writer documents chain name
    → IfSome o (IsSite documents)
default_writer_there documents chain name None is = tt
default_writer_there documents chain name (Some writer) is =
    among (IsSite documents) (default_writer documents name) (of-default documents name) chain writer (sym is)
