-- The formats that are found: elements of the documents with the role of a format.
use Rattle.std.proofs.Common.{◌≡◌, refl, sym, ap, subst, ◌∙◌, ℕ, zero, suc, ◌<◌, List, [], ◌∷◌, ◌++◌, length, Option, Some, None, option_map, Bool, true, false, cond, filter, ◌&&◌, ◌||◌, nat_lt, codes, Contains, IfSome, arith}
use Rattle.std.specs.List.{flat_map}
use Rattle.std.specs.Option.{option_or}
use Rattle.std.proofs.lemmas.Bool.{ltb-true}
use Rattle.std.proofs.lemmas.List.Concat.{flat_map-cons}
use Rattle.std.proofs.lemmas.List.Elements.{Contains-append_right}
use Rattle.dfdl_markup.specs.Trees.{Node, node_at}
use Rattle.dfdl_constructs.specs.declared.role.Role.{Role}
use Rattle.dfdl_constructs.specs.Elements.{plain_of}
use Rattle.dfdl_constructs.specs.Roles.{role_at}
use Rattle.dfdl_documents.specs.Documents.{SchemaDocument}
use Rattle.dfdl_components.specs.declared.named.Named.{Named}
use Rattle.dfdl_components.specs.declared.named.Named.TheVariants.{Component, Carried, NotCarried}
use Rattle.dfdl_components.specs.declared.kind.ComponentKind.TheVariants as kind
use Rattle.dfdl_components.specs.declared.site.Site.{Site}
use Rattle.dfdl_components.specs.Globals.{site}
use Rattle.dfdl_components.specs.Naming.{resolved}
use Rattle.dfdl_components.specs.Sites.{IsSite, nodes_of, role_of}
use Rattle.dfdl_properties.specs.Forms.{children_of, is_one}
use Rattle.dfdl_properties.specs.Own.{first, formats_in, is_annotation, is_default_format, is_dfdl_information, default_format_of}
use Rattle.dfdl_references.specs.References.{is_defined_format, is_format, format_in, format_of_named, format_named, format_after, format_in_short, first_found, format_in_information, format_in_annotation, format_in_annotations, format_of, default_of}

-- a value that is there
abbrev pub or-zero : Option ℕ → ℕ
or-zero None = zero
or-zero (Some n) = n

-- what a list begins with is in it, where a test leaves it
pub first-kept : (p : ℕ → Bool) (xs : List ℕ) (n : ℕ) → first (filter p xs) ≡ Some n → (p n ≡ true) × Contains xs n
first-kept p [] n is = absurd (grind (arith, is))
first-kept p (x ∷ xs) n is = by (p x) refl is (first-kept p xs n)
  where
    by : (b : Bool) → p x ≡ b → first (cond b (x ∷ filter p xs) (filter p xs)) ≡ Some n
        → (first (filter p xs) ≡ Some n → (p n ≡ true) × Contains xs n) → (p n ≡ true) × Contains (x ∷ xs) n
    by true test found go =
        let same : x ≡ n = ap or-zero found in
        (subst (λ m. p m ≡ true) same test, (zero, omega arith, same))
    by false test found go = let rest = go found in (rest.0, Contains-append_right (x ∷ []) xs n rest.1)

-- what joined lists begin with begins one of them
first-joined : (P : ℕ → Type 0) (xs ys : List ℕ) (n : ℕ) → (first xs ≡ Some n → P n) → (first ys ≡ Some n → P n) → first (xs ++ ys) ≡ Some n → P n
first-joined P [] ys n one other is = other is
first-joined P (x ∷ xs) ys n one other is = one is

first-flat : (P : ℕ → Type 0) (f : ℕ → List ℕ) → ((x n : ℕ) → first (f x) ≡ Some n → P n) → (xs : List ℕ) (n : ℕ) → first (flat_map f xs) ≡ Some n → P n
first-flat P f each [] n is = absurd (grind (arith, is))
first-flat P f each (x ∷ xs) n is =
    first-joined P (f x) (flat_map f xs) n (each x n) (first-flat P f each xs n) (subst (λ ys. first ys ≡ Some n) (flat_map-cons f x xs) is)

-- there is such a document, where it has an element
pub document-there : (documents : List SchemaDocument) (d e : ℕ) → e < length (nodes_of documents d) → d < length documents
document-there [] d e low = absurd (omega (arith, low))
document-there (x ∷ xs) zero e low = omega arith
document-there (x ∷ xs) (suc d) e low = let rest = document-there xs d e low in omega (arith, rest)

-- there is such an element, where it has a child
pub element-there : (nodes : List Node) (e n : ℕ) → Contains (node_at nodes e).children n → e < length nodes
element-there [] e n has = let low = has.1 in absurd (omega (arith, low))
element-there (x ∷ xs) zero n has = omega arith
element-there (x ∷ xs) (suc e) n has = let rest = element-there xs e n has in omega (arith, rest)

-- two tests that are passed together
first-passed : (a b : Bool) → (a && b) ≡ true → a ≡ true
first-passed a b h = grind (arith, h)

second-passed : (a b : Bool) → (a && b) ≡ true → b ≡ true
second-passed a b h = grind (arith, h)

-- an element of the documents, and a format
pub record IsFound (documents : List SchemaDocument) (format : Site) : Type 0 where
  pub is : IsSite documents format
  pub role : is_format (role_of documents format) ≡ true

-- an element of a document that is of a kind
pub passed : (nodes : List Node) (test : Role → Bool) (n : ℕ) → is_one nodes test n ≡ true → (n < length nodes) × (test (role_at nodes n) ≡ true)
passed nodes test n is = (
  ltb-true n (length nodes) (first-passed (nat_lt n (length nodes)) (test (role_at nodes n)) is),
  second-passed (nat_lt n (length nodes)) (test (role_at nodes n)) is,
)

defined-is : (r : Role) → is_defined_format r ≡ true → is_format r ≡ true
defined-is r is = by (is_default_format r) (is_defined_format r) is
  where
    by : (a b : Bool) → b ≡ true → (a || b) ≡ true
    by a b h = grind (arith, h)

default-is : (r : Role) → is_default_format r ≡ true → is_format r ≡ true
default-is r is = by (is_default_format r) (is_defined_format r) is
  where
    by : (a b : Bool) → a ≡ true → (a || b) ≡ true
    by a b h = grind (arith, h)

-- an element that may be lacking, or another
abbrev pub or-site : Site → Option Site → Site
or-site other None = other
or-site other (Some own) = own

module _ (documents : List SchemaDocument) where
  found-in : (document e : ℕ) → (e < length (nodes_of documents document)) × (is_format (role_at (nodes_of documents document) e) ≡ true)
      → IsFound documents (site document e)
  found-in document e is = record { is = (document-there documents document e is.0, is.0); role = is.1 }

  -- where a definition leads to
  pub record IsDefined (definition format : Site) : Type 0 where
    pub is : IsSite documents definition
    pub found : IsFound documents format
    pub document : format.document ≡ definition.document
    pub child : Contains (node_at (nodes_of documents definition.document) definition.element).children format.element

  in-definition : (definition format : Site)
      → option_map (site definition.document) (format_in (nodes_of documents definition.document) definition.element) ≡ Some format
      → IsDefined definition format
  in-definition definition format is = by (format_in (nodes_of documents definition.document) definition.element) refl is
    where
      by : (o : Option ℕ) → format_in (nodes_of documents definition.document) definition.element ≡ o
          → option_map (site definition.document) o ≡ Some format → IsDefined definition format
      by None found at = absurd (grind (arith, at))
      by (Some e) found at =
          let kept = first-kept (is_one (nodes_of documents definition.document) is_defined_format)
          (node_at (nodes_of documents definition.document) definition.element).children e found in
          let there = passed (nodes_of documents definition.document) is_defined_format e kept.0 in
          let of : IsFound documents (site definition.document e) = found-in definition.document e (there.0, defined-is _ there.1) in
          subst (IsDefined definition) (ap (or-site (site definition.document e)) at)
          record {
            is = (of.is.0, element-there (nodes_of documents definition.document) definition.element e kept.1);
            found = of;
            document = refl;
            child = kept.1;
          }

  -- a name that leads to a format
  pub record IsNamed (own : Site) (text : List ℕ) (format : Site) : Type 0 where
    pub definition : Site
    pub named : resolved documents own kind.Format text ≡ Some (Component definition)
    pub defined : IsDefined definition format

  is-named : (own : Site) (text : List ℕ) (format : Site) → format_named documents own (Some text) ≡ Some format → IsNamed own text format
  is-named own text format is = by (resolved documents own kind.Format text) refl is
    where
      by : (o : Option Named) → resolved documents own kind.Format text ≡ o → format_of_named documents o ≡ Some format → IsNamed own text format
      by None named at = absurd (grind (arith, at))
      by (Some (Component definition)) named at = record { definition = definition; named = named; defined = in-definition definition format at }
      by (Some Carried) named at = absurd (grind (arith, at))
      by (Some NotCarried) named at = absurd (grind (arith, at))

  -- what a reference names is a format
  named-found : (own : Site) (o : Option (List ℕ)) (format : Site) → format_named documents own o ≡ Some format → IsFound documents format
  named-found own None format is = absurd (grind (arith, is))
  named-found own (Some text) format is = (is-named own text format is).defined.found

  -- a format that refers to another: the text that does, and where it leads to
  pub record IsAfter (own format : Site) : Type 0 where
    pub text : List ℕ
    pub written : plain_of (nodes_of documents own.document) own.element (codes "ref") ≡ Some text
    pub named : IsNamed own text format

  pub is-after : (own format : Site) → format_after documents own ≡ Some format → IsAfter own format
  is-after own format is = by (plain_of (nodes_of documents own.document) own.element (codes "ref")) refl is
    where
      by : (o : Option (List ℕ)) → plain_of (nodes_of documents own.document) own.element (codes "ref") ≡ o → format_named documents own o ≡ Some format → IsAfter own format
      by None written at = absurd (grind (arith, at))
      by (Some text) written at = record { text = text; written = written; named = is-named own text format at }

  pub after-found : (own format : Site) → format_after documents own ≡ Some format → IsFound documents format
  after-found own format is = named-found own _ format is

  -- the first that is found among some is one that is found
  among-found : (found : ℕ → Option Site) → ((x : ℕ) (format : Site) → found x ≡ Some format → IsFound documents format) → (xs : List ℕ) (format : Site)
      → first_found found xs ≡ Some format → IsFound documents format
  among-found found each [] format is = absurd (grind (arith, is))
  among-found found each (x ∷ xs) format is = by (found x) refl is (among-found found each xs format)
    where
      by : (o : Option Site) → found x ≡ o → option_or o (first_found found xs) ≡ Some format
          → (first_found found xs ≡ Some format → IsFound documents format) → IsFound documents format
      by None here at go = go at
      by (Some other) here at go = each x format (here ∙ at)

  information-found : (document information : ℕ) (format : Site) → format_in_information documents document information ≡ Some format → IsFound documents format
  information-found document information = among-found _ (λ element. after-found (site document element)) _

  annotation-found : (document annotation : ℕ) (format : Site) → format_in_annotation documents document annotation ≡ Some format → IsFound documents format
  annotation-found document annotation = among-found _ (information-found document) _

  pub of-found : (own format : Site) → format_of documents own ≡ Some format → IsFound documents format
  of-found own format is = by (format_in_short documents own) refl is
    where
      by : (o : Option Site) → format_in_short documents own ≡ o → option_or o (format_in_annotations documents own) ≡ Some format → IsFound documents format
      by None here at = among-found _ (annotation-found own.document) _ format at
      by (Some other) here at = named-found own _ format (here ∙ at)

  -- the default format of a document
  in-formats : (document : ℕ) (e : ℕ) → default_format_of (nodes_of documents document) ≡ Some e → IsFound documents (site document e)
  in-formats document e is =
      first-flat (λ n. IsFound documents (site document n)) (formats_in nodes)
      (λ annotation. first-flat (λ n. IsFound documents (site document n)) (children_of nodes is_default_format)
      (λ information n at.
      let kept = first-kept (is_one nodes is_default_format) (node_at nodes information).children n at in
      let there = passed nodes is_default_format n kept.0 in
      found-in document n (there.0, default-is _ there.1))
      (children_of nodes is_dfdl_information annotation))
      (children_of nodes is_annotation 0) e is
    where
      nodes : List Node
      nodes = nodes_of documents document

  pub default-found : (document : ℕ) (format : Site) → default_of documents document ≡ Some format → IsFound documents format
  default-found document format is = by (default_format_of (nodes_of documents document)) refl is
    where
      by : (o : Option ℕ) → default_format_of (nodes_of documents document) ≡ o → option_map (site document) o ≡ Some format → IsFound documents format
      by None here at = absurd (grind (arith, at))
      by (Some e) here at = subst (IsFound documents) (ap (or-site (site document e)) at) (in-formats document e here)

-- what is found is an element of the documents
found-if : (documents : List SchemaDocument) (o p : Option Site) → o ≡ p → ((format : Site) → p ≡ Some format → IsFound documents format) → IfSome o (IsSite documents)
found-if documents o None is found = subst (λ (q : Option Site). IfSome q (IsSite documents)) (sym is) tt
found-if documents o (Some format) is found = subst (λ (q : Option Site). IfSome q (IsSite documents)) (sym is) (found format refl).is

pub after_within : (documents : List SchemaDocument) (own : Site) (o : Option Site) → o ≡ format_after documents own → IfSome o (IsSite documents)
after_within documents own o is = found-if documents o (format_after documents own) is (after-found documents own)

pub of_within : (documents : List SchemaDocument) (own : Site) (o : Option Site) → o ≡ format_of documents own → IfSome o (IsSite documents)
of_within documents own o is = found-if documents o (format_of documents own) is (of-found documents own)

pub default_within : (documents : List SchemaDocument) (document : ℕ) (o : Option Site) → o ≡ default_of documents document → IfSome o (IsSite documents)
default_within documents document o is = found-if documents o (default_of documents document) is (default-found documents document)
