-- What is kept of elements and formats, and the elements of chains.
use Rattle.std.proofs.Common.{◌≡◌, refl, sym, ap, subst, ◌∙◌, ℕ, zero, ◌<◌, List, length, get_or, map, Bool, Option, Some, None, option_map, Result, IfSome, arith}
use Rattle.dfdl_documents.specs.Documents.{SchemaDocument}
use Rattle.std.proofs.lemmas.List.{get_or-map}
use mathlib.Core.Path.{fun_ext}
use Rattle.dfdl_report.specs.declared.place.Place.{Place}
use Rattle.dfdl_components.specs.declared.site.Site.{Site}
use Rattle.dfdl_components.specs.Recursion.{count_of, number_of}
use Rattle.dfdl_components.specs.Sites.{IsSite}
use Rattle.dfdl_chains.specs.declared.settings.Setter.{Setter}
use Rattle.dfdl_checks.specs.Judged.{Judged}
use Rattle.dfdl_checks.specs.Tests.{patterns_of}
use Rattle.dfdl_scope.specs.Scoping.{Element, nothing}
use Rattle.dfdl_scope.specs.Shown.{format_given}
use Rattle.dfdl_scope.specs.declared.format.Format.{Format}
use Rattle.dfdl_chains.specs.Everywhere.{all_sites}
use Rattle.dfdl_chains.specs.Facts.{facts_at}
use Rattle.dfdl_chains.specs.Tests.{tests_at}
use Rattle.dfdl_references.proofs.Found.{IsFound, of-found, default-found}
use Rattle.dfdl_breaches.proofs.Joining.{all-tabled}
use Rattle.dfdl_breaches.proofs.Numbering.{at-number, length-sites, number-below}
use Rattle.dfdl_breaches.specs.Builds.{PatternsSeen}
use Rattle.dfdl_breaches.specs.BuildsShown.{IsToldBy, with_refused}
use Rattle.dfdl_breaches.specs.Elements.{place_of}
use Rattle.dfdl_breaches.specs.Formats.{format_value, given_by}
use Rattle.dfdl_breaches.specs.Hidden.{facts_where, hides, hiding_at, is_unknown, tests_where}
use Rattle.dfdl_breaches.specs.Judging.{are_some, judged_at, kind_judged, stated_settings_at}
use Rattle.dfdl_breaches.specs.JudgementShown.{judgement_of}
use Rattle.dfdl_breaches.specs.KeptShown.{IsFormatIf}
use Rattle.dfdl_breaches.specs.declared.judgement.Judgement.{Judgement}
use Rattle.dfdl_breaches.specs.Prefixes.{prefix_at}
use Rattle.dfdl_breaches.specs.Roots.{chain_at, root_bits_by}
use Rattle.dfdl_breaches.specs.Schemes.{scheme_at}
use Rattle.dfdl_breaches.specs.Standing.{standing_at}
use Rattle.dfdl_references.specs.References.{default_of, format_of}
use Rattle.dfdl_breaches.specs.Tabled.{AreJoined, AreTabled}

-- a number that is there
abbrev or-zero : Option ℕ → ℕ
or-zero None = zero
or-zero (Some n) = n

-- what the format of a number gives
pub some_given : (documents : List SchemaDocument) (formats : List Format) (n : ℕ) (d : Format) (o : Option Site) (name : List ℕ)
    → AreJoined documents (count_of documents) formats → n < length formats → Some n ≡ option_map (number_of documents) o → IsFormatIf documents o
    → format_given (get_or formats n d) name ≡ given_by (format_value documents) o name
some_given documents formats n d None name joined low is format = absurd (grind (arith, is))
some_given documents formats n d (Some own) name joined low is format =
    sym (get_or-map (λ f. format_given f name) formats n d None low)
    ∙ (ap (λ k. get_or (map (λ f. format_given f name) formats) k None) (ap or-zero is) ∙ joined.each own name format.0 format.1)

pub none_given : (documents : List SchemaDocument) (o : Option Site) (name : List ℕ) → None ≡ option_map (number_of documents) o
    → nothing name ≡ given_by (format_value documents) o name
none_given documents None name is = refl
none_given documents (Some own) name is = absurd (grind (arith, is))

-- what may be found is a format
found-format : (documents : List SchemaDocument) (o : Option Site) → ((format : Site) → o ≡ Some format → IsFound documents format) → IsFormatIf documents o
found-format documents None found = tt
found-format documents (Some format) found = ((found format refl).is, (found format refl).role)

pub of_format : (documents : List SchemaDocument) (own : Site) → IsFormatIf documents (format_of documents own)
of_format documents own = found-format documents (format_of documents own) (of-found documents own)

pub default_format : (documents : List SchemaDocument) (document : ℕ) → IsFormatIf documents (default_of documents document)
default_format documents document = found-format documents (default_of documents document) (default-found documents document)

-- its number is that of one of the formats
pub number_within : (documents : List SchemaDocument) (formats : List Format) (o : Option Site) (number : Option ℕ) → number ≡ option_map (number_of documents) o
    → IsFormatIf documents o → length formats ≡ count_of documents → IfSome number (λ n. n < length formats)
number_within documents formats None number is format counted = subst (λ (p : Option ℕ). IfSome p (λ n. n < length formats)) (sym is) tt
number_within documents formats (Some own) number is format counted =
    subst (λ (p : Option ℕ). IfSome p (λ n. n < length formats)) (sym is)
    (subst (λ (k : ℕ). number_of documents own < k) (sym counted) (number-below documents own format.0))

-- what a table has of an element
pub at_site : {X : Type 0} (relation : Site → X → Type 0) (documents : List SchemaDocument) (sites : List Site) (table : List X) (own : Site) (x : X) → sites ≡ all_sites documents
    → AreTabled relation sites (length sites) table → IsSite documents own → relation own (get_or table (number_of documents own) x)
at_site relation documents sites table own x is tabled at =
    subst (λ (s : Site). relation s (get_or table (number_of documents own) x)) (at-number documents own own at)
    ((all-tabled relation documents sites table is tabled).each (number_of documents own) own x (number-below documents own at))

-- the number of an element is below the table's length
pub number_low : {X : Type 0} (relation : Site → X → Type 0) (documents : List SchemaDocument) (sites : List Site) (table : List X) (own : Site) (n : ℕ) → sites ≡ all_sites documents
    → AreTabled relation sites (length sites) table → IsSite documents own → n ≡ number_of documents own → n < length table
number_low relation documents sites table own n is tabled at number =
    let low : number_of documents own < count_of documents = number-below documents own at in
    let long : length table ≡ length sites = tabled.count in
    let all : length sites ≡ length (all_sites documents) = ap length is in
    let counted : length (all_sites documents) ≡ count_of documents = length-sites documents in
    subst (λ (k : ℕ). n < k) (sym (long ∙ (all ∙ counted))) (subst (λ (k : ℕ). k < count_of documents) (sym number) low)

-- a place by its parts
pub same_place : (place : Place) (document at : ℕ) → place.document ≡ document → place.at ≡ at → place ≡ record { document = document; at = at }
same_place place document at one other =
    ap (λ (d : ℕ). record { document = d; at = place.at }) one ∙ ap (λ (a : ℕ). record { document = document; at = a }) other

-- an element whose parts are those of another
pub same_element : (a b : Element) → a.place ≡ b.place → ((name : List ℕ) → a.own name ≡ b.own name) → ((name : List ℕ) → a.is_twice name ≡ b.is_twice name)
    → ((name : List ℕ) → a.format name ≡ b.format name) → ((name : List ℕ) → a.by_default name ≡ b.by_default name) → a ≡ b
same_element a b place own twice format default = λ i. record {
  place = place i;
  own = fun_ext own i;
  is_twice = fun_ext twice i;
  format = fun_ext format i;
  by_default = fun_ext default i;
}

-- a component whose parts are those of the documents
pub same_judged : (refused : Site → Bool) (documents : List SchemaDocument) (own : Site) (j : Judged)
    → j.kind ≡ kind_judged j.purpose documents own
    → j.place.document ≡ (place_of documents own).document → j.place.at ≡ (place_of documents own).at → j.chain ≡ chain_at documents own
    → j.facts ≡ facts_where (hides (hiding_at j.purpose documents own)) (facts_at documents own) → j.root_bits_by ≡ root_bits_by documents → j.prefix ≡ prefix_at documents own → j.scheme ≡ scheme_at documents own
    → j.pattern_is_refused ≡ refused own → j.tests ≡ tests_where (hides (hiding_at j.purpose documents own)) (tests_at documents own)
    → j.sets_variables ≡ are_some (stated_settings_at j.purpose documents own)
    → j.standing ≡ standing_at documents own → j.group_is_unknown ≡ is_unknown (hiding_at j.purpose documents own)
    → j ≡ judged_at j.purpose refused documents own
same_judged refused documents own j kind document at chain facts root prefix scheme is_refused tests sets standing unknown = λ i. record {
  purpose = j.purpose;
  kind = kind i;
  place = same_place j.place (place_of documents own).document (place_of documents own).at document at i;
  chain = chain i;
  facts = facts i;
  root_bits_by = root i;
  prefix = prefix i;
  scheme = scheme i;
  pattern_is_refused = is_refused i;
  tests = tests i;
  sets_variables = sets i;
  standing = standing i;
  group_is_unknown = unknown i;
}

-- what is told of a component that hides a group is told of the same one, group and settings
pub judged_told : {E : Type 0} (j k : Judged) (h o : Option Site) (l m : List Setter) (s t : PatternsSeen) (r : Result Judgement E) → j ≡ k → h ≡ o → l ≡ m
    → IsToldBy (patterns_of j) (λ (b : Bool). judgement_of h l (with_refused b j)) s t r
    → IsToldBy (patterns_of k) (λ (b : Bool). judgement_of o m (with_refused b k)) s t r
judged_told j k h o l m s t r is hidden settings told =
    subst (λ (x : List Setter). IsToldBy (patterns_of k) (λ (b : Bool). judgement_of o x (with_refused b k)) s t r) settings
    (subst (λ (x : Option Site). IsToldBy (patterns_of k) (λ (b : Bool). judgement_of x l (with_refused b k)) s t r) hidden
    (subst (λ (x : Judged). IsToldBy (patterns_of x) (λ (b : Bool). judgement_of h l (with_refused b x)) s t r) is told))
