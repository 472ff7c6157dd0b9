-- The kinds of components that may hide a group.
use Rattle.std.proofs.Common.{◌≡◌, ◌∙◌, refl, ℕ, List, [], codes, Bool, true, false, if◌then◌else◌, Option, Some, None}
use Rattle.std.specs.Option.{option_and_then, option_or}
use Rattle.dfdl_documents.specs.Documents.{SchemaDocument}
use Rattle.dfdl_components.specs.declared.site.Site.{Site}
use Rattle.dfdl_terms.specs.declared.statement.PatternTest.{PatternTest}
use Rattle.dfdl_checks.specs.Subjects.{is_simple, simple_of}
use Rattle.dfdl_checks.specs.declared.subject.Kind.{Kind}
use Rattle.dfdl_checks.specs.declared.subject.Kind.TheVariants.{ComplexElement, SimpleElement, UncarriedElement, CalculatedElement, Sequence, HiddenSequence, Choice, PrefixNumber}
use Rattle.dfdl_checks.specs.declared.purpose.Purpose.{Purpose}
use Rattle.dfdl_checks.specs.declared.purpose.Purpose.TheVariants.{Parsing, Unparsing}
use Rattle.dfdl_components.specs.Sites.{IsSite}
use Rattle.dfdl_chains.specs.Chains.{chain_sites}
use Rattle.dfdl_chains.specs.Facts.{facts_at}
use Rattle.dfdl_chains.specs.Hidden.{group_named}
use Rattle.dfdl_chains.specs.Kinds.{kind_at}
use Rattle.dfdl_references.specs.Writers.{writer_of}
use Rattle.dfdl_breaches.specs.Roots.{chain_at}
use Rattle.dfdl_breaches.specs.Hidden.{content_hidden, hidden_name, hiding_at, hiding_by, hiding_named, kind_where}
use Rattle.dfdl_breaches.specs.Judging.{built_tests_at, hidden_at}

-- whether it is a simple element, and of which type, doesn't change
pub still_simple : (b : Bool) (kind : Kind) → is_simple (kind_where b kind) ≡ is_simple kind
still_simple false kind = refl
still_simple true ComplexElement = refl
still_simple true (SimpleElement simple) = refl
still_simple true UncarriedElement = refl
still_simple true (CalculatedElement simple) = refl
still_simple true Sequence = refl
still_simple true HiddenSequence = refl
still_simple true Choice = refl
still_simple true (PrefixNumber simple) = refl

pub same_type : (b : Bool) (kind : Kind) → simple_of (kind_where b kind) ≡ simple_of kind
same_type false kind = refl
same_type true ComplexElement = refl
same_type true (SimpleElement simple) = refl
same_type true UncarriedElement = refl
same_type true (CalculatedElement simple) = refl
same_type true Sequence = refl
same_type true HiddenSequence = refl
same_type true Choice = refl
same_type true (PrefixNumber simple) = refl

-- where neither of two is there, the first isn't
pub first_none : {X : Type 0} (a b : Option X) → option_or a b ≡ None → a ≡ None
first_none None b none = refl
first_none (Some x) b none = absurd (cc)

-- nothing is tested and nothing hidden for unparsing
pub untested : (refused : Site → Bool) (documents : List SchemaDocument) (own : Site) → built_tests_at Unparsing refused documents own ≡ []
untested refused documents own = by (refused own)
  where
    by : (b : Bool) → (let tests : List PatternTest = (if b then [] else []) in tests) ≡ []
    by true = refl
    by false = refl

pub unhidden : (documents : List SchemaDocument) (own : Site) → hidden_at Unparsing documents own ≡ None
unfolding hiding_at
unhidden documents own = refl

-- a group that is hidden is one of the documents'
pub hidden_within : (purpose : Purpose) (documents : List SchemaDocument)
    → ((text : List ℕ) (writer own : Site) → group_named documents text writer ≡ Some own → IsSite documents own)
    → (own content : Site) → hidden_at purpose documents own ≡ Some content → IsSite documents content
unfolding hiding_at
hidden_within Unparsing documents law own content is = absurd (cc)
hidden_within Parsing documents law own content is =
    by_name (hidden_name (kind_at documents own) (facts_at documents own).is_empty (chain_at documents own)) is
  where
    by_writer : (text : List ℕ) (writer : Option Site) → content_hidden (hiding_by (option_and_then (group_named documents text) writer)) ≡ Some content
        → IsSite documents content
    by_writer text None none = absurd (cc)
    by_writer text (Some writer) found = by_group (group_named documents text writer) refl found
      where
        by_group : (o : Option Site) → group_named documents text writer ≡ o → content_hidden (hiding_by o) ≡ Some content → IsSite documents content
        by_group None at none = absurd (cc)
        by_group (Some group) at found = law text writer content (at ∙ found)

    by_name : (name : Option (List ℕ)) → content_hidden (hiding_named documents (chain_sites documents own) name) ≡ Some content → IsSite documents content
    by_name None none = absurd (cc)
    by_name (Some text) found = by_writer text (writer_of documents (chain_sites documents own) (codes "hiddenGroupRef")) found
