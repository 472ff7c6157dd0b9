-- The groups that components hide.
use Rattle.std.proofs.Common.{◌≡◌, ℕ, List, Bool, true, false, Option, Some, None, IfSome, refl, ap, ◌∙◌, ◌&&◌, if◌then◌else◌, codes}
use Rattle.dfdl_documents.specs.Documents.{SchemaDocument}
use Rattle.dfdl_components.specs.declared.site.Site.{Site}
use Rattle.dfdl_components.specs.Sites.{IsSite, role_of}
use Rattle.dfdl_scope.specs.Scoping.{Element, told}
use Rattle.dfdl_checks.specs.Subjects.{is_sequence}
use Rattle.dfdl_checks.specs.declared.purpose.Purpose.{Purpose}
use Rattle.dfdl_checks.specs.declared.purpose.Purpose.TheVariants.{Parsing, Unparsing}
use Rattle.dfdl_checks.specs.declared.subject.Kind.{Kind}
use Rattle.dfdl_chains.specs.Chains.{chain_sites}
use Rattle.dfdl_chains.specs.Facts.{facts_at}
use Rattle.dfdl_chains.specs.Kinds.{kind_at}
use Rattle.dfdl_chains.specs.Parts.{is_component}
use Rattle.dfdl_breaches.specs.Hidden.{content_hidden, hidden_name, hiding_at, hiding_for, hiding_named, name_told}
use Rattle.dfdl_breaches.specs.Judging.{branch_keys_at, key_at, breach_at, built_checks_at, built_settings_at, built_tests_at, calculation_at, count_at, form_of_prefix, framing_at, hidden_at, initiates_at, is_parsed_at, judgement_at, markup_at, measure_at, no_judgement, occurrences_at, others_at, output_at, primitive_at, simple_at, size_at, writing_at}
use Rattle.dfdl_breaches.specs.declared.judgement.Judgement.{Judgement}
use Rattle.dfdl_breaches.specs.Roots.{chain_at}
use Rattle.dfdl_breaches.specs.declared.hiding.Hiding.TheVariants.{NoGroup}

-- what is told of an element, where it is a component
unfoldable pub judgement_if : Purpose → (Site → Bool) → List SchemaDocument → Site → Bool → Judgement
judgement_if purpose refused documents own b =
    if b then record {
      breach = breach_at purpose refused documents own;
      primitive = primitive_at purpose refused documents own;
      simple = simple_at purpose refused documents own;
      framing = framing_at purpose refused documents own;
      markup = markup_at purpose refused documents own;
      size = size_at purpose refused documents own;
      prefix = form_of_prefix purpose refused documents own;
      others = others_at purpose refused documents own;
      occurs = occurrences_at purpose refused documents own;
      is_parsed = is_parsed_at purpose refused documents own;
      initiates = initiates_at purpose refused documents own;
      tests = built_tests_at purpose refused documents own;
      checks = built_checks_at purpose refused documents own;
      output = output_at purpose refused documents own;
      settings = built_settings_at purpose documents own;
      calculation = calculation_at purpose refused documents own;
      measure = measure_at purpose refused documents own;
      count = count_at purpose refused documents own;
      key = key_at purpose refused documents own;
      keys = branch_keys_at purpose refused documents own;
      writing = writing_at purpose refused documents own;
      hidden = hidden_at purpose documents own;
    } else no_judgement

-- what is told of an element hides a group where it is a component that does
told_if : (purpose : Purpose) (refused : Site → Bool) (documents : List SchemaDocument) (own : Site) (P : Option Site → Type 0) → P None → P (hidden_at purpose documents own)
    → (b : Bool) → P (judgement_if purpose refused documents own b).hidden
unfolding judgement_if
told_if purpose refused documents own P none some true = some
told_if purpose refused documents own P none some false = none

told_hidden : (purpose : Purpose) (refused : Site → Bool) (documents : List SchemaDocument) (own : Site) (P : Option Site → Type 0) → P None → P (hidden_at purpose documents own)
    → P (judgement_at purpose refused documents own).hidden
unfolding judgement_at judgement_if
told_hidden purpose refused documents own P none some = told_if purpose refused documents own P none some (is_component (role_of documents own))

-- groups that components hide are those of the documents
abbrev pub AreGroupsWithin : List SchemaDocument → Type 0
AreGroupsWithin documents = (purpose : Purpose) (own content : Site) → hidden_at purpose documents own ≡ Some content → IsSite documents content

pub hidden_within : (purpose : Purpose) (refused : Site → Bool) (documents : List SchemaDocument) → AreGroupsWithin documents → (own : Site)
    → IfSome (judgement_at purpose refused documents own).hidden (IsSite documents)
hidden_within purpose refused documents law own =
    told_hidden purpose refused documents own (λ (o : Option Site). IfSome o (IsSite documents)) tt (by (hidden_at purpose documents own) refl)
  where
    by : (o : Option Site) → hidden_at purpose documents own ≡ o → IfSome o (IsSite documents)
    by None is = tt
    by (Some content) is = law purpose own content is

-- only sequences hide groups
no_name : (b : Bool) (chain : List Element) (kind : Kind) → is_sequence kind ≡ false → hidden_name kind b chain ≡ None
no_name b chain kind other = ap (λ (c : Bool). if c && b then name_told (told chain (codes "hiddenGroupRef")) else None) other

nothing_hidden : (purpose : Purpose) → content_hidden (hiding_for purpose NoGroup) ≡ None
nothing_hidden Parsing = refl
nothing_hidden Unparsing = refl

none_at : (purpose : Purpose) (documents : List SchemaDocument) (own : Site) → is_sequence (kind_at documents own) ≡ false → hidden_at purpose documents own ≡ None
unfolding hiding_at
none_at purpose documents own other =
    ap (λ (name : Option (List ℕ)). content_hidden (hiding_for purpose (hiding_named documents (chain_sites documents own) name)))
    (no_name (facts_at documents own).is_empty (chain_at documents own) (kind_at documents own) other)
    ∙ nothing_hidden purpose

pub none_hidden : (purpose : Purpose) (refused : Site → Bool) (documents : List SchemaDocument) (own : Site) → is_sequence (kind_at documents own) ≡ false
    → (judgement_at purpose refused documents own).hidden ≡ None
none_hidden purpose refused documents own other =
    told_hidden purpose refused documents own (λ (o : Option Site). o ≡ None) refl (none_at purpose documents own other)

-- and none is hidden for unparsing
pub none_unparsed : (refused : Site → Bool) (documents : List SchemaDocument) (own : Site) → hidden_at Unparsing documents own ≡ None
    → (judgement_at Unparsing refused documents own).hidden ≡ None
none_unparsed refused documents own none = told_hidden Unparsing refused documents own (λ (o : Option Site). o ≡ None) refl none
