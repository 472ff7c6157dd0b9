-- What is wrong at each component of a schema by itself, how the values of its simple elements lie in the data, which fill, which
-- delimiters and which box stand around its content, which other representations it has, how often it occurs, which tests and settings it
-- has, by which expressions its value is calculated and its length and the number of its occurrences are told, how it is written, and which
-- group it hides.
use Rattle.std.specs.Prelude.{ℕ, List, [], length, nat_lt, Option, None, Some, Bool, false, if◌then◌else◌}
use Rattle.dfdl_documents.specs.Documents.{SchemaDocument}
use Rattle.dfdl_components.specs.declared.site.Site.{Site}
use Rattle.dfdl_components.specs.Globals.{site}
use Rattle.dfdl_components.specs.Sites.{IsSite, role_of}
use Rattle.dfdl_checks.specs.Calculations.{calculation_of, kind_for, output_of}
use Rattle.dfdl_checks.specs.Judged.{Judged}
use Rattle.dfdl_checks.specs.Keys.{key_expression, keys_of}
use Rattle.dfdl_checks.specs.Measures.{count_expression, measure_of}
use Rattle.dfdl_checks.specs.Occurrences.{is_count_parsed, occurrences_of}
use Rattle.dfdl_checks.specs.Patterns.{pattern_prefix}
use Rattle.dfdl_checks.specs.Prefixes.{prefix_of}
use Rattle.dfdl_checks.specs.Representations.{no_representations, representations_of}
use Rattle.dfdl_checks.specs.Rules.{breach_of_component}
use Rattle.dfdl_checks.specs.Standings.{initiates}
use Rattle.dfdl_checks.specs.Tests.{checks_of, tests_of}
use Rattle.dfdl_checks.specs.Writings.{writing_of}
use Rattle.dfdl_checks.specs.declared.expression_tests.CheckForm.{CheckForm}
use Rattle.dfdl_checks.specs.declared.measures.MeasureForm.{MeasureForm}
use Rattle.dfdl_checks.specs.declared.tried.OtherRepresentations.{OtherRepresentations}
use Rattle.dfdl_checks.specs.declared.prefixes.PrefixForm.{PrefixForm}
use Rattle.dfdl_checks.specs.Boxes.{size_of_box}
use Rattle.dfdl_checks.specs.Delimiters.{delimiters_of, no_delimiters}
use Rattle.dfdl_checks.specs.declared.delimiters.Markup.{Markup}
use Rattle.dfdl_checks.specs.Framing.{framing_of}
use Rattle.dfdl_checks.specs.Numbers.{primitive_of}
use Rattle.dfdl_checks.specs.declared.purpose.Purpose.{Purpose}
use Rattle.dfdl_checks.specs.declared.purpose.Purpose.TheVariants.{Parsing, Unparsing}
use Rattle.dfdl_checks.specs.declared.subject.Breach.{Breach}
use Rattle.dfdl_checks.specs.declared.subject.Kind.{Kind}
use Rattle.dfdl_checks.specs.declared.subject.Kind.TheVariants.{SimpleElement, CalculatedElement}
use Rattle.dfdl_forms.specs.declared.simple.Simple.{Simple}
use Rattle.dfdl_chains.specs.Facts.{facts_at}
use Rattle.dfdl_chains.specs.Kinds.{kind_at}
use Rattle.dfdl_chains.specs.Parts.{is_component}
use Rattle.dfdl_chains.specs.Settings.{settings_at}
use Rattle.dfdl_chains.specs.declared.settings.Setter.{Setter}
use Rattle.dfdl_chains.specs.Tests.{tests_at}
use Rattle.dfdl_terms.specs.Framing.{no_fill}
use Rattle.dfdl_terms.specs.Occurs.{occurs_once}
use Rattle.dfdl_terms.specs.declared.framing.Framing.{Framing}
use Rattle.dfdl_terms.specs.declared.occurs.Occurs.{Occurs}
use Rattle.dfdl_terms.specs.declared.statement.PatternTest.{PatternTest}
use Rattle.dfdl_terms.specs.declared.row.Primitive.{Primitive}
use Rattle.dfdl_terms.specs.declared.writing.Writing.{Writing}
use Rattle.dfdl_escape_schemes.specs.Schemes.{no_scheme}
use Rattle.dfdl_breaches.specs.Elements.{place_of}
use Rattle.dfdl_breaches.specs.Hidden.{content_hidden, facts_where, hides, hiding_at, is_unknown, kind_where, settings_where, tests_where}
use Rattle.dfdl_breaches.specs.Prefixes.{prefix_at}
use Rattle.dfdl_breaches.specs.Roots.{chain_at, root_bits_by}
use Rattle.dfdl_breaches.specs.Schemes.{scheme_at}
use Rattle.dfdl_breaches.specs.Standing.{standing_at}
use Rattle.dfdl_breaches.specs.declared.judgement.Judgement.{Judgement}

-- what sets variables at a component; at a sequence that stands for a hidden group there are none
abbrev pub stated_settings_at : Purpose → List SchemaDocument → Site → List Setter
stated_settings_at purpose documents own = settings_where (hides (hiding_at purpose documents own)) (settings_at documents own)

-- there are some
abbrev pub are_some : List Setter → Bool
are_some settings = nat_lt 0 (length settings)

-- the kind of a component as the rules see it: a sequence that hides a group has one of its own, and so has an element whose value is
-- calculated
abbrev pub kind_judged : Purpose → List SchemaDocument → Site → Kind
kind_judged purpose documents own =
    kind_for purpose (facts_at documents own) (chain_at documents own) (kind_where (hides (hiding_at purpose documents own)) (kind_at documents own))

-- a component as the rules see it, where patterns of these elements are refused
abbrev pub judged_at : Purpose → (Site → Bool) → List SchemaDocument → Site → Judged
judged_at purpose refused documents own = record {
  purpose = purpose;
  kind = kind_judged purpose documents own;
  place = place_of documents own;
  chain = chain_at documents own;
  facts = facts_where (hides (hiding_at purpose documents own)) (facts_at documents own);
  root_bits_by = root_bits_by documents;
  prefix = prefix_at documents own;
  scheme = scheme_at documents own;
  pattern_is_refused = refused own;
  tests = tests_where (hides (hiding_at purpose documents own)) (tests_at documents own);
  sets_variables = are_some (stated_settings_at purpose documents own);
  standing = standing_at documents own;
  group_is_unknown = is_unknown (hiding_at purpose documents own);
}

-- the first rule that a component breaks, or else the type of its prefix
abbrev pub breach_at : Purpose → (Site → Bool) → List SchemaDocument → Site → Option Breach
breach_at purpose refused documents own = breach_of_component (judged_at purpose refused documents own)

-- how the values of a component lie in the data, where they are of a type and of a size that are built
abbrev pub primitive_at : Purpose → (Site → Bool) → List SchemaDocument → Site → Option Primitive
primitive_at purpose refused documents own = primitive_of (judged_at purpose refused documents own)

-- the type of the values of a component of a kind, where it is one that is carried
abbrev pub simple_of_kind : Kind → Option Simple
simple_of_kind (SimpleElement simple) = Some simple
simple_of_kind (CalculatedElement simple) = Some simple
simple_of_kind _ = None

-- the same for a purpose: no expression of unparsing asks for it
abbrev pub simple_for : Purpose → Kind → Option Simple
simple_for Parsing kind = simple_of_kind kind
simple_for Unparsing kind = None

-- the same of a component as the rules see it
abbrev pub simple_told : Judged → Option Simple
simple_told subject = simple_for subject.purpose subject.kind

-- the same of an element of the documents
abbrev pub simple_at : Purpose → (Site → Bool) → List SchemaDocument → Site → Option Simple
simple_at purpose refused documents own = simple_told (judged_at purpose refused documents own)

-- the fill around the content of a component
abbrev pub framing_at : Purpose → (Site → Bool) → List SchemaDocument → Site → Framing
framing_at purpose refused documents own = framing_of (judged_at purpose refused documents own)

-- the initiator, the terminator and the separator of a component
abbrev pub markup_at : Purpose → (Site → Bool) → List SchemaDocument → Site → Markup
markup_at purpose refused documents own = delimiters_of (judged_at purpose refused documents own)

-- how many bits the box has around the content of a component, if it has one
abbrev pub size_at : Purpose → (Site → Bool) → List SchemaDocument → Site → Option ℕ
size_at purpose refused documents own = size_of_box (judged_at purpose refused documents own)

-- the first of two forms that is there
abbrev pub form_or : Option PrefixForm → Option PrefixForm → Option PrefixForm
form_or (Some form) other = Some form
form_or None other = other

-- what stands before the content of a component and tells its length: a length prefix, or what its pattern matches
abbrev pub form_before : Judged → Option PrefixForm
form_before subject = form_or (prefix_of subject) (pattern_prefix subject)

-- the same of an element of the documents
abbrev pub form_of_prefix : Purpose → (Site → Bool) → List SchemaDocument → Site → Option PrefixForm
form_of_prefix purpose refused documents own = form_before (judged_at purpose refused documents own)

-- which representations of a component are tried before its normal one
abbrev pub others_at : Purpose → (Site → Bool) → List SchemaDocument → Site → OtherRepresentations
others_at purpose refused documents own = representations_of (judged_at purpose refused documents own)

-- how often a component occurs where it stands
abbrev pub occurrences_at : Purpose → (Site → Bool) → List SchemaDocument → Site → Occurs
occurrences_at purpose refused documents own = occurrences_of (judged_at purpose refused documents own)

-- the tried occurrences of a component are of kind parsed
abbrev pub is_parsed_at : Purpose → (Site → Bool) → List SchemaDocument → Site → Bool
is_parsed_at purpose refused documents own = is_count_parsed (judged_at purpose refused documents own)

-- the content of a component is initiated
abbrev pub initiates_at : Purpose → (Site → Bool) → List SchemaDocument → Site → Bool
initiates_at purpose refused documents own = initiates (judged_at purpose refused documents own)

-- the tests of patterns of a component
abbrev pub built_tests_at : Purpose → (Site → Bool) → List SchemaDocument → Site → List PatternTest
built_tests_at purpose refused documents own = tests_of (judged_at purpose refused documents own)

-- the tests of expressions of a component
abbrev pub built_checks_at : Purpose → (Site → Bool) → List SchemaDocument → Site → List CheckForm
built_checks_at purpose refused documents own = checks_of (judged_at purpose refused documents own)

-- the expression by which the value of a component is calculated for writing, if it is
abbrev pub output_at : Purpose → (Site → Bool) → List SchemaDocument → Site → Option (List ℕ)
output_at purpose refused documents own = output_of (judged_at purpose refused documents own)

-- a test of an expression is an element of the documents
abbrev pub IsCheckOf : List SchemaDocument → CheckForm → Type 0
IsCheckOf documents check = IsSite documents (site check.document check.element)

-- the expression by which the value of a component is calculated, if it is
abbrev pub calculation_at : Purpose → (Site → Bool) → List SchemaDocument → Site → Option (List ℕ)
calculation_at purpose refused documents own = calculation_of (judged_at purpose refused documents own)

-- the expression that tells how long the content of a component is, and what it counts, if there is one
abbrev pub measure_at : Purpose → (Site → Bool) → List SchemaDocument → Site → Option MeasureForm
measure_at purpose refused documents own = measure_of (judged_at purpose refused documents own)

-- the expression that tells how often a component occurs, if there is one
abbrev pub count_at : Purpose → (Site → Bool) → List SchemaDocument → Site → Option (List ℕ)
count_at purpose refused documents own = count_expression (judged_at purpose refused documents own)

-- the expression that tells the key by which the branch of a component is taken, if there is one
abbrev pub key_at : Purpose → (Site → Bool) → List SchemaDocument → Site → Option (List ℕ)
key_at purpose refused documents own = key_expression (judged_at purpose refused documents own)

-- the keys of a component, where it is a branch of a choice by a key
abbrev pub branch_keys_at : Purpose → (Site → Bool) → List SchemaDocument → Site → List (List ℕ)
branch_keys_at purpose refused documents own = keys_of (judged_at purpose refused documents own)

-- how a component is written, beside what its rows say
abbrev pub writing_at : Purpose → (Site → Bool) → List SchemaDocument → Site → Writing
writing_at purpose refused documents own = writing_of (judged_at purpose refused documents own)

-- settings are built for parsing
abbrev pub settings_for : Purpose → List Setter → List Setter
settings_for Parsing settings = settings
settings_for Unparsing settings = []

-- what sets variables at a component and is built
abbrev pub built_settings_at : Purpose → List SchemaDocument → Site → List Setter
built_settings_at purpose documents own = settings_for purpose (stated_settings_at purpose documents own)

-- the sequence or choice of the group that a component hides
abbrev pub hidden_at : Purpose → List SchemaDocument → Site → Option Site
hidden_at purpose documents own = content_hidden (hiding_at purpose documents own)

-- how what is no component is written: it never is
abbrev pub no_writing : Writing
no_writing = record { fill = 0; text = record { least = 0; new_line = []; scheme = no_scheme }; default = None }

-- nothing is told of what is no component
abbrev pub no_judgement : Judgement
no_judgement = record {
  breach = None;
  primitive = None;
  simple = None;
  framing = no_fill;
  markup = no_delimiters;
  size = None;
  prefix = None;
  others = no_representations;
  occurs = occurs_once;
  is_parsed = false;
  initiates = false;
  tests = [];
  checks = [];
  output = None;
  settings = [];
  calculation = None;
  measure = None;
  count = None;
  key = None;
  keys = [];
  writing = no_writing;
  hidden = None;
}

-- what is told of an element of the documents
unfoldable pub judgement_at : Purpose → (Site → Bool) → List SchemaDocument → Site → Judgement
judgement_at purpose refused documents own =
    if is_component (role_of documents own) then
    record {
      breach = breach_at purpose refused documents own;
      primitive = primitive_at purpose refused documents own;
      simple = simple_at purpose refused documents own;
      framing = framing_at purpose refused documents own;
      markup = markup_at purpose refused documents own;
      size = size_at purpose refused documents own;
      prefix = form_of_prefix purpose refused documents own;
      others = others_at purpose refused documents own;
      occurs = occurrences_at purpose refused documents own;
      is_parsed = is_parsed_at purpose refused documents own;
      initiates = initiates_at purpose refused documents own;
      tests = built_tests_at purpose refused documents own;
      checks = built_checks_at purpose refused documents own;
      output = output_at purpose refused documents own;
      settings = built_settings_at purpose documents own;
      calculation = calculation_at purpose refused documents own;
      measure = measure_at purpose refused documents own;
      count = count_at purpose refused documents own;
      key = key_at purpose refused documents own;
      keys = branch_keys_at purpose refused documents own;
      writing = writing_at purpose refused documents own;
      hidden = hidden_at purpose documents own;
    }
    else no_judgement
