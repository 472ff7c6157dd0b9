-- Mirror for the prover: what a component is seen as.
use Rattle.std.specs.Prelude.{Option, Some, None, map, option_copied}
use Rattle.dfdl_scope.specs.Shown.{chain_of}
use Rattle.dfdl_checks.specs.Judged.{FactsJudged, Judged, PrefixJudged, TestJudged}
use Rattle.dfdl_checks.specs.declared.subject.Facts.{Facts}
use Rattle.dfdl_checks.specs.declared.subject.PrefixType.{PrefixType}
use Rattle.dfdl_checks.specs.declared.subject.StatedTest.{StatedTest}
use Rattle.dfdl_checks.specs.declared.subject.Subject.{Subject}

-- what a component states, with a text that is lent
abbrev pub facts_judged_of : Facts → FactsJudged
facts_judged_of facts = record {
  bounds = facts.bounds;
  is_nillable = facts.is_nillable;
  default = option_copied facts.default;
  opens_instances = facts.opens_instances;
  is_local = facts.is_local;
  is_empty = facts.is_empty;
  min_length = facts.min_length;
  max_length = facts.max_length;
}

-- a test with texts that are lent
abbrev pub test_judged_of : StatedTest → TestJudged
test_judged_of test = record {
  document = test.document;
  element = test.element;
  discriminates = test.discriminates;
  kind = option_copied test.kind;
  failure = option_copied test.failure;
  pattern = option_copied test.pattern;
  test = option_copied test.test;
  message = option_copied test.message;
}

-- the type of a prefix with a chain that is lent
abbrev pub prefix_judged_of : Option PrefixType → Option PrefixJudged
prefix_judged_of None = None
prefix_judged_of (Some prefix) =
    Some (record { simple = prefix.simple; place = prefix.place; chain = chain_of prefix.chain.now; scheme = prefix.scheme.now })

-- a component with a chain that is lent
abbrev pub judged_of : Subject → Judged
judged_of subject = record {
  purpose = subject.purpose;
  kind = subject.kind;
  place = subject.place;
  chain = chain_of subject.chain.now;
  facts = facts_judged_of subject.facts;
  root_bits_by = subject.root_bits_by;
  prefix = prefix_judged_of subject.prefix;
  scheme = subject.scheme.now;
  pattern_is_refused = subject.pattern_is_refused;
  tests = map test_judged_of subject.tests.now;
  sets_variables = subject.sets_variables;
  standing = subject.standing;
  group_is_unknown = subject.group_is_unknown;
}
