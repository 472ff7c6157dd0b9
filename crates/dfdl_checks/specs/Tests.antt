-- The asserts and discriminators of components ('DFDL Schema Component Model', on asserts and discriminators), which are built for
-- parsing.
use Rattle.std.specs.Prelude.{ℕ, List, [], ◌∷◌, ◌++◌, Bool, false, not, nat_lt, length, ◌&&◌, ◌||◌, Option, Some, None, is_some, codes, if◌then◌else◌}
use Rattle.std.specs.List.{flat_map, list_any}
use Rattle.std.specs.Str.{bytes_eq}
use Rattle.dfdl_forms.specs.declared.encoding.Encoding.{Encoding}
use Rattle.dfdl_length_patterns.specs.Patterns.{anchored}
use Rattle.dfdl_terms.specs.declared.statement.PatternTest.{PatternTest}
use Rattle.dfdl_checks.specs.Judged.{Judged, TestJudged}
use Rattle.dfdl_checks.specs.Patterns.{length_pattern, pattern_encoding}
use Rattle.dfdl_checks.specs.declared.expression_tests.CheckForm.{CheckForm}
use Rattle.dfdl_checks.specs.declared.purpose.Purpose.{Purpose}
use Rattle.dfdl_checks.specs.declared.purpose.Purpose.TheVariants.{Parsing, Unparsing}

-- a word that may be lacking is this one
abbrev pub is_this : List ℕ → Option (List ℕ) → Bool
is_this word None = false
is_this word (Some text) = bytes_eq text word

-- a test of a pattern
abbrev pub is_pattern_test : TestJudged → Bool
is_pattern_test test = is_this (codes "pattern") test.kind

-- a test of an expression, as one is that gives no kind
abbrev pub is_expression_test : TestJudged → Bool
is_expression_test test = not (is_some test.kind) || is_this (codes "expression") test.kind

-- a test of another kind, or one with a type of failure that is given and isn't processingError
abbrev pub is_test_other : TestJudged → Bool
is_test_other test =
    not (is_pattern_test test || is_expression_test test) || (is_some test.failure && not (is_this (codes "processingError") test.failure))

-- a discriminator
abbrev pub is_discriminator : TestJudged → Bool
is_discriminator test = test.discriminates

-- a test of a pattern that gives none, or one of an expression that gives none
abbrev pub is_without_text : TestJudged → Bool
is_without_text test = (is_pattern_test test && not (is_some test.pattern)) || (is_expression_test test && not (is_some test.test))

-- the pattern that is built of a test
abbrev pub test_pattern : TestJudged → Option (List ℕ)
test_pattern test = if is_pattern_test test then test.pattern else None

-- one of the component's tests is of a pattern
abbrev pub is_tested : Judged → Bool
is_tested subject = list_any is_pattern_test subject.tests

-- for unparsing a component with any statement
abbrev pub has_later_statements : Purpose → Judged → Bool
has_later_statements Parsing subject = false
has_later_statements Unparsing subject = subject.facts.opens_instances || (subject.sets_variables || nat_lt 0 (length subject.tests))

-- one of the component's tests is of a pattern or of an expression and has none
abbrev pub is_test_text_missing : Judged → Bool
is_test_text_missing subject = list_any is_without_text subject.tests

-- one of the component's tests is of a kind that is none, or its failure is one to be recovered from
abbrev pub are_tests_other : Judged → Bool
are_tests_other subject = list_any is_test_other subject.tests

-- 33: a discriminator beside another test
abbrev pub are_tests_together : Judged → Bool
are_tests_together subject = nat_lt 1 (length subject.tests) && list_any is_discriminator subject.tests

-- a text, or none, as a list
abbrev pub listed : Option (List ℕ) → List (List ℕ)
listed None = []
listed (Some text) = text ∷ []

-- the pattern that is built of a test, if there is one
abbrev pub pattern_listed : TestJudged → List (List ℕ)
pattern_listed test = listed (test_pattern test)

-- the patterns that are built of tests, in their order
abbrev pub test_patterns : List TestJudged → List (List ℕ)
test_patterns tests = flat_map pattern_listed tests

-- the tests of a component that are built for a purpose: all for parsing, and none for unparsing
abbrev pub tests_for : Purpose → List TestJudged → List TestJudged
tests_for Parsing tests = tests
tests_for Unparsing tests = []

-- the patterns of a component that are built: those of its tests in their order, and then the one that tells its length
abbrev pub patterns_of : Judged → List (List ℕ)
patterns_of subject = test_patterns (tests_for subject.purpose subject.tests) ++ listed (length_pattern subject)

-- a test of a pattern of this text, where the data are read in this encoding
abbrev pub test_with : TestJudged → Encoding → List ℕ → PatternTest
test_with test encoding text =
    record { form = record { encoding = encoding; pattern = anchored text }; discriminates = test.discriminates; message = test.message }

-- the same, where there is a pattern and its encoding is told
abbrev pub test_by : TestJudged → Option Encoding → Option (List ℕ) → List PatternTest
test_by test None text = []
test_by test (Some encoding) None = []
test_by test (Some encoding) (Some text) = test_with test encoding text ∷ []

-- what is built of a test
abbrev pub built_of_test : Option Encoding → TestJudged → List PatternTest
built_of_test encoding test = test_by test encoding (test_pattern test)

-- what is built of tests
abbrev pub tests_by : Option Encoding → List TestJudged → List PatternTest
tests_by encoding tests = flat_map (built_of_test encoding) tests

-- the component's tests that are built, where each of its patterns can be
abbrev pub tests_of : Judged → List PatternTest
tests_of subject =
    if subject.pattern_is_refused then [] else tests_by (pattern_encoding subject) (tests_for subject.purpose subject.tests)

-- the text of the expression of a test, if it is one of an expression
abbrev pub check_text : TestJudged → Option (List ℕ)
check_text test = if is_expression_test test then test.test else None

-- a test of an expression of this text
abbrev pub check_with : TestJudged → List ℕ → CheckForm
check_with test text =
    record { document = test.document; element = test.element; discriminates = test.discriminates; text = text; message = test.message }

-- the same, where there is a text
abbrev pub check_by : TestJudged → Option (List ℕ) → List CheckForm
check_by test None = []
check_by test (Some text) = check_with test text ∷ []

-- what is built of a test of an expression
abbrev pub check_of : TestJudged → List CheckForm
check_of test = check_by test (check_text test)

-- what is built of tests of expressions, in their order
abbrev pub checks_by : List TestJudged → List CheckForm
checks_by tests = flat_map check_of tests

-- the component's tests of expressions that are built
abbrev pub checks_of : Judged → List CheckForm
checks_of subject = checks_by (tests_for subject.purpose subject.tests)
