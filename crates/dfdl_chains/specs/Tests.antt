-- The asserts and discriminators that stand at a component, in the order of its chain ('DFDL Schema Component Model', on asserts and
-- discriminators).
use Rattle.std.specs.Prelude.{ℕ, List, [], ◌∷◌, ◌&&◌, Bool, true, false, nat_lt, length, ◌==◌, Option, Some, None, codes, encode_utf8_all, if◌then◌else◌}
use Rattle.std.specs.List.{flat_map}
use Rattle.dfdl_markup.specs.Trees.{Node, node_at}
use Rattle.dfdl_constructs.specs.declared.role.Role.{Role}
use Rattle.dfdl_constructs.specs.declared.role.Role.TheVariants as role
use Rattle.dfdl_constructs.specs.Roles.{role_at}
use Rattle.dfdl_documents.specs.Documents.{SchemaDocument}
use Rattle.dfdl_components.specs.declared.site.Site.{Site}
use Rattle.dfdl_components.specs.Globals.{site}
use Rattle.dfdl_components.specs.Sites.{IsSite, nodes_of, role_of}
use Rattle.dfdl_properties.specs.Forms.{trimmed}
use Rattle.dfdl_checks.specs.Judged.{TestJudged}
use Rattle.dfdl_chains.specs.Chains.{chain_sites}
use Rattle.dfdl_chains.specs.Declarations.{attribute_of}
use Rattle.dfdl_chains.specs.Facts.{is_annotation_at}

-- an assert or a discriminator
abbrev pub is_test : Role → Bool
is_test role.Assert = true
is_test role.Discriminator = true
is_test _ = false

-- a discriminator
abbrev pub is_discriminator : Role → Bool
is_discriminator role.Discriminator = true
is_discriminator _ = false

-- an element of the document is an assert or a discriminator
abbrev pub is_test_at : List Node → ℕ → Bool
is_test_at nodes element = nat_lt element (length nodes) && is_test (role_at nodes element)

-- a text, where it isn't empty
abbrev pub text_if_any : List ℕ → Option (List ℕ)
text_if_any text = if length text == 0 then None else Some text

-- the attribute's value, else what stands in the element, without the white space around it
abbrev pub given_or_inside : Option (List ℕ) → List ℕ → Option (List ℕ)
given_or_inside (Some given) inside = Some given
given_or_inside None inside = text_if_any (trimmed inside)

-- what the attribute of this name gives, else the text of the element
abbrev pub given_by : List ℕ → List SchemaDocument → Site → Option (List ℕ)
given_by name documents own =
    given_or_inside (attribute_of documents own name) (encode_utf8_all (node_at (nodes_of documents own.document) own.element).text)

-- the pattern of a test: that of its attribute testPattern, else its text
abbrev pub pattern_of : List SchemaDocument → Site → Option (List ℕ)
pattern_of documents own = given_by (codes "testPattern") documents own

-- the expression of a test: that of its attribute test, else its text
abbrev pub expression_of : List SchemaDocument → Site → Option (List ℕ)
expression_of documents own = given_by (codes "test") documents own

-- a test, as it is written at an element
abbrev pub test_at : List SchemaDocument → Site → TestJudged
test_at documents own = record {
  document = own.document;
  element = own.element;
  discriminates = is_discriminator (role_of documents own);
  kind = attribute_of documents own (codes "testKind");
  failure = attribute_of documents own (codes "failureType");
  pattern = pattern_of documents own;
  test = expression_of documents own;
  message = attribute_of documents own (codes "message");
}

-- a test is an element of the documents
abbrev pub IsTestOf : List SchemaDocument → TestJudged → Type 0
IsTestOf documents test = IsSite documents (site test.document test.element)

-- the test that an element is, if it is one
abbrev pub test_if : List SchemaDocument → ℕ → ℕ → List TestJudged
test_if documents document element =
    if is_test_at (nodes_of documents document) element then test_at documents (site document element) ∷ [] else []

-- what is found in each child of an annotation, or of the part of one that holds annotations of DFDL's
abbrev pub in_annotation : {X : Type 0} → (ℕ → List X) → List Node → ℕ → List X
in_annotation found nodes element = if is_annotation_at nodes element then flat_map found (node_at nodes element).children else []

-- the tests in the annotations of DFDL's at this element
abbrev pub tests_in : List SchemaDocument → ℕ → ℕ → List TestJudged
tests_in documents document element = in_annotation (test_if documents document) (nodes_of documents document) element

-- the tests in the annotation
abbrev pub tests_within : List SchemaDocument → ℕ → ℕ → List TestJudged
tests_within documents document element = in_annotation (tests_in documents document) (nodes_of documents document) element

-- the tests in the annotations of an element
abbrev pub own_tests : List SchemaDocument → Site → List TestJudged
own_tests documents own = flat_map (tests_within documents own.document) (node_at (nodes_of documents own.document) own.element).children

-- the tests of a component
unfoldable pub tests_at : List SchemaDocument → Site → List TestJudged
tests_at documents own = flat_map (own_tests documents) (chain_sites documents own)
