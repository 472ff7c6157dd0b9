-- The groups that sequences hide ('Sequence Groups', on hiddenGroupRef): for parsing a sequence in which nothing stands, and of which the
-- name of a group is told, stands for that group. No other property of the sequence, and no statement, has an effect.
use Rattle.std.specs.Prelude.{ℕ, List, [], ◌&&◌, Bool, true, false, Option, Some, None, codes, if◌then◌else◌}
use Rattle.std.specs.Option.{option_and_then}
use Rattle.dfdl_documents.specs.Documents.{SchemaDocument}
use Rattle.dfdl_components.specs.declared.site.Site.{Site}
use Rattle.dfdl_scope.specs.Expressions.{is_expression, literal}
use Rattle.dfdl_scope.specs.Scoping.{Element, Told, Value, Absent, Twice, told}
use Rattle.dfdl_checks.specs.Judged.{FactsJudged, TestJudged}
use Rattle.dfdl_checks.specs.Subjects.{is_sequence}
use Rattle.dfdl_checks.specs.declared.purpose.Purpose.{Purpose}
use Rattle.dfdl_checks.specs.declared.purpose.Purpose.TheVariants.{Parsing, Unparsing}
use Rattle.dfdl_checks.specs.declared.subject.Kind.{Kind}
use Rattle.dfdl_checks.specs.declared.subject.Kind.TheVariants.{Sequence, HiddenSequence}
use Rattle.dfdl_chains.specs.Chains.{chain_sites}
use Rattle.dfdl_chains.specs.Facts.{facts_at}
use Rattle.dfdl_chains.specs.Hidden.{group_named}
use Rattle.dfdl_chains.specs.Kinds.{kind_at}
use Rattle.dfdl_chains.specs.declared.settings.Setter.{Setter}
use Rattle.dfdl_references.specs.Writers.{writer_of}
use Rattle.dfdl_breaches.specs.Roots.{chain_at}
use Rattle.dfdl_breaches.specs.declared.hiding.Hiding.{Hiding}
use Rattle.dfdl_breaches.specs.declared.hiding.Hiding.TheVariants.{NoGroup, Unknown, Group}

-- the name of a group that is told, by no expression
abbrev pub name_told : Told → Option (List ℕ)
name_told (Value written) = if is_expression written then None else Some (literal written)
name_told Absent = None
name_told (Twice place) = None

-- the name of the group that a component of this kind with this chain hides, in which nothing stands or something
abbrev pub hidden_name : Kind → Bool → List Element → Option (List ℕ)
hidden_name kind is_empty chain = if is_sequence kind && is_empty then name_told (told chain (codes "hiddenGroupRef")) else None

-- the sequence or choice of the group of a name, which is one where the chain of these elements writes it
abbrev pub group_told : List SchemaDocument → List Site → List ℕ → Option Site
group_told documents sites text = option_and_then (group_named documents text) (writer_of documents sites (codes "hiddenGroupRef"))

-- a group of this sequence or choice, or of nothing's name
abbrev pub hiding_by : Option Site → Hiding
hiding_by None = Unknown
hiding_by (Some content) = Group content

-- the group of a name that may be lacking
abbrev pub hiding_named : List SchemaDocument → List Site → Option (List ℕ) → Hiding
hiding_named documents sites None = NoGroup
hiding_named documents sites (Some text) = hiding_by (group_told documents sites text)

-- a group that a component hides is built for parsing
abbrev pub hiding_for : Purpose → Hiding → Hiding
hiding_for Parsing hiding = hiding
hiding_for Unparsing hiding = NoGroup

-- the same of an element of the documents
unfoldable pub hiding_at : Purpose → List SchemaDocument → Site → Hiding
hiding_at purpose documents own =
    hiding_for purpose
    (hiding_named documents (chain_sites documents own) (hidden_name (kind_at documents own) (facts_at documents own).is_empty (chain_at documents own)))

-- a group's name is told
abbrev pub hides : Hiding → Bool
hides NoGroup = false
hides Unknown = true
hides (Group content) = true

-- it names nothing
abbrev pub is_unknown : Hiding → Bool
is_unknown NoGroup = false
is_unknown Unknown = true
is_unknown (Group content) = false

-- the sequence or choice of the group
abbrev pub content_hidden : Hiding → Option Site
content_hidden NoGroup = None
content_hidden Unknown = None
content_hidden (Group content) = Some content

-- the kind of a component that hides a group: it is a sequence
abbrev pub hidden_kind : Kind → Kind
hidden_kind Sequence = HiddenSequence
hidden_kind kind = kind

-- the kind of a component that may hide a group
abbrev pub kind_where : Bool → Kind → Kind
kind_where false kind = kind
kind_where true kind = hidden_kind kind

-- what a component states that may hide a group
abbrev pub facts_where : Bool → FactsJudged → FactsJudged
facts_where false facts = facts
facts_where true facts = record facts { opens_instances = false }

-- the tests of a component that may hide a group
abbrev pub tests_where : Bool → List TestJudged → List TestJudged
tests_where false tests = tests
tests_where true tests = []

-- what sets variables at a component that may hide a group
abbrev pub settings_where : Bool → List Setter → List Setter
settings_where false settings = settings
settings_where true settings = []
