-- The components of a schema's documents: each element of them is one, by its number among those of all
-- documents. What is no component is an empty sequence, and nothing reaches it ('DFDL Schema Component
-- Model').
use Rattle.std.specs.Prelude.{ℕ, ◌+◌, ◌&&◌, if◌then◌else◌, Bool, true, false, List, [], ◌∷◌, ◌++◌, map, Option, None, Some, option_map, codes}
use Rattle.std.specs.Option.{unwrap_or}
use Rattle.dfdl_forms.specs.declared.simple.Simple.{Simple}
use Rattle.dfdl_documents.specs.Documents.{SchemaDocument}
use Rattle.dfdl_components.specs.declared.site.Site.{Site}
use Rattle.dfdl_components.specs.Recursion.{count_of, number_of}
use Rattle.dfdl_checks.specs.Numbers.{type_of}
use Rattle.dfdl_checks.specs.declared.measures.MeasureForm.{MeasureForm}
use Rattle.dfdl_checks.specs.declared.tried.EmptyRepresentation.{EmptyRepresentation}
use Rattle.dfdl_checks.specs.declared.tried.OtherRepresentations.{OtherRepresentations}
use Rattle.dfdl_checks.specs.declared.prefixes.PrefixForm.{PrefixForm}
use Rattle.dfdl_checks.specs.declared.purpose.Purpose.{Purpose}
use Rattle.dfdl_checks.specs.declared.purpose.Purpose.TheVariants.{Parsing, Unparsing}
use Rattle.dfdl_checks.specs.declared.subject.Breach.{Breach}
use Rattle.dfdl_checks.specs.declared.subject.Kind.{Kind}
use Rattle.dfdl_checks.specs.declared.subject.Kind.TheVariants as kind
use Rattle.dfdl_chains.specs.Declarations.{attribute_of, declaration}
use Rattle.dfdl_chains.specs.Everywhere.{for_each}
use Rattle.dfdl_chains.specs.Kinds.{kind_at}
use Rattle.dfdl_chains.specs.Parts.{parts_at}
use Rattle.dfdl_breaches.specs.declared.judgement.Judgement.{Judgement}
use Rattle.dfdl_breaches.specs.Elements.{place_of}
use Rattle.dfdl_breaches.specs.Judging.{judgement_at}
use Rattle.dfdl_terms.specs.declared.framing.Framing.{Framing}
use Rattle.dfdl_terms.specs.declared.occurs.Occurs.{Occurs}
use Rattle.dfdl_terms.specs.declared.prefix.Measure.{Measure}
use Rattle.dfdl_terms.specs.declared.prefix.Prefix.{Prefix}
use Rattle.dfdl_terms.specs.declared.representations.Representations.{Representations}
use Rattle.dfdl_terms.specs.declared.representations.WhereTried.{WhereTried}
use Rattle.dfdl_terms.specs.declared.row.Primitive.{Primitive}
use Rattle.dfdl_rows.specs.Components.{Schema}
use Rattle.dfdl_rows.specs.declared.component.BranchKey.{BranchKey}
use Rattle.dfdl_rows.specs.declared.component.ContentBox.{ContentBox}
use Rattle.dfdl_rows.specs.declared.component.ContentBox.TheVariants.{Unbounded, Sized, Prefixed, Measured}
use Rattle.dfdl_rows.specs.declared.component.Counted.{Counted}
use Rattle.dfdl_rows.specs.declared.component.Counted.TheVariants.{ByBounds, Parsed, Told}
use Rattle.dfdl_rows.specs.declared.component.LeafLength.{LeafLength}
use Rattle.dfdl_rows.specs.declared.component.LeafLength.TheVariants as leaf_length
use Rattle.dfdl_rows.specs.declared.component.Component.{Component}
use Rattle.dfdl_rows.specs.declared.component.Component.TheVariants.{Sequence, Choice, ComplexElement, SimpleElement, CalculatedElement, Hidden}
use Rattle.dfdl_rows.specs.declared.component.Dispatch.{Dispatch}
use Rattle.dfdl_rows.specs.declared.component.Separated.{Separated}
use Rattle.dfdl_rows.specs.declared.refusal.Refusal.{Refusal}
use Rattle.dfdl_terms.specs.declared.delimiters.Delimiters.{Delimiters}
use Rattle.dfdl_written.specs.Noting.{calculated_type}
use Rattle.dfdl_compile.specs.Statements.{calculation_number, count_number, first_statement, is_set_first, key_number, measure_number}
use Rattle.dfdl_compile.specs.Delimiters.{framing_by, initiator_list_by, separated_by, separator_list_by, terminator_list_by}
use Rattle.dfdl_compile.specs.Empties.{is_framed_alike, reads_as_normal}
use Rattle.dfdl_compile.specs.Primitives.{empty_primitive_by, is_scanned, nil_primitive_by, prefix_primitive_by, primitive_by, tried_primitive_by}

-- the local name of an element
abbrev pub element_name : List SchemaDocument → Site → List ℕ
element_name documents own = unwrap_or (attribute_of documents (declaration documents own) (codes "name")) []

-- The number of the primitive that an element's length prefix is read by: those of prefixes stand behind those of all elements, in
-- the same order.
abbrev pub prefix_number : List SchemaDocument → Site → ℕ
prefix_number documents own = count_of documents + number_of documents own

-- The number of the primitive that an element's nil representation is read by: those of nil representations stand behind those of
-- prefixes, in the same order.
abbrev pub nil_number : List SchemaDocument → Site → ℕ
nil_number documents own = count_of documents + prefix_number documents own

-- The number of the primitive that the empty representation of an element's required occurrence is read by: those stand behind those of
-- nil representations, in the same order.
abbrev pub empty_number : List SchemaDocument → Site → ℕ
empty_number documents own = count_of documents + nil_number documents own

-- The same of an occurrence that is tried: those stand behind those of required ones, in the same order.
abbrev pub tried_number : List SchemaDocument → Site → ℕ
tried_number documents own = count_of documents + empty_number documents own

-- The number of the literals of an element's terminator: those of terminators stand behind those of all initiators, which stand in the
-- order of the elements, in the same order.
abbrev pub terminator_number : List SchemaDocument → Site → ℕ
terminator_number documents own = count_of documents + number_of documents own

-- The number of the literals of an element's separator: those of separators stand behind those of terminators, in the same order.
abbrev pub separator_number : List SchemaDocument → Site → ℕ
separator_number documents own = count_of documents + terminator_number documents own

-- what frames the content of an element of which this is told, where its first statement has this number
abbrev pub framing_of : List SchemaDocument → ℕ → Site → Judgement → Framing
framing_of documents first own judgement =
    framing_by (is_set_first (kind_at documents own)) first (number_of documents own) (terminator_number documents own) judgement

-- the number of something, where there is one
abbrev pub number_if : {X : Type 0} → ℕ → Option X → Option ℕ
number_if number None = None
number_if number (Some given) = Some number

-- the number of the primitive of an empty representation: none where it is framed as the normal one, or isn't, and reads as that does
abbrev pub number_if_needed : Bool → ℕ → EmptyRepresentation → Option ℕ
number_if_needed alike number own = if reads_as_normal own && alike then None else number_if number own.empty

-- the empty representation of an occurrence that is tried, framed as the normal one or not, where its primitive has this number
abbrev pub where_tried_by : Bool → ℕ → EmptyRepresentation → WhereTried
where_tried_by alike number own = record {
  empty = number_if_needed alike number own;
  refuses_empty = own.refuses_empty;
  are_several = own.are_several;
}

-- the representations of an element that are tried before its normal one, where the empty ones are framed as that or not, and where the
-- primitives of its nil one and of the empty ones of a required occurrence and of one that is tried have these numbers
abbrev pub tried_by : Bool → ℕ → ℕ → ℕ → OtherRepresentations → Representations
tried_by alike nil empty tried others = record {
  nil = number_if nil others.nil;
  empty = number_if_needed alike empty others.required;
  refuses_empty = others.required.refuses_empty;
  are_several = others.required.are_several;
  where_tried = where_tried_by alike tried others.where_tried;
}

-- a length prefix whose primitive has this number
abbrev pub prefix_by : ℕ → PrefixForm → Prefix
prefix_by number form = record { prim = number; unit = form.unit; own = form.own }

-- a length by the question of this number
abbrev pub measure_by : ℕ → MeasureForm → Measure
measure_by number form = record { question = number; unit = form.unit }

-- the box around the content of a complex element: one of so many bits, that of a prefix, that of a question, or none
abbrev pub box_by : Option ℕ → Option Prefix → Option Measure → ContentBox
box_by (Some bits) prefix measure = Sized bits
box_by None (Some prefix) measure = Prefixed prefix
box_by None None (Some measure) = Measured measure
box_by None None None = Unbounded

-- what gives the length of the content of a simple element: a prefix, a question, or the primitive that it is read by
abbrev pub leaf_length_by : Option Prefix → Option Measure → LeafLength
leaf_length_by (Some prefix) measure = leaf_length.Prefixed prefix
leaf_length_by None (Some measure) = leaf_length.Measured measure
leaf_length_by None None = leaf_length.Own

-- what gives how often an element occurs: the question of this number, or its bounds, by kind parsed or not
abbrev pub counted_by : Bool → Option ℕ → Counted
counted_by parsed (Some question) = Told question
counted_by true None = Parsed
counted_by false None = ByBounds

-- a choice with this framing and these separators, whose content is initiated or isn't: for unparsing it is refused, and stands for a group
-- with nothing of its own
abbrev pub choice_by : Purpose → Framing → Option Separated → Bool → Component
choice_by Parsing framing separated initiated = Choice framing initiated None
choice_by Unparsing framing separated initiated = Sequence framing separated initiated

-- an element or a group, of which this is its name, how its values lie in the data, its number, what frames its content and the box
-- around it, its length prefix, its length by a question, the representations that are tried before its normal one, its separators, whether its
-- content is initiated, how often it occurs, and what gives that
abbrev pub component_by : Purpose → List ℕ → Primitive → ℕ → Framing → Option ℕ → Option Prefix → Option Measure → Representations → Option Separated
    → Bool → Occurs → Counted → Kind → Component
component_by purpose name primitive number framing size prefix measure tried separated initiated occurs counted kind.ComplexElement =
    ComplexElement name framing (box_by size prefix measure) occurs counted
component_by purpose name primitive number framing size prefix measure tried separated initiated occurs counted (kind.SimpleElement simple) =
    SimpleElement name (type_of primitive) number framing (leaf_length_by prefix measure) tried (is_scanned primitive) occurs counted
component_by purpose name primitive number framing size prefix measure tried separated initiated occurs counted kind.UncarriedElement =
    SimpleElement name (type_of primitive) number framing (leaf_length_by prefix measure) tried (is_scanned primitive) occurs counted
component_by purpose name primitive number framing size prefix measure tried separated initiated occurs counted (kind.CalculatedElement simple) =
    SimpleElement name (type_of primitive) number framing (leaf_length_by prefix measure) tried (is_scanned primitive) occurs counted
component_by purpose name primitive number framing size prefix measure tried separated initiated occurs counted kind.Sequence =
    Sequence framing separated initiated
component_by purpose name primitive number framing size prefix measure tried separated initiated occurs counted kind.HiddenSequence =
    Sequence framing separated initiated
component_by purpose name primitive number framing size prefix measure tried separated initiated occurs counted kind.Choice =
    choice_by purpose framing separated initiated
component_by purpose name primitive number framing size prefix measure tried separated initiated occurs counted (kind.PrefixNumber simple) =
    Sequence framing separated initiated

-- a component that hides the group of this sequence or choice, or none
abbrev pub hiding_by : Option Site → Component → Component
hiding_by None component = component
hiding_by (Some content) component = Hidden

-- an element of this name and type whose value the statement of this number calculates, or this component, where no value is calculated
abbrev pub calculated_by : Option (List ℕ) → List ℕ → Simple → ℕ → Framing → Component → Component
calculated_by None name simple statement framing component = component
calculated_by (Some text) name simple statement framing component = CalculatedElement name simple statement framing

-- what an element of the documents is for a purpose, of which this is told, where its first statement has this number
abbrev pub component_with : Purpose → List SchemaDocument → ℕ → Site → Judgement → Component
component_with purpose documents first own judgement =
    hiding_by judgement.hidden
    (calculated_by judgement.calculation (element_name documents own) (calculated_type documents own) (calculation_number first judgement)
    (framing_of documents first own judgement)
    (component_by purpose (element_name documents own) (primitive_by judgement) (number_of documents own) (framing_of documents first own judgement)
    judgement.size
    (option_map (prefix_by (prefix_number documents own)) judgement.prefix)
    (option_map (measure_by (measure_number first judgement)) judgement.measure)
    (tried_by (is_framed_alike judgement) (nil_number documents own) (empty_number documents own) (tried_number documents own) judgement.others)
    (option_map (separated_by (separator_number documents own)) judgement.markup.separator) judgement.initiates judgement.occurs
    (counted_by judgement.is_parsed (number_if (count_number first judgement) judgement.count)) (kind_at documents own)))

-- the parts of a component that hides the group of this sequence or choice, or none
abbrev pub parts_by : List SchemaDocument → Site → Option Site → List Site
parts_by documents own None = parts_at documents own
parts_by documents own (Some content) = content ∷ []

-- a key of the branch at this place
abbrev pub branch_key : ℕ → List ℕ → BranchKey
branch_key branch text = record { branch = branch; text = text }

-- the keys of branches, of which the first has this place and these are told
abbrev pub branch_keys : (Site → List (List ℕ)) → ℕ → List Site → List BranchKey
branch_keys told place [] = []
branch_keys told place (branch ∷ others) = map (branch_key place) (told branch) ++ branch_keys told (place + 1) others

-- the keys that are told of an element of the documents
abbrev pub keys_at : Purpose → (Site → Bool) → List SchemaDocument → Site → List (List ℕ)
keys_at purpose refused documents own = (judgement_at purpose refused documents own).keys

-- what takes a branch by one of these keys, which the question of this number tells
abbrev pub dispatch_with : List BranchKey → ℕ → Dispatch
dispatch_with keys question = record { question = question; keys = keys }

-- what takes a branch of an element of the documents by a key, if that is a choice by a key
abbrev pub dispatch_at : Purpose → (Site → Bool) → List SchemaDocument → Site → Option Dispatch
dispatch_at purpose refused documents own =
    option_map
    (dispatch_with (branch_keys (keys_at purpose refused documents) 0 (parts_by documents own (judgement_at purpose refused documents own).hidden)))
    (number_if (key_number (first_statement purpose refused documents own) (judgement_at purpose refused documents own))
    (judgement_at purpose refused documents own).key)

-- a component, where it is a choice with what takes its branch by a key, if something does
abbrev pub keyed_by : Option Dispatch → Component → Component
keyed_by (Some dispatch) (Choice framing initiated other) = Choice framing initiated (Some dispatch)
keyed_by _ component = component

-- what an element of the documents is
abbrev pub component_at : Purpose → (Site → Bool) → List SchemaDocument → Site → Component
component_at purpose refused documents own =
    keyed_by (dispatch_at purpose refused documents own)
    (component_with purpose documents (first_statement purpose refused documents own) own (judgement_at purpose refused documents own))

-- the numbers of the parts of a component
abbrev pub part_numbers : Purpose → (Site → Bool) → List SchemaDocument → Site → List ℕ
part_numbers purpose refused documents own =
    map (number_of documents) (parts_by documents own (judgement_at purpose refused documents own).hidden)

-- the breach of a rule as the refusal of a component
abbrev pub refusal_of : Breach → Refusal
refusal_of breach = record { cause = breach.cause; place = breach.place }

-- the refusal of a component's own: the first rule that it breaks by itself
abbrev pub refusal_at : Purpose → (Site → Bool) → List SchemaDocument → Site → Option Refusal
refusal_at purpose refused documents own = option_map refusal_of (judgement_at purpose refused documents own).breach

-- the components of the documents
unfoldable pub components_of : Purpose → (Site → Bool) → List SchemaDocument → Schema
components_of purpose refused documents = record {
  uses = for_each documents (part_numbers purpose refused documents);
  components = for_each documents (component_at purpose refused documents);
  refusals = for_each documents (refusal_at purpose refused documents);
  places = for_each documents (place_of documents);
}

-- the primitive of an element of the documents
abbrev pub primitive_at : Purpose → (Site → Bool) → List SchemaDocument → Site → Primitive
primitive_at purpose refused documents own = primitive_by (judgement_at purpose refused documents own)

-- the primitive of the length prefix of an element of the documents
abbrev pub prefix_primitive_at : Purpose → (Site → Bool) → List SchemaDocument → Site → Primitive
prefix_primitive_at purpose refused documents own = prefix_primitive_by (judgement_at purpose refused documents own)

-- the primitive of the nil representation of an element of the documents
abbrev pub nil_primitive_at : Purpose → (Site → Bool) → List SchemaDocument → Site → Primitive
nil_primitive_at purpose refused documents own = nil_primitive_by (judgement_at purpose refused documents own)

-- the primitive of the empty representation of a required occurrence of an element of the documents
abbrev pub empty_primitive_at : Purpose → (Site → Bool) → List SchemaDocument → Site → Primitive
empty_primitive_at purpose refused documents own = empty_primitive_by (judgement_at purpose refused documents own)

-- the same of an occurrence that is tried
abbrev pub tried_primitive_at : Purpose → (Site → Bool) → List SchemaDocument → Site → Primitive
tried_primitive_at purpose refused documents own = tried_primitive_by (judgement_at purpose refused documents own)

-- the primitives of the documents: those of their elements by the elements' numbers, and behind them, each in the same order, those
-- of their prefixes, of their nil representations and of the empty ones of their required and of their tried occurrences
unfoldable pub primitives_of : Purpose → (Site → Bool) → List SchemaDocument → List Primitive
primitives_of purpose refused documents =
    for_each documents (primitive_at purpose refused documents)
    ++ (for_each documents (prefix_primitive_at purpose refused documents)
    ++ (for_each documents (nil_primitive_at purpose refused documents)
    ++ (for_each documents (empty_primitive_at purpose refused documents) ++ for_each documents (tried_primitive_at purpose refused documents))))

-- the literals of the initiator of an element of the documents
abbrev pub initiator_list_at : Purpose → (Site → Bool) → List SchemaDocument → Site → Delimiters
initiator_list_at purpose refused documents own = initiator_list_by (judgement_at purpose refused documents own)

-- the literals of the terminator of an element of the documents
abbrev pub terminator_list_at : Purpose → (Site → Bool) → List SchemaDocument → Site → Delimiters
terminator_list_at purpose refused documents own = terminator_list_by (judgement_at purpose refused documents own)

-- the literals of the separator of an element of the documents
abbrev pub separator_list_at : Purpose → (Site → Bool) → List SchemaDocument → Site → Delimiters
separator_list_at purpose refused documents own = separator_list_by (judgement_at purpose refused documents own)

-- the literals of the delimiters of the documents: those of the initiators of their elements by the elements' numbers, and behind them,
-- in the same order, those of their terminators and those of their separators
unfoldable pub delimiters_of : Purpose → (Site → Bool) → List SchemaDocument → List Delimiters
delimiters_of purpose refused documents =
    for_each documents (initiator_list_at purpose refused documents)
    ++ (for_each documents (terminator_list_at purpose refused documents) ++ for_each documents (separator_list_at purpose refused documents))
