-- The statements of the components of a schema: one list of those of all elements of its documents, in which those of an element stand
-- behind those of all elements before it: its tests of patterns, what opens instances of variables, what sets variables, its tests of
-- expressions, the calculations of its value, for writing and of one that has no representation, and the questions how long its content is, how
-- often it occurs and which branch is taken ('DFDL Schema Component Model', on asserts, discriminators and variables; 'Calculated Values';
-- 'Lengths'; 'Arrays and Optional Elements'; 'Choices').
use Rattle.std.specs.Prelude.{ℕ, suc, ◌+◌, ◌-◌, List, [], ◌∷◌, if◌then◌else◌, Bool, true, false, Option, None, Some, length, take}
use Rattle.std.specs.List.{flat_map, sum_by}
use Rattle.dfdl_documents.specs.Documents.{SchemaDocument}
use Rattle.dfdl_components.specs.declared.site.Site.{Site}
use Rattle.dfdl_components.specs.Recursion.{number_of}
use Rattle.dfdl_checks.specs.declared.purpose.Purpose.{Purpose}
use Rattle.dfdl_checks.specs.declared.subject.Kind.{Kind}
use Rattle.dfdl_checks.specs.declared.subject.Kind.TheVariants.{ComplexElement, SimpleElement, UncarriedElement, CalculatedElement}
use Rattle.dfdl_chains.specs.Everywhere.{all_sites, for_each}
use Rattle.dfdl_chains.specs.declared.settings.Setter.{Setter}
use Rattle.dfdl_breaches.specs.declared.judgement.Judgement.{Judgement}
use Rattle.dfdl_breaches.specs.Judging.{judgement_at}
use Rattle.dfdl_terms.specs.declared.statement.Statements.{Statements}
use Rattle.dfdl_written.specs.declared.noted.Noted.{Noted}
use Rattle.dfdl_written.specs.Noting.{noted_by}

-- how many statements there are of something, one or none
abbrev pub count_if : {X : Type 0} → Option X → ℕ
count_if None = 0
count_if (Some given) = 1

-- how many statements behind its content, besides what sets variables, an element has of which this is told: the tests of expressions, and the
-- calculation of its value for writing, if there is one
abbrev pub count_behind : Judgement → ℕ
count_behind judgement = length judgement.checks + count_if judgement.output

-- how many statements before those that its rows ask for by their numbers
abbrev pub count_others : Judgement → ℕ
count_others judgement = length judgement.tests + (length judgement.settings + count_behind judgement)

-- how many statements it has
abbrev pub count_by : Judgement → ℕ
count_by judgement =
    count_others judgement
    + (count_if judgement.calculation + (count_if judgement.measure + (count_if judgement.count + count_if judgement.key)))

-- how many the elements have of which these are told
abbrev pub counted : List Judgement → ℕ
counted judgements = sum_by count_by judgements

-- what is told of each element of the documents, in their order
abbrev pub judgements_of : Purpose → (Site → Bool) → List SchemaDocument → List Judgement
judgements_of purpose refused documents = for_each documents (judgement_at purpose refused documents)

-- how many statements the first so many of some elements have
abbrev pub statements_before : List Judgement → ℕ → ℕ
statements_before judgements number = counted (take number judgements)

-- the number of the first statement of an element of the documents
abbrev pub first_statement : Purpose → (Site → Bool) → List SchemaDocument → Site → ℕ
first_statement purpose refused documents own = statements_before (judgements_of purpose refused documents) (number_of documents own)

-- an element sets variables where it ends, a sequence or a choice before all else
abbrev pub is_set_first : Kind → Bool
is_set_first ComplexElement = false
is_set_first (SimpleElement simple) = false
is_set_first UncarriedElement = false
is_set_first (CalculatedElement simple) = false
is_set_first _ = true

-- so many settings, if they stand before all else
abbrev pub if_first : Bool → ℕ → ℕ
if_first true count = count
if_first false count = 0

-- so many settings, if they stand behind all
abbrev pub if_last : Bool → ℕ → ℕ
if_last true count = 0
if_last false count = count

-- how many of those that set variables open instances; these stand before the others
abbrev pub opening_count : List Setter → ℕ
opening_count [] = 0
opening_count (setter ∷ setters) = if setter.opens then suc (opening_count setters) else opening_count setters

-- the tests of patterns of a component of which this is told, where its first statement has this number
abbrev pub before_by : ℕ → Judgement → Statements
before_by first judgement = record { first = first; count = length judgement.tests }

-- what opens instances of variables where it begins, as a sequence or a choice does
abbrev pub openings_by : Bool → ℕ → Judgement → Statements
openings_by is_first first judgement =
    record { first = first + length judgement.tests; count = if_first is_first (opening_count judgement.settings) }

-- what sets variables where it begins
abbrev pub settings_by : Bool → ℕ → Judgement → Statements
settings_by is_first first judgement = record {
  first = first + (length judgement.tests + opening_count judgement.settings);
  count = if_first is_first (length judgement.settings - opening_count judgement.settings);
}

-- the statements behind it
abbrev pub behind_by : Bool → ℕ → Judgement → Statements
behind_by is_first first judgement = record {
  first = first + (length judgement.tests + if_first is_first (length judgement.settings));
  count = if_last is_first (length judgement.settings) + count_behind judgement;
}

-- the number of the calculation of its value
abbrev pub calculation_number : ℕ → Judgement → ℕ
calculation_number first judgement = first + count_others judgement

-- the number of the question how long its content is, which stands behind it
abbrev pub measure_number : ℕ → Judgement → ℕ
measure_number first judgement = calculation_number first judgement + count_if judgement.calculation

-- the number of the question how often it occurs, which stands behind that
abbrev pub count_number : ℕ → Judgement → ℕ
count_number first judgement = measure_number first judgement + count_if judgement.measure

-- the number of the question which branch is taken, which stands behind that
abbrev pub key_number : ℕ → Judgement → ℕ
key_number first judgement = count_number first judgement + count_if judgement.count

-- the statements of an element of the documents as they are written
abbrev pub noted_at : Purpose → (Site → Bool) → List SchemaDocument → Site → List Noted
noted_at purpose refused documents own = noted_by documents own (judgement_at purpose refused documents own)

-- the statements of the documents as they are written: those of their elements, one element after the other
unfoldable pub noted_of : Purpose → (Site → Bool) → List SchemaDocument → List Noted
noted_of purpose refused documents = flat_map (noted_at purpose refused documents) (all_sites documents)
