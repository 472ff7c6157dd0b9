-- Where nothing is refused, the events that are said fit the terms.
use Rattle.std.proofs.Common.{◌≡◌, ℕ, suc, ◌<◌, Bool, true, false, cond, List, [], ◌∷◌, ◌++◌, All, Option, None, Some, Result, Ok, Err, slice_get, refl, sym, ap, subst, ◌∙◌, arith, inl, inr}
use Rattle.std.proofs.lemmas.Bool.{cases_Bool}
use Rattle.std.proofs.lemmas.Option.{slice_get_within}
use Rattle.dfdl_value.specs.Types.{IsOfType}
use Rattle.std.proofs.lemmas.List.Elements.{All-head, All-tail}
use Rattle.serde_json.specs.Data.{Data, null, boolean, number, string, array, object, Items, no_items, item as one_item, Members}
use Rattle.serde_json.specs.Find.{get_member}
use Rattle.dfdl_forms.specs.declared.simple.Simple.{Simple}
use Rattle.dfdl_value.specs.declared.value.Value.{Value}
use Rattle.dfdl_terms.specs.declared.representations.Representations.{Representations}
use Rattle.dfdl_terms.specs.declared.statement.Statements.{Statements}
use Rattle.dfdl_terms.specs.declared.row.Row.{Row}
use Rattle.dfdl_terms.specs.declared.row.Row.TheVariants.{Leaf, Elem, Group, Skip, Align, Initiator, Terminator, Separator, Scope, Boxed, PrefixedLeaf, PrefixedBox, MeasuredLeaf, MeasuredBox, Repeat, Counted, Optional, Choice, Dispatch, Statement, Concluded, Hidden, Spanned, Instance, Separated}
use Rattle.dfdl_terms.specs.declared.event.Event.{Event}
use Rattle.dfdl_terms.specs.declared.event.Event.TheVariants.{Start, End}
use Rattle.dfdl_terms.specs.Arrays.{is_item}
use Rattle.dfdl_terms.specs.Rows.{HasElementLast, IsElementRow, Nests, Table}
use Rattle.dfdl_report.specs.declared.cause.InfosetCause.{InfosetCause}
use Rattle.dfdl_json.specs.Children.{name_of, root_row}
use Rattle.dfdl_json.specs.Fitting.{IsElement, AreInside, AreItems, simple, complex, nil, no_item, one_more, nothing, absent, present, several, Fits}
use Rattle.dfdl_json.specs.Infosets.{Finding, Says, Refuses, Placed, answer_of, are_known, array_findings, children_findings, complex_findings, content_in, counting, events_in, events_said, findings, is_nil, items_findings, member_findings, root_findings, simple_findings, unknown_findings, unless_nil, unless_refused, value_in}
use Rattle.dfdl_json.specs.Members.{members_in}
use Rattle.dfdl_json.specs.Paths.{Names, step_to}
use Rattle.dfdl_json.proofs.Below.{are_below}
use Rattle.dfdl_json.proofs.Contents.{all_members, simple_says, complex_says}
use Rattle.dfdl_json.proofs.RowValues.{by_numbers}
use Rattle.dfdl_json.proofs.Typed.{value_typed}

said_both : (xs ys : List Finding) → events_said (xs ++ ys) ≡ events_said xs ++ events_said ys
said_both [] ys = refl
said_both (Says event ∷ xs) ys = ap (λ es. event ∷ es) (said_both xs ys)
said_both (Refuses placed ∷ xs) ys = said_both xs ys

-- nothing is refused in either
none_both : (xs ys : List Finding) → counting (xs ++ ys) ≡ None → (counting xs ≡ None) × (counting ys ≡ None)
none_both [] ys none = (refl, none)
none_both (Says event ∷ xs) ys none = none_both xs ys none
none_both (Refuses placed ∷ xs) ys none = absurd (cc)

-- what each row below this one says fits
abbrev pub FitsAt : Table → ℕ → Type 0
FitsAt t row = (place : Option ℕ) (content : Data) (around : Names) → IsElementRow (slice_get t.rows row) → counting (findings t row place content around) ≡ None
    → IsElement t row (events_said (findings t row place content around))

items_fit : (t : Table) (row : ℕ) → FitsAt t row → IsElementRow (slice_get t.rows row) → (names : Names) (place : ℕ) (items : Items)
    → counting (items_findings (findings t row) names place items) ≡ None → AreItems t row (events_said (items_findings (findings t row) names place items))
items_fit t row fits element names place no_items none = no_item row
items_fit t row fits element names place (one_item content rest) none =
    let first = findings t row (Some place) content names in
    let others = items_findings (findings t row) names (suc place) rest in
    let both = none_both first others none in
    subst (λ (es : List Event). AreItems t row es) (sym (said_both first others))
    (one_more row (events_said first) (events_said others) (fits (Some place) content names element both.0) (items_fit t row fits element names (suc place) rest both.1))

array_fits : (t : Table) (row : ℕ) (rows : List ℕ) (name : List ℕ) (names : Names) (content : Data) (more : List Event) → FitsAt t row → IsElementRow (slice_get t.rows row)
    → is_item t.rows row ≡ true → counting (array_findings (findings t row) name names content) ≡ None → AreInside t rows more
    → AreInside t (row ∷ rows) (events_said (array_findings (findings t row) name names content) ++ more)
array_fits t row rows name names null more fits element are none inside = absurd (cc)
array_fits t row rows name names (boolean b) more fits element are none inside = absurd (cc)
array_fits t row rows name names (number n) more fits element are none inside = absurd (cc)
array_fits t row rows name names (string text) more fits element are none inside = absurd (cc)
array_fits t row rows name names (object entries) more fits element are none inside = absurd (cc)
array_fits t row rows name names (array items) more fits element are none inside =
    several row rows (events_said (items_findings (findings t row) names 1 items)) more are (items_fit t row fits element names 1 items none) inside

-- what a content says of an element, whose occurrences are items or not
abbrev content_findings : Table → ℕ → Names → Data → Bool → List Finding
content_findings t row names content b = cond b (array_findings (findings t row) (name_of t row) names content) (findings t row None content names)

content_fits : (t : Table) (row : ℕ) (rows : List ℕ) (names : Names) (content : Data) (more : List Event) → FitsAt t row → IsElementRow (slice_get t.rows row)
    → (b : Bool) → is_item t.rows row ≡ b → counting (content_findings t row names content b) ≡ None → AreInside t rows more
    → AreInside t (row ∷ rows) (events_said (content_findings t row names content b) ++ more)
content_fits t row rows names content more fits element true are none inside = array_fits t row rows (name_of t row) names content more fits element are none inside
content_fits t row rows names content more fits element false are none inside =
    present row rows (events_said (findings t row None content names)) more (fits None content names element none) inside

member_fits : (t : Table) (row : ℕ) (rows : List ℕ) (names : Names) (o : Option Data) (more : List Event) → FitsAt t row → IsElementRow (slice_get t.rows row)
    → counting (member_findings t (findings t) names row o) ≡ None → AreInside t rows more
    → AreInside t (row ∷ rows) (events_said (member_findings t (findings t) names row o) ++ more)
member_fits t row rows names None more fits element none inside = absent row rows more inside
member_fits t row rows names (Some content) more fits element none inside =
    content_fits t row rows names content more fits element (is_item t.rows row) refl none inside

children_fit : (t : Table) (bound : ℕ) → ((c : ℕ) → c < bound → FitsAt t c) → (elements : List ℕ) → All (λ c. c < bound) elements
    → All (λ c. IsElementRow (slice_get t.rows c)) elements → (names : Names) (entries : Members)
    → counting (children_findings t (findings t) elements names entries) ≡ None
    → AreInside t elements (events_said (children_findings t (findings t) elements names entries))
children_fit t bound each [] within are names entries none = nothing
children_fit t bound each (row ∷ rows) within are names entries none =
    let first = member_findings t (findings t) names row (get_member (name_of t row) entries) in
    let others = children_findings t (findings t) rows names entries in
    let both = none_both first others none in
    subst (λ (es : List Event). AreInside t (row ∷ rows) es) (sym (said_both first others))
    (member_fits t row rows names (get_member (name_of t row) entries) (events_said others) (each row (All-head (λ c. c < bound) row rows within))
    (All-head (λ c. IsElementRow (slice_get t.rows c)) row rows are) both.0
    (children_fit t bound each rows (All-tail (λ c. c < bound) row rows within) (All-tail (λ c. IsElementRow (slice_get t.rows c)) row rows are) names entries both.1))

-- no member is unknown
none_unknown : (t : Table) (elements : List ℕ) (names : Names) (entries : Members) → counting (unknown_findings t elements names entries) ≡ None
    → unknown_findings t elements names entries ≡ []
none_unknown t elements names entries none =
    (elim (cases_Bool (are_known t elements entries)) as (λ _. counting (unknown_findings t elements names entries) ≡ None → unknown_findings t elements names entries ≡ []) [
      | inl known ↦ rw known (λ n. refl)
      | inr unknown ↦ rw unknown (λ n. absurd (cc))
    ]) none

complex_fits : (t : Table) (row : ℕ) (name : List ℕ) (tried : Representations) (behind : Statements) (body : ℕ) (names : Names) (content : Data) → ((c : ℕ) → c < row → FitsAt t c)
    → slice_get t.rows row ≡ Some (Elem name None tried behind body) → body < row
    → counting (complex_findings t (findings t) row (members_in t body) names content) ≡ None
    → IsElement t row (events_said (complex_findings t (findings t) row (members_in t body) names content))
complex_fits t row name tried behind body names null each is less none = absurd (cc)
complex_fits t row name tried behind body names (boolean b) each is less none = absurd (cc)
complex_fits t row name tried behind body names (number n) each is less none = absurd (cc)
complex_fits t row name tried behind body names (string text) each is less none = absurd (cc)
complex_fits t row name tried behind body names (array items) each is less none = absurd (cc)
complex_fits t row name tried behind body names (object entries) each is less none =
    let elements = members_in t body in
    let unknown = unknown_findings t elements names entries in
    let inside = children_findings t (findings t) elements names entries in
    let after_unknown = none_both unknown (inside ++ Says End ∷ []) none in
    let in_children = none_both inside (Says End ∷ []) after_unknown.1 in
    let under : All (λ c. c < row) elements = all_members t (λ c. c < row) body (λ k d here. omega (arith, less, (are_below t body).within k d here)) in
    let are : All (λ c. IsElementRow (slice_get t.rows c)) elements = all_members t (λ c. IsElementRow (slice_get t.rows c)) body (are_below t body).elements in
    let said : events_said (unknown ++ (inside ++ Says End ∷ [])) ≡ events_said inside ++ End ∷ []
    = ap (λ fs. events_said (fs ++ (inside ++ Says End ∷ []))) (none_unknown t elements names entries after_unknown.0) ∙ said_both inside (Says End ∷ []) in
    subst (λ (es : List Event). IsElement t row (Start row ∷ es)) (sym said)
    (complex row name tried behind body (events_said inside) is (children_fit t row each elements under are names entries in_children.0))

simple_fits : (t : Table) (row : ℕ) (name : List ℕ) (kind : Simple) (tried : Representations) (behind : Statements) (body : ℕ) (names : Names) (r : Result Value InfosetCause)
    → slice_get t.rows row ≡ Some (Elem name (Some kind) tried behind body) → ((v : Value) → r ≡ Ok v → IsOfType kind v)
    → counting (simple_findings row names r) ≡ None → IsElement t row (events_said (simple_findings row names r))
simple_fits t row name kind tried behind body names (Ok value) is typed none = simple row name kind tried behind body value is (typed value refl)
simple_fits t row name kind tried behind body names (Err cause) is typed none = absurd (cc)

some_nil : (o : Option ℕ) (content : Data) → is_nil o content ≡ true → (prim : ℕ) × (o ≡ Some prim)
some_nil None content is = absurd (cc)
some_nil (Some prim) content is = (prim, refl)

-- an element that may be nil fits where it fits without that
unless_fits : (t : Table) (row : ℕ) (name : List ℕ) (type : Option Simple) (tried : Representations) (behind : Statements) (body : ℕ) (content : Data) (others : List Finding)
    → slice_get t.rows row ≡ Some (Elem name type tried behind body) → (counting others ≡ None → IsElement t row (events_said others))
    → counting (unless_nil (is_nil tried.nil content) row others) ≡ None → IsElement t row (events_said (unless_nil (is_nil tried.nil content) row others))
unless_fits t row name type tried behind body content others is fits none = by_test (is_nil tried.nil content) refl none
  where
    by_test : (b : Bool) → is_nil tried.nil content ≡ b → counting (unless_nil b row others) ≡ None → IsElement t row (events_said (unless_nil b row others))
    by_test true may none = let (prim, some) = some_nil tried.nil content may in nil row name type tried behind body prim is some
    by_test false other none = fits none

fits_by : (t : Table) → Nests t.rows → (row : ℕ) → ((c : ℕ) → c < row → FitsAt t c) → (r : Option Row) → slice_get t.rows row ≡ r → FitsAt t row
fits_by t nests row each None is place content around element none = absurd (subst IsElementRow is element)
fits_by t nests row each (Some (Leaf prim)) is place content around element none = absurd (subst IsElementRow is element)
fits_by t nests row each (Some (Skip bits)) is place content around element none = absurd (subst IsElementRow is element)
fits_by t nests row each (Some (Align bits)) is place content around element none = absurd (subst IsElementRow is element)
fits_by t nests row each (Some (Initiator delimiter)) is place content around element none = absurd (subst IsElementRow is element)
fits_by t nests row each (Some (Terminator delimiter separators)) is place content around element none = absurd (subst IsElementRow is element)
fits_by t nests row each (Some Separator) is place content around element none = absurd (subst IsElementRow is element)
fits_by t nests row each (Some (Scope list body)) is place content around element none = absurd (subst IsElementRow is element)
fits_by t nests row each (Some (Boxed bits body)) is place content around element none = absurd (subst IsElementRow is element)
fits_by t nests row each (Some (PrefixedLeaf prefix prim)) is place content around element none = absurd (subst IsElementRow is element)
fits_by t nests row each (Some (MeasuredLeaf measure prim)) is place content around element none = absurd (subst IsElementRow is element)
fits_by t nests row each (Some (PrefixedBox prefix body)) is place content around element none = absurd (subst IsElementRow is element)
fits_by t nests row each (Some (MeasuredBox measure body)) is place content around element none = absurd (subst IsElementRow is element)
fits_by t nests row each (Some (Repeat count body)) is place content around element none = absurd (subst IsElementRow is element)
fits_by t nests row each (Some (Counted question body)) is place content around element none = absurd (subst IsElementRow is element)
fits_by t nests row each (Some (Optional most item initiated body)) is place content around element none = absurd (subst IsElementRow is element)
fits_by t nests row each (Some (Choice branches initiated)) is place content around element none = absurd (subst IsElementRow is element)
fits_by t nests row each (Some (Dispatch question keys)) is place content around element none = absurd (subst IsElementRow is element)
fits_by t nests row each (Some (Statement statement)) is place content around element none = absurd (subst IsElementRow is element)
fits_by t nests row each (Some (Concluded behind body)) is place content around element none = absurd (subst IsElementRow is element)
fits_by t nests row each (Some (Hidden body)) is place content around element none = absurd (subst IsElementRow is element)
fits_by t nests row each (Some (Spanned body)) is place content around element none = absurd (subst IsElementRow is element)
fits_by t nests row each (Some (Instance statement body)) is place content around element none = absurd (subst IsElementRow is element)
fits_by t nests row each (Some (Separated policy position initiated slots)) is place content around element none = absurd (subst IsElementRow is element)
fits_by t nests row each (Some (Group children)) is place content around element none = absurd (subst IsElementRow is element)
fits_by t nests row each (Some (Elem name (Some kind) tried behind body)) is place content around element none =
    let names = step_to name place ∷ around in
    let said = simple_findings row names (value_in kind content) in
    let says = simple_says t row place content around name kind tried behind body is in
    subst (λ (fs : List Finding). IsElement t row (events_said fs)) (sym says)
    (unless_fits t row name (Some kind) tried behind body content said is
    (simple_fits t row name kind tried behind body names (value_in kind content) is (value_typed kind content)) (ap counting (sym says) ∙ none))
fits_by t nests row each (Some (Elem name None tried behind body)) is place content around element none =
    let names = step_to name place ∷ around in
    let less : body < row = nests row (Elem name None tried behind body) (slice_get_within t.rows row (Elem name None tried behind body) is) is in
    let said = complex_findings t (findings t) row (members_in t body) names content in
    let says = complex_says t row place content around name tried behind body is less in
    subst (λ (fs : List Finding). IsElement t row (events_said fs)) (sym says)
    (unless_fits t row name None tried behind body content said is
    (complex_fits t row name tried behind body names content each is less) (ap counting (sym says) ∙ none))

findings_fit : (t : Table) → Nests t.rows → (row : ℕ) → FitsAt t row
findings_fit t nests row = by_numbers (FitsAt t) (λ id each. fits_by t nests id each (slice_get t.rows id) refl) (suc row) row (omega arith)

not_refused : (o : Option Placed) (said events : List Event) → unless_refused o said ≡ Ok events → (o ≡ None) × (said ≡ events)
not_refused None said events is = (refl, cc)
not_refused (Some placed) said events is = absurd (cc)

-- the events of a whole fit
whole_fits : (t : Table) → Nests t.rows → HasElementLast t → (o : Option Data) (events : List Event) → answer_of (root_findings t o) ≡ Ok events → Fits t events
whole_fits t nests last None events is = absurd (cc)
whole_fits t nests last (Some content) events is =
    let parts = not_refused (counting (findings t (root_row t) None content [])) (events_said (findings t (root_row t) None content [])) events is in
    subst (λ (es : List Event). Fits t es) parts.1 (findings_fit t nests (root_row t) None content [] last parts.0)

pub events_fit : (t : Table) → Nests t.rows → HasElementLast t → (whole : Data) (events : List Event) → events_in t whole ≡ Ok events → Fits t events
events_fit t nests last whole events is = whole_fits t nests last (content_in (name_of t (root_row t)) whole) events is
