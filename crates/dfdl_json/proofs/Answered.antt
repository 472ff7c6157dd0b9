-- The answer that follows from what was found in the content of the root element.
use Rattle.std.proofs.Common.{◌≡◌, ℕ, Vec, Global, List, [], ◌++◌, fold, None, Some, Result, Ok, Err, IfOk, sym, ap, subst, ◌∙◌}
use Rattle.serde_json.specs.Data.{Data}
use Rattle.dfdl_terms.specs.declared.event.Event.{Event}
use Rattle.dfdl_terms.specs.Rows.{HasElementLast, Nests, Table}
use Rattle.dfdl_json.specs.declared.fault.InfosetFault.{InfosetFault}
use Rattle.dfdl_json.specs.Answers.{Answers}
use Rattle.dfdl_json.specs.Children.{name_of, root_row}
use Rattle.dfdl_json.specs.Fitting.{Fits}
use Rattle.dfdl_json.specs.Found.{Found, noted}
use Rattle.dfdl_json.specs.Infosets.{Refusal, answer_of, content_in, events_in, findings, root_findings, unless_refused}
use Rattle.dfdl_json.proofs.Fitted.{events_fit}
use Rattle.dfdl_json.proofs.Notes.{all_noted}

-- the answer of a call is what is expected
abbrev pub IsAnswered : Result (List Event) Refusal → Result (Vec Event Global) InfosetFault → Type 0
IsAnswered expected result = Answers {A = Vec Event Global} {B = List Event} (λ events. events.items) expected result

-- what was found in the content is what the whole says
pub found_answer : (t : Table) (whole content : Data) (name : List ℕ) (root : ℕ) (found : Found) (result : Result (Vec Event Global) InfosetFault) → root ≡ root_row t
    → name ≡ name_of t root → Some content ≡ content_in name whole
    → found ≡ fold noted (record { events = []; refused = None }) (findings t root None content [] ++ [])
    → IsAnswered (unless_refused found.refused found.events) result → IsAnswered (events_in t whole) result
found_answer t whole content name root found result root_is name_is there found_is answered =
    let said : unless_refused found.refused found.events ≡ answer_of (findings t root None content []) = all_noted found (findings t root None content []) found_is in
    let named : content_in (name_of t (root_row t)) whole ≡ Some content = sym (there ∙ ap (λ n. content_in n whole) (name_is ∙ ap (name_of t) root_is)) in
    let expected : unless_refused found.refused found.events ≡ events_in t whole
    = said ∙ (ap (λ r. answer_of (findings t r None content [])) root_is ∙ ap (λ o. answer_of (root_findings t o)) (sym named)) in
    subst (λ (r : Result (List Event) Refusal). IsAnswered r result) expected answered

-- the events that are answered fit
pub answer_fits : (t : Table) (whole : Data) (result : Result (Vec Event Global) InfosetFault) → Nests t.rows → HasElementLast t → IsAnswered (events_in t whole) result
    → IfOk result (λ events. Fits t events.items)
answer_fits t whole (Ok events) nests last answered = events_fit t nests last whole events.items answered
answer_fits t whole (Err fault) nests last answered = tt
