-- A table of the first refusals of elements, and one step of looking over it.
use Rattle.std.proofs.Common.{◌≡◌, ℕ, ◌<◌, Bool, true, false, List, [], ◌∷◌, ◌++◌, length, map, get_or, All, Option, None, Some, IsSome, Bor, sym, ap, subst, ◌∙◌, arith}
use Rattle.std.proofs.lemmas.List.Elements.{All-tail, All-cons}
use Rattle.dfdl_report.specs.declared.place.Place.{Place}
use Rattle.dfdl_order.specs.Parts.{uses_of, IsOrder, Places}
use Rattle.dfdl_rows.specs.Components.{Schema, component_at, place_at}
use Rattle.dfdl_rows.specs.Refusals.{Names, Looked, Behind, Ends, Look, in_order, in_branches, at_component, at_element, own_refusal, unless_refused, look_at, first_refusal, refusal_in}
use Rattle.dfdl_rows.specs.Looking.{is_element, AreReady, IsAdded, IsKept, IsStep, Stand, branch_tasks, left_from, names_at, names_in, opened, refusal_behind, refusal_left, stand, visits, with_more}
use Rattle.dfdl_rows.specs.declared.component.Component.{Component}
use Rattle.dfdl_rows.specs.declared.component.Component.TheVariants.{Sequence, Choice, ComplexElement, SimpleElement, CalculatedElement, Hidden}
use Rattle.dfdl_rows.specs.declared.refusal.Refusal.{Refusal}
use Rattle.dfdl_rows.specs.declared.looking.Task.{Task}
use Rattle.dfdl_rows.specs.declared.looking.Task.TheVariants.{Visit, Close}
use Rattle.std.proofs.lemmas.List.{append-nil}
use Rattle.dfdl_rows.proofs.Kept.{kept_opened}
use Rattle.dfdl_rows.proofs.Looks.{look_step, idle_look, visits_branches, visits_parts}
use Rattle.dfdl_rows.proofs.Named.{element_step, first_inside, left_branches, left_parts, left_visit}

all_append : {A : Type 0} (P : A → Type 0) (xs ys : List A) → All P xs → All P ys → All P (xs ++ ys)
all_append P [] ys first others = others
all_append P (x ∷ xs) ys first others =
    All-cons P x (xs ++ ys) (first 0 x (omega arith)) (all_append P xs ys (All-tail P x xs first) others)

-- without the first of what is left
pub rest_ready : (s : Schema) (idle : List Bool) (known : List (Option Refusal)) (c : ℕ) (ts : List ℕ)
    → AreReady s idle known (c ∷ ts) → AreReady s idle known ts
rest_ready s idle known c ts ready = record {
  order = ready.order;
  bound = ready.bound;
  are_known = ready.are_known;
  within = All-tail (λ t. t < length s.uses) c ts ready.within;
  before = All-tail (λ t. get_or ready.order.rank t 0 < ready.bound) c ts ready.before;
}

-- its parts in its place
pub parts_ready : (s : Schema) (idle : List Bool) (known : List (Option Refusal)) (c : ℕ) (ts : List ℕ)
    → AreReady s idle known (c ∷ ts) → AreReady s idle known (uses_of s.uses c ++ ts)
parts_ready s idle known c ts ready =
    let here : c < length s.uses = ready.within 0 c (omega arith) in
    let low : get_or ready.order.rank c 0 < ready.bound = ready.before 0 c (omega arith) in
    let falls = ready.are_known.is_order.falls c here in
    record {
      order = ready.order;
      bound = ready.bound;
      are_known = ready.are_known;
      within = all_append (λ t. t < length s.uses) (uses_of s.uses c) ts (λ k d small. (falls k d small).0)
          (All-tail (λ t. t < length s.uses) c ts ready.within);
      before = all_append (λ t. get_or ready.order.rank t 0 < ready.bound) (uses_of s.uses c) ts
          (λ k d small. let one = (falls k d small).1 in omega (arith, one, low))
          (All-tail (λ t. get_or ready.order.rank t 0 < ready.bound) c ts ready.before);
    }

-- the parts of a component in its place, or those of a choice with the ends of its branches
pub tasks_ready : (s : Schema) (idle : List Bool) (known : List (Option Refusal)) (c : ℕ) (ts after : List Task)
    → AreReady s idle known (c ∷ visits ts) → after ≡ map Visit (uses_of s.uses c) ++ ts → AreReady s idle known (visits after)
tasks_ready s idle known c ts after ready is =
    subst (AreReady s idle known) (sym (ap visits is ∙ visits_parts (uses_of s.uses c) ts)) (parts_ready s idle known c (visits ts) ready)

pub branches_ready : (s : Schema) (idle : List Bool) (known : List (Option Refusal)) (c : ℕ) (ts after : List Task)
    → AreReady s idle known (c ∷ visits ts) → after ≡ branch_tasks (uses_of s.uses c) ++ Close ∷ ts → AreReady s idle known (visits after)
branches_ready s idle known c ts after ready is =
    subst (AreReady s idle known) (sym (ap visits is ∙ visits_branches (uses_of s.uses c) (Close ∷ ts))) (parts_ready s idle known c (visits ts) ready)

-- components alone
pub first_ready : (s : Schema) (idle : List Bool) (known : List (Option Refusal)) (first : List ℕ) (tasks : List Task) → AreReady s idle known first
    → tasks ≡ map Visit first ++ [] → AreReady s idle known (visits tasks)
first_ready s idle known first tasks ready is =
    subst (AreReady s idle known) (sym (ap visits is ∙ (visits_parts first [] ∙ append-nil first))) ready

-- one step, by what the component is
module _ (s : Schema) (idle : List Bool) (known : List (Option Refusal)) (c : ℕ) (ts : List Task) (ready : AreReady s idle known (c ∷ visits ts))
    (st : Stand) (has : Bor (List ℕ) → Bool) (kept : IsKept has st) where
  pub here : c < length s.uses
  here = ready.within 0 c (omega arith)

  -- the component as it is looked at
  looked : look_at s c (names_at st)
      ≡ unless_refused (own_refusal s c) (at_component (component_at s.components c) (place_at s.places c) (map (look_at s) (uses_of s.uses c))) (names_at st)
  looked = ap (λ (look : Look). look (names_at st)) (look_step s ready.order ready.are_known.is_order c here)

  -- what is left, by what looking at it comes to
  abbrev next : Looked → Option Refusal
  next l = left_from l (λ new. refusal_left s ts (with_more st new))

  by_looked : (l : Looked) → look_at s c (names_at st) ≡ l → refusal_left s (Visit c ∷ ts) st ≡ next l
  by_looked l is = left_visit s c ts st ∙ ap next is

  pub idle_step : get_or idle c false ≡ true → IsStep s (Visit c ∷ ts) st ts st has None
  idle_step is = (
    kept,
    sym (by_looked (Behind []) (idle_look s ready.order ready.are_known.is_order c here (sym (ready.are_known.idle_are c here) ∙ is) (names_at st))
        ∙ ap (λ (ns : Names). refusal_left s ts (stand ns st.others st.outer)) (append-nil st.own)),
  )

  pub own_step : (after : List Task) (new : Stand) (now : Bor (List ℕ) → Bool) (found : Option Refusal) → found ≡ own_refusal s c → IsSome found
      → IsStep s (Visit c ∷ ts) st after new now found
  own_step after new now None is some = absurd (cc)
  own_step after new now (Some refusal) is some =
      by_looked (Ends refusal)
      (looked
      ∙ ap (λ (o : Option Refusal). unless_refused o (at_component (component_at s.components c) (place_at s.places c) (map (look_at s) (uses_of s.uses c))) (names_at st))
      (sym is))

  -- a component that isn't refused by itself
  plain : own_refusal s c ≡ None
      → look_at s c (names_at st) ≡ at_component (component_at s.components c) (place_at s.places c) (map (look_at s) (uses_of s.uses c)) (names_at st)
  plain none =
      looked
      ∙ ap (λ (o : Option Refusal). unless_refused o (at_component (component_at s.components c) (place_at s.places c) (map (look_at s) (uses_of s.uses c))) (names_at st))
      none

  -- the same, where it is known which one it is
  plain_is : own_refusal s c ≡ None → (component : Component) → component ≡ component_at s.components c
      → look_at s c (names_at st) ≡ at_component component (place_at s.places c) (map (look_at s) (uses_of s.uses c)) (names_at st)
  plain_is none component is =
      plain none ∙ ap (λ (k : Component). at_component k (place_at s.places c) (map (look_at s) (uses_of s.uses c)) (names_at st)) (sym is)

  pub sequence_step : (after : List Task) (component : Component) → own_refusal s c ≡ None → component ≡ component_at s.components c
      → ((p : Place) (parts : List Look) → at_component component p parts ≡ in_order parts)
      → after ≡ map Visit (uses_of s.uses c) ++ ts → IsStep s (Visit c ∷ ts) st after st has None
  sequence_step after component none is as_parts after_is = (
    kept,
    ap (λ (xs : List Task). refusal_left s xs st) after_is
        ∙ (left_parts s (uses_of s.uses c) ts st.own st.others st.outer
        ∙ sym (by_looked (in_order (map (look_at s) (uses_of s.uses c)) (names_at st))
        (plain_is none component is ∙ ap (λ (look : Look). look (names_at st)) (as_parts (place_at s.places c) (map (look_at s) (uses_of s.uses c)))))),
  )

  pub choice_step : (after : List Task) (new : Stand) (now : Bor (List ℕ) → Bool) (component : Component) → own_refusal s c ≡ None
      → component ≡ component_at s.components c → ((p : Place) (parts : List Look) → at_component component p parts ≡ in_branches parts)
      → after ≡ branch_tasks (uses_of s.uses c) ++ Close ∷ ts → new ≡ opened st → now ≡ has → IsStep s (Visit c ∷ ts) st after new now None
  choice_step after new now component none is as_branches after_is new_is now_is = (
    subst (λ (n : Stand). IsKept now n) (sym new_is) (subst (λ (test : Bor (List ℕ) → Bool). IsKept test (opened st)) (sym now_is) (kept_opened has st kept)),
    ap (λ (xs : List Task). refusal_left s xs new) after_is
        ∙ (ap (λ (n : Stand). refusal_left s (branch_tasks (uses_of s.uses c) ++ Close ∷ ts) n) new_is
        ∙ (left_branches s (uses_of s.uses c) ts st
        ∙ sym (by_looked (in_branches (map (look_at s) (uses_of s.uses c)) (names_at st))
        (plain_is none component is ∙ ap (λ (look : Look). look (names_at st)) (as_branches (place_at s.places c) (map (look_at s) (uses_of s.uses c))))))),
  )

-- the first refusal of an element that isn't refused by itself is what it has inside
pub inside_first : (s : Schema) (order : Places) → IsOrder s.uses order → (c : ℕ) → c < length s.uses
    → is_element (component_at s.components c) ≡ true → own_refusal s c ≡ None
    → first_refusal s c ≡ refusal_behind s (uses_of s.uses c) []
inside_first s order is c within element none =
    ap (λ (look : Look). refusal_in (look [])) (look_step s order is c within)
    ∙ (ap (λ (o : Option Refusal). refusal_in (unless_refused o (at_component (component_at s.components c) (place_at s.places c) (map (look_at s) (uses_of s.uses c))) [])) none
    ∙ first_at (component_at s.components c) (place_at s.places c) element)
  where
    first_at : (component : Component) (place : Place) → is_element component ≡ true
        → refusal_in (at_component component place (map (look_at s) (uses_of s.uses c)) []) ≡ refusal_behind s (uses_of s.uses c) []
    first_at (Sequence framing separated initiated) place is_one = absurd (cc)
    first_at (Choice framing initiated dispatch) place is_one = absurd (cc)
    first_at (ComplexElement name framing box occurs often) place is_one = first_inside (in_order (map (look_at s) (uses_of s.uses c)) []) name
    first_at (SimpleElement name simple prim framing own_length tried scanned occurs often) place is_one = first_inside (in_order (map (look_at s) (uses_of s.uses c)) []) name
    first_at (CalculatedElement name simple statement framing) place is_one = first_inside (in_order (map (look_at s) (uses_of s.uses c)) []) name
    first_at Hidden place is_one = absurd (cc)

-- that of an element that is refused by itself is its own
pub own_first : (s : Schema) (order : Places) → IsOrder s.uses order → (c : ℕ) → c < length s.uses
    → (found : Option Refusal) → found ≡ own_refusal s c → IsSome found → found ≡ first_refusal s c
own_first s order is c within None own some = absurd (cc)
own_first s order is c within (Some refusal) own some =
    sym (ap (λ (look : Look). refusal_in (look [])) (look_step s order is c within)
    ∙ ap (λ (o : Option Refusal). refusal_in (unless_refused o (at_component (component_at s.components c) (place_at s.places c) (map (look_at s) (uses_of s.uses c))) [])) (sym own))

-- the step of an element that isn't refused by itself
pub named_step : (s : Schema) (idle : List Bool) (known : List (Option Refusal)) (c : ℕ) (ts : List Task) → AreReady s idle known (c ∷ visits ts)
    → (st : Stand) (has : Bor (List ℕ) → Bool) → IsKept has st
    → (now : Bor (List ℕ) → Bool) (component : Component) (name key : List ℕ) (place : Place) (inside found : Option Refusal)
    → own_refusal s c ≡ None → component ≡ component_at s.components c
    → ((p : Place) (parts : List Look) → at_component component p parts ≡ at_element p name (in_order parts)) → is_element component ≡ true
    → place ≡ place_at s.places c → inside ≡ get_or known c None → key ≡ name
    → (own new : List (Bor (List ℕ))) → names_in own ≡ st.own → IsAdded (names_at st) key place inside now own new found
    → IsStep s (Visit c ∷ ts) st ts (stand (names_in new) st.others st.outer) now found
named_step s idle known c ts ready st has kept now component name key place inside found none component_is as_element element place_is inside_is key_is own new own_is added =
    let within : c < length s.uses = here s idle known c ts ready st has kept in
    let is_one : is_element (component_at s.components c) ≡ true = ap is_element (sym component_is) ∙ element in
    let look : Look = in_order (map (look_at s) (uses_of s.uses c)) in
    let known_is : inside ≡ refusal_in (look []) =
    inside_is ∙ (ready.are_known.each c within (ready.before 0 c (omega arith)) is_one
    ∙ inside_first s ready.order ready.are_known.is_order c within is_one none) in
    element_step s c ts st has now kept name place look
    (plain_is s idle known c ts ready st has kept none component component_is
    ∙ (ap (λ (l : Look). l (names_at st)) (as_element (place_at s.places c) (map (look_at s) (uses_of s.uses c)))
    ∙ ap (λ (p : Place). at_element p name look (names_at st)) (sym place_is)))
    own new own_is found
    (subst (λ (o : Option Refusal). IsAdded (names_at st) name place o now own new found) known_is
    (subst (λ (n : List ℕ). IsAdded (names_at st) n place inside now own new found) key_is added))
