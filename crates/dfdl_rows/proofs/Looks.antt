-- Looking at components one after another.
use Rattle.std.proofs.Common.{◌≡◌, ℕ, suc, ◌+◌, ◌<◌, Bool, true, false, ◌&&◌, is_none, List, [], ◌∷◌, ◌++◌, length, map, get_or, drop, All, Option, None, Some, refl, sym, ap, ◌∙◌, arith, drop-cons}
use Rattle.std.proofs.lemmas.List.{length-map}
use Rattle.std.proofs.lemmas.List.Elements.{All-tail}
use Rattle.dfdl_report.specs.declared.place.Place.{Place}
use Rattle.dfdl_order.specs.Parts.{uses_of, IsOrder, Places}
use Rattle.dfdl_order.proofs.Over.{value_step}
use Rattle.dfdl_rows.specs.Components.{Schema, component_at, place_at}
use Rattle.dfdl_rows.specs.Refusals.{Names, Behind, Look, go_on, go_beside, with_names, in_order, in_branches, at_component, own_refusal, unless_refused, look_from, no_look, look_at}
use Rattle.dfdl_rows.specs.Looking.{is_plain, are_all, idle_from, idle_of, looks_from, looks_of, looks_left, visits, branch_tasks}
use Rattle.dfdl_rows.specs.Sizes.{total}
use Rattle.dfdl_rows.specs.declared.component.Component.{Component}
use Rattle.dfdl_rows.specs.declared.component.Component.TheVariants.{Sequence, Choice, ComplexElement, SimpleElement, CalculatedElement, Hidden}
use Rattle.dfdl_rows.specs.declared.looking.Task.{Task}
use Rattle.dfdl_rows.specs.declared.looking.Task.TheVariants.{Visit, Turn, Close}
use Rattle.dfdl_rows.specs.declared.refusal.Refusal.{Refusal}
use Rattle.dfdl_rows.proofs.Parts.{by_parts}

module _ (s : Schema) (order : Places) (is : IsOrder s.uses order) where
  -- a component, from its parts
  pub look_step : (c : ℕ) → c < length s.uses → look_at s c ≡ look_from s c (map (look_at s) (uses_of s.uses c))
  look_step c within = value_step s.uses order (look_from s) no_look is c within

  idle_step : (c : ℕ) → c < length s.uses → idle_of s c ≡ idle_from s c (map (idle_of s) (uses_of s.uses c))
  idle_step c within = value_step s.uses order (idle_from s) false is c within

  looks_step : (c : ℕ) → c < length s.uses → looks_of s c ≡ 2 + (length (uses_of s.uses c) + total (map (looks_of s) (uses_of s.uses c)))
  looks_step c within =
      value_step s.uses order looks_from 0 is c within
      ∙ ap (λ (n : ℕ). 2 + (n + total (map (looks_of s) (uses_of s.uses c)))) (length-map (uses_of s.uses c) (looks_of s))

  -- nothing comes of this component
  abbrev IsIdle : ℕ → Type 0
  IsIdle c = idle_of s c ≡ true → (names : Names) → look_at s c names ≡ Behind []

  and_parts : (a b : Bool) → (a && b) ≡ true → (a ≡ true) × (b ≡ true)
  and_parts true b are = (refl, are)
  and_parts false b are = absurd (cc)

  all_idle : (ps : List ℕ) → All IsIdle ps → are_all (map (idle_of s) ps) ≡ true → (names : Names)
      → in_order (map (look_at s) ps) names ≡ Behind []
  all_idle [] all are names = refl
  all_idle (p ∷ ps) all are names =
      let both = and_parts (idle_of s p) (are_all (map (idle_of s) ps)) are in
      ap (λ l. go_on l names (in_order (map (look_at s) ps))) (all 0 p (omega arith) both.0 names)
      ∙ ap (with_names []) (all_idle ps (All-tail IsIdle p ps all) both.1 (names ++ []))

  branches_idle : (ps : List ℕ) → All IsIdle ps → are_all (map (idle_of s) ps) ≡ true → (names : Names)
      → in_branches (map (look_at s) ps) names ≡ Behind []
  branches_idle [] all are names = refl
  branches_idle (p ∷ ps) all are names =
      let both = and_parts (idle_of s p) (are_all (map (idle_of s) ps)) are in
      ap (λ l. go_beside l names (in_branches (map (look_at s) ps))) (all 0 p (omega arith) both.0 names)
      ∙ ap (with_names []) (branches_idle ps (All-tail IsIdle p ps all) both.1 names)

  -- a component that is neither refused nor an element is looked at as its parts are
  idle_at : (own : Option Refusal) (component : Component) (place : Place) (parts : List Look) (b : Bool) (names : Names)
      → (is_none own && (is_plain component && b)) ≡ true
      → (b ≡ true → in_order parts names ≡ Behind []) → (b ≡ true → in_branches parts names ≡ Behind [])
      → unless_refused own (at_component component place parts) names ≡ Behind []
  idle_at None (Sequence framing separated initiated) place parts b names are order_is branches_are = order_is are
  idle_at None (Choice framing initiated dispatch) place parts b names are order_is branches_are = branches_are are
  idle_at None Hidden place parts b names are order_is branches_are = order_is are
  idle_at None (ComplexElement name framing box occurs often) place parts b names are order_is branches_are = absurd (cc)
  idle_at None (SimpleElement name simple prim framing own_length tried scanned occurs often) place parts b names are order_is branches_are = absurd (cc)
  idle_at None (CalculatedElement name simple statement framing) place parts b names are order_is branches_are = absurd (cc)
  idle_at (Some refusal) component place parts b names are order_is branches_are = absurd (cc)

  idle_next : (c : ℕ) → c < length s.uses → All IsIdle (uses_of s.uses c) → IsIdle c
  idle_next c within all idle names =
      ap (λ (look : Look). look names) (look_step c within)
      ∙ idle_at (own_refusal s c) (component_at s.components c) (place_at s.places c) (map (look_at s) (uses_of s.uses c))
      (are_all (map (idle_of s) (uses_of s.uses c))) names (sym (idle_step c within) ∙ idle)
      (λ are. all_idle (uses_of s.uses c) all are names) (λ are. branches_idle (uses_of s.uses c) all are names)

  -- nothing comes of a component that is idle
  pub idle_look : (c : ℕ) → c < length s.uses → IsIdle c
  idle_look c within = by_parts s.uses order is IsIdle idle_next c within

  -- what is left, where the parts stand in the place of a component
  looks_parts : (ps : List ℕ) (ts : List Task) → looks_left s (map Visit ps ++ ts) ≡ total (map (looks_of s) ps) + looks_left s ts
  looks_parts [] ts = omega arith
  looks_parts (p ∷ ps) ts = omega (arith, looks_parts ps ts)

  looks_branches : (ps : List ℕ) (ts : List Task)
      → looks_left s (branch_tasks ps ++ ts) ≡ length ps + total (map (looks_of s) ps) + looks_left s ts
  looks_branches [] ts = omega arith
  looks_branches (p ∷ ps) ts = omega (arith, looks_branches ps ts)

  pub parts_less : (c : ℕ) → c < length s.uses → (ts : List Task) → looks_left s (map Visit (uses_of s.uses c) ++ ts) < looks_left s (Visit c ∷ ts)
  parts_less c within ts = omega (arith, looks_parts (uses_of s.uses c) ts, looks_step c within)

  pub branches_less : (c : ℕ) → c < length s.uses → (ts : List Task)
      → looks_left s (branch_tasks (uses_of s.uses c) ++ Close ∷ ts) < looks_left s (Visit c ∷ ts)
  branches_less c within ts = omega (arith, looks_branches (uses_of s.uses c) (Close ∷ ts), looks_step c within)

  pub rest_less : (c : ℕ) → c < length s.uses → (ts : List Task) → looks_left s ts < looks_left s (Visit c ∷ ts)
  rest_less c within ts = omega (arith, looks_step c within)

-- the components that are still to be looked at, where the parts stand in the place of one
pub visits_parts : (ps : List ℕ) (ts : List Task) → visits (map Visit ps ++ ts) ≡ ps ++ visits ts
visits_parts [] ts = refl
visits_parts (p ∷ ps) ts = ap (λ (ns : List ℕ). p ∷ ns) (visits_parts ps ts)

pub visits_branches : (ps : List ℕ) (ts : List Task) → visits (branch_tasks ps ++ ts) ≡ ps ++ visits ts
visits_branches [] ts = refl
visits_branches (p ∷ ps) ts = ap (λ (ns : List ℕ). p ∷ ns) (visits_branches ps ts)

-- one more before the others, going back through parts
pub front_part : (parts : List ℕ) (k at : ℕ) (now old base : List Task) → at ≡ suc k → k < length parts → now ≡ Visit (get_or parts k 0) ∷ old
    → old ≡ map Visit (drop at parts) ++ base → now ≡ map Visit (drop k parts) ++ base
front_part parts k at now old base is less now_is old_is =
    now_is
    ∙ (ap (λ (ts : List Task). Visit (get_or parts k 0) ∷ ts) (old_is ∙ ap (λ (n : ℕ). map Visit (drop n parts) ++ base) is)
    ∙ ap (λ (ps : List ℕ). map Visit ps ++ base) (sym (drop-cons parts k 0 less)))

pub front_branch : (parts : List ℕ) (k at : ℕ) (now mid old base : List Task) → at ≡ suc k → k < length parts → now ≡ Visit (get_or parts k 0) ∷ mid
    → mid ≡ Turn ∷ old → old ≡ branch_tasks (drop at parts) ++ base → now ≡ branch_tasks (drop k parts) ++ base
front_branch parts k at now mid old base is less now_is mid_is old_is =
    now_is
    ∙ (ap (λ (ts : List Task). Visit (get_or parts k 0) ∷ ts) mid_is
    ∙ (ap (λ (ts : List Task). Visit (get_or parts k 0) ∷ Turn ∷ ts) (old_is ∙ ap (λ (n : ℕ). branch_tasks (drop n parts) ++ base) is)
    ∙ ap (λ (ps : List ℕ). branch_tasks ps ++ base) (sym (drop-cons parts k 0 less))))

-- the step of the table of idle components, as the code has it
pub idle_made : (s : Schema) (c : ℕ) (own : Option Refusal) (component : Component) (slice known : List Bool) (parts : List ℕ) (found : Bool)
    → own ≡ own_refusal s c → component ≡ component_at s.components c → slice ≡ known → parts ≡ uses_of s.uses c
    → found ≡ (is_none own && (is_plain component && are_all (map (λ p. get_or slice p false) parts)))
    → found ≡ idle_from s c (map (λ p. get_or known p false) (uses_of s.uses c))
idle_made s c own component slice known parts found own_is component_is slice_is parts_are found_is =
    found_is
    ∙ (ap (λ (o : Option Refusal). is_none o && (is_plain component && are_all (map (λ p. get_or slice p false) parts))) own_is
    ∙ (ap (λ (k : Component). is_none (own_refusal s c) && (is_plain k && are_all (map (λ p. get_or slice p false) parts))) component_is
    ∙ (ap (λ (xs : List Bool). is_none (own_refusal s c) && (is_plain (component_at s.components c) && are_all (map (λ p. get_or xs p false) parts))) slice_is
    ∙ ap (λ (ps : List ℕ). is_none (own_refusal s c) && (is_plain (component_at s.components c) && are_all (map (λ p. get_or known p false) ps))) parts_are)))
