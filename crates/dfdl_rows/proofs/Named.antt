-- The first refusal in what is left, where parts stand in the place of a component, and where an element is looked at.
use Rattle.std.proofs.Common.{◌≡◌, ℕ, Bool, true, false, not, ◌&&◌, if◌then◌else◌, List, [], ◌∷◌, ◌++◌, length, map, Option, None, Some, Bor, refl, sym, ap, subst, ◌∙◌, append_assoc, arith}
use Rattle.std.proofs.lemmas.List.{append-nil}
use Rattle.dfdl_report.specs.declared.cause.SchemaCause.TheVariants.{ElementTwice}
use Rattle.dfdl_report.specs.declared.place.Place.{Place}
use Rattle.dfdl_rows.specs.Components.{Schema}
use Rattle.dfdl_rows.specs.Refusals.{Names, Looked, Behind, Ends, Look, go_on, go_beside, with_names, in_order, in_branches, is_among, behind_element, at_element, look_at, refusal_in}
use Rattle.dfdl_rows.specs.Looking.{IsAdded, IsKept, IsStep, Side, Stand, branch_tasks, closed, left_from, names_at, names_before, names_in, opened, refusal_behind, refusal_left, stand, turned, with_more}
use Rattle.dfdl_rows.specs.declared.looking.Task.{Task}
use Rattle.dfdl_rows.specs.declared.looking.Task.TheVariants.{Visit, Turn, Close}
use Rattle.dfdl_rows.specs.declared.refusal.Refusal.{Refusal}
use Rattle.dfdl_rows.proofs.Kept.{kept_more, kept_turned}

-- one task is done
pub left_none : (s : Schema) (st : Stand) → refusal_left s [] st ≡ None
unfolding refusal_left
left_none s st = refl

pub left_visit : (s : Schema) (c : ℕ) (ts : List Task) (st : Stand)
    → refusal_left s (Visit c ∷ ts) st ≡ left_from (look_at s c (names_at st)) (λ new. refusal_left s ts (with_more st new))
unfolding refusal_left
left_visit s c ts st = refl

pub left_turn : (s : Schema) (ts : List Task) (st : Stand) → refusal_left s (Turn ∷ ts) st ≡ refusal_left s ts (turned st)
unfolding refusal_left
left_turn s ts st = refl

pub left_close : (s : Schema) (ts : List Task) (st : Stand) → refusal_left s (Close ∷ ts) st ≡ refusal_left s ts (closed st)
unfolding refusal_left
left_close s ts st = refl

-- what follows others that were looked at, one after another
order_next : (l : Looked) (own new : Names) (next : Names → Option Refusal)
    → left_from l (λ more. next ((own ++ new) ++ more)) ≡ left_from (with_names new l) (λ more. next (own ++ more))
order_next (Behind more) own new next = ap next (append_assoc own new more)
order_next (Ends refusal) own new next = refl

-- parts in the place of a component, one after another
pub left_parts : (s : Schema) (ps : List ℕ) (ts : List Task) (own others : Names) (outer : List Side)
    → refusal_left s (map Visit ps ++ ts) (stand own others outer)
    ≡ left_from (in_order (map (look_at s) ps) (names_before outer ++ own)) (λ new. refusal_left s ts (stand (own ++ new) others outer))
left_parts s [] ts own others outer = ap (λ (ns : Names). refusal_left s ts (stand ns others outer)) (sym (append-nil own))
left_parts s (p ∷ ps) ts own others outer =
    left_visit s p (map Visit ps ++ ts) (stand own others outer)
    ∙ next (look_at s p (names_before outer ++ own)) (λ new. left_parts s ps ts (own ++ new) others outer)
  where
    next : (l : Looked)
        → ((new : Names) → refusal_left s (map Visit ps ++ ts) (stand (own ++ new) others outer)
        ≡ left_from (in_order (map (look_at s) ps) (names_before outer ++ (own ++ new))) (λ more. refusal_left s ts (stand ((own ++ new) ++ more) others outer)))
        → left_from l (λ new. refusal_left s (map Visit ps ++ ts) (stand (own ++ new) others outer))
        ≡ left_from (go_on l (names_before outer ++ own) (in_order (map (look_at s) ps))) (λ new. refusal_left s ts (stand (own ++ new) others outer))
    next (Behind new) again =
        again new
        ∙ (ap (λ (ns : Names). left_from (in_order (map (look_at s) ps) ns) (λ more. refusal_left s ts (stand ((own ++ new) ++ more) others outer)))
        (sym (append_assoc (names_before outer) own new))
        ∙ order_next (in_order (map (look_at s) ps) ((names_before outer ++ own) ++ new)) own new (λ ns. refusal_left s ts (stand ns others outer)))
    next (Ends refusal) again = refl

-- the branches of a choice, of which some are done
left_rest : (s : Schema) (ps : List ℕ) (ts : List Task) (others : Names) (side : Side) (outer : List Side)
    → refusal_left s (branch_tasks ps ++ Close ∷ ts) (stand [] others (side ∷ outer))
    ≡ left_from (in_branches (map (look_at s) ps) (names_before outer ++ side.own))
    (λ new. refusal_left s ts (stand (side.own ++ (others ++ new)) side.others outer))
left_rest s [] ts others side outer = left_close s ts (stand [] others (side ∷ outer))
left_rest s (p ∷ ps) ts others side outer =
    left_visit s p (Turn ∷ branch_tasks ps ++ Close ∷ ts) (stand [] others (side ∷ outer))
    ∙ (ap (λ (ns : Names). left_from (look_at s p ns) (λ new. refusal_left s (Turn ∷ branch_tasks ps ++ Close ∷ ts) (stand new others (side ∷ outer))))
    (append-nil (names_before outer ++ side.own))
    ∙ next (look_at s p (names_before outer ++ side.own)) (λ new. left_rest s ps ts (others ++ new) side outer))
  where
    next : (l : Looked)
        → ((new : Names) → refusal_left s (branch_tasks ps ++ Close ∷ ts) (stand [] (others ++ new) (side ∷ outer))
        ≡ left_from (in_branches (map (look_at s) ps) (names_before outer ++ side.own))
        (λ more. refusal_left s ts (stand (side.own ++ ((others ++ new) ++ more)) side.others outer)))
        → left_from l (λ new. refusal_left s (Turn ∷ branch_tasks ps ++ Close ∷ ts) (stand new others (side ∷ outer)))
        ≡ left_from (go_beside l (names_before outer ++ side.own) (in_branches (map (look_at s) ps)))
        (λ new. refusal_left s ts (stand (side.own ++ (others ++ new)) side.others outer))
    next (Behind new) again =
        left_turn s (branch_tasks ps ++ Close ∷ ts) (stand new others (side ∷ outer))
        ∙ (again new
        ∙ order_next (in_branches (map (look_at s) ps) (names_before outer ++ side.own)) others new
        (λ ns. refusal_left s ts (stand (side.own ++ ns) side.others outer)))
    next (Ends refusal) again = refl

-- the branches of a choice in its place
pub left_branches : (s : Schema) (ps : List ℕ) (ts : List Task) (st : Stand)
    → refusal_left s (branch_tasks ps ++ Close ∷ ts) (opened st)
    ≡ left_from (in_branches (map (look_at s) ps) (names_at st)) (λ new. refusal_left s ts (with_more st new))
left_branches s ps ts st = left_rest s ps ts [] (record { own = st.own; others = st.others }) st.outer

-- a branch is done
pub turn_step : (s : Schema) (task : Task) (ts : List Task) (st new : Stand) (has now : Bor (List ℕ) → Bool) → task ≡ Turn → IsKept has st
    → ((name : Bor (List ℕ)) → now name ≡ (has name && not (is_among st.own name.now))) → new ≡ turned st → IsStep s (task ∷ ts) st ts new now None
turn_step s task ts st new has now is kept less new_is = (
  subst (IsKept now) (sym new_is) (kept_turned has now st kept less),
  ap (refusal_left s ts) new_is ∙ (sym (left_turn s ts st) ∙ ap (λ (t : Task). refusal_left s (t ∷ ts) st) (sym is)),
)

-- the innermost choice is done
pub close_step : (s : Schema) (task : Task) (ts after : List Task) (st new : Stand) (now : Bor (List ℕ) → Bool) → task ≡ Close → after ≡ ts
    → IsKept now new → new ≡ closed st → IsStep s (task ∷ ts) st after new now None
close_step s task ts after st new now is after_is kept new_is = (
  kept,
  ap (λ (xs : List Task). refusal_left s xs new) after_is
      ∙ (ap (refusal_left s ts) new_is ∙ (sym (left_close s ts st) ∙ ap (λ (t : Task). refusal_left s (t ∷ ts) st) (sym is))),
)

-- nothing is left
pub left_nothing : (s : Schema) (ts : List Task) (st : Stand) → length ts ≡ 0 → None ≡ refusal_left s ts st
left_nothing s [] st none = sym (left_none s st)
left_nothing s (t ∷ ts) st none = absurd (omega (arith, none))

-- components alone
only_left : (l : Looked) (next : Names → Option Refusal) → ((new : Names) → next new ≡ None) → left_from l next ≡ refusal_in l
only_left (Behind new) next none = none new
only_left (Ends refusal) next none = refl

pub left_alone : (s : Schema) (ps : List ℕ) (tasks : List Task) (own others : Names) (outer : List Side) → tasks ≡ map Visit ps ++ []
    → own ≡ [] → outer ≡ [] → refusal_left s tasks (stand own others outer) ≡ refusal_behind s ps []
left_alone s ps tasks own others outer tasks_are own_is outer_is =
    ap (λ (ts : List Task). refusal_left s ts (stand own others outer)) tasks_are
    ∙ (ap (λ (ns : Names). refusal_left s (map Visit ps ++ []) (stand ns others outer)) own_is
    ∙ (ap (λ (sides : List Side). refusal_left s (map Visit ps ++ []) (stand [] others sides)) outer_is
    ∙ (left_parts s ps [] [] others []
    ∙ only_left (in_order (map (look_at s) ps) []) (λ new. refusal_left s [] (stand ([] ++ new) others []))
    (λ new. left_none s (stand ([] ++ new) others [])))))

-- an element is looked at
module _ (s : Schema) (c : ℕ) (ts : List Task) (st : Stand) (has now : Bor (List ℕ) → Bool) (kept : IsKept has st)
    (name : List ℕ) (place : Place) (inside : Look) (looked : look_at s c (names_at st) ≡ at_element place name inside (names_at st))
    (own new : List (Bor (List ℕ))) (own_is : names_in own ≡ st.own) (found : Option Refusal)
    (added : IsAdded (names_at st) name place (refusal_in (inside [])) now own new found) where
  twice_step : (f : Option Refusal) → f ≡ found → is_among (names_at st) name ≡ true
      → IsStep s (Visit c ∷ ts) st ts (stand (names_in new) st.others st.outer) now f
  twice_step None is among = absurd (let there = added.twice among in cc)
  twice_step (Some refusal) is among =
      left_visit s c ts st
      ∙ (ap (λ (l : Looked). left_from l (λ more. refusal_left s ts (with_more st more))) looked
      ∙ (ap (λ (b : Bool). left_from (if b then Ends (record { cause = ElementTwice; place = place }) else behind_element name (inside []))
      (λ more. refusal_left s ts (with_more st more))) among
      ∙ sym (is ∙ added.twice among)))

  new_is : is_among (names_at st) name ≡ false → names_in new ≡ st.own ++ name ∷ []
  new_is other = (added.names other).1 ∙ ap (λ (ns : Names). ns ++ name ∷ []) own_is

  inside_step : (f : Option Refusal) (l : Looked) → f ≡ refusal_in l → is_among (names_at st) name ≡ false
      → left_from (look_at s c (names_at st)) (λ more. refusal_left s ts (with_more st more))
      ≡ left_from (behind_element name l) (λ more. refusal_left s ts (with_more st more))
      → IsStep s (Visit c ∷ ts) st ts (stand (names_in new) st.others st.outer) now f
  inside_step None (Behind names) is other same = (
    subst (λ (ns : Names). IsKept now (stand ns st.others st.outer)) (sym (new_is other)) (kept_more has now st name kept other (added.names other).0),
    ap (λ (ns : Names). refusal_left s ts (stand ns st.others st.outer)) (new_is other) ∙ sym (left_visit s c ts st ∙ same),
  )
  inside_step None (Ends refusal) is other same = absurd (cc)
  inside_step (Some refusal) (Behind names) is other same = absurd (cc)
  inside_step (Some refusal) (Ends own_refusal) is other same = left_visit s c ts st ∙ (same ∙ sym is)

  pub element_step : IsStep s (Visit c ∷ ts) st ts (stand (names_in new) st.others st.outer) now found
  element_step = (elim (is_among (names_at st) name) as (λ (b : Bool). is_among (names_at st) name ≡ b
      → IsStep s (Visit c ∷ ts) st ts (stand (names_in new) st.others st.outer) now found) [
        | true ↦ λ among. twice_step found refl among
        | false ↦ λ other. inside_step found (inside []) (added.same other) other
            (ap (λ (l : Looked). left_from l (λ more. refusal_left s ts (with_more st more))) looked
            ∙ ap (λ (b : Bool). left_from (if b then Ends (record { cause = ElementTwice; place = place }) else behind_element name (inside []))
            (λ more. refusal_left s ts (with_more st more))) other)
      ]) refl

-- what an element has inside is refused first, where the element is not
pub first_inside : (inside : Looked) (name : List ℕ) → refusal_in (behind_element name inside) ≡ refusal_in inside
first_inside (Behind names) name = refl
first_inside (Ends refusal) name = refl
