-- What is noted of findings one after another is their events and the refusal that counts.
use Rattle.std.proofs.Common.{◌≡◌, ◌<◌, ◌≤◌, cond, nat_lt, List, [], ◌∷◌, ◌++◌, fold, Option, None, Some, refl, sym, ap, ◌∙◌, append_assoc, arith, inl, inr}
use Rattle.std.proofs.lemmas.Bool.{cases_Bool, cond-true, cond-false}
use Rattle.std.proofs.lemmas.Bool.Decides.{nat_tests}
use Rattle.std.proofs.lemmas.List.{append-nil}
use Rattle.dfdl_json.specs.Found.{Found, kept, noted}
use Rattle.dfdl_json.specs.Infosets.{Finding, Says, Refuses, Placed, answer_of, counting, events_said, outer, unless_refused}

-- what counts of those so far and those behind them
abbrev pub merged : Option Placed → Option Placed → Option Placed
merged None later = later
merged (Some first) later = Some (outer first later)

-- the one behind, if it stands further out
abbrev if_less : Placed → Placed → Placed
if_less next first = cond (nat_lt next.level first.level) next first

-- of three, by their levels
three : (a p q : Placed) → outer (if_less p a) (Some q) ≡ outer a (Some (if_less q p))
three a p q =
    elim (cases_Bool (nat_lt p.level a.level)) [
      | inl less ↦
          elim (cases_Bool (nat_lt q.level p.level)) [
            | inl under ↦
                ap (λ x. outer x (Some q)) (cond-true (nat_lt p.level a.level) p a less)
                ∙ (cond-true (nat_lt q.level p.level) q p under
                ∙ (sym (cond-true (nat_lt q.level a.level) q a (let l : p.level < a.level = grind (arith, nat_tests) in let u : q.level < p.level = grind (arith, nat_tests) in grind (arith, nat_tests)))
                ∙ ap (λ x. outer a (Some x)) (sym (cond-true (nat_lt q.level p.level) q p under))))
            | inr over ↦
                ap (λ x. outer x (Some q)) (cond-true (nat_lt p.level a.level) p a less)
                ∙ (cond-false (nat_lt q.level p.level) q p over
                ∙ (sym (cond-true (nat_lt p.level a.level) p a less)
                ∙ ap (λ x. outer a (Some x)) (sym (cond-false (nat_lt q.level p.level) q p over))))
          ]
      | inr more ↦
          elim (cases_Bool (nat_lt q.level p.level)) [
            | inl under ↦
                ap (λ x. outer x (Some q)) (cond-false (nat_lt p.level a.level) p a more)
                ∙ ap (λ x. outer a (Some x)) (sym (cond-true (nat_lt q.level p.level) q p under))
            | inr over ↦
                ap (λ x. outer x (Some q)) (cond-false (nat_lt p.level a.level) p a more)
                ∙ (cond-false (nat_lt q.level a.level) q a (let l : a.level ≤ p.level = grind (arith, nat_tests) in let u : p.level ≤ q.level = grind (arith, nat_tests) in grind (arith, nat_tests))
                ∙ (sym (cond-false (nat_lt p.level a.level) p a more)
                ∙ ap (λ x. outer a (Some x)) (sym (cond-false (nat_lt q.level p.level) q p over))))
          ]
    ]

one_more : (so_far : Option Placed) (next : Placed) (later : Option Placed) → Some (outer (kept so_far next) later) ≡ merged so_far (Some (outer next later))
one_more None next later = refl
one_more (Some first) next None = refl
one_more (Some first) next (Some last) = ap Some (three first next last)

pub noted_all : (found : Found) (all : List Finding) → fold noted found all ≡ record { events = found.events ++ events_said all; refused = merged found.refused (counting all) }
noted_all found [] = ap (λ es. record { events = es; refused = found.refused }) (sym (append-nil found.events)) ∙ ap (λ r. record { events = found.events ++ []; refused = r }) (nothing_later found.refused)
  where
    nothing_later : (r : Option Placed) → r ≡ merged r None
    nothing_later None = refl
    nothing_later (Some first) = refl
noted_all found (Says event ∷ all) =
    noted_all (noted found (Says event)) all
    ∙ ap (λ es. record { events = es; refused = merged found.refused (counting all) }) (append_assoc found.events (event ∷ []) (events_said all))
noted_all found (Refuses placed ∷ all) =
    noted_all (noted found (Refuses placed)) all
    ∙ ap (λ r. record { events = found.events ++ events_said all; refused = r }) (one_more found.refused placed (counting all))

-- what findings come to
pub all_noted : (found : Found) (all : List Finding) → found ≡ fold noted (record { events = []; refused = None }) (all ++ [])
    → unless_refused found.refused found.events ≡ answer_of all
all_noted found all is =
    let whole = is ∙ (ap (fold noted (record { events = []; refused = None })) (append-nil all) ∙ noted_all (record { events = []; refused = None }) all) in
    ap (λ (f : Found). unless_refused f.refused f.events) whole
