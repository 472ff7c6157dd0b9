-- What searches come to: components that reach themselves, and those that don't.
use Rattle.std.proofs.Common.{◌≡◌, ℕ, zero, suc, ◌<◌, ◌≤◌, List, [], ◌∷◌, ◌++◌, length, get_or, true, false, nat_lt, All, Contains, sym, ap, subst, ◌∙◌, refl, arith, inl, inr, length-append}
use Rattle.std.proofs.Math.ListN.{get_or-append}
use Rattle.std.proofs.Math.Seq.{get_or-append_seam}
use Rattle.std.proofs.lemmas.Bool.{cases_Bool, cases_eq, ltb-true, ltb-false}
use Rattle.std.proofs.lemmas.List.Elements.{All-contains, All-get_or, Contains-get_or}
use Rattle.dfdl_order.specs.Parts.{uses_of, IsClosed, IsOrder, Places}
use Rattle.dfdl_order.specs.Cycles.{leads, reaches_itself}
use Rattle.dfdl_order.specs.Filling.{IsListing, with_one}
use Rattle.dfdl_order.specs.Reaching.{AreReached, AreNext, AreListed, Keeps, IsReach, IsWay, NeverRises}
use Rattle.dfdl_order.proofs.Fill.{few}
use Rattle.dfdl_order.proofs.Leads.{first_step, leads_zero, leads_part, leads_on, leads_more, rises_not}

-- components that have an order don't reach themselves
pub not_recursive : (uses : List (List ℕ)) (order : Places) → IsOrder uses order → (c : ℕ) → c < length uses → reaches_itself uses c ≡ false
not_recursive uses order is c within = elim (cases_Bool (reaches_itself uses c)) [
  | inl e ↦ absurd (falling (length uses) c c within e)
  | inr e ↦ e
]
  where
    falls : (n from to : ℕ) → from < length uses → leads (uses_of uses) n from to ≡ true → get_or order.rank to 0 < get_or order.rank from 0
    falls zero from to inside e = absurd (leads_zero (uses_of uses) from to e)
    falls (suc n) from to inside e =
        let step = first_step (uses_of uses) n from to e in
        let low : (step.0 < length uses) × (get_or order.rank step.0 0 < get_or order.rank from 0)
        = All-contains (λ p. (p < length uses) × (get_or order.rank p 0 < get_or order.rank from 0)) (uses_of uses from) step.0 (is.falls from inside) step.1 in
        elim step.2 [
          | inl same ↦ omega (arith, low.1, ap (λ (x : ℕ). get_or order.rank x 0) same)
          | inr more ↦ omega (arith, low.1, falls n step.0 to low.0 more)
        ]

    falling : (n from to : ℕ) → from < length uses → leads (uses_of uses) n from from ≡ true → ⊥
    falling n from to inside e = omega (arith, falls n from from inside e)

pub keeps_itself : (order : Places) → Keeps order order
keeps_itself order = record { longer = omega arith; same = λ i small. refl }

pub keeps_twice : (a b c : Places) → Keeps a b → Keeps b c → Keeps a c
keeps_twice a b c first second = record {
  longer = omega (arith, first.longer, second.longer);
  same = λ i small. second.same i (omega (arith, small, first.longer)) ∙ first.same i small;
}

pub keeps_with : (order : Places) (c : ℕ) → Keeps order (with_one order c)
keeps_with order c = record {
  longer = omega (arith, length-append order.list (c ∷ []));
  same = λ i small. get_or-append order.list (c ∷ []) 0 i small;
}

-- what is listed stays listed
pub listed_still : (n : ℕ) (old new : Places) → IsListing n old → IsListing n new → Keeps old new
    → (b : ℕ) → b < n → get_or old.rank b 0 < n → get_or new.rank b 0 < n
listed_still n old new before after keeps b within has =
    let at = before.place b within has in
    let here : get_or new.list (get_or old.rank b 0) 0 ≡ b = keeps.same (get_or old.rank b 0) at.0 ∙ at.1 in
    let rank = (after.component (get_or old.rank b 0) (omega (arith, at.0, keeps.longer))).1 in
    omega (arith, sym (ap (λ (k : ℕ). get_or new.rank k 0) here) ∙ rank, has)

-- one component more is reached
pub reached_with : (uses : List (List ℕ)) (from : ℕ) (old : Places) (part : ℕ) → AreReached uses from old → IsListing (length uses) (with_one old part)
    → leads (uses_of uses) (suc (length old.list)) from part ≡ true → AreReached uses from (with_one old part)
reached_with uses from old part before listing next =
    let long : length (old.list ++ part ∷ []) ≡ suc (length old.list) = omega (arith, length-append old.list (part ∷ [])) in
    record {
      listing = listing;
      reach = λ i small. elim (cases_eq i (length old.list)) [
        | inl last ↦
            let is : get_or (old.list ++ part ∷ []) i 0 ≡ part = ap (λ (k : ℕ). get_or (old.list ++ part ∷ []) k 0) last ∙ get_or-append_seam old.list part [] 0 in
            subst (λ (p : ℕ). leads (uses_of uses) (length (old.list ++ part ∷ [])) from p ≡ true) (sym is)
            (leads_more (uses_of uses) (suc (length old.list)) (length (old.list ++ part ∷ [])) from part (omega (arith, long)) next)
        | inr other ↦
            let low : i < length old.list = omega (arith, small, other, long) in
            let is : get_or (old.list ++ part ∷ []) i 0 ≡ get_or old.list i 0 = get_or-append old.list (part ∷ []) 0 i low in
            subst (λ (p : ℕ). leads (uses_of uses) (length (old.list ++ part ∷ [])) from p ≡ true) (sym is)
            (leads_more (uses_of uses) (length old.list) (length (old.list ++ part ∷ [])) from (get_or old.list i 0) (omega (arith, long)) (before.reach i low))
      ];
    }

-- the parts of one that is reached are next
pub next_from : (uses : List (List ℕ)) (from : ℕ) (found : Places) (i : ℕ) → IsClosed uses → AreReached uses from found → i < length found.list
    → AreNext uses from found (uses_of uses (get_or found.list i 0))
next_from uses from found i closed reached small k d low =
    let c : ℕ = get_or found.list i 0 in
    let inside : All (λ p. p < length uses) (uses_of uses c) = All-get_or (λ parts. All (λ p. p < length uses) parts) uses c [] ((reached.listing.component i small).0) closed in (
      inside k d low,
      leads_on (uses_of uses) (length found.list) from c (get_or (uses_of uses c) k d) (reached.reach i small) (Contains-get_or (uses_of uses c) k d low),
    )

-- the parts of the first one are next
pub next_first : (uses : List (List ℕ)) (from : ℕ) (found : Places) → IsClosed uses → from < length uses → AreNext uses from found (uses_of uses from)
next_first uses from found closed within k d low =
    let inside : All (λ p. p < length uses) (uses_of uses from) = All-get_or (λ parts. All (λ p. p < length uses) parts) uses from [] within closed in (
      inside k d low,
      leads_part (uses_of uses) (length found.list) from (get_or (uses_of uses from) k d) (Contains-get_or (uses_of uses from) k d low),
    )

-- nothing is reached in an empty list
pub reached_none : (uses : List (List ℕ)) (from : ℕ) (found : Places) → IsListing (length uses) found → length found.list ≡ 0 → AreReached uses from found
reached_none uses from found listing none = record { listing = listing; reach = λ i small. absurd (omega (arith, small, none)) }

-- what a search finds is what one leads to
pub reach_is : (uses : List (List ℕ)) (from : ℕ) (found : Places) → IsClosed uses → from < length uses → IsReach uses from found
    → (c : ℕ) → c < length uses → nat_lt (get_or found.rank c 0) (length uses) ≡ leads (uses_of uses) (length uses) from c
reach_is uses from found closed within is c inside = elim (cases_Bool (nat_lt (get_or found.rank c 0) (length uses))) [
  | inl has ↦
      let at = is.reached.listing.place c inside (ltb-true (get_or found.rank c 0) (length uses) has) in
      has ∙ sym (leads_more (uses_of uses) (length found.list) (length uses) from c (few (length uses) found is.reached.listing)
      (subst (λ (p : ℕ). leads (uses_of uses) (length found.list) from p ≡ true) at.1 (is.reached.reach (get_or found.rank c 0) at.0)))
  | inr not_there ↦ elim (cases_Bool (leads (uses_of uses) (length uses) from c)) [
    | inl e ↦ absurd (omega (arith, ltb-false (get_or found.rank c 0) (length uses) not_there, there (length uses) from c (λ k d low. is.first k d low) within e))
    | inr e ↦ not_there ∙ sym e
  ]
]
  where
    there : (n a b : ℕ) → AreListed (length uses) found (uses_of uses a) → a < length uses → leads (uses_of uses) n a b ≡ true → get_or found.rank b 0 < length uses
    there zero a b all low e = absurd (leads_zero (uses_of uses) a b e)
    there (suc n) a b all low e =
        let step = first_step (uses_of uses) n a b e in
        let has : get_or found.rank step.0 0 < length uses = All-contains (λ p. get_or found.rank p 0 < length uses) (uses_of uses a) step.0 all step.1 in
        let inside_a : All (λ p. p < length uses) (uses_of uses a) = All-get_or (λ parts. All (λ p. p < length uses) parts) uses a [] low closed in
        let below : step.0 < length uses = All-contains (λ p. p < length uses) (uses_of uses a) step.0 inside_a step.1 in
        let at = is.reached.listing.place step.0 below has in
        let parts : AreListed (length uses) found (uses_of uses step.0)
        = subst (λ (p : ℕ). AreListed (length uses) found (uses_of uses p)) at.1 (is.closed (get_or found.rank step.0 0) at.0) in
        elim step.2 [
          | inl same ↦ subst (λ (p : ℕ). get_or found.rank p 0 < length uses) same has
          | inr more ↦ there n step.0 b parts below more
        ]

-- a way goes on with an unplaced part
pub way_on : (uses : List (List ℕ)) (way : Places) (c p : ℕ) → IsWay uses way c → IsListing (length uses) (with_one way c) → Contains (uses_of uses c) p
    → IsWay uses (with_one way c) p
way_on uses way c p before listing part =
    let long : length (way.list ++ c ∷ []) ≡ suc (length way.list) = omega (arith, length-append way.list (c ∷ [])) in
    record {
      listing = listing;
      reach = λ i small. elim (cases_eq i (length way.list)) [
        | inl last ↦
            let is : get_or (way.list ++ c ∷ []) i 0 ≡ c = ap (λ (k : ℕ). get_or (way.list ++ c ∷ []) k 0) last ∙ get_or-append_seam way.list c [] 0 in
            subst (λ (b : ℕ). leads (uses_of uses) (length (way.list ++ c ∷ [])) b p ≡ true) (sym is)
            (leads_more (uses_of uses) (suc (length way.list)) (length (way.list ++ c ∷ [])) c p (omega (arith, long)) (leads_part (uses_of uses) (length way.list) c p part))
        | inr other ↦
            let low : i < length way.list = omega (arith, small, other, long) in
            let is : get_or (way.list ++ c ∷ []) i 0 ≡ get_or way.list i 0 = get_or-append way.list (c ∷ []) 0 i low in
            subst (λ (b : ℕ). leads (uses_of uses) (length (way.list ++ c ∷ [])) b p ≡ true) (sym is)
            (leads_more (uses_of uses) (suc (length way.list)) (length (way.list ++ c ∷ [])) (get_or way.list i 0) p (omega (arith, long))
            (leads_on (uses_of uses) (length way.list) (get_or way.list i 0) c p (before.reach i low) part))
      ];
    }

-- a way that comes back to where it was
pub way_back : (uses : List (List ℕ)) (way : Places) (c : ℕ) → IsWay uses way c → c < length uses → get_or way.rank c 0 < length uses → reaches_itself uses c ≡ true
way_back uses way c is within has =
    let at = is.listing.place c within has in
    leads_more (uses_of uses) (length way.list) (length uses) c c (few (length uses) way is.listing)
    (subst (λ (b : ℕ). leads (uses_of uses) (length way.list) b c ≡ true) at.1 (is.reach (get_or way.rank c 0) at.0))

-- a component whose level is above those of its parts, where levels never rise
pub falls_once : (uses : List (List ℕ)) (levels : List ℕ) (c : ℕ) → IsClosed uses → NeverRises uses levels → c < length uses
    → All (λ p. get_or levels p 0 < get_or levels c 0) (uses_of uses c) → reaches_itself uses c ≡ false
falls_once uses levels c closed never within fall = elim (cases_Bool (reaches_itself uses c)) [
  | inl e ↦ absurd (circle (length uses) e)
  | inr e ↦ e
]
  where
    inside : (b : ℕ) → b < length uses → (p : ℕ) → Contains (uses_of uses b) p → p < length uses
    inside b low p part = All-contains (λ q. q < length uses) (uses_of uses b) p (All-get_or (λ parts. All (λ q. q < length uses) parts) uses b [] low closed) part

    steps : (b : ℕ) → b < length uses → (p : ℕ) → Contains (uses_of uses b) p → (p < length uses) × (get_or levels p 0 ≤ get_or levels b 0)
    steps b low p part = (inside b low p part, All-contains (λ q. get_or levels q 0 ≤ get_or levels b 0) (uses_of uses b) p (never b low) part)

    circle : (n : ℕ) → leads (uses_of uses) n c c ≡ true → ⊥
    circle zero e = leads_zero (uses_of uses) c c e
    circle (suc n) e =
        let step = first_step (uses_of uses) n c c e in
        let low = All-contains (λ q. get_or levels q 0 < get_or levels c 0) (uses_of uses c) step.0 fall step.1 in
        elim step.2 [
          | inl same ↦ omega (arith, low, ap (λ (x : ℕ). get_or levels x 0) same)
          | inr more ↦ omega (arith, low, rises_not uses levels steps n step.0 c (inside c within step.0 step.1) more)
        ]

-- a way that hasn't begun
pub way_none : (uses : List (List ℕ)) (way : Places) (c : ℕ) → IsListing (length uses) way → length way.list ≡ 0 → IsWay uses way c
way_none uses way c listing none = record { listing = listing; reach = λ i small. absurd (omega (arith, small, none)) }
