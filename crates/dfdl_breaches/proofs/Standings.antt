-- What is noted of where components stand.
use Rattle.std.proofs.Common.{◌≡◌, refl, sym, ap, subst, ◌∙◌, ℕ, zero, suc, ◌+◌, ◌<◌, ◌≤◌, ◌||◌, ◌++◌, List, [], ◌∷◌, length, get_or, drop, map, replicate, Bool, true, false, if◌then◌else◌, append_assoc, append-nil, arith, eqb}
use Rattle.std.proofs.lemmas.List.{get_or_default}
use Rattle.std.proofs.Math.Dec.{eqb-zero-suc, eqb-suc-suc}
use Rattle.dfdl_documents.specs.Documents.{SchemaDocument}
use Rattle.dfdl_components.specs.declared.site.Site.{Site}
use Rattle.dfdl_components.specs.Recursion.{number_of}
use Rattle.dfdl_components.specs.Sites.{IsSite}
use Rattle.dfdl_checks.specs.Places.{both_of, nowhere}
use Rattle.dfdl_checks.specs.declared.subject.Standing.{Standing}
use Rattle.dfdl_chains.specs.Parts.{parts_at}
use Rattle.dfdl_breaches.proofs.Numbering.{number_below}
use Rattle.dfdl_breaches.specs.Standing.{asked_at, asked_key, is_keyed_at, is_nothing, is_taken, keying_among, keying_if, keys_at, repeats, standing_among, standing_at, standing_from, standing_in}
use Rattle.dfdl_breaches.specs.StandingShown.{AreStandings, asked_shown}
use Rattle.dfdl_breaches.specs.declared.standing.Asking.{Asking}

or_false : (b : Bool) → b ≡ (b || false)
or_false true = refl
or_false false = refl

or_both : (a b c : Bool) → ((a || b) || c) ≡ (a || (b || c))
or_both true b c = refl
or_both false b c = refl

-- nowhere adds nothing
pub and_nowhere : (a : Standing) → a ≡ both_of a nowhere
and_nowhere a = λ i. record {
  is_initiated = or_false a.is_initiated i;
  needs_bound = or_false a.needs_bound i;
  needs_key = or_false a.needs_key i;
  repeats_key = or_false a.repeats_key i;
  resolves = or_false a.resolves i;
}

-- it doesn't matter how what stands in several groups is joined
pub joined : (a b c : Standing) → both_of (both_of a b) c ≡ both_of a (both_of b c)
joined a b c = λ i. record {
  is_initiated = or_both a.is_initiated b.is_initiated c.is_initiated i;
  needs_bound = or_both a.needs_bound b.needs_bound c.needs_bound i;
  needs_key = or_both a.needs_key b.needs_key c.needs_key i;
  repeats_key = or_both a.repeats_key b.repeats_key c.repeats_key i;
  resolves = or_both a.resolves b.resolves c.resolves i;
}

-- the rest of a list behind one that is there
pub rest_at : {X : Type 0} (xs : List X) (at : ℕ) (d : X) → at < length xs → drop at xs ≡ get_or xs at d ∷ drop (at + 1) xs
rest_at [] at d less = absurd (omega (arith, less))
rest_at (x ∷ xs) zero d less = refl
rest_at (x ∷ xs) (suc at) d less =
    let one : suc (at + 1) ≡ suc at + 1 = omega arith in
    rest_at xs at d (omega (arith, less)) ∙ ap (λ (n : ℕ). get_or xs at d ∷ drop n (x ∷ xs)) one

-- nothing is behind the last one, and something behind each other
pub last_at : {X : Type 0} (f : X → ℕ) (xs : List X) (at : ℕ) → at < length xs → is_nothing (map f (drop (at + 1) xs)) ≡ eqb (at + 1) (length xs)
last_at f [] at less = absurd (omega (arith, less))
last_at f (x ∷ []) zero less = refl
last_at f (x ∷ y ∷ ys) zero less = sym (eqb-suc-suc zero (suc (length ys)) ∙ eqb-zero-suc (length ys))
last_at f (x ∷ xs) (suc at) less =
    let one : suc (at + 1) ≡ suc at + 1 = omega arith in
    ap (λ (n : ℕ). is_nothing (map f (drop n (x ∷ xs)))) (sym one)
    ∙ (last_at f xs at (omega (arith, less))
    ∙ (sym (eqb-suc-suc (at + 1) (length xs)) ∙ ap (λ (n : ℕ). eqb n (suc (length xs))) one))

none_of : {X : Type 0} (n : ℕ) → drop {A = X} n [] ≡ []
none_of zero = refl
none_of (suc n) = refl

-- nothing is left
pub none_left : {X : Type 0} (xs : List X) (at : ℕ) → length xs ≤ at → drop at xs ≡ []
none_left [] at past = none_of at
none_left (x ∷ xs) zero past = absurd (omega (arith, past))
none_left (x ∷ xs) (suc at) past = none_left xs at (omega (arith, past))

-- no component is asked anything yet
pub none_noted : (count c : ℕ) → get_or (replicate count nowhere) c nowhere ≡ nowhere
none_noted zero c = refl
none_noted (suc count) zero = refl
none_noted (suc count) (suc c) = none_noted count c

-- then all that is asked is left
pub first_noted : (documents : List SchemaDocument) (sites : List Site) (standings : List Standing) (count c : ℕ) (own : Standing)
    → standings ≡ replicate count own → own ≡ nowhere
    → both_of (get_or standings c nowhere) (standing_from documents sites c) ≡ standing_from documents sites c
first_noted documents sites standings count c own are is =
    ap (λ (s : Standing). both_of s (standing_from documents sites c))
    (ap (λ (xs : List Standing). get_or xs c nowhere) (are ∙ ap (λ (s : Standing). replicate count s) is) ∙ none_noted count c)

module _ (asked : Bool → Standing) (f : Site → ℕ) (parts : List Site) where
  -- what was asked before and of the parts so far, with what is asked of those that are left, is all
  pub next_part : (before noted new : Standing) (at c number : ℕ) (d : Site) (own : Standing) → at < length parts → number ≡ f (get_or parts at d)
      → own ≡ asked (eqb (at + 1) (length parts))
      → both_of noted (standing_among asked (map f (drop at parts)) c) ≡ both_of before (standing_among asked (map f parts) c)
      → new ≡ both_of noted (if eqb number c then own else nowhere)
      → both_of new (standing_among asked (map f (drop (at + 1) parts)) c) ≡ both_of before (standing_among asked (map f parts) c)
  next_part before noted new at c number d own less is asks so_far made =
      let rest : Standing = standing_among asked (map f (drop (at + 1) parts)) c in
      let here : (if eqb number c then own else nowhere)
      ≡ (if eqb (f (get_or parts at d)) c then asked (is_nothing (map f (drop (at + 1) parts))) else nowhere) =
      λ i. if eqb (is i) c then (asks ∙ ap asked (sym (last_at f parts at less))) i else nowhere in
      ap (λ (s : Standing). both_of s rest) (made ∙ ap (both_of noted) here)
      ∙ (joined noted _ rest
      ∙ (ap (λ (xs : List Site). both_of noted (standing_among asked (map f xs) c)) (sym (rest_at parts at d less)) ∙ so_far))

  pub all_parts : (before noted : Standing) (at c : ℕ) → length parts ≤ at
      → both_of noted (standing_among asked (map f (drop at parts)) c) ≡ both_of before (standing_among asked (map f parts) c)
      → noted ≡ both_of before (standing_among asked (map f parts) c)
  all_parts before noted at c past so_far =
      and_nowhere noted ∙ (ap (λ (xs : List Site). both_of noted (standing_among asked (map f xs) c)) (sym (none_left parts at past)) ∙ so_far)

module _ (documents : List SchemaDocument) (sites : List Site) where
  pub next_group : (noted new : Standing) (at c : ℕ) (d own : Site) → at < length sites → own ≡ get_or sites at d
      → both_of noted (standing_from documents (drop at sites) c) ≡ standing_from documents sites c
      → new ≡ both_of noted (standing_in documents own c)
      → both_of new (standing_from documents (drop (at + 1) sites) c) ≡ standing_from documents sites c
  next_group noted new at c d own less is so_far made =
      ap (λ (s : Standing). both_of s (standing_from documents (drop (at + 1) sites) c)) (made ∙ ap (λ (g : Site). both_of noted (standing_in documents g c)) is)
      ∙ (joined noted (standing_in documents (get_or sites at d) c) (standing_from documents (drop (at + 1) sites) c)
      ∙ (ap (λ (xs : List Site). both_of noted (standing_from documents xs c)) (sym (rest_at sites at d less)) ∙ so_far))

-- what is noted of a component is where it stands
pub standing_told : (documents : List SchemaDocument) (standings : List Standing) (own : Site) (number : ℕ) (d : Standing)
    → AreStandings documents standings → IsSite documents own → number ≡ number_of documents own
    → get_or standings number d ≡ standing_at documents own
unfolding standing_at
standing_told documents standings own number d are is numbered =
    ap (λ (k : ℕ). get_or standings k d) numbered
    ∙ (get_or_default standings (number_of documents own) d nowhere
    (subst (λ (k : ℕ). number_of documents own < k) (sym are.many) (number_below documents own is))
    ∙ are.each (number_of documents own))

module _ (documents : List SchemaDocument) (group : Site) where
  asked_same : (asking : Asking) → asking.of_last ≡ asked_at documents group true → asking.of_others ≡ asked_at documents group false
      → (is_last : Bool) → asked_shown asking is_last ≡ asked_at documents group is_last
  asked_same asking last others true = last
  asked_same asking last others false = others

  -- what a group asks of its parts
  pub group_noted : (asking : Asking) (parts : List Site) (before between noted : Standing) (c : ℕ) → parts ≡ parts_at documents group
      → asking.of_last ≡ asked_at documents group true → asking.of_others ≡ asked_at documents group false → asking.is_keyed ≡ is_keyed_at documents group
      → between ≡ both_of before (standing_among (asked_shown asking) (map (number_of documents) parts) c)
      → noted ≡ both_of between (keying_if documents asking.is_keyed parts c)
      → noted ≡ both_of before (standing_in documents group c)
  group_noted asking parts before between noted c are last others keyed made more =
      let parted : between ≡ both_of before (standing_among (asked_at documents group) (map (number_of documents) (parts_at documents group)) c)
      = made ∙ (λ i. both_of before (standing_among (λ is_last. asked_same asking last others is_last i) (map (number_of documents) (are i)) c)) in
      more
      ∙ ((λ i. both_of (parted i) (keying_if documents (keyed i) (are i) c))
      ∙ joined before (standing_among (asked_at documents group) (map (number_of documents) (parts_at documents group)) c)
      (keying_if documents (is_keyed_at documents group) (parts_at documents group) c))

  -- a group without parts asks nothing
  pub none_asked : (parts : List Site) (before : Standing) (c : ℕ) → parts ≡ parts_at documents group → length parts ≡ 0
      → before ≡ both_of before (standing_in documents group c)
  none_asked parts before c are none =
      and_nowhere before
      ∙ ap (both_of before) (sym (subst (λ (ps : List Site). both_of (standing_among (asked_at documents group) (map (number_of documents) ps) c)
      (keying_if documents (is_keyed_at documents group) ps c) ≡ nowhere) are (empty parts none)))
    where
      same : (b : Bool) → (if b then nowhere else nowhere) ≡ nowhere
      same true = refl
      same false = refl

      empty : (ps : List Site) → length ps ≡ 0
          → both_of (standing_among (asked_at documents group) (map (number_of documents) ps) c) (keying_if documents (is_keyed_at documents group) ps c) ≡ nowhere
      empty [] none = ap (both_of nowhere) (same (is_keyed_at documents group))
      empty (p ∷ ps) none = absurd (omega (arith, none))

-- one key more
pub key_more : (keys taken now : List (List ℕ)) (key : List ℕ) (at : ℕ) (d : List ℕ) (again after is_again all : Bool) → at < length keys
    → key ≡ get_or keys at d → is_again ≡ is_taken taken key → now ≡ taken ++ key ∷ [] → after ≡ (again || is_again)
    → (again || repeats taken (drop at keys)) ≡ all → (after || repeats now (drop (at + 1) keys)) ≡ all
key_more keys taken now key at d again after is_again all less is tested made next so_far =
    let rest : List (List ℕ) = drop (at + 1) keys in
    (λ i. (next ∙ ap (λ (b : Bool). again || b) tested) i || repeats (made i) rest)
    ∙ (or_both again (is_taken taken key) (repeats (taken ++ key ∷ []) rest)
    ∙ (ap (λ (xs : List (List ℕ)). again || repeats taken xs) (ap (λ (k : List ℕ). k ∷ rest) is ∙ sym (rest_at keys at d less)) ∙ so_far))

-- none is left
pub keys_end : (keys taken : List (List ℕ)) (at : ℕ) (again all : Bool) → length keys ≤ at → (again || repeats taken (drop at keys)) ≡ all → again ≡ all
keys_end keys taken at again all past so_far =
    or_false again ∙ (ap (λ (xs : List (List ℕ)). again || repeats taken xs) (sym (none_left keys at past)) ∙ so_far)

-- one key more is taken
pub taken_more : (keys taken now all : List (List ℕ)) (key : List ℕ) (at : ℕ) (d : List ℕ) → at < length keys → key ≡ get_or keys at d → now ≡ taken ++ key ∷ []
    → taken ++ drop at keys ≡ all → now ++ drop (at + 1) keys ≡ all
taken_more keys taken now all key at d less is made so_far =
    let rest : List (List ℕ) = drop (at + 1) keys in
    ap (λ (ks : List (List ℕ)). ks ++ rest) made
    ∙ (append_assoc taken (key ∷ []) rest
    ∙ (ap (λ (ks : List (List ℕ)). taken ++ ks) (ap (λ (k : List ℕ). k ∷ rest) is ∙ sym (rest_at keys at d less)) ∙ so_far))

-- all are taken
pub taken_end : (keys taken all : List (List ℕ)) (at : ℕ) → length keys ≤ at → taken ++ drop at keys ≡ all → taken ≡ all
taken_end keys taken all at past so_far =
    sym (append-nil taken) ∙ (ap (λ (ks : List (List ℕ)). taken ++ ks) (sym (none_left keys at past)) ∙ so_far)

module _ (documents : List SchemaDocument) (branches : List Site) (c : ℕ) where
  -- what was asked before and of the branches so far, with what is asked of those that are left, is all
  pub next_branch : (before noted new : Standing) (taken now keys : List (List ℕ)) (at number : ℕ) (d : Site) (again : Bool) (own : Standing) → at < length branches
      → number ≡ number_of documents (get_or branches at d) → keys ≡ keys_at documents (get_or branches at d) → again ≡ repeats taken keys → now ≡ taken ++ keys
      → own ≡ asked_key again
      → both_of noted (keying_among documents taken (drop at branches) c) ≡ both_of before (keying_among documents [] branches c)
      → new ≡ both_of noted (if eqb number c then own else nowhere)
      → both_of new (keying_among documents now (drop (at + 1) branches) c) ≡ both_of before (keying_among documents [] branches c)
  next_branch before noted new taken now keys at number d again own less is keys_are repeated more asks so_far made =
      let branch : Site = get_or branches at d in
      let rest : List (List ℕ) → Standing = λ ks. keying_among documents ks (drop (at + 1) branches) c in
      let asked : own ≡ asked_key (repeats taken (keys_at documents branch)) = asks ∙ ap asked_key (repeated ∙ ap (repeats taken) keys_are) in
      let taken_now : now ≡ taken ++ keys_at documents branch = more ∙ ap (λ (ks : List (List ℕ)). taken ++ ks) keys_are in
      let here : (if eqb number c then own else nowhere)
      ≡ (if eqb (number_of documents branch) c then asked_key (repeats taken (keys_at documents branch)) else nowhere) =
      λ i. if eqb (is i) c then asked i else nowhere in
      (λ i. both_of ((made ∙ ap (both_of noted) here) i) (rest (taken_now i)))
      ∙ (joined noted (if eqb (number_of documents branch) c then asked_key (repeats taken (keys_at documents branch)) else nowhere)
      (rest (taken ++ keys_at documents branch))
      ∙ (ap (λ (xs : List Site). both_of noted (keying_among documents taken xs c)) (sym (rest_at branches at d less)) ∙ so_far))

  pub all_branches : (before noted : Standing) (taken : List (List ℕ)) (at : ℕ) → length branches ≤ at
      → both_of noted (keying_among documents taken (drop at branches) c) ≡ both_of before (keying_among documents [] branches c)
      → noted ≡ both_of before (keying_among documents [] branches c)
  all_branches before noted taken at past so_far =
      and_nowhere noted ∙ (ap (λ (xs : List Site). both_of noted (keying_among documents taken xs c)) (sym (none_left branches at past)) ∙ so_far)
