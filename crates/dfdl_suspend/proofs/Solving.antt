-- What is reached and closed is the least solution.
use Rattle.std.proofs.Common.{◌≡◌, ℕ, zero, suc, ◌<◌, ◌≤◌, Option, Some, None, List, [], ◌∷◌, length, set, replicate, refl, sym, ap, subst, ◌∙◌, arith, inl, inr, ◌⊎◌, length-set}
use Rattle.std.proofs.lemmas.List.{length-replicate}
use Rattle.std.proofs.lemmas.Bool.{cases_eq}
use Rattle.std.proofs.lemmas.Option.{slice_get-get_or}
use Rattle.std.proofs.lemmas.List.FromFn.{length-map-range_with_len, get_or-map-range_with_len}
use Rattle.dfdl_suspend.specs.Asks.{Asks, Gives, Gets, Faults, WaitsFor, at, joined, gives, waiting, Below, filled}
use Rattle.dfdl_suspend.specs.Rounds.{kept_or, round, rounds, solution, Reached, nothing, assigned, Closed, Grows}
use Rattle.dfdl_suspend.proofs.Places.{option_cases, at_set_same, at_set_other, at_within, at_nothing}
use Rattle.dfdl_suspend.proofs.Trees.{value_stays, waiting_gives, below_set}

clash : {X : Type 0} (o : Option X) (x : X) → o ≡ Some x → o ≡ None → ⊥
clash o x some none = cc

-- two assignments, one below the other, are one, or the larger has more values
pub grown : {V : Type 0} (a b : List (Option V)) → length a ≡ length b → Below a b → (a ≡ b) ⊎ (filled a < filled b)
grown [] [] long below = inl refl
grown [] (y ∷ ys) long below = absurd (omega arith)
grown (x ∷ xs) [] long below = absurd (omega arith)
grown (None ∷ xs) (None ∷ ys) long below = elim (grown xs ys (omega arith) (λ i v is. below (suc i) v is)) [
  | inl same ↦ inl (ap (λ zs. None ∷ zs) same)
  | inr less ↦ inr less
]
grown (None ∷ xs) (Some w ∷ ys) long below = elim (grown xs ys (omega arith) (λ i v is. below (suc i) v is)) [
  | inl same ↦ let even : filled xs ≡ filled ys = ap (λ zs. filled zs) same in inr (omega arith)
  | inr less ↦ inr (omega arith)
]
grown (Some v ∷ xs) (None ∷ ys) long below = absurd (clash None v (below zero v refl) refl)
grown (Some v ∷ xs) (Some w ∷ ys) long below = elim (grown xs ys (omega arith) (λ i v is. below (suc i) v is)) [
  | inl same ↦ inl (let first : Some w ≡ Some v = below zero v refl in ap (λ o. o ∷ xs) (sym first) ∙ ap (λ zs. Some w ∷ zs) same)
  | inr less ↦ inr (omega arith)
]

pub filled_few : {V : Type 0} (a : List (Option V)) → filled a ≤ length a
filled_few [] = omega arith
filled_few (None ∷ xs) = let rest = filled_few xs in omega arith
filled_few (Some v ∷ xs) = let rest = filled_few xs in omega arith

-- two assignments below each other are one
same_from_below : {V : Type 0} (a b : List (Option V)) → length a ≡ length b → Below a b → Below b a → a ≡ b
same_from_below a b long up down = elim (grown a b long up) [
  | inl same ↦ same
  | inr less ↦ elim (grown b a (sym long) down) [
    | inl same ↦ sym same
    | inr more ↦ absurd (omega arith)
  ]
]

module _ {V : Type 0} (cells : ℕ) (equation : ℕ → Asks V) where
  pub length_round : (a : List (Option V)) → length (round cells equation a) ≡ cells
  length_round a = length-map-range_with_len (λ cell. kept_or (at a cell) (gives (equation cell) a)) 0 cells

  pub round_at : (a : List (Option V)) (i : ℕ) → i < cells → at (round cells equation a) i ≡ kept_or (at a i) (gives (equation i) a)
  round_at a i within =
      let long : length (round cells equation a) ≡ cells = length_round a in
      ap joined (slice_get-get_or (round cells equation a) i None (omega arith))
      ∙ get_or-map-range_with_len (λ cell. kept_or (at a cell) (gives (equation cell) a)) 0 cells i i None within (omega arith)

  pub length_rounds : (n : ℕ) → length (rounds n cells equation) ≡ cells
  unfolding rounds
  length_rounds zero = length-replicate cells None
  length_rounds (suc n) = length_round (rounds n cells equation)

  below_round : (a : List (Option V)) → length a ≡ cells → Below a (round cells equation a)
  below_round a long i v is = round_at a i (subst (λ (n : ℕ). i < n) long (at_within a i v is)) ∙ ap (λ o. kept_or o (gives (equation i) a)) is

  below_next : (n : ℕ) → Below (rounds n cells equation) (rounds (suc n) cells equation)
  unfolding rounds
  below_next n = below_round (rounds n cells equation) (length_rounds n)

  -- a value in a round was there before, or its equation gave it
  round_cases : (o : Option V) (g : Gives V) (v : V) → kept_or o g ≡ Some v → (o ≡ Some v) ⊎ (g ≡ Gets v)
  round_cases (Some x) g v is = inl is
  round_cases None (Gets x) v is = inr (cc)
  round_cases None (Faults cause) v is = absurd (cc)
  round_cases None (WaitsFor cell) v is = absurd (cc)

  in_round : (a : List (Option V)) (i : ℕ) (v : V) → at (round cells equation a) i ≡ Some v → (at a i ≡ Some v) ⊎ (gives (equation i) a ≡ Gets v)
  in_round a i v is = round_cases (at a i) (gives (equation i) a) v
      (sym (round_at a i (subst (λ (n : ℕ). i < n) (length_round a) (at_within (round cells equation a) i v is))) ∙ is)

  -- an assignment that agrees with each value that its equations give
  abbrev pub Agrees : List (Option V) → Type 0
  Agrees b = (i : ℕ) (v : V) → i < cells → gives (equation i) b ≡ Gets v → at b i ≡ Some v

  rounds_below : (b : List (Option V)) → Agrees b → (n : ℕ) → Below (rounds n cells equation) b
  unfolding rounds
  rounds_below b agrees zero i v is = absurd (clash (at (replicate cells None) i) v is (at_nothing cells i))
  rounds_below b agrees (suc n) i v is = elim (in_round (rounds n cells equation) i v is) [
    | inl old ↦ rounds_below b agrees n i v old
    | inr new ↦ agrees i v (subst (λ (m : ℕ). i < m) (length_rounds (suc n)) (at_within (rounds (suc n) cells equation) i v is))
        (value_stays (equation i) (rounds n cells equation) b v (rounds_below b agrees n) new)
  ]

  rounds_consistent : (n i : ℕ) (v : V) → at (rounds n cells equation) i ≡ Some v → gives (equation i) (rounds n cells equation) ≡ Gets v
  unfolding rounds
  rounds_consistent zero i v is = absurd (clash (at (replicate cells None) i) v is (at_nothing cells i))
  rounds_consistent (suc n) i v is =
      value_stays (equation i) (rounds n cells equation) (rounds (suc n) cells equation) v (below_next n)
      (elim (in_round (rounds n cells equation) i v is) [
        | inl old ↦ rounds_consistent n i v old
        | inr new ↦ new
      ])

  progress : (n : ℕ) → (round cells equation (rounds n cells equation) ≡ rounds n cells equation) ⊎ (suc n ≤ filled (rounds (suc n) cells equation))
  unfolding rounds
  progress zero = elim (grown (rounds zero cells equation) (rounds 1 cells equation) (length_rounds zero ∙ sym (length_rounds 1)) (below_next zero)) [
    | inl same ↦ inl (sym same)
    | inr less ↦ inr (omega arith)
  ]
  progress (suc n) = elim (progress n) [
    | inl same ↦ inl (ap (λ a. round cells equation a) same)
    | inr many ↦ elim (grown (rounds (suc n) cells equation) (rounds (suc (suc n)) cells equation) (length_rounds (suc n) ∙ sym (length_rounds (suc (suc n)))) (below_next (suc n))) [
      | inl same ↦ inl (sym same)
      | inr less ↦ inr (omega arith)
    ]
  ]

  pub stable : round cells equation (solution cells equation) ≡ solution cells equation
  stable = elim (progress cells) [
    | inl same ↦ same
    | inr many ↦ let few = filled_few (rounds (suc cells) cells equation) in let long = length_rounds (suc cells) in absurd (omega arith)
  ]

  -- the value of an unknown of a stable assignment
  pub solution_agrees : Agrees (solution cells equation)
  solution_agrees i v within is = elim (option_cases (at (solution cells equation) i)) [
    | inl none ↦ sym (ap (λ a. at a i) stable) ∙ (round_at (solution cells equation) i within ∙ (ap (λ o. kept_or o (gives (equation i) (solution cells equation))) none
        ∙ ap (λ g. kept_or None g) is))
    | inr some ↦ some.1 ∙ gets_same some.0 v (sym (rounds_consistent cells i some.0 some.1) ∙ is)
  ]
    where
      gets_same : (x y : V) → Gets x ≡ Gets y → Some x ≡ Some y
      gets_same x y e = cc

  pub reached_length : (a : List (Option V)) → Reached cells equation a → length a ≡ cells
  reached_length _ nothing = length-replicate cells None
  reached_length _ (assigned {known} i v before within none is) = length-set known i (Some v) ∙ reached_length known before

  pub reached_consistent : (a : List (Option V)) (i : ℕ) (v : V) → Reached cells equation a → at a i ≡ Some v → gives (equation i) a ≡ Gets v
  reached_consistent _ i v nothing some = absurd (clash (at (replicate cells None) i) v some (at_nothing cells i))
  reached_consistent _ i v (assigned {known} j w before within none is) some =
      value_stays (equation i) known (set known j (Some w)) v (below_set known j w none)
      (elim (cases_eq i j) [
        | inl same ↦ subst (λ (k : ℕ). gives (equation k) known ≡ Gets v) (sym same)
            (is ∙ gets_from w v (sym (at_set_same known j (Some w) (subst (λ (n : ℕ). j < n) (sym (reached_length known before)) within)) ∙ (sym (ap (λ k. at (set known j (Some w)) k) same) ∙ some)))
        | inr apart ↦ reached_consistent known i v before (sym (at_set_other known j i (Some w) apart) ∙ some)
      ])
    where
      gets_from : (x y : V) → Some x ≡ Some y → Gets x ≡ Gets y
      gets_from x y e = cc

  reached_below : (b : List (Option V)) → Agrees b → (a : List (Option V)) → Reached cells equation a → Below a b
  reached_below b agrees _ nothing i v is = absurd (clash (at (replicate cells None) i) v is (at_nothing cells i))
  reached_below b agrees _ (assigned {known} j w before within none gets) i v is = elim (cases_eq i j) [
    | inl same ↦ ap (λ k. at b k) same
        ∙ (agrees j w within (value_stays (equation j) known b w (reached_below b agrees known before) gets)
        ∙ (sym (at_set_same known j (Some w) (subst (λ (n : ℕ). j < n) (sym (reached_length known before)) within)) ∙ (sym (ap (λ k. at (set known j (Some w)) k) same) ∙ is)))
    | inr apart ↦ reached_below b agrees known before i v (sym (at_set_other known j i (Some w) apart) ∙ is)
  ]

  pub reached_least : (a : List (Option V)) → Reached cells equation a → Below a (solution cells equation)
  reached_least a reached = reached_below (solution cells equation) solution_agrees a reached

  closed_agrees : (a : List (Option V)) → Reached cells equation a → Closed cells equation a → Agrees a
  closed_agrees a reached closed i v within is = elim (option_cases (at a i)) [
    | inl none ↦ absurd (closed i v within none is)
    | inr some ↦ some.1 ∙ gets_same some.0 v (sym (reached_consistent a i some.0 reached some.1) ∙ is)
  ]
    where
      gets_same : (x y : V) → Gets x ≡ Gets y → Some x ≡ Some y
      gets_same x y e = cc

  -- what is reached and closed is the least solution
  pub solution_is : (a : List (Option V)) → Reached cells equation a → Closed cells equation a → a ≡ solution cells equation
  solution_is a reached closed =
      same_from_below a (solution cells equation) (reached_length a reached ∙ sym (length_rounds cells)) (reached_least a reached)
      (rounds_below a (closed_agrees a reached closed) cells)

  pub reached_waiting : (a : List (Option V)) (c : ℕ) → equation c ≡ waiting c → Reached cells equation a → at a c ≡ None
  reached_waiting _ c waits nothing = at_nothing cells c
  reached_waiting _ c waits (assigned {known} j w before within none is) = elim (cases_eq c j) [
    | inl same ↦ absurd (wait_apart c w (sym (waiting_gives c known (ap (λ k. at known k) same ∙ none)) ∙ (sym (ap (λ t. gives t known) waits) ∙ (ap (λ k. gives (equation k) known) same ∙ is))))
    | inr apart ↦ at_set_other known j c (Some w) apart ∙ reached_waiting known c waits before
  ]
    where
      wait_apart : (c : ℕ) (w : V) → WaitsFor c ≡ Gets w → ⊥
      wait_apart c w e = cc

-- what was reached is reached by the equations after an event
pub reached_grows : {V : Type 0} (cells : ℕ) (old new : ℕ → Asks V) (a : List (Option V)) → Grows old new → Reached cells old a → Reached cells new a
reached_grows cells old new _ grows nothing = nothing
reached_grows {V} cells old new _ grows (assigned {known} i v before within none is) =
    assigned i v (reached_grows cells old new known grows before) within none
    (ap (λ t. gives t known) (grows i (λ waits. wait_apart i v (sym (waiting_gives i known none) ∙ (sym (ap (λ t. gives t known) waits) ∙ is)))) ∙ is)
  where
    wait_apart : (c : ℕ) (w : V) → WaitsFor c ≡ Gets w → ⊥
    wait_apart c w e = cc
