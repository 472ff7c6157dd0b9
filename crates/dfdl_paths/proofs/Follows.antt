-- What steps reach.
use Rattle.std.proofs.Common.{◌≡◌, ℕ, ◌+◌, ◌<◌, ◌≤◌, ◌-◌, ◌&&◌, ◌||◌, ◌++◌, [], ◌∷◌, List, Bool, true, false, length, take, drop, get_or, slice_get, Option, Some, None, cond, eqb, inl, inr, refl, sym, ap, ◌∙◌, arith}
use mathlib.Core.Path.{fun_ext}
use Rattle.std.proofs.lemmas.List.{take_more, drop-drop}
use Rattle.std.proofs.lemmas.Bool.{cases_lt, eqb-true, eq-eqb, lt-ltb, le-ltb}
use Rattle.std.proofs.Math.Bool.{and-true, or-false}
use Rattle.std.proofs.lemmas.Option.{get_or_from_slice_get, slice_get_within}
use Rattle.dfdl_lemmas.proofs.Lists.{left_at}
use Rattle.dfdl_expressions.specs.declared.path.Step.{Step}
use Rattle.dfdl_expressions.specs.declared.path.Step.TheVariants.{Here, Up, Down}
use Rattle.dfdl_region.specs.declared.node.Node.{Node}
use Rattle.dfdl_paths.specs.declared.place.Place.{Place}
use Rattle.dfdl_paths.specs.declared.place.Place.TheVariants.{Above, At, Inside}
use Rattle.dfdl_paths.specs.Elements.{around, is_named, is_place}
use Rattle.dfdl_paths.specs.Leads.{after, follow, has_place, holds_reached, left_behind, next_index, only_at, up}
use Rattle.dfdl_paths.specs.Numbers.{some_below}
use Rattle.dfdl_paths.specs.Spans.{IsNext, behind_all, items_from, next_in, outer_of}
use Rattle.dfdl_paths.proofs.Below.{some-none, some-only, those-none}
use Rattle.dfdl_paths.proofs.Bits.{and_none, false_unless}

module _ (numbers : List (Option ℕ)) (nodes : List Node) where
  -- places that are the same are followed the same
  pub follow-same : (one other : Place → Bool) → ((q : Place) → one q ≡ other q) → (steps : List Step) (indexes : List ℕ) (q : Place)
      → follow numbers nodes one steps indexes q ≡ follow numbers nodes other steps indexes q
  follow-same one other same steps indexes q = ap (λ (reached : Place → Bool). follow numbers nodes reached steps indexes q) (fun_ext same)

  -- from no place a step leads to none
  pub after-none : (step : Step) (index : ℕ) (reached : Place → Bool) → ((q : Place) → reached q ≡ false)
      → (q : Place) → after numbers nodes step index reached q ≡ false
  after-none Here index reached none q = none q
  after-none Up index reached none Above =
      some-none (λ n. is_place (around nodes n) Above && reached (At n)) (length nodes) (λ n less. and_none _ _ (none (At n)))
  after-none Up index reached none (At m) =
      ap (λ b. b || some_below (λ n. is_place (around nodes n) (At m) && reached (At n)) (length nodes)) (none (Inside m))
      ∙ some-none (λ n. is_place (around nodes n) (At m) && reached (At n)) (length nodes) (λ n less. and_none _ _ (none (At n)))
  after-none Up index reached none (Inside m) =
      some-none (λ n. is_place (around nodes n) (Inside m) && reached (At n)) (length nodes) (λ n less. and_none _ _ (none (At n)))
  after-none (Down name false) index reached none Above = refl
  after-none (Down name false) index reached none (At n) = and_none (is_named numbers nodes name n) _ (none (around nodes n))
  after-none (Down name false) index reached none (Inside n) = refl
  after-none (Down name true) index reached none Above = refl
  after-none (Down name true) index reached none (At n) =
      ap (λ b. b && has_place numbers nodes name index (At n)) (and_none (is_named numbers nodes name n) _ (none (around nodes n)))
  after-none (Down name true) index reached none (Inside n) = refl

  pub follow-none : (steps : List Step) (indexes : List ℕ) (reached : Place → Bool) → ((q : Place) → reached q ≡ false)
      → (q : Place) → follow numbers nodes reached steps indexes q ≡ false
  follow-none [] indexes reached none q = none q
  follow-none (step ∷ steps) indexes reached none q =
      follow-none steps (left_behind step indexes) (after numbers nodes step (next_index indexes) reached)
      (after-none step (next_index indexes) reached none) q

  -- the last step
  pub follow-last : (steps : List Step) (step : Step) (indexes : List ℕ) (reached : Place → Bool) (q : Place)
      → follow numbers nodes reached (steps ++ step ∷ []) indexes q
      ≡ after numbers nodes step (next_index (behind_all steps indexes)) (follow numbers nodes reached steps indexes) q
  unfolding behind_all
  follow-last [] step indexes reached q = refl
  follow-last (first ∷ steps) step indexes reached q =
      follow-last steps step (left_behind first indexes) (after numbers nodes first (next_index indexes) reached) q

  pub follow-more : (steps : List Step) (at : ℕ) (step : Step) (indexes : List ℕ) (reached : Place → Bool) (q : Place)
      → at < length steps → step ≡ get_or steps at step
      → follow numbers nodes reached (take (at + 1) steps) indexes q
      ≡ after numbers nodes step (next_index (behind_all (take at steps) indexes)) (follow numbers nodes reached (take at steps) indexes) q
  follow-more steps at step indexes reached q less is =
      ap (λ (ss : List Step). follow numbers nodes reached ss indexes q) (take_more steps at step less)
      ∙ ap (λ (s : Step). follow numbers nodes reached (take at steps ++ s ∷ []) indexes q) (sym is)
      ∙ follow-last (take at steps) step indexes reached q

  -- the last of the first so many steps
  pub reach-step : (steps : List Step) (count : ℕ) (step : Step) (indexes : List ℕ) (reached : Place → Bool) (q : Place)
      → 0 < count → slice_get steps (count - 1) ≡ Some step
      → follow numbers nodes reached (take count steps) indexes q
      ≡ after numbers nodes step (next_index (behind_all (take (count - 1) steps) indexes))
      (follow numbers nodes reached (take (count - 1) steps) indexes) q
  reach-step steps count step indexes reached q some there =
      let same : count ≡ count - 1 + 1 = omega arith in
      ap (λ n. follow numbers nodes reached (take n steps) indexes q) same
      ∙ follow-more steps (count - 1) step indexes reached q (slice_get_within steps (count - 1) step there)
      (sym (get_or_from_slice_get steps (count - 1) step step there))

pub behind-last : (steps : List Step) (step : Step) (indexes : List ℕ)
    → behind_all (steps ++ step ∷ []) indexes ≡ left_behind step (behind_all steps indexes)
unfolding behind_all
behind-last [] step indexes = refl
behind-last (first ∷ steps) step indexes = behind-last steps step (left_behind first indexes)

-- the indexes that are left behind a step more
pub behind-more : (steps : List Step) (at used more : ℕ) (step : Step) (indexes : List ℕ) → at < length steps → step ≡ get_or steps at step
    → behind_all (take at steps) indexes ≡ drop used indexes
    → ((indexes : List ℕ) → left_behind step indexes ≡ drop more indexes) → behind_all (take (at + 1) steps) indexes ≡ drop more (drop used indexes)
behind-more steps at used more step indexes less is so_far uses =
    ap (λ (ss : List Step). behind_all ss indexes) (take_more steps at step less)
    ∙ (ap (λ (s : Step). behind_all (take at steps ++ s ∷ []) indexes) (sym is)
    ∙ (behind-last (take at steps) step indexes
    ∙ (ap (left_behind step) so_far ∙ uses (drop used indexes))))

module _ (numbers : List (Option ℕ)) (nodes : List Node) where
  -- a step that leads from one place to one, and those behind it
  pub step-one : (steps : List Step) (indexes : List ℕ) (at used more : ℕ) (place next : Place) (step : Step)
      → at < length steps → step ≡ get_or steps at step
      → ((q : Place) → after numbers nodes step (next_index (drop used indexes)) (only_at (Some place)) q ≡ only_at (Some next) q)
      → ((ix : List ℕ) → left_behind step ix ≡ drop more ix) → (q : Place)
      → follow numbers nodes (only_at (Some place)) (drop at steps) (drop used indexes) q
      ≡ follow numbers nodes (only_at (Some next)) (drop (at + 1) steps) (drop (used + more) indexes) q
  step-one steps indexes at used more place next step less is same uses q =
      ap (λ (ss : List Step). follow numbers nodes (only_at (Some place)) ss (drop used indexes) q) (left_at steps at step less is)
      ∙ (follow-same numbers nodes (after numbers nodes step (next_index (drop used indexes)) (only_at (Some place))) (only_at (Some next)) same
      (drop (at + 1) steps) (left_behind step (drop used indexes)) q
      ∙ ap (λ (ix : List ℕ). follow numbers nodes (only_at (Some next)) (drop (at + 1) steps) ix q)
      (uses (drop used indexes) ∙ drop-drop more used indexes))

  -- a step that leads nowhere
  pub step-nowhere : (steps : List Step) (indexes : List ℕ) (at used : ℕ) (place : Place) (step : Step)
      → at < length steps → step ≡ get_or steps at step
      → ((q : Place) → after numbers nodes step (next_index (drop used indexes)) (only_at (Some place)) q ≡ false)
      → (q : Place) → follow numbers nodes (only_at (Some place)) (drop at steps) (drop used indexes) q ≡ false
  step-nowhere steps indexes at used place step less is none q =
      ap (λ (ss : List Step). follow numbers nodes (only_at (Some place)) ss (drop used indexes) q) (left_at steps at step less is)
      ∙ follow-none numbers nodes (drop (at + 1) steps) (left_behind step (drop used indexes))
      (after numbers nodes step (next_index (drop used indexes)) (only_at (Some place))) none q

  none-above : (reached : Place → Bool) (q : Place) → ((n : ℕ) → reached (At n) ≡ false)
      → some_below (λ n. is_place (around nodes n) q && reached (At n)) (length nodes) ≡ false
  none-above reached q none =
      some-none (λ n. is_place (around nodes n) q && reached (At n)) (length nodes)
      (λ n less. and_none (is_place (around nodes n) q) (reached (At n)) (none n))

  -- an element alone
  one-above : (m : ℕ) (q : Place) → m < length nodes
      → some_below (λ n. is_place (around nodes n) q && is_place (At m) (At n)) (length nodes) ≡ is_place (around nodes m) q
  one-above m q less =
      some-only (λ n. is_place (around nodes n) q && is_place (At m) (At n)) m (length nodes) less
      (λ n other. and_none (is_place (around nodes n) q) (eqb m n) (false_unless (eqb m n) (λ e. other (sym (eqb-true m n e)))))
      ∙ (ap (λ b. is_place (around nodes m) q && b) (eq-eqb m m refl) ∙ and-true (is_place (around nodes m) q))

  none-past : (m : ℕ) (q : Place) → length nodes ≤ m
      → some_below (λ n. is_place (around nodes n) q && is_place (At m) (At n)) (length nodes) ≡ false
  none-past m q past =
      some-none (λ n. is_place (around nodes n) q && is_place (At m) (At n)) (length nodes)
      (λ n less. and_none (is_place (around nodes n) q) (eqb m n) (false_unless (eqb m n)
      (λ e. let same : m ≡ n = eqb-true m n e in omega (arith, same, less, past))))

  -- what the tests of numbers come to
  at-outer : (m : ℕ) (q : Place) → some_below (λ n. is_place (around nodes n) q && is_place (At m) (At n)) (length nodes)
      ≡ only_at (outer_of nodes (At m)) q
  at-outer m q = elim (cases_lt m (length nodes)) [
    | inl less ↦ one-above m q less ∙ ap (λ b. only_at (cond b (Some (around nodes m)) None) q) (sym (lt-ltb m (length nodes) less))
    | inr past ↦ none-past m q past ∙ ap (λ b. only_at (cond b (Some (around nodes m)) None) q) (sym (le-ltb m (length nodes) past))
  ]

  -- `..` from one place
  pub up-one : (place q : Place) → up nodes (only_at (Some place)) q ≡ only_at (outer_of nodes place) q
  up-one Above Above = none-above (only_at (Some Above)) Above (λ n. refl)
  up-one Above (At k) = none-above (only_at (Some Above)) (At k) (λ n. refl)
  up-one Above (Inside k) = none-above (only_at (Some Above)) (Inside k) (λ n. refl)
  up-one (Inside m) Above = none-above (only_at (Some (Inside m))) Above (λ n. refl)
  up-one (Inside m) (At k) = ap (λ b. eqb m k || b) (none-above (only_at (Some (Inside m))) (At k) (λ n. refl)) ∙ or-false (eqb m k)
  up-one (Inside m) (Inside k) = none-above (only_at (Some (Inside m))) (Inside k) (λ n. refl)
  up-one (At m) Above = at-outer m Above
  up-one (At m) (At k) = at-outer m (At k)
  up-one (At m) (Inside k) = at-outer m (Inside k)

  -- a step to one place, or none
  pub next-is : (step : Step) (index : ℕ) (place : Place) (next : Option Place)
      → ((q : Place) → after numbers nodes step index (only_at (Some place)) q ≡ only_at next q)
      → IsNext numbers nodes step index place (next_in next)
  next-is step index place None same = same
  next-is step index place (Some next) same = same

pub behind-begin : (indexes : List ℕ) → behind_all [] indexes ≡ indexes
unfolding behind_all
behind-begin indexes = refl

-- where no element that is reached stands at a place
pub up-none : (nodes : List Node) (reached : Place → Bool) (q : Place)
    → some_below (λ n. is_place (around nodes n) q && reached (At n)) (length nodes) ≡ false → up nodes reached q ≡ holds_reached reached q
up-none nodes reached q none = ap (λ b. holds_reached reached q || b) none ∙ or-false (holds_reached reached q)

-- a path that leads nowhere has no items
pub nowhere-items : (numbers : List (Option ℕ)) (nodes : List Node) (begin : Place) (steps : List Step) (indexes : List ℕ)
    → ((q : Place) → follow numbers nodes (only_at (Some begin)) steps indexes q ≡ false) → items_from numbers nodes begin steps indexes ≡ []
nowhere-items numbers nodes begin steps indexes none =
    those-none (λ n. follow numbers nodes (only_at (Some begin)) steps indexes (At n)) (length nodes) (λ n less. none (At n))
