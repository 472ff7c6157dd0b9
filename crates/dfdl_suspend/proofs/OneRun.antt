-- One run of a ready unknown on a board.
use Rattle.std.proofs.Common.{◌≡◌, ◌≢◌, ℕ, ◌+◌, ◌-◌, ◌*◌, ◌<◌, ◌≤◌, Bool, true, false, Option, Some, None, List, [], ◌∷◌, ◌++◌, length, set, nat_eq, if◌then◌else◌, refl, sym, ap, subst, ◌∙◌, arith, inl, inr, ◌⊎◌, length-set}
use Rattle.std.specs.List.{slice_get}
use Rattle.std.proofs.lemmas.Bool.{cases_eq, eqb-true, eq-eqb}
use Rattle.std.proofs.lemmas.List.{length-map}
use Rattle.std.proofs.lemmas.Option.{slice_get_within}
use Rattle.dfdl_suspend.specs.declared.equations.Answer.{Answer}
use Rattle.dfdl_suspend.specs.declared.equations.Answer.TheVariants.{Value, Wait, Fault}
use Rattle.dfdl_suspend.specs.declared.known.Held.{Held}
use Rattle.dfdl_suspend.specs.declared.mark.Mark.{Mark}
use Rattle.dfdl_suspend.specs.declared.mark.Mark.TheVariants.{Ready, Done, Waits, Faulty}
use Rattle.dfdl_suspend.specs.Answers.{Meets, NamesBelow}
use Rattle.dfdl_suspend.specs.Asks.{Asks, AsksWithin, Gets, WaitsFor, at, filled, gives, Below}
use Rattle.dfdl_suspend.specs.Boards.{Boarded, Fits, Agrees, Runs, weight, had_run, how_many}
use Rattle.dfdl_suspend.specs.Marks.{IsReadyList, woken, all_woken}
use Rattle.dfdl_suspend.specs.Queued.{Queued}
use Rattle.dfdl_suspend.specs.Recorded.{IsRecordable, IsRecorded, IsTied}
use Rattle.dfdl_suspend.specs.Rounds.{Reached, assigned}
use Rattle.dfdl_suspend.proofs.Places.{option_cases, get_set_same, get_set_other, at_set_same, at_set_other}
use Rattle.dfdl_suspend.proofs.Trees.{fault_stays, wait_stays, wait_open, below_set}
use Rattle.dfdl_suspend.proofs.Solving.{filled_few}
use Rattle.dfdl_suspend.proofs.Rounding.{filled_set}
use Rattle.dfdl_suspend.proofs.Readies.{few_ready}
use Rattle.dfdl_suspend.proofs.Waking.{woken_done, woken_at, was_at}
use Rattle.dfdl_suspend.proofs.Histories.{push_same, push_other, wait_asked, how_many_stay, how_many_more, weight_falls}

abbrev pub shown : List (Option Held) → List Mark → List ℕ → Boarded
shown known marks ready = record { known = known; marks = marks; ready = ready }

-- what one run leaves
pub record Went (count : ℕ) (equation : ℕ → Asks Held) (cell : ℕ) (known known_new : List (Option Held)) (marks marks_new : List Mark) (ready ready_new : List ℕ) : Type 0 where
  pub tied : IsTied known_new marks_new
  pub fits : Fits count equation (shown known_new marks_new ready_new)
  pub runs : (ran were_set : List ℕ) → Runs equation (shown known marks ready) ran were_set → Runs equation (shown known_new marks_new ready_new) (ran ++ cell ∷ []) were_set
  pub less : weight (shown known_new marks_new ready_new) < weight (shown known marks ready)
  pub long : length known_new ≡ length known

mark_same : (m n : Mark) → Some m ≡ Some n → m ≡ n
mark_same m n e = cc

-- a ready unknown has no value
pub ready_open : (known : List (Option Held)) (marks : List Mark) (cell : ℕ) → IsTied known marks → slice_get marks cell ≡ Some Ready → at known cell ≡ None
ready_open known marks cell tied stands = elim (option_cases (at known cell)) [
  | inl none ↦ none
  | inr some ↦ absurd (done_ready (mark_same Done Ready (sym (tied.done cell some.0 some.1) ∙ stands)))
]
  where
    done_ready : Done ≡ Ready → ⊥
    done_ready e = cc

module _ (count : ℕ) (equation : ℕ → Asks Held) (cell : ℕ) (known : List (Option Held)) (marks : List Mark) (ready ready_new : List ℕ) (tied : IsTied known marks)
    (stands : slice_get marks cell ≡ Some Ready) (fits : Fits count equation (shown known marks ready)) where
  inside : cell < length marks
  inside = slice_get_within marks cell Ready stands

  free : at known cell ≡ None
  free = ready_open known marks cell tied stands

  -- the unknown gets a value
  module _ (value : Held) (gets : gives (equation cell) known ≡ Gets value) (readies : IsReadyList (all_woken cell (set marks cell Done)) ready_new) where
    up : Below known (set known cell (Some value))
    up = below_set known cell value free

    long : length (all_woken cell (set marks cell Done)) ≡ length marks
    long = length-map (set marks cell Done) (woken cell) ∙ length-set marks cell Done

    within : cell < length known
    within = let few = tied.few in let low = inside in omega arith

    place : (c : ℕ) (n : Mark) → slice_get (all_woken cell (set marks cell Done)) c ≡ Some n
        → ((c ≡ cell) × (n ≡ Done)) ⊎ ((c ≢ cell) × ((m : Mark) × (slice_get marks c ≡ Some m) × (woken cell m ≡ n)))
    place c n e =
        let was = was_at cell c (set marks cell Done) n e in
        elim (cases_eq c cell) [
          | inl same ↦
              let before : was.0 ≡ Done = mark_same was.0 Done (sym was.1 ∙ (ap (λ k. slice_get (set marks cell Done) k) same ∙ get_set_same marks cell Done inside)) in
              inl (same, sym was.2 ∙ ap (λ m. woken cell m) before)
          | inr apart ↦ inr (apart, (was.0, sym (get_set_other marks cell c Done apart) ∙ was.1, was.2))
        ]

    agrees_waits : (w : ℕ) (t : Asks Held) (b : Bool) → nat_eq cell w ≡ b → gives t known ≡ WaitsFor w
        → Agrees (if b then Ready else Waits w) (gives t (set known cell (Some value)))
    agrees_waits w t true is e = tt
    agrees_waits w t false is e =
        wait_stays t known (set known cell (Some value)) w up e
        (at_set_other known cell w (Some value) (λ same. true_false (sym (eq-eqb cell w (sym same)) ∙ is)) ∙ wait_open t known w e)
      where
        true_false : true ≡ false → ⊥
        true_false e = cc

    agrees_woken : (m : Mark) (t : Asks Held) → Agrees m (gives t known) → Agrees (woken cell m) (gives t (set known cell (Some value)))
    agrees_woken Ready t is = tt
    agrees_woken Done t is = tt
    agrees_woken (Waits w) t is = agrees_waits w t (nat_eq cell w) refl is
    agrees_woken (Faulty cause) t is = fault_stays t known (set known cell (Some value)) cause up is

    had_waits : (w : ℕ) (t : Asks Held) (asked : List ℕ) (b : Bool) → nat_eq cell w ≡ b → gives t known ≡ WaitsFor w → AsksWithin asked t
        → 1 + how_many known asked ≤ had_run (if b then Ready else Waits w) + how_many (set known cell (Some value)) asked
    had_waits w t asked true is e asks =
        let same : cell ≡ w = eqb-true cell w is in
        let more = how_many_more known (set known cell (Some value)) cell value asked up free (at_set_same known cell (Some value) within)
        (wait_asked t known asked cell asks (e ∙ ap (λ k. WaitsFor k) (sym same))) in
        omega arith
    had_waits w t asked false is e asks = let more = how_many_stay known (set known cell (Some value)) asked up in omega arith

    had_woken : (m : Mark) (t : Asks Held) (asked : List ℕ) → Agrees m (gives t known) → AsksWithin asked t
        → had_run m + how_many known asked ≤ had_run (woken cell m) + how_many (set known cell (Some value)) asked
    had_woken Ready t asked is asks = let more = how_many_stay known (set known cell (Some value)) asked up in omega arith
    had_woken Done t asked is asks = let more = how_many_stay known (set known cell (Some value)) asked up in omega arith
    had_woken (Waits w) t asked is asks = had_waits w t asked (nat_eq cell w) refl is asks
    had_woken (Faulty cause) t asked is asks = let more = how_many_stay known (set known cell (Some value)) asked up in omega arith

    runs_value : (ran were_set : List ℕ) → Runs equation (shown known marks ready) ran were_set
        → Runs equation (shown (set known cell (Some value)) (all_woken cell (set marks cell Done)) ready_new) (ran ++ cell ∷ []) were_set
    runs_value ran were_set runs = record {
      bound = λ c n asked e asks. elim (place c n e) [
        | inl here ↦
            let old = runs.bound c Ready asked (ap (λ k. slice_get marks k) here.0 ∙ stands) asks in
            let now = push_same c cell ran here.0 in
            let had : had_run n ≡ 1 = ap (λ m. had_run m) here.1 in
            let more = how_many_stay known (set known cell (Some value)) asked up in
            omega arith
        | inr there ↦
            let old = runs.bound c there.1.0 asked there.1.1 asks in
            let now = push_other c cell ran there.0 in
            let more = had_woken there.1.0 (equation c) asked (fits.recorded c there.1.0 there.1.1) asks in
            let had : had_run (woken cell there.1.0) ≡ had_run n = ap (λ m. had_run m) there.1.2 in
            omega arith
      ];
      fresh = λ c past.
          let low = inside in let same = long in
          let none = runs.fresh c (omega arith) in
          let now = push_other c cell ran (λ is. late c is past) in omega arith;
    }
      where
        late : (c : ℕ) → c ≡ cell → length (all_woken cell (set marks cell Done)) ≤ c → ⊥
        late c is past = let low = inside in let same = long in omega arith

    pub went_value : Went count equation cell known (set known cell (Some value)) marks (all_woken cell (set marks cell Done)) ready ready_new
    went_value = record {
      tied = record {
        few = let few = tied.few in let same = long in let even = length-set known cell (Some value) in omega arith;
        done = λ c v e. elim (cases_eq c cell) [
          | inl same ↦ ap (λ k. slice_get (all_woken cell (set marks cell Done)) k) same ∙ woken_at cell cell (set marks cell Done) Done (get_set_same marks cell Done inside)
          | inr apart ↦ woken_at cell c (set marks cell Done) Done (get_set_other marks cell c Done apart ∙ tied.done c v (sym (at_set_other known cell c (Some value) apart) ∙ e))
        ];
        filled = λ c e. elim (place c Done e) [
          | inl here ↦ λ none. some_none value (sym (at_set_same known cell (Some value) within) ∙ (sym (ap (λ k. at (set known cell (Some value)) k) here.0) ∙ none))
          | inr there ↦ λ none. tied.filled c (there.1.1 ∙ ap (λ m. Some m) (woken_done cell there.1.0 there.1.2)) (sym (at_set_other known cell c (Some value) there.0) ∙ none)
        ];
      };
      fits = record {
        added = long ∙ fits.added;
        reached = subst (λ n. Reached n equation (set known cell (Some value))) (sym (length-set known cell (Some value))) (assigned cell value fits.reached within free gets);
        recorded = λ c n e. elim (place c n e) [
          | inl here ↦ subst (λ m. Agrees m (gives (equation c) (set known cell (Some value)))) (sym here.1) tt
          | inr there ↦ subst (λ m. Agrees m (gives (equation c) (set known cell (Some value)))) there.1.2 (agrees_woken there.1.0 (equation c) (fits.recorded c there.1.0 there.1.1))
        ];
      };
      runs = runs_value;
      less =
          let more = filled_set known cell value within free in
          let few = filled_few (set known cell (Some value)) in
          let even = length-set known cell (Some value) in
          let some_ = few_ready (all_woken cell (set marks cell Done)) ready_new readies in
          let same = long in let low = tied.few in
          subst (λ n. (n - filled (set known cell (Some value))) * (n + 1) + length ready_new < (length known - filled known) * (length known + 1) + length ready) (sym even)
          (weight_falls (length known - filled (set known cell (Some value))) (length known - filled known) (length known + 1) (length ready) (length ready_new) (omega arith) (omega arith));
      long = length-set known cell (Some value);
    }
      where
        some_none : (v : Held) → Some v ≡ None → ⊥
        some_none v e = cc

  -- the unknown gets another mark
  module _ (m : Mark) (agrees : Agrees m (gives (equation cell) known)) (had : had_run m ≡ 1) (open_ : m ≡ Done → ⊥) (fewer : length ready_new + 1 ≡ length ready) where
    at_cell : slice_get (set marks cell m) cell ≡ Some m
    at_cell = get_set_same marks cell m inside

    found : (c : ℕ) (n : Mark) → slice_get (set marks cell m) c ≡ Some n → ((c ≡ cell) × (n ≡ m)) ⊎ ((c ≢ cell) × (slice_get marks c ≡ Some n))
    found c n e = elim (cases_eq c cell) [
      | inl same ↦ inl (same, mark_same n m (sym e ∙ (ap (λ k. slice_get (set marks cell m) k) same ∙ at_cell)))
      | inr apart ↦ inr (apart, sym (get_set_other marks cell c m apart) ∙ e)
    ]

    pub went_mark : Went count equation cell known known marks (set marks cell m) ready ready_new
    went_mark = record {
      tied = record {
        few = let few = tied.few in let same = length-set marks cell m in omega arith;
        done = λ c v e. elim (cases_eq c cell) [
          | inl same ↦ absurd (some_none v (sym e ∙ (ap (λ k. at known k) same ∙ free)))
          | inr apart ↦ get_set_other marks cell c m apart ∙ tied.done c v e
        ];
        filled = λ c e. elim (found c Done e) [
          | inl here ↦ absurd (open_ (sym here.1))
          | inr there ↦ tied.filled c there.1
        ];
      };
      fits = record {
        added = length-set marks cell m ∙ fits.added;
        reached = fits.reached;
        recorded = λ c n e. elim (found c n e) [
          | inl here ↦ subst (λ k. Agrees n (gives (equation k) known)) (sym here.0) (subst (λ x. Agrees x (gives (equation cell) known)) (sym here.1) agrees)
          | inr there ↦ fits.recorded c n there.1
        ];
      };
      runs = λ ran were_set runs. record {
        bound = λ c n asked e asks. elim (found c n e) [
          | inl here ↦
              let old = runs.bound c Ready asked (ap (λ k. slice_get marks k) here.0 ∙ stands) asks in
              let now = push_same c cell ran here.0 in
              let one : had_run n ≡ 1 = ap (λ x. had_run x) here.1 ∙ had in
              omega arith
          | inr there ↦
              let old = runs.bound c n asked there.1 asks in
              let now = push_other c cell ran there.0 in
              omega arith
        ];
        fresh = λ c past.
            let same = length-set marks cell m in
            let none = runs.fresh c (omega arith) in
            let now = push_other c cell ran (λ is. late c is past) in omega arith;
      };
      less = omega arith;
      long = refl;
    }
      where
        some_none : (v : Held) → Some v ≡ None → ⊥
        some_none v e = cc

        late : (c : ℕ) → c ≡ cell → length (set marks cell m) ≤ c → ⊥
        late c is past = let low = inside in let same = length-set marks cell m in omega arith

-- an answer that meets the equation and was recorded
pub went : (answer : Answer) (count : ℕ) (equation : ℕ → Asks Held) (cell : ℕ) (known known_new : List (Option Held)) (old new : Queued) → IsTied known old.marks
    → slice_get old.marks cell ≡ Some Ready → Fits count equation (shown known old.marks old.ready) → IsReadyList new.marks new.ready
    → Meets (equation cell) cell known known_new answer → IsRecorded answer cell old new
    → Went count equation cell known known_new old.marks new.marks old.ready new.ready
went Value count equation cell known known_new old new tied stands fits readies meets recorded =
    subst (λ ks. Went count equation cell known ks old.marks new.marks old.ready new.ready) (sym meets.2)
    (subst (λ ms. Went count equation cell known (set known cell (Some meets.0)) old.marks ms old.ready new.ready) (sym recorded)
    (went_value count equation cell known old.marks old.ready new.ready tied stands fits meets.0 meets.1 (subst (λ ms. IsReadyList ms new.ready) recorded readies)))
went (Wait w) count equation cell known known_new old new tied stands fits readies meets recorded =
    subst (λ ks. Went count equation cell known ks old.marks new.marks old.ready new.ready) (sym meets.1)
    (subst (λ ms. Went count equation cell known known old.marks ms old.ready new.ready) (sym recorded.0)
    (went_mark count equation cell known old.marks old.ready new.ready tied stands fits (Waits w) meets.0 refl wait_done recorded.1))
  where
    wait_done : Waits w ≡ Done → ⊥
    wait_done e = cc
went (Fault cause) count equation cell known known_new old new tied stands fits readies meets recorded =
    subst (λ ks. Went count equation cell known ks old.marks new.marks old.ready new.ready) (sym meets.1)
    (subst (λ ms. Went count equation cell known known old.marks ms old.ready new.ready) (sym recorded.0)
    (went_mark count equation cell known old.marks old.ready new.ready tied stands fits (Faulty cause) meets.0 refl faulty_done recorded.1))
  where
    faulty_done : Faulty cause ≡ Done → ⊥
    faulty_done e = cc

-- an unknown that an answer waits for can be recorded
pub recordable : (answer : Answer) (count : ℕ) (equation : ℕ → Asks Held) (cell : ℕ) (known known_new : List (Option Held)) (marks : List Mark) → IsTied known marks → length marks ≡ count
    → NamesBelow count answer → Meets (equation cell) cell known known_new answer → IsRecordable marks answer
recordable Value count equation cell known known_new marks tied added names meets = tt
recordable (Wait w) count equation cell known known_new marks tied added names meets =
    (omega (arith, names, added), λ done. tied.filled w done (wait_open (equation cell) known w meets.0))
recordable (Fault cause) count equation cell known known_new marks tied added names meets = tt
