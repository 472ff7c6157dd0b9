-- The steps by which an event is taken up.
use Rattle.std.proofs.Common.{◌≡◌, ◌≢◌, ℕ, ◌+◌, ◌<◌, ◌≤◌, Bool, true, false, ◌||◌, get_or, Option, Some, None, List, [], ◌∷◌, ◌++◌, length, set, replicate, nat_eq, refl, sym, ap, subst, ◌∙◌, arith, inl, inr, length-set}
use Rattle.std.specs.List.{slice_get, IsDistinct, AllByRecursion}
use Rattle.std.proofs.lemmas.Bool.{cases_eq}
use Rattle.std.proofs.lemmas.List.{length_push, length-replicate}
use Rattle.std.proofs.lemmas.Option.{slice_get_within, slice_get-get_or}
use Rattle.std.proofs.lemmas.Map.Keys.{IsDistinct-head, IsDistinct-tail}
use Rattle.dfdl_suspend.specs.declared.known.Held.{Held}
use Rattle.dfdl_suspend.specs.declared.mark.Mark.{Mark}
use Rattle.dfdl_suspend.specs.declared.mark.Mark.TheVariants.{Ready, Done, Waits, Faulty}
use Rattle.dfdl_suspend.specs.Asks.{Asks, AsksWithin, Gives, Faults, WaitsFor, at, gives, is_in, waiting}
use Rattle.dfdl_suspend.specs.Boards.{Boarded, IsShown, Agrees, Runs, with_added, with_set, had_run, how_many, one_if}
use Rattle.dfdl_suspend.specs.Events.{Brings, IsSettable, Taking}
use Rattle.dfdl_suspend.specs.Rounds.{Reached, nothing, Grows}
use Rattle.dfdl_suspend.proofs.Histories.{push_same, push_other}
use Rattle.dfdl_suspend.proofs.Places.{get_set_same, get_set_other, get_append_old, get_push_cases}
use Rattle.dfdl_suspend.proofs.Readies.{in_cons, in_front, in_behind}
use Rattle.dfdl_suspend.proofs.Solving.{reached_grows, reached_waiting}
use Rattle.dfdl_suspend.proofs.Trees.{waiting_gives}

mark_same : (m n : Mark) → Some m ≡ Some n → m ≡ n
mark_same m n e = cc

-- one more unknown
pub taking_added : (equation : ℕ → Asks Held) (left : List ℕ) (board : Boarded) → Taking equation left board → Taking equation left (with_added board)
taking_added equation left board is = record {
  reached = is.reached;
  recorded = λ cell mark e. elim (get_push_cases board.marks Ready mark cell e) [
    | inl old ↦ is.recorded cell mark old
    | inr new ↦ inl (subst (λ m. Agrees m (gives (equation cell) board.known)) new.1 tt)
  ];
  settable = record {
    apart = is.settable.apart;
    waits = λ cell e. get_append_old board.marks (Ready ∷ []) cell (slice_get_within board.marks cell (Waits cell) (is.settable.waits cell e)) ∙ is.settable.waits cell e;
  };
}

pub runs_added : (equation : ℕ → Asks Held) (board : Boarded) (ran were_set : List ℕ) → Runs equation board ran were_set → Runs equation (with_added board) ran were_set
runs_added equation board ran were_set is = record {
  bound = λ cell mark asked e asks. elim (get_push_cases board.marks Ready mark cell e) [
    | inl old ↦ is.bound cell mark asked old asks
    | inr new ↦ let none = is.fresh cell (at_least cell new.0) in omega arith
  ];
  fresh = λ cell past. is.fresh cell (let more = length_push board.marks Ready in omega arith);
}
  where
    at_least : (cell : ℕ) → cell ≡ length board.marks → length board.marks ≤ cell
    at_least cell same = omega arith

-- one of those that are given is set
gone : (cell : ℕ) (rest : List ℕ) → AllByRecursion (λ y. nat_eq cell y ≡ false) rest → is_in cell rest ≡ true → ⊥
gone cell [] all e = cc
gone cell (x ∷ xs) all e = elim (in_cons cell x xs e) [
  | inl same ↦ true_false (sym (in_front cell x [] same) ∙ nothing_behind (nat_eq cell x) all.0)
  | inr behind ↦ gone cell xs all.1 behind
]
  where
    true_false : true ≡ false → ⊥
    true_false e = cc

    nothing_behind : (b : Bool) → b ≡ false → (b || false) ≡ false
    nothing_behind true e = absurd (cc)
    nothing_behind false e = refl

module _ (cell : ℕ) (rest : List ℕ) (marks : List Mark) (is : IsSettable (cell ∷ rest) marks) where
  pub first_waits : slice_get marks cell ≡ Some (Waits cell)
  first_waits = is.waits cell (in_front cell cell rest refl)

  pub apart_rest : (other : ℕ) → is_in other rest ≡ true → other ≢ cell
  apart_rest other e same = gone cell rest (IsDistinct-head nat_eq cell rest is.apart) (ap (λ k. is_in k rest) (sym same) ∙ e)

  pub settable_rest : IsSettable rest (set marks cell Ready)
  settable_rest = record {
    apart = IsDistinct-tail nat_eq cell rest is.apart;
    waits = λ other e. get_set_other marks cell other Ready (apart_rest other e) ∙ is.waits other (in_behind other cell rest e);
  }

pub taking_set : (equation : ℕ → Asks Held) (cell : ℕ) (rest : List ℕ) (board : Boarded) → Taking equation (cell ∷ rest) board → Taking equation rest (with_set board cell)
taking_set equation cell rest board is = record {
  reached = is.reached;
  recorded = λ other mark e. elim (cases_eq other cell) [
    | inl same ↦
        let ready : Ready ≡ mark = mark_same Ready mark (sym (get_set_same board.marks cell Ready (slice_get_within board.marks cell (Waits cell) (first_waits cell rest board.marks is.settable)))
        ∙ (sym (ap (λ k. slice_get (set board.marks cell Ready) k) same) ∙ e)) in
        inl (subst (λ m. Agrees m (gives (equation other) board.known)) ready tt)
    | inr apart ↦ elim (is.recorded other mark (sym (get_set_other board.marks cell other Ready apart) ∙ e)) [
      | inl agrees ↦ inl agrees
      | inr left ↦ elim (in_cons other cell rest left) [
        | inl front ↦ absurd (apart front)
        | inr behind ↦ inr behind
      ]
    ]
  ];
  settable = settable_rest cell rest board.marks is.settable;
}

pub runs_set : (equation : ℕ → Asks Held) (cell : ℕ) (board : Boarded) (ran were_set : List ℕ) → slice_get board.marks cell ≡ Some (Waits cell) → Runs equation board ran were_set
    → Runs equation (with_set board cell) ran (were_set ++ cell ∷ [])
runs_set equation cell board ran were_set stands is = record {
  bound = λ other mark asked e asks. elim (cases_eq other cell) [
    | inl same ↦
        let old = is.bound other (Waits cell) asked (ap (λ k. slice_get board.marks k) same ∙ stands) asks in
        let more = push_same other cell were_set same in
        omega arith
    | inr apart ↦
        let old = is.bound other mark asked (sym (get_set_other board.marks cell other Ready apart) ∙ e) asks in
        let same = push_other other cell were_set apart in
        omega arith
  ];
  fresh = λ other past. is.fresh other (let same = length-set board.marks cell Ready in omega arith);
}

-- an event at a board at rest
module _ (old new : ℕ → Asks Held) (given : List ℕ) (board : Boarded) (brings : Brings old new given board) (shown : IsShown board) where
  grows : Grows old new
  grows cell other = elim (brings.same cell) [
    | inl same ↦ same
    | inr waited ↦ absurd (other waited.0)
  ]

  none_known : (cell : ℕ) → old cell ≡ waiting cell → at board.known cell ≡ None
  none_known cell waits = reached_waiting (length board.known) old board.known cell waits brings.fits.reached

  gives_wait : (cell : ℕ) → old cell ≡ waiting cell → gives (old cell) board.known ≡ WaitsFor cell
  gives_wait cell waits = ap (λ t. gives t board.known) waits ∙ waiting_gives cell board.known (none_known cell waits)

  empty_in : (cell : ℕ) (ready : List ℕ) → length ready ≡ 0 → is_in cell ready ≡ true → ⊥
  empty_in cell [] none e = cc
  empty_in cell (x ∷ xs) none e = absurd (omega arith)

  mark_waits : (cell : ℕ) (mark : Mark) → slice_get board.marks cell ≡ Some mark → gives (old cell) board.known ≡ WaitsFor cell → old cell ≡ waiting cell → mark ≡ Waits cell
  mark_waits cell Ready e waits is = absurd (empty_in cell board.ready brings.idle (shown.readies.every cell e))
  mark_waits cell Done e waits is = absurd (shown.filled cell e (none_known cell is))
  mark_waits cell (Waits w) e waits is = ap (λ u. Waits u) (wait_same w cell (sym (brings.fits.recorded cell (Waits w) e) ∙ waits))
    where
      wait_same : (a b : ℕ) → ◌≡◌ {A = Gives Held} (WaitsFor a) (WaitsFor b) → a ≡ b
      wait_same a b e = cc
  mark_waits cell (Faulty cause) e waits is = absurd (apart cause cell (sym (brings.fits.recorded cell (Faulty cause) e) ∙ waits))
    where
      apart : (cause w : ℕ) → ◌≡◌ {A = Gives Held} (Faults cause) (WaitsFor w) → ⊥
      apart cause w e = cc

  stands : (cell : ℕ) → cell < length board.marks → old cell ≡ waiting cell → slice_get board.marks cell ≡ Some (Waits cell)
  stands cell low waits =
      let here : slice_get board.marks cell ≡ Some (get_or board.marks cell Ready) = slice_get-get_or board.marks cell Ready low in
      here ∙ ap (λ m. Some m) (mark_waits cell (get_or board.marks cell Ready) here (gives_wait cell waits) waits)

  pub taking_begins : Taking new given board
  taking_begins = record {
    reached = reached_grows (length board.known) old new board.known grows brings.fits.reached;
    recorded = λ cell mark e. elim (brings.same cell) [
      | inl same ↦ inl (subst (λ t. Agrees mark (gives t board.known)) (sym same) (brings.fits.recorded cell mark e))
      | inr waited ↦ inr (waited.1 (slice_get_within board.marks cell mark e))
    ];
    settable = record {
      apart = brings.apart;
      waits = λ cell e. stands cell (brings.waited cell e).0 (brings.waited cell e).1;
    };
  }

  pub runs_begin : (ran were_set : List ℕ) → Runs old board ran were_set → Runs new board ran were_set
  runs_begin ran were_set is = record {
    bound = λ cell mark asked e asks. elim (brings.same cell) [
      | inl same ↦ is.bound cell mark asked e (subst (λ t. AsksWithin asked t) same asks)
      | inr waited ↦
          let waits : slice_get board.marks cell ≡ Some (Waits cell) = stands cell (slice_get_within board.marks cell mark e) waited.0 in
          let is_mark : had_run mark ≡ 1 = ap (λ m. had_run m) (mark_same mark (Waits cell) (sym e ∙ waits)) in
          let old_bound = is.bound cell (Waits cell) (cell ∷ []) waits (subst (λ t. AsksWithin (cell ∷ []) t) (sym waited.0) (in_front cell cell [] refl, λ value. tt)) in
          let none : how_many board.known (cell ∷ []) ≡ 0 = ap (λ o. one_if o + 0) (none_known cell waited.0) in
          omega arith
    ];
    fresh = is.fresh;
  }

-- a board that was opened is ready for any equations
pub opened_brings : (cells : ℕ) (equation : ℕ → Asks Held) → Brings (λ cell. waiting cell) equation [] (record { known = replicate cells None; marks = []; ready = [] })
unfolding IsDistinct
opened_brings cells equation =
    let all : List (Option Held) = replicate cells None in
    let long : length all ≡ cells = length-replicate cells None in
    let start : Reached {V = Held} cells (λ cell. waiting cell) all = nothing in
    record {
      fits = record {
        added = refl;
        reached = subst (λ (n : ℕ). Reached n (λ cell. waiting cell) all) (sym long) start;
        recorded = λ cell mark e. absurd (none_some mark e);
      };
      idle = refl;
      same = λ cell. let past : cell < 0 → is_in cell [] ≡ true = λ inside. absurd (omega arith) in inr (refl, past);
      apart = tt;
      waited = λ cell e. absurd (false_true e);
    }
  where
    none_some : (m : Mark) → None ≡ Some m → ⊥
    none_some m e = cc

    false_true : false ≡ true → ⊥
    false_true e = cc
