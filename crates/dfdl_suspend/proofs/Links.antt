-- The lists of those that wait, as marks and links change.
use Rattle.std.proofs.Common.{◌≡◌, ◌≢◌, ℕ, ◌+◌, ◌<◌, Bool, true, false, Some, List, [], ◌∷◌, ◌++◌, length, set, get_or, refl, sym, ap, subst, ◌∙◌, arith, inl, inr, length-set, get_or-set_same, get_or-set_other}
use Rattle.std.specs.List.{slice_get}
use Rattle.std.proofs.Math.ListN.{get_or-append}
use Rattle.std.proofs.Math.Seq.{get_or-append_seam}
use Rattle.std.proofs.lemmas.List.{length_push}
use Rattle.std.proofs.lemmas.Bool.{cases_eq}
use Rattle.std.proofs.lemmas.Option.{slice_get_within}
use Rattle.dfdl_suspend.specs.declared.mark.Mark.{Mark}
use Rattle.dfdl_suspend.specs.declared.mark.Mark.TheVariants.{Ready, Done, Waits}
use Rattle.dfdl_suspend.specs.Asks.{is_in}
use Rattle.dfdl_suspend.specs.Marks.{IsReadyList}
use Rattle.dfdl_suspend.specs.Queues.{list_end, IsLinked, IsWaited, IsWaking, IsQueue}
use Rattle.dfdl_suspend.proofs.Places.{get_set_same, get_set_other, get_append_old, get_push_cases}
use Rattle.dfdl_suspend.proofs.Readies.{in_cons, in_front, in_behind, not_true, added_ready}

-- a list stays where the marks and links of its unknowns stay
pub linked_stays : (marks marks_new : List Mark) (next next_new : List ℕ) (unknown head : ℕ) (cells : List ℕ)
    → ((cell : ℕ) → is_in cell cells ≡ true → slice_get marks_new cell ≡ Some (Waits unknown))
    → ((cell : ℕ) → is_in cell cells ≡ true → get_or next_new cell 0 ≡ get_or next cell 0)
    → IsLinked marks next unknown head cells → IsLinked marks_new next_new unknown head cells
linked_stays marks marks_new next next_new unknown head [] stands links is = is
linked_stays marks marks_new next next_new unknown head (cell ∷ cells) stands links is = (
  is.0,
  stands cell (in_front cell cell cells refl),
  is.2,
  subst (λ h. IsLinked marks_new next_new unknown h cells) (sym (links cell (in_front cell cell cells refl)))
      (linked_stays marks marks_new next next_new unknown (get_or next cell 0) cells (λ c e. stands c (in_behind c cell cells e)) (λ c e. links c (in_behind c cell cells e)) is.3),
)

-- each unknown of a list waits for that one
pub linked_waits : (marks : List Mark) (next : List ℕ) (unknown head : ℕ) (cells : List ℕ) → IsLinked marks next unknown head cells
    → (cell : ℕ) → is_in cell cells ≡ true → slice_get marks cell ≡ Some (Waits unknown)
linked_waits marks next unknown head [] is cell e = absurd (cc)
linked_waits marks next unknown head (x ∷ xs) is cell e = elim (in_cons cell x xs e) [
  | inl same ↦ ap (λ k. slice_get marks k) same ∙ is.1
  | inr behind ↦ linked_waits marks next unknown (get_or next x 0) xs is.3 cell behind
]

-- two numbers, of which one is in a list
pub apart_in : (cell other : ℕ) (cells : List ℕ) → is_in cell cells ≡ true → is_in other cells ≡ false → cell ≢ other
apart_in cell other cells yes_ no_ same = true_false (is_in cell cells) yes_ (ap (λ k. is_in k cells) same ∙ no_)
  where
    true_false : (b : Bool) → b ≡ true → b ≡ false → ⊥
    true_false b yes_ no_ = cc

-- the list of an unknown stays where no other one who waits for it changes
pub waited_stays : (marks marks_new : List Mark) (next next_new : List ℕ) (unknown head : ℕ)
    → ((cell : ℕ) → cell ≢ unknown → slice_get marks cell ≡ Some (Waits unknown) → slice_get marks_new cell ≡ Some (Waits unknown))
    → ((cell : ℕ) → cell ≢ unknown → slice_get marks cell ≡ Some (Waits unknown) → get_or next_new cell 0 ≡ get_or next cell 0)
    → ((cell : ℕ) → cell ≢ unknown → slice_get marks_new cell ≡ Some (Waits unknown) → slice_get marks cell ≡ Some (Waits unknown))
    → IsWaited marks next unknown head → IsWaited marks_new next_new unknown head
waited_stays marks marks_new next next_new unknown head stands links back is = record {
  cells = is.cells;
  linked = linked_stays marks marks_new next next_new unknown head is.cells
      (λ cell e. stands cell (apart_in cell unknown is.cells e is.others) (linked_waits marks next unknown head is.cells is.linked cell e))
      (λ cell e. links cell (apart_in cell unknown is.cells e is.others) (linked_waits marks next unknown head is.cells is.linked cell e)) is.linked;
  others = is.others;
  all = λ cell e other. is.all cell (back cell other e) other;
}

differ : (m n : Mark) (cell other : ℕ) (marks : List Mark) → slice_get marks cell ≡ Some m → slice_get marks other ≡ Some n → (m ≡ n → ⊥) → cell ≢ other
differ m n cell other marks a b apart same = apart (some_same m n (sym a ∙ (ap (λ k. slice_get marks k) same ∙ b)))
  where
    some_same : (m n : Mark) → Some m ≡ Some n → m ≡ n
    some_same m n e = cc

ready_waits : (w : ℕ) → Ready ≡ Waits w → ⊥
ready_waits w e = cc

module _ (marks : List Mark) (ready first next : List ℕ) (is : IsQueue marks ready first next) where
  -- one more that is ready
  pub added_queue : length marks < list_end → IsQueue (marks ++ Ready ∷ []) (ready ++ length marks ∷ []) (first ++ list_end ∷ []) (next ++ list_end ∷ [])
  added_queue room = record {
    readies = added_ready marks ready is.readies;
    firsts = length_push first list_end ∙ (ap (λ n. n + 1) is.firsts ∙ sym (length_push marks Ready));
    nexts = length_push next list_end ∙ (ap (λ n. n + 1) is.nexts ∙ sym (length_push marks Ready));
    few = let more = length_push marks Ready in omega arith;
    waits = λ cell unknown e.
        let was : slice_get marks cell ≡ Some (Waits unknown) = old_wait cell unknown e in
        let known_ : (unknown < length marks) × (slice_get marks unknown ≢ Some Done) = is.waits cell unknown was in
        let more = length_push marks Ready in (
          omega (arith, known_.0),
          λ done. known_.1 (sym (get_append_old marks (Ready ∷ []) unknown known_.0) ∙ done),
        );
    lists = λ unknown within open_. elim (cases_eq unknown (length marks)) [
      | inl same ↦ subst (λ (u : ℕ). IsWaited (marks ++ Ready ∷ []) (next ++ list_end ∷ []) u (get_or (first ++ list_end ∷ []) u 0)) (sym same) fresh
      | inr differs ↦
          let low : unknown < length marks = (let more = length_push marks Ready in omega (arith, within, differs)) in
          subst (λ (h : ℕ). IsWaited (marks ++ Ready ∷ []) (next ++ list_end ∷ []) unknown h) (sym (get_or-append first (list_end ∷ []) 0 unknown (omega (arith, is.firsts, low))))
          (waited_stays marks (marks ++ Ready ∷ []) next (next ++ list_end ∷ []) unknown (get_or first unknown 0)
          (λ cell other e. get_append_old marks (Ready ∷ []) cell (slice_get_within marks cell (Waits unknown) e) ∙ e)
          (λ cell other e. get_or-append next (list_end ∷ []) 0 cell (let inside = slice_get_within marks cell (Waits unknown) e in omega (arith, is.nexts)))
          (λ cell other e. old_wait cell unknown e)
          (is.lists unknown low (λ done. open_ (get_append_old marks (Ready ∷ []) unknown low ∙ done))))
    ];
  }
    where
      old_wait : (cell unknown : ℕ) → slice_get (marks ++ Ready ∷ []) cell ≡ Some (Waits unknown) → slice_get marks cell ≡ Some (Waits unknown)
      old_wait cell unknown e = elim (get_push_cases marks Ready (Waits unknown) cell e) [
        | inl old ↦ old
        | inr new ↦ absurd (ready_waits unknown new.1)
      ]

      fresh : IsWaited (marks ++ Ready ∷ []) (next ++ list_end ∷ []) (length marks) (get_or (first ++ list_end ∷ []) (length marks) 0)
      fresh = record {
        cells = [];
        others = refl;
        linked = ap (λ k. get_or (first ++ list_end ∷ []) k 0) (sym is.firsts) ∙ get_or-append_seam first list_end [] 0;
        all = λ cell e other. absurd (past (is.waits cell (length marks) (old_wait cell (length marks) e)).0);
      }
        where
          past : length marks < length marks → ⊥
          past h = omega arith

wait_same : (a b : ℕ) → ◌≡◌ {A = Mark} (Waits a) (Waits b) → a ≡ b
wait_same a b e = cc

mark_same : (m n : Mark) → Some m ≡ Some n → m ≡ n
mark_same m n e = cc

-- one that was ready gets another mark
module _ (marks : List Mark) (ready rest first next : List ℕ) (is : IsQueue marks ready first next) (cell : ℕ) (stands : slice_get marks cell ≡ Some Ready) where
  inside : cell < length marks
  inside = slice_get_within marks cell Ready stands

  -- who waits is another
  waits_other : (c u : ℕ) → slice_get marks c ≡ Some (Waits u) → c ≢ cell
  waits_other c u e = differ (Waits u) Ready c cell marks e stands (λ same. ready_waits u (sym same))

  module _ (m : Mark) (left : IsReadyList (set marks cell m) rest) where
    now_at : slice_get (set marks cell m) cell ≡ Some m
    now_at = get_set_same marks cell m inside

    at_place : (c : ℕ) (n : Mark) → c ≡ cell → slice_get (set marks cell m) c ≡ Some n → m ≡ n
    at_place c n same e = mark_same m n (sym now_at ∙ (sym (ap (λ k. slice_get (set marks cell m) k) same) ∙ e))

    old_mark : (c : ℕ) (n : Mark) → (m ≡ n → ⊥) → slice_get (set marks cell m) c ≡ Some n → slice_get marks c ≡ Some n
    old_mark c n apart e = elim (cases_eq c cell) [
      | inl same ↦ absurd (apart (mark_same m n (sym now_at ∙ (sym (ap (λ k. slice_get (set marks cell m) k) same) ∙ e))))
      | inr differs ↦ sym (get_set_other marks cell c m differs) ∙ e
    ]

    wait_stands : (c u : ℕ) → slice_get marks c ≡ Some (Waits u) → slice_get (set marks cell m) c ≡ Some (Waits u)
    wait_stands c u e = get_set_other marks cell c m (waits_other c u e) ∙ e

    not_done : (u : ℕ) → (m ≡ Done → ⊥) → slice_get marks u ≢ Some Done → slice_get (set marks cell m) u ≢ Some Done
    not_done u apart old e = old (old_mark u Done apart e)

    was_not_done : (u : ℕ) → slice_get (set marks cell m) u ≢ Some Done → slice_get marks u ≢ Some Done
    was_not_done u now e = now (get_set_other marks cell u m (differ Done Ready u cell marks e stands done_ready) ∙ e)
      where
        done_ready : Done ≡ Ready → ⊥
        done_ready e = cc

    -- it waits for none
    pub idle_queue : (m ≡ Done → ⊥) → ((u : ℕ) → m ≡ Waits u → ⊥) → IsQueue (set marks cell m) rest first next
    idle_queue open_ free = record {
      readies = left;
      firsts = is.firsts ∙ sym (length-set marks cell m);
      nexts = is.nexts ∙ sym (length-set marks cell m);
      few = let same = length-set marks cell m in let old = is.few in omega arith;
      waits = λ c u e.
          let was = is.waits c u (old_mark c (Waits u) (free u) e) in
          let same = length-set marks cell m in
          (omega (arith, was.0), not_done u open_ was.1);
      lists = λ u within now.
          waited_stays marks (set marks cell m) next next u (get_or first u 0) (λ c other e. wait_stands c u e) (λ c other e. refl) (λ c other e. old_mark c (Waits u) (free u) e)
          (is.lists u (let same = length-set marks cell m in omega arith) (was_not_done u now));
    }

  -- it waits for itself
  pub self_queue : IsReadyList (set marks cell (Waits cell)) rest → IsQueue (set marks cell (Waits cell)) rest first next
  self_queue left = record {
    readies = left;
    firsts = is.firsts ∙ sym (length-set marks cell (Waits cell));
    nexts = is.nexts ∙ sym (length-set marks cell (Waits cell));
    few = let same = length-set marks cell (Waits cell) in let old = is.few in omega arith;
    waits = λ c u e. let same = length-set marks cell (Waits cell) in elim (cases_eq c cell) [
      | inl at_cell ↦
          let u_is : u ≡ cell = sym (wait_same cell u (at_place (Waits cell) left c (Waits u) at_cell e)) in
          (let low = inside in omega arith, λ done. wait_done (mark_same (Waits cell) Done (sym (now_at (Waits cell) left) ∙ (sym (ap (λ k. slice_get (set marks cell (Waits cell)) k) u_is) ∙ done))))
      | inr differs ↦
          let was = is.waits c u (sym (get_set_other marks cell c (Waits cell) differs) ∙ e) in
          (omega (arith, was.0), not_done (Waits cell) left u wait_done was.1)
    ];
    lists = λ u within now.
        waited_stays marks (set marks cell (Waits cell)) next next u (get_or first u 0) (λ c other e. wait_stands (Waits cell) left c u e) (λ c other e. refl)
        (λ c other e. elim (cases_eq c cell) [
          | inl at_cell ↦ absurd (other (at_cell ∙ wait_same cell u (at_place (Waits cell) left c (Waits u) at_cell e)))
          | inr differs ↦ sym (get_set_other marks cell c (Waits cell) differs) ∙ e
        ])
        (is.lists u (let same = length-set marks cell (Waits cell) in omega arith) (was_not_done (Waits cell) left u now));
  }
    where
      wait_done : Waits cell ≡ Done → ⊥
      wait_done e = cc

  -- it waits for another one, and is put in front of those that wait for that one
  pub link_queue : (w : ℕ) → w ≢ cell → w < length marks → slice_get marks w ≢ Some Done → IsReadyList (set marks cell (Waits w)) rest
      → IsQueue (set marks cell (Waits w)) rest (set first w cell) (set next cell (get_or first w 0))
  link_queue w apart there open_ left = record {
    readies = left;
    firsts = length-set first w cell ∙ (is.firsts ∙ sym (length-set marks cell (Waits w)));
    nexts = length-set next cell (get_or first w 0) ∙ (is.nexts ∙ sym (length-set marks cell (Waits w)));
    few = let same = length-set marks cell (Waits w) in let old = is.few in omega arith;
    waits = λ c u e. let same = length-set marks cell (Waits w) in elim (cases_eq c cell) [
      | inl at_cell ↦
          let u_is : u ≡ w = sym (wait_same w u (at_place (Waits w) left c (Waits u) at_cell e)) in
          (omega arith, λ done. not_done (Waits w) left w (wait_done w) open_ (sym (ap (λ k. slice_get (set marks cell (Waits w)) k) u_is) ∙ done))
      | inr differs ↦
          let was = is.waits c u (sym (get_set_other marks cell c (Waits w) differs) ∙ e) in
          (omega (arith, was.0), not_done (Waits w) left u (wait_done w) was.1)
    ];
    lists = λ u within now. elim (cases_eq u w) [
      | inl same ↦ subst (λ (k : ℕ). IsWaited (set marks cell (Waits w)) (set next cell (get_or first w 0)) k (get_or (set first w cell) k 0)) (sym same) linked_now
      | inr differs ↦ subst (λ (h : ℕ). IsWaited (set marks cell (Waits w)) (set next cell (get_or first w 0)) u h) (sym (get_or-set_other first w u cell 0 differs))
          (waited_stays marks (set marks cell (Waits w)) next (set next cell (get_or first w 0)) u (get_or first u 0) (λ c other e. wait_stands (Waits w) left c u e)
          (λ c other e. get_or-set_other next cell c (get_or first w 0) 0 (waits_other c u e))
          (λ c other e. elim (cases_eq c cell) [
            | inl at_cell ↦ absurd (differs (sym (wait_same w u (at_place (Waits w) left c (Waits u) at_cell e))))
            | inr away ↦ sym (get_set_other marks cell c (Waits w) away) ∙ e
          ])
          (is.lists u (let same = length-set marks cell (Waits w) in omega arith) (was_not_done (Waits w) left u now)))
    ];
  }
    where
      wait_done : (w : ℕ) → Waits w ≡ Done → ⊥
      wait_done w e = cc

      old : IsWaited marks next w (get_or first w 0)
      old = is.lists w there open_

      absent : is_in cell old.cells ≡ false
      absent = not_true (is_in cell old.cells) (λ e. waits_other cell w (linked_waits marks next w (get_or first w 0) old.cells old.linked cell e) refl)

      linked_now : IsWaited (set marks cell (Waits w)) (set next cell (get_or first w 0)) w (get_or (set first w cell) w 0)
      linked_now = record {
        cells = cell ∷ old.cells;
        linked = (
          sym (get_or-set_same first w cell 0 (let same = is.firsts in omega arith)),
          now_at (Waits w) left,
          absent,
          subst (λ (h : ℕ). IsLinked (set marks cell (Waits w)) (set next cell (get_or first w 0)) w h old.cells)
              (sym (get_or-set_same next cell (get_or first w 0) 0 (let same = is.nexts in let low = inside in omega arith)))
              (linked_stays marks (set marks cell (Waits w)) next (set next cell (get_or first w 0)) w (get_or first w 0) old.cells
              (λ c e. wait_stands (Waits w) left c w (linked_waits marks next w (get_or first w 0) old.cells old.linked c e))
              (λ c e. get_or-set_other next cell c (get_or first w 0) 0 (apart_in c cell old.cells e absent)) old.linked),
        );
        others = not_true (is_in w (cell ∷ old.cells)) (λ e. elim (in_cons w cell old.cells e) [
          | inl same ↦ apart same
          | inr behind ↦ apart_in w w old.cells behind old.others refl
        ]);
        all = λ c e other. elim (cases_eq c cell) [
          | inl at_cell ↦ in_front c cell old.cells at_cell
          | inr away ↦ in_behind c cell old.cells (old.all c (sym (get_set_other marks cell c (Waits w) away) ∙ e) other)
        ];
      }

  -- those that wait for it, once it has got a value
  pub waking_begins : IsWaking (set marks cell Done) next cell (get_or first cell 0)
  waking_begins =
      let old : IsWaited marks next cell (get_or first cell 0) = is.lists cell inside (λ done. done_ready (mark_same Done Ready (sym done ∙ stands))) in
      record {
        cells = old.cells;
        linked = linked_stays marks (set marks cell Done) next next cell (get_or first cell 0) old.cells
            (λ c e. get_set_other marks cell c Done (apart_in c cell old.cells e old.others) ∙ linked_waits marks next cell (get_or first cell 0) old.cells old.linked c e)
            (λ c e. refl) old.linked;
        all = λ c e. elim (cases_eq c cell) [
          | inl at_cell ↦ absurd (done_waits cell (mark_same Done (Waits cell) (sym (get_set_same marks cell Done inside) ∙ (sym (ap (λ k. slice_get (set marks cell Done) k) at_cell) ∙ e))))
          | inr away ↦ old.all c (sym (get_set_other marks cell c Done away) ∙ e) away
        ];
      }
    where
      done_ready : Done ≡ Ready → ⊥
      done_ready e = cc

      done_waits : (w : ℕ) → Done ≡ Waits w → ⊥
      done_waits w e = cc
