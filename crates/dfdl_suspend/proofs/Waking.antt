-- Those that waited for an unknown are ready once it has got a value; and lists as they begin.
use Rattle.std.proofs.Common.{◌≡◌, ◌≢◌, ℕ, ◌<◌, ◌≤◌, Bool, true, false, Option, Some, None, List, [], ◌∷◌, ◌++◌, length, set, get_or, nat_eq, refl, sym, ap, subst, ◌∙◌, arith, inl, inr, zero, suc, length-set, if◌then◌else◌}
use Rattle.std.specs.List.{slice_get, IsDistinct}
use Rattle.std.specs.Option.{option_map}
use Rattle.std.proofs.lemmas.Bool.{cases_eq, eqb-true, eq-eqb}
use Rattle.std.proofs.lemmas.List.{length-map}
use Rattle.std.proofs.lemmas.Option.{slice_get_within, slice_get-map}
use Rattle.dfdl_suspend.specs.declared.mark.Mark.{Mark}
use Rattle.dfdl_suspend.specs.declared.mark.Mark.TheVariants.{Ready, Done, Waits, Faulty}
use Rattle.dfdl_suspend.specs.Asks.{is_in}
use Rattle.dfdl_suspend.specs.Marks.{IsReadyList, woken, all_woken}
use Rattle.dfdl_suspend.specs.Queues.{list_end, IsLinked, IsWaking, IsQueue}
use Rattle.dfdl_suspend.proofs.Places.{get_set_same, get_set_other}
use Rattle.dfdl_suspend.proofs.Readies.{in_cons, not_true, came_ready}
use Rattle.dfdl_suspend.proofs.Links.{linked_stays, linked_waits, apart_in, waited_stays, idle_queue, self_queue, link_queue}

-- what a mark was that is woken to one
pub woken_waits : (cell u : ℕ) (m : Mark) → woken cell m ≡ Waits u → (m ≡ Waits u) × (u ≢ cell)
woken_waits cell u Ready e = absurd (cc)
woken_waits cell u Done e = absurd (cc)
woken_waits cell u (Waits other) e = waits_from (nat_eq cell other) refl e
  where
    other_same : (a b : ℕ) → ◌≡◌ {A = Mark} (Waits a) (Waits b) → a ≡ b
    other_same a b e = cc

    waits_from : (b : Bool) → nat_eq cell other ≡ b → (if b then Ready else Waits other) ≡ Waits u → (Waits other ≡ Waits u) × (u ≢ cell)
    waits_from true is e = absurd (cc)
    waits_from false is e = (e, λ same. true_false (sym (eq-eqb cell other (sym same ∙ sym (other_same other u e))) ∙ is))
      where
        true_false : true ≡ false → ⊥
        true_false e = cc
woken_waits cell u (Faulty cause) e = absurd (cc)

pub woken_done : (cell : ℕ) (m : Mark) → woken cell m ≡ Done → m ≡ Done
woken_done cell Ready e = absurd (cc)
woken_done cell Done e = refl
woken_done cell (Waits other) e = done_from (nat_eq cell other) e
  where
    done_from : (b : Bool) → (if b then Ready else Waits other) ≡ Done → Waits other ≡ Done
    done_from true e = absurd (cc)
    done_from false e = absurd (cc)
woken_done cell (Faulty cause) e = absurd (cc)

pub waits_woken : (cell u : ℕ) → u ≢ cell → woken cell (Waits u) ≡ Waits u
waits_woken cell u apart = ap (λ (b : Bool). if b then Ready else Waits u) (not_true (nat_eq cell u) (λ e. apart (sym (eqb-true cell u e))))

pub same_woken : (cell : ℕ) → woken cell (Waits cell) ≡ Ready
same_woken cell = ap (λ (b : Bool). if b then Ready else Waits cell) (eq-eqb cell cell refl)

-- the mark at a place after the waking, and before it
pub woken_at : (cell c : ℕ) (marks : List Mark) (m : Mark) → slice_get marks c ≡ Some m → slice_get (all_woken cell marks) c ≡ Some (woken cell m)
woken_at cell c marks m e = slice_get-map (woken cell) marks c ∙ ap (λ o. option_map (woken cell) o) e

pub was_at : (cell c : ℕ) (marks : List Mark) (n : Mark) → slice_get (all_woken cell marks) c ≡ Some n → (m : Mark) × (slice_get marks c ≡ Some m) × (woken cell m ≡ n)
was_at cell c marks n e = was_from (slice_get marks c) refl (sym (slice_get-map (woken cell) marks c) ∙ e)
  where
    was_from : (o : Option Mark) → slice_get marks c ≡ o → option_map (woken cell) o ≡ Some n → (m : Mark) × (slice_get marks c ≡ Some m) × (woken cell m ≡ n)
    was_from None is e = absurd (cc)
    was_from (Some m) is e = (m, is, cc)

-- nothing changes where none waits
pub woken_none : (cell : ℕ) (marks : List Mark) → ((c : ℕ) → slice_get marks c ≡ Some (Waits cell) → ⊥) → all_woken cell marks ≡ marks
woken_none cell [] none = refl
woken_none cell (m ∷ ms) none = ap (λ n. n ∷ all_woken cell ms) (still m (λ same. none zero (ap (λ x. Some x) same))) ∙ ap (λ ns. m ∷ ns) (woken_none cell ms (λ c e. none (suc c) e))
  where
    still : (m : Mark) → (m ≡ Waits cell → ⊥) → woken cell m ≡ m
    still Ready no_ = refl
    still Done no_ = refl
    still (Waits other) no_ = waits_woken cell other (λ same. no_ (ap (λ u. Waits u) same))
    still (Faulty cause) no_ = refl

-- one that waits may be woken first
pub woken_set : (cell at : ℕ) (marks : List Mark) → slice_get marks at ≡ Some (Waits cell) → all_woken cell (set marks at Ready) ≡ all_woken cell marks
woken_set cell at [] e = absurd (cc)
woken_set cell zero (m ∷ ms) e = ap (λ n. n ∷ all_woken cell ms) (sym (same_woken cell) ∙ ap (λ n. woken cell n) (sym (some_is m (Waits cell) e)))
  where
    some_is : (m n : Mark) → Some m ≡ Some n → m ≡ n
    some_is m n e = cc
woken_set cell (suc at) (m ∷ ms) e = ap (λ ns. woken cell m ∷ ns) (woken_set cell at ms e)

mark_same : (m n : Mark) → Some m ≡ Some n → m ≡ n
mark_same m n e = cc

wait_same : (a b : ℕ) → ◌≡◌ {A = Mark} (Waits a) (Waits b) → a ≡ b
wait_same a b e = cc

-- one step along the list
pub record Stepped (marks : List Mark) (next : List ℕ) (unknown at : ℕ) : Type 0 where
  pub waits : slice_get marks at ≡ Some (Waits unknown)
  pub rest : IsWaking (set marks at Ready) next unknown (get_or next at 0)

pub waking_step : (marks : List Mark) (next : List ℕ) (unknown at : ℕ) → at ≢ list_end → IsWaking marks next unknown at → Stepped marks next unknown at
waking_step marks next unknown at more is = step_from is.cells is.linked is.all
  where
    step_from : (cells : List ℕ) → IsLinked marks next unknown at cells → ((c : ℕ) → slice_get marks c ≡ Some (Waits unknown) → is_in c cells ≡ true)
        → Stepped marks next unknown at
    step_from [] linked all = absurd (more linked)
    step_from (x ∷ xs) linked all =
        let stands : slice_get marks at ≡ Some (Waits unknown) = ap (λ k. slice_get marks k) (sym linked.0) ∙ linked.1 in
        let absent : is_in at xs ≡ false = ap (λ k. is_in k xs) (sym linked.0) ∙ linked.2 in
        record {
          waits = stands;
          rest = record {
            cells = xs;
            linked = linked_stays marks (set marks at Ready) next next unknown (get_or next at 0) xs
                (λ c e. get_set_other marks at c Ready (apart_in c at xs e absent) ∙ linked_waits marks next unknown (get_or next x 0) xs linked.3 c e)
                (λ c e. refl) (subst (λ (k : ℕ). IsLinked marks next unknown (get_or next k 0) xs) linked.0 linked.3);
            all = λ c e. elim (cases_eq c at) [
              | inl same ↦ absurd (ready_waits (mark_same Ready (Waits unknown) (sym (get_set_same marks at Ready (slice_get_within marks at (Waits unknown) stands)) ∙ (sym (ap (λ k. slice_get (set marks at Ready) k) same) ∙ e))))
              | inr differs ↦ elim (in_cons c x xs (all c (sym (get_set_other marks at c Ready differs) ∙ e))) [
                | inl front ↦ absurd (differs (front ∙ linked.0))
                | inr behind ↦ behind
              ]
            ];
          };
        }
      where
        ready_waits : Ready ≡ Waits unknown → ⊥
        ready_waits e = cc

-- at the end of the list none waits any more
pub waking_ends : (marks : List Mark) (next : List ℕ) (unknown at : ℕ) → at ≡ list_end → length marks ≤ list_end → IsWaking marks next unknown at
    → all_woken unknown marks ≡ marks
waking_ends marks next unknown at over few is = woken_none unknown marks (λ c e. none_from is.cells is.linked c (is.all c e))
  where
    none_from : (cells : List ℕ) → IsLinked marks next unknown at cells → (c : ℕ) → is_in c cells ≡ true → ⊥
    none_from [] linked c e = cc
    none_from (x ∷ xs) linked c e = let inside = slice_get_within marks x (Waits unknown) linked.1 in let first = linked.0 in absurd (omega arith)

-- the lists after an unknown got a value and those that waited for it were woken
pub woken_queue : (marks : List Mark) (ready rest first next : List ℕ) → IsQueue marks ready first next → (cell : ℕ) → slice_get marks cell ≡ Some Ready
    → IsReadyList (all_woken cell (set marks cell Done)) rest → IsQueue (all_woken cell (set marks cell Done)) rest first next
woken_queue marks ready rest first next is cell stands left =
    let inside : cell < length marks = slice_get_within marks cell Ready stands in
    let long : length (all_woken cell (set marks cell Done)) ≡ length marks = length-map (set marks cell Done) (woken cell) ∙ length-set marks cell Done in
    record {
      readies = left;
      firsts = is.firsts ∙ sym long;
      nexts = is.nexts ∙ sym long;
      few = let old = is.few in omega arith;
      waits = λ c u e.
          let was = was_waits c u e in
          let old = is.waits c u was.0 in
          (omega (arith, old.0), λ done. old.1 (was_done u was.1 done));
      lists = λ u within now.
          let apart : u ≢ cell = λ same. now (ap (λ k. slice_get (all_woken cell (set marks cell Done)) k) same ∙ woken_at cell cell (set marks cell Done) Done (get_set_same marks cell Done inside)) in
          waited_stays marks (all_woken cell (set marks cell Done)) next next u (get_or first u 0)
          (λ c other e. woken_at cell c (set marks cell Done) (Waits u) (get_set_other marks cell c Done (away c u e) ∙ e) ∙ ap (λ m. Some m) (waits_woken cell u apart))
          (λ c other e. refl)
          (λ c other e. (was_waits c u e).0)
          (is.lists u (omega arith) (λ done. now (woken_at cell u (set marks cell Done) Done (get_set_other marks cell u Done apart ∙ done))));
    }
  where
    ready_waits : (w : ℕ) → Waits w ≡ Ready → ⊥
    ready_waits w e = cc

    done_waits : (w : ℕ) → Done ≡ Waits w → ⊥
    done_waits w e = cc

    away : (c u : ℕ) → slice_get marks c ≡ Some (Waits u) → c ≢ cell
    away c u e same = ready_waits u (mark_same (Waits u) Ready (sym e ∙ (ap (λ k. slice_get marks k) same ∙ stands)))

    was_waits : (c u : ℕ) → slice_get (all_woken cell (set marks cell Done)) c ≡ Some (Waits u) → (slice_get marks c ≡ Some (Waits u)) × (u ≢ cell)
    was_waits c u e =
        let was = was_at cell c (set marks cell Done) (Waits u) e in
        let before = woken_waits cell u was.0 was.2 in
        let now : slice_get (set marks cell Done) c ≡ Some (Waits u) = was.1 ∙ ap (λ m. Some m) before.0 in
        elim (cases_eq c cell) [
          | inl same ↦ absurd (done_waits u (mark_same Done (Waits u) (sym (get_set_same marks cell Done (slice_get_within marks cell Ready stands)) ∙ (sym (ap (λ k. slice_get (set marks cell Done) k) same) ∙ now))))
          | inr differs ↦ (sym (get_set_other marks cell c Done differs) ∙ now, before.1)
        ]

    was_done : (u : ℕ) → u ≢ cell → slice_get (all_woken cell (set marks cell Done)) u ≡ Some Done → slice_get marks u ≡ Some Done
    was_done u apart e =
        let was = was_at cell u (set marks cell Done) Done e in
        sym (get_set_other marks cell u Done apart) ∙ (was.1 ∙ ap (λ m. Some m) (woken_done cell was.0 was.2))

-- one that waited for itself is ready
pub set_queue : (marks : List Mark) (ready first next : List ℕ) → IsQueue marks ready first next → (cell : ℕ) → slice_get marks cell ≡ Some (Waits cell)
    → IsQueue (set marks cell Ready) (ready ++ cell ∷ []) first next
set_queue marks ready first next is cell stands =
    let inside : cell < length marks = slice_get_within marks cell (Waits cell) stands in
    let long : length (set marks cell Ready) ≡ length marks = length-set marks cell Ready in
    record {
      readies = came_ready marks ready is.readies cell (Waits cell) stands (ready_waits cell);
      firsts = is.firsts ∙ sym long;
      nexts = is.nexts ∙ sym long;
      few = let old = is.few in omega arith;
      waits = λ c u e. let old = is.waits c u (was_waits c u e) in (omega (arith, old.0), λ done. old.1 (was_done u done));
      lists = λ u within now.
          waited_stays marks (set marks cell Ready) next next u (get_or first u 0)
          (λ c other e. get_set_other marks cell c Ready (λ same. other (same ∙ wait_same cell u (mark_same (Waits cell) (Waits u) (sym stands ∙ (sym (ap (λ k. slice_get marks k) same) ∙ e))))) ∙ e)
          (λ c other e. refl) (λ c other e. was_waits c u e)
          (is.lists u (omega arith) (λ done. now (get_set_other marks cell u Ready (λ same. done_waits (mark_same Done (Waits cell) (sym done ∙ (ap (λ k. slice_get marks k) same ∙ stands)))) ∙ done)));
    }
  where
    ready_waits : (w : ℕ) → Waits w ≡ Ready → ⊥
    ready_waits w e = cc

    waits_ready : (w : ℕ) → Ready ≡ Waits w → ⊥
    waits_ready w e = cc

    done_waits : Done ≡ Waits cell → ⊥
    done_waits e = cc

    ready_done : Ready ≡ Done → ⊥
    ready_done e = cc

    at_cell : slice_get (set marks cell Ready) cell ≡ Some Ready
    at_cell = get_set_same marks cell Ready (slice_get_within marks cell (Waits cell) stands)

    was_waits : (c u : ℕ) → slice_get (set marks cell Ready) c ≡ Some (Waits u) → slice_get marks c ≡ Some (Waits u)
    was_waits c u e = elim (cases_eq c cell) [
      | inl same ↦ absurd (waits_ready u (mark_same Ready (Waits u) (sym at_cell ∙ (sym (ap (λ k. slice_get (set marks cell Ready) k) same) ∙ e))))
      | inr differs ↦ sym (get_set_other marks cell c Ready differs) ∙ e
    ]

    was_done : (u : ℕ) → slice_get (set marks cell Ready) u ≡ Some Done → slice_get marks u ≡ Some Done
    was_done u e = elim (cases_eq u cell) [
      | inl same ↦ absurd (ready_done (mark_same Ready Done (sym at_cell ∙ (sym (ap (λ k. slice_get (set marks cell Ready) k) same) ∙ e))))
      | inr differs ↦ sym (get_set_other marks cell u Ready differs) ∙ e
    ]

-- no unknown is there yet
pub empty_queue : (marks : List Mark) (ready first next : List ℕ) → marks ≡ [] → ready ≡ [] → first ≡ [] → next ≡ [] → IsQueue marks ready first next
unfolding IsDistinct
empty_queue marks ready first next a b d e =
    subst (λ ms. IsQueue ms ready first next) (sym a) (subst (λ rs. IsQueue [] rs first next) (sym b)
    (subst (λ fs. IsQueue [] [] fs next) (sym d) (subst (λ ns. IsQueue [] [] [] ns) (sym e) none)))
  where
    distinct : IsDistinct nat_eq []
    distinct = tt

    false_true : {P : Type 0} → false ≡ true → P
    false_true e = absurd (cc)

    none_some : {P : Type 0} (m : Mark) → None ≡ Some m → P
    none_some m e = absurd (cc)

    none : IsQueue [] [] [] []
    none = record {
      readies = record { apart = distinct; each = λ c e. false_true e; every = λ c e. none_some Ready e };
      firsts = refl;
      nexts = refl;
      few = omega arith;
      waits = λ c u e. none_some (Waits u) e;
      lists = λ u within now. absurd (omega arith);
    }

-- the lists after an unknown came to wait for another one or itself
pub wait_queue : (marks marks_new : List Mark) (ready rest first first_new next next_new : List ℕ) → IsQueue marks ready first next → (cell w : ℕ) → slice_get marks cell ≡ Some Ready
    → w < length marks → slice_get marks w ≢ Some Done → IsReadyList marks_new rest → marks_new ≡ set marks cell (Waits w)
    → (w ≡ cell → (first_new ≡ first) × (next_new ≡ next)) → (w ≢ cell → first_new ≡ set first w cell) → (w ≢ cell → next_new ≡ set next cell (get_or first w 0))
    → IsQueue marks_new rest first_new next_new
wait_queue marks marks_new ready rest first first_new next next_new is cell w stands there open_ left marked itself first_is next_is =
    let left_now : IsReadyList (set marks cell (Waits w)) rest = subst (λ ms. IsReadyList ms rest) marked left in
    subst (λ ms. IsQueue ms rest first_new next_new) (sym marked) (elim (cases_eq w cell) [
      | inl same ↦ subst (λ fs. IsQueue (set marks cell (Waits w)) rest fs next_new) (sym (itself same).0)
          (subst (λ ns. IsQueue (set marks cell (Waits w)) rest first ns) (sym (itself same).1)
          (subst (λ (k : ℕ). IsQueue (set marks cell (Waits k)) rest first next) (sym same)
          (self_queue marks ready rest first next is cell stands (subst (λ (k : ℕ). IsReadyList (set marks cell (Waits k)) rest) same left_now))))
      | inr apart ↦ subst (λ fs. IsQueue (set marks cell (Waits w)) rest fs next_new) (sym (first_is apart))
          (subst (λ ns. IsQueue (set marks cell (Waits w)) rest (set first w cell) ns) (sym (next_is apart))
          (link_queue marks ready rest first next is cell stands w apart there open_ left_now))
    ])

-- the lists after the equation of an unknown gave a fault
pub fault_queue : (marks marks_new : List Mark) (ready rest first next : List ℕ) → IsQueue marks ready first next → (cell cause : ℕ) → slice_get marks cell ≡ Some Ready
    → IsReadyList marks_new rest → marks_new ≡ set marks cell (Faulty cause) → IsQueue marks_new rest first next
fault_queue marks marks_new ready rest first next is cell cause stands left marked =
    subst (λ ms. IsQueue ms rest first next) (sym marked)
    (idle_queue marks ready rest first next is cell stands (Faulty cause) (subst (λ ms. IsReadyList ms rest) marked left) faulty_done faulty_waits)
  where
    faulty_done : Faulty cause ≡ Done → ⊥
    faulty_done e = cc

    faulty_waits : (u : ℕ) → Faulty cause ≡ Waits u → ⊥
    faulty_waits u e = cc
