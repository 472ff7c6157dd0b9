-- A task of the walk is done, or others stand in its place that come to the same.
use Rattle.std.proofs.Common.{◌≡◌, ℕ, suc, ◌+◌, ◌-◌, ◌<◌, ◌≤◌, List, [], ◌∷◌, ◌++◌, length, map, get_or, take, drop, All, sym, ap, subst, ◌∙◌, refl, arith, append_assoc, drop-cons, length-append, Result, Ok, Err, OnOk}
use Rattle.std.proofs.lemmas.List.{append-nil}
use Rattle.std.proofs.lemmas.List.Elements.{All-tail, All-cons}
use Rattle.std.proofs.Math.Seq.{take-append_seam, drop-append_seam}
use Rattle.dfdl_order.specs.Parts.{uses_of}
use Rattle.dfdl_order.proofs.Over.{value_step}
use Rattle.dfdl_terms.specs.declared.row.Row.{Row}
use Rattle.dfdl_rows.specs.Components.{Schema, component_at, slots_at, HasOrder}
use Rattle.dfdl_rows.specs.declared.component.Component.{Component}
use Rattle.dfdl_rows.specs.declared.times.Times.{Times}
use Rattle.dfdl_rows.specs.Sizes.{total, own_size, size_of}
use Rattle.dfdl_rows.specs.RowLists.{Numbered, own_rows, in_turn, last_rows, rows_at, rows_of}
use Rattle.dfdl_rows.specs.Walk.{Made, made, with_rows, entered, kept, closed, done, all_done, component_of, steps_from, steps_of, steps_left}
use Rattle.dfdl_rows.specs.declared.walk.Task.{Task}
use Rattle.dfdl_rows.specs.declared.walk.Task.TheVariants.{Enter, Close}
use Rattle.dfdl_rows.proofs.RowsOf.{rows_step, length_own, length_rows, length_lasts}
use Rattle.dfdl_rows.proofs.Parts.{parts_within}

-- first tasks and then others
pub done_first : (s : Schema) (t : Task) (ts : List Task) (m : Made) → all_done s (t ∷ ts) m ≡ all_done s ts (done s t m)
unfolding all_done
done_first s t ts m = refl

pub done_none : (s : Schema) (m : Made) → all_done s [] m ≡ m
unfolding all_done
done_none s m = refl

pub no_tasks : (ts : List Task) → length ts ≡ 0 → ts ≡ []
no_tasks [] none = refl
no_tasks (t ∷ ts) none = absurd (omega (arith, none))

-- the rows of parts are added, one part after the other
parts_done : (s : Schema) (ps : List ℕ) (ts : List Task) (rows : List Row) (lasts : List ℕ)
    → all_done s (map Enter ps ++ ts) (made rows lasts)
    ≡ all_done s ts (made (rows ++ in_turn (map (rows_at s) ps) (length rows)) (lasts ++ last_rows (map (rows_at s) ps) (length rows)))
parts_done s [] ts rows lasts =
    ap (λ (rs : List Row). all_done s ts (made rs lasts)) (sym (append-nil rows))
    ∙ ap (λ (ls : List ℕ). all_done s ts (made (rows ++ []) ls)) (sym (append-nil lasts))
parts_done s (p ∷ ps) ts rows lasts =
    let more : List Row = rows_at s p (length rows) in
    let others : List Numbered = map (rows_at s) ps in
    let n : ℕ = length rows + length more in
    let count : length (rows ++ more) ≡ n = length-append rows more in
    done_first s (Enter p) (map Enter ps ++ ts) (made rows lasts)
    ∙ (parts_done s ps ts (rows ++ more) (lasts ++ (length (rows ++ more) - 1) ∷ [])
    ∙ (ap (λ (k : ℕ). all_done s ts (made ((rows ++ more) ++ in_turn others k) ((lasts ++ (k - 1) ∷ []) ++ last_rows others k))) count
    ∙ (ap (λ (rs : List Row). all_done s ts (made rs ((lasts ++ (n - 1) ∷ []) ++ last_rows others n))) (append_assoc rows more (in_turn others n))
    ∙ ap (λ (ls : List ℕ). all_done s ts (made (rows ++ (more ++ in_turn others n)) ls)) (append_assoc lasts ((n - 1) ∷ []) (last_rows others n)))))

-- behind the rows of its parts, a component's own are all that is left of its rows
module _ (s : Schema) (ordered : HasOrder s.uses) (c : ℕ) (within : c < length s.uses) (rows : List Row) (lasts : List ℕ) where
  abbrev pub after : Made
  after = made (rows ++ in_turn (map (rows_at s) (uses_of s.uses c)) (length rows)) (lasts ++ last_rows (map (rows_at s) (uses_of s.uses c)) (length rows))

  kept_is : kept s c (lasts ++ last_rows (map (rows_at s) (uses_of s.uses c)) (length rows)) ≡ length lasts
  kept_is =
      let all : length (lasts ++ last_rows (map (rows_at s) (uses_of s.uses c)) (length rows)) ≡ length lasts + length (last_rows (map (rows_at s) (uses_of s.uses c)) (length rows))
      = length-append lasts (last_rows (map (rows_at s) (uses_of s.uses c)) (length rows)) in
      omega (arith, all, length_lasts (rows_at s) (uses_of s.uses c) (length rows))

  closed_is : closed s c after ≡ entered s c (made rows lasts)
  closed_is =
      let ps : List Numbered = map (rows_at s) (uses_of s.uses c) in
      let t : List Row = in_turn (map (rows_at s) (uses_of s.uses c)) (length rows) in
      let es : List ℕ = last_rows (map (rows_at s) (uses_of s.uses c)) (length rows) in
      let whole : rows_at s c (length rows) ≡ t ++ own_rows (component_at s.components c) (slots_at s c) es (length rows + length t)
      = ap (λ (f : Numbered). f (length rows)) (rows_step s ordered c within) in
      let final : List Row → Made = λ own. made ((rows ++ t) ++ own) (lasts ++ (length ((rows ++ t) ++ own) - 1) ∷ []) in
      ap (λ (k : ℕ). with_rows after (take k (lasts ++ es)) (own_rows (component_at s.components c) (slots_at s c) (drop k (lasts ++ es)) (length (rows ++ t)))) kept_is
      ∙ (ap (λ (ls : List ℕ). with_rows after ls (own_rows (component_at s.components c) (slots_at s c) (drop (length lasts) (lasts ++ es)) (length (rows ++ t)))) (take-append_seam lasts es)
      ∙ (ap (λ (ls : List ℕ). with_rows after lasts (own_rows (component_at s.components c) (slots_at s c) ls (length (rows ++ t)))) (drop-append_seam lasts es)
      ∙ (ap (λ (k : ℕ). with_rows after lasts (own_rows (component_at s.components c) (slots_at s c) es k)) (length-append rows t)
      ∙ (ap (λ (rs : List Row). made rs (lasts ++ (length rs - 1) ∷ [])) (append_assoc rows t (own_rows (component_at s.components c) (slots_at s c) es (length rows + length t)))
      ∙ ap (λ (rs : List Row). made (rows ++ rs) (lasts ++ (length (rows ++ rs) - 1) ∷ [])) (sym whole)))))

  pub enter_same : (ts : List Task) → all_done s (map Enter (uses_of s.uses c) ++ Close c ∷ ts) (made rows lasts) ≡ all_done s (Enter c ∷ ts) (made rows lasts)
  enter_same ts =
      parts_done s (uses_of s.uses c) (Close c ∷ ts) rows lasts
      ∙ (done_first s (Close c) ts after
      ∙ (ap (all_done s ts) closed_is
      ∙ sym (done_first s (Enter c) ts (made rows lasts))))

grows_by : (rows more : List Row) → length rows ≤ length (rows ++ more)
grows_by rows more = omega (arith, length-append rows more)

done_grows : (s : Schema) (t : Task) (m : Made) → length m.rows ≤ length (done s t m).rows
done_grows s (Enter c) m = grows_by m.rows (rows_at s c (length m.rows))
done_grows s (Close c) m = grows_by m.rows (own_rows (component_at s.components c) (slots_at s c) (drop (kept s c m.lasts) m.lasts) (length m.rows))

-- no row is taken back
pub all_done_grows : (s : Schema) (ts : List Task) (m : Made) → length m.rows ≤ length (all_done s ts m).rows
unfolding all_done
all_done_grows s [] m = omega arith
all_done_grows s (t ∷ ts) m =
    let one : length m.rows ≤ length (done s t m).rows = done_grows s t m in
    let others : length (done s t m).rows ≤ length (all_done s ts (done s t m)).rows = all_done_grows s ts (done s t m) in
    omega (arith, one, others)

steps_parts : (s : Schema) (ps : List ℕ) (ts : List Task) → steps_left s (map Enter ps ++ ts) ≡ total (map (λ p. steps_of s (Enter p)) ps) + steps_left s ts
steps_parts s [] ts = omega arith
steps_parts s (p ∷ ps) ts = omega (arith, steps_parts s ps ts)

enter_less : (s : Schema) → HasOrder s.uses → (c : ℕ) → c < length s.uses → (ts : List Task)
    → steps_left s (map Enter (uses_of s.uses c) ++ Close c ∷ ts) < steps_left s (Enter c ∷ ts)
enter_less s ordered c within ts =
    let step : steps_of s (Enter c) ≡ 2 + total (map (λ p. steps_of s (Enter p)) (uses_of s.uses c)) = value_step s.uses ordered.0 steps_from 0 ordered.1 c within in
    omega (arith, step, steps_parts s (uses_of s.uses c) (Close c ∷ ts))

-- one more task before the others, going back through parts
pub front_more : (f : ℕ → Task) (parts : List ℕ) (k at : ℕ) (now old base : List Task) → at ≡ suc k → k < length parts → now ≡ f (get_or parts k 0) ∷ old
    → old ≡ map f (drop at parts) ++ base → now ≡ map f (drop k parts) ++ base
front_more f parts k at now old base is less now_is old_is =
    now_is
    ∙ (ap (λ (ts : List Task). f (get_or parts k 0) ∷ ts) (old_is ∙ ap (λ (n : ℕ). map f (drop n parts) ++ base) is)
    ∙ ap (λ (ps : List ℕ). map f ps ++ base) (sym (drop-cons parts k 0 less)))

-- what follows where a call went well
pub on_ok : {A E : Type 0} (result : Result A E) (P Q : Type 0) → OnOk result P → (P → Q) → OnOk result Q
on_ok (Ok v) P Q holds follows = follows holds
on_ok (Err e) P Q holds follows = tt

enter_within : (s : Schema) (ps : List ℕ) (ts : List Task) → All (λ p. p < length s.uses) ps → All (λ t. component_of t < length s.uses) ts
    → All (λ t. component_of t < length s.uses) (map Enter ps ++ ts)
enter_within s [] ts all others = others
enter_within s (p ∷ ps) ts all others =
    All-cons (λ (t : Task). component_of t < length s.uses) (Enter p) (map Enter ps ++ ts) (all 0 p (omega arith))
    (enter_within s ps ts (All-tail (λ (q : ℕ). q < length s.uses) p ps all) others)

-- a task to enter a component, and those that are put in its place
module _ (s : Schema) (ordered : HasOrder s.uses) (task : Task) (c : ℕ) (is : task ≡ Enter c) (ts new : List Task)
    (all : All (λ t. component_of t < length s.uses) (task ∷ ts)) (new_is : new ≡ map Enter (uses_of s.uses c) ++ Close c ∷ ts) where
  inside : c < length s.uses
  inside = subst (λ (t : Task). component_of t < length s.uses) is (all 0 task (omega arith))

  pub entered_same : (rows : List Row) (lasts : List ℕ) → all_done s new (made rows lasts) ≡ all_done s (task ∷ ts) (made rows lasts)
  entered_same rows lasts =
      ap (λ (others : List Task). all_done s others (made rows lasts)) new_is
      ∙ (enter_same s ordered c inside rows lasts ts
      ∙ ap (λ (t : Task). all_done s (t ∷ ts) (made rows lasts)) (sym is))

  pub entered_within : All (λ t. component_of t < length s.uses) new
  entered_within =
      subst (λ (others : List Task). All (λ t. component_of t < length s.uses) others) (sym new_is)
      (enter_within s (uses_of s.uses c) (Close c ∷ ts) (parts_within s.uses ordered.0 ordered.1 c inside)
      (All-cons (λ (t : Task). component_of t < length s.uses) (Close c) ts inside (All-tail (λ (t : Task). component_of t < length s.uses) task ts all)))

  pub entered_less : steps_left s new < steps_left s (task ∷ ts)
  entered_less =
      let fewer : steps_left s new ≡ steps_left s (map Enter (uses_of s.uses c) ++ Close c ∷ ts) = ap (steps_left s) new_is in
      let whole : steps_left s (Enter c ∷ ts) ≡ steps_left s (task ∷ ts) = ap (λ (t : Task). steps_left s (t ∷ ts)) (sym is) in
      omega (arith, fewer, whole, enter_less s ordered c inside ts)

pub closed_same : (s : Schema) (task : Task) (c : ℕ) (ts : List Task) (new old : Made) → task ≡ Close c → new ≡ closed s c old
    → all_done s ts new ≡ all_done s (task ∷ ts) old
closed_same s task c ts new old is new_is =
    ap (all_done s ts) new_is ∙ (sym (done_first s (Close c) ts old) ∙ ap (λ (t : Task). all_done s (t ∷ ts) old) (sym is))

pub closed_few : (s : Schema) (task : Task) (c : ℕ) (ts : List Task) (m : Made) (most : ℕ) → task ≡ Close c → length (all_done s (task ∷ ts) m).rows < most
    → length (closed s c m).rows < most
closed_few s task c ts m most is few =
    let whole : length (all_done s (task ∷ ts) m).rows ≡ length (all_done s ts (closed s c m)).rows
    = ap (λ (t : Task). length (all_done s (t ∷ ts) m).rows) is ∙ ap (λ (n : Made). length n.rows) (done_first s (Close c) ts m) in
    omega (arith, whole, few, all_done_grows s ts (closed s c m))

-- there is room for the rows of a component's own
pub closed_room : (s : Schema) (c : ℕ) (component : Component) (slots : List Times) (m : Made) (most : ℕ) → component ≡ component_at s.components c
    → slots ≡ slots_at s c → length (closed s c m).rows < most → length m.rows + own_size component slots < most
closed_room s c component slots m most is slots_are few =
    let parts : List ℕ = drop (kept s c m.lasts) m.lasts in
    let whole : length (closed s c m).rows ≡ length m.rows + length (own_rows (component_at s.components c) (slots_at s c) parts (length m.rows))
    = length-append m.rows (own_rows (component_at s.components c) (slots_at s c) parts (length m.rows)) in
    let size : own_size component slots ≡ own_size (component_at s.components c) (slots_at s c)
    = ap (λ (k : Component). own_size k slots) is ∙ ap (own_size (component_at s.components c)) slots_are in
    omega (arith, whole, few, length_own (component_at s.components c) (slots_at s c) parts (length m.rows), size)

pub others_within : (n : ℕ) (task : Task) (ts : List Task) → All (λ t. component_of t < n) (task ∷ ts) → All (λ t. component_of t < n) ts
others_within n task ts all = All-tail (λ (t : Task). component_of t < n) task ts all

-- a walk from one component, with no rows yet
module _ (s : Schema) (root : ℕ) (tasks : List Task) (rows : List Row) (lasts : List ℕ)
    (tasks_are : tasks ≡ Enter root ∷ []) (no_rows_yet : rows ≡ []) (no_lasts_yet : lasts ≡ []) where
  root_done : all_done s tasks (made rows lasts) ≡ entered s root (made [] [])
  root_done =
      ap (λ (ts : List Task). all_done s ts (made rows lasts)) tasks_are
      ∙ (ap (λ (rs : List Row). all_done s (Enter root ∷ []) (made rs lasts)) no_rows_yet
      ∙ (ap (λ (ls : List ℕ). all_done s (Enter root ∷ []) (made [] ls)) no_lasts_yet
      ∙ (done_first s (Enter root) [] (made [] []) ∙ done_none s (entered s root (made [] [])))))

  pub root_few : HasOrder s.uses → root < length s.uses → (most : ℕ) → size_of s root < most → length (all_done s tasks (made rows lasts)).rows < most
  root_few ordered within most few =
      let whole : length (all_done s tasks (made rows lasts)).rows ≡ length (rows_at s root 0) = ap (λ (m : Made). length m.rows) root_done in
      omega (arith, whole, few, length_rows s ordered root within 0)

  pub root_rows : (all : List Row) (ends : List ℕ) → made all ends ≡ all_done s tasks (made rows lasts) → all ≡ rows_of s root
  root_rows all ends is = ap (λ (m : Made). m.rows) (is ∙ root_done)
