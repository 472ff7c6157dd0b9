-- What comes next in a sequence finds the bytes that it needs.
use Rattle.std.proofs.Common.{◌≡◌, ℕ, ◌+◌, ◌-◌, ◌*◌, ◌/◌, ◌≤◌, ◌&&◌, nat_eq, refl, ap, sym, subst, ◌∙◌, List, [], ◌∷◌, Bool, true, false, cond, Option, Some, None, Result, Ok, Err, arith}
use Rattle.dfdl_bits.specs.Window.{Held}
use Rattle.dfdl_paths.specs.declared.place.Start.TheVariants as start
use Rattle.dfdl_separators.specs.declared.course.Known.TheVariants.{Begun}
use Rattle.dfdl_separators.specs.declared.moves.SlotMove.{SlotMove}
use Rattle.dfdl_separators.specs.declared.moves.SlotMove.TheVariants.{TakeSeparator, Parse, Fail}
use Rattle.dfdl_separators.specs.declared.moves.SlotSeen.TheVariants as seen
use Rattle.dfdl_separators.specs.declared.policy.SeparatorPosition.{SeparatorPosition}
use Rattle.dfdl_separators.specs.declared.policy.SeparatorSuppressionPolicy.{SeparatorSuppressionPolicy}
use Rattle.dfdl_separators.specs.declared.progress.Progress.{Progress}
use Rattle.dfdl_separators.specs.declared.progress.Stage.TheVariants as stages
use Rattle.dfdl_separators.specs.declared.verdict.Here.{Here}
use Rattle.dfdl_separators.specs.declared.verdict.SlotRule.{SlotRule}
use Rattle.dfdl_separators.specs.declared.verdict.SlotRule.TheVariants.{Required, NeverMissing, TrailingMissing, AnyMissing}
use Rattle.dfdl_separators.specs.Courses.{course}
use Rattle.dfdl_separators.specs.Groups.{begun, ending, here_of, moved_by}
use Rattle.dfdl_separators.specs.Verdicts.{begins, is_past, missing, rule_of}
use Rattle.dfdl_terms.specs.declared.slots.Slot.{Slot}
use Rattle.dfdl_terms.specs.Rows.{Table}
use Rattle.dfdl_looks.specs.Tallies.{Tally, nothing, one_row}
use Rattle.dfdl_grammar.specs.declared.mark.Mark.{Mark}
use Rattle.dfdl_grammar.specs.States.{State}
use Rattle.dfdl_grammar.specs.Framing.{aligned}
use Rattle.dfdl_grammar.specs.Marks.{marked, outer_marks, pointed}
use Rattle.dfdl_grammar.specs.Questions.{question_at}
use Rattle.dfdl_grammar.specs.Occurrences.{as_occurrence}
use Rattle.dfdl_grammar.specs.Slots.{has_mark, is_taken_back, is_tried, opens_before}
use Rattle.dfdl_parse.specs.declared.frame.Coming.{Coming}
use Rattle.dfdl_parse.specs.declared.frame.Coming.TheVariants.{Past, Seeks, Parses, Counts, Aside, Lacks, Over}
use Rattle.dfdl_parse.specs.declared.frame.Frame.{Frame}
use Rattle.dfdl_parse.specs.declared.frame.Frame.TheVariants.{Before, Content}
use Rattle.dfdl_parse.specs.declared.frame.Focus.TheVariants.{Enter, LookIn}
use Rattle.dfdl_parse.specs.declared.frame.SlotPlace.{SlotPlace}
use Rattle.dfdl_parse.specs.Asking.{behind_question, count_told, given_by}
use Rattle.dfdl_parse.specs.Moves.{Move, pass}
use Rattle.dfdl_parse.specs.Opens.{AreNested, AreOpen, AreSuch, IsContent, Lie, NeedsFrom, before_at, before_points, first_at, outside_before, outside_slot, points_of, slot_at, slot_points}
use Rattle.dfdl_parse.specs.Slots.{begins_by, coming_from, comes, count_slots, counted_slots, enter_separated, first_here, first_in, first_of, first_row, first_told, goes_beside, goes_on, opened_at, or_next, sequence_ends, then_tried}

-- the bytes that are needed behind a step are held
abbrev pub IsLow : Move → Type 0
IsLow move = NeedsFrom move.held.base move.machine.focus move.machine.stack move.machine.state

-- what comes next has the stage of its frame, and its marks are open or not
abbrev pub IsReady : Coming → Type 0
IsReady (Past progress) = Unit {0}
IsReady (Seeks slot here) =
    ((slot.progress.stage ≡ stages.Before slot.rule) × (begins (here_of slot.progress slot.rule) ≡ true)) × (here_of slot.progress slot.rule ≡ here)
IsReady (Parses slot body) = (slot.progress.stage ≡ stages.Content slot.rule) × (opens_before (here_of slot.progress slot.rule) ≡ false)
IsReady (Counts slot question) = Unit {0}
IsReady (Aside slot body) = Unit {0}
IsReady Lacks = Unit {0}
IsReady Over = Unit {0}

no-second : (a b : Bool) → b ≡ false → (a && b) ≡ false
no-second true b is = is
no-second false b is = refl

missing-parse : (rule : SlotRule) → missing rule ≡ Parse → ⊥
missing-parse Required is = absurd (cc)
missing-parse NeverMissing is = absurd (cc)
missing-parse TrailingMissing is = absurd (cc)
missing-parse AnyMissing is = absurd (cc)

missing-takes : (rule : SlotRule) → missing rule ≡ TakeSeparator → ⊥
missing-takes Required is = absurd (cc)
missing-takes NeverMissing is = absurd (cc)
missing-takes TrailingMissing is = absurd (cc)
missing-takes AnyMissing is = absurd (cc)

takes-first : (rule : SlotRule) (past begin : Bool) → cond past (missing rule) (cond begin TakeSeparator Parse) ≡ TakeSeparator → begin ≡ true
takes-first rule true begin is = absurd (missing-takes rule is)
takes-first rule false true is = refl
takes-first rule false false is = absurd (cc)

parses-first : (rule : SlotRule) (past begin : Bool) → cond past (missing rule) (cond begin TakeSeparator Parse) ≡ Parse → begin ≡ false
parses-first rule true begin is = absurd (missing-parse rule is)
parses-first rule false true is = absurd (cc)
parses-first rule false false is = refl

begins-ready : (slot : SlotPlace) (own : Slot) (rule : SlotRule) (move : SlotMove) → course (here_of slot.progress rule) Begun ≡ move
    → IsReady (begins_by slot own rule (moved_by slot.progress rule Begun move) move)
begins-ready slot own rule TakeSeparator is =
    let here : Here = here_of slot.progress rule in
    ((refl, takes-first rule (is_past here) (begins here) is), refl)
begins-ready slot own rule Parse is =
    let here : Here = here_of slot.progress rule in
    (refl, no-second (is_taken_back rule) (begins here) (parses-first rule (is_past here) (begins here) is))
begins-ready slot own rule move is = tt

or-past : (p : Progress) (none : Bool) (coming : Coming) → IsReady coming → IsReady (cond none (Past p) coming)
or-past p true coming ready = tt
or-past p false coming ready = ready

first_of-ready : (slot : SlotPlace) (own : Slot) → IsReady (first_of slot own)
first_of-ready slot own =
    let rule : SlotRule = rule_of slot.progress.policy slot.optional (slot.optional && own.is_parsed) in
    or-past slot.progress (nat_eq slot.left 0) (begins_by slot own rule (moved_by slot.progress rule Begun (course (here_of slot.progress rule) Begun)) (course (here_of slot.progress rule) Begun))
    (begins-ready slot own rule (course (here_of slot.progress rule) Begun) refl)

next-ready : (coming : Coming) (more : Progress → Coming) → IsReady coming → ((p : Progress) → IsReady (more p)) → IsReady (or_next coming more)
next-ready (Past progress) more ready each = each progress
next-ready (Seeks slot here) more ready each = ready
next-ready (Parses slot body) more ready each = ready
next-ready (Counts slot question) more ready each = tt
next-ready (Aside slot body) more ready each = tt
next-ready Lacks more ready each = tt
next-ready Over more ready each = tt

tried-ready : (slot : SlotPlace) (own : Slot) (p : Progress) → IsReady (then_tried slot own p)
tried-ready slot own p =
    let tried : SlotPlace = record slot { optional = true; left = own.further; progress = p } in
    or-past p slot.optional (first_of tried own) (first_of-ready tried own)

here-ready : (slot : SlotPlace) (own : Slot) → IsReady (first_here slot own)
here-ready slot own = next-ready (first_of slot own) (then_tried slot own) (first_of-ready slot own) (tried-ready slot own)

told-ready : (slot : SlotPlace) (own : Slot) (question : Option ℕ) → IsReady (first_told slot own question)
told-ready slot own None = here-ready (record slot { optional = false; left = own.least }) own
told-ready slot own (Some question) = tt

row-ready : (slot : SlotPlace) (own : Slot) → IsReady (first_row slot own)
row-ready slot own = by own.is_slotless
  where
    by : (slotless : Bool) → IsReady (cond slotless (Aside (record slot { place = slot.place + 1 }) own.body) (first_told slot own own.question))
    by true = tt
    by false = told-ready slot own own.question

in-ready : (slots : List Slot) (slot : SlotPlace) → IsReady (first_in slot slots)
in-ready [] slot = tt
in-ready (own ∷ slots) slot =
    next-ready (first_row slot own) (λ p. first_in (record slot { place = slot.place + 1; progress = p }) slots) (row-ready slot own)
    (λ p. in-ready slots (record slot { place = slot.place + 1; progress = p }))

from-ready : (slot : SlotPlace) (own : Slot) (slots : List Slot) → IsReady (coming_from slot own slots)
from-ready slot own slots =
    next-ready (first_here slot own) (λ p. first_in (record slot { place = slot.place + 1; progress = p }) slots) (here-ready slot own)
    (λ p. in-ready slots (record slot { place = slot.place + 1; progress = p }))

pub first-le : (base at : ℕ) (marks : List Mark) → AreNested base at marks → first_at marks at ≤ at
first-le base at [] nested = omega arith
first-le base at (mark ∷ outer) nested = nested.1.0

module _ (cost : Tally) (held : Held) (initiated : Bool) (k : List Frame) (s : State) (low : held.base ≤ s.at / 8) (opens : AreOpen held.base s.at k s.marks) where
  -- the marks of a slot are opened here
  abbrev HasSlot : Here → State → Type 0
  HasSlot here t = AreSuch (slot_points here (points_of k)) held.base t.at t.marks × Lie (slot_at here t.marks t.at) k (outside_slot here t.marks)

  pub opened-low : (here : Here) → (held.base ≤ (opened_at initiated here s).at / 8) × HasSlot here (opened_at initiated here s)
  opened-low here = by (is_tried here.rule) (has_mark here)
    where
      by : (tried mark : Bool) → let t : State = cond tried (pointed initiated (cond mark (marked s) s)) s in
          (held.base ≤ t.at / 8)
          × (AreSuch (cond tried (true ∷ cond mark (false ∷ points_of k) (points_of k)) (points_of k)) held.base t.at t.marks
          × Lie (cond tried (cond mark (first_at (outer_marks t.marks) (first_at t.marks t.at)) (first_at t.marks t.at)) t.at) k
          (cond tried (cond mark (outer_marks (outer_marks t.marks)) (outer_marks t.marks)) t.marks))
      by true true = (
        low,
        (
          (
            ap (λ (points : List Bool). true ∷ false ∷ points) opens.0.0,
            (λ no_point. refl, (omega arith, (λ not_resolved. low, (λ no_point. refl, (omega arith, (λ not_resolved. low, opens.0.1)))))),
          ),
          opens.1,
        ),
      )
      by true false = (low, ((ap (λ (points : List Bool). true ∷ points) opens.0.0, (λ no_point. refl, (omega arith, (λ not_resolved. low, opens.0.1)))), opens.1))
      by false mark = (low, opens)

  seek-low : (slot : SlotPlace) (here : Here) → (slot.progress.stage ≡ stages.Before slot.rule) × (begins (here_of slot.progress slot.rule) ≡ true) → here_of slot.progress slot.rule ≡ here
      → (let t : State = cond (opens_before here) (opened_at initiated here s) s in
      (held.base ≤ aligned 8 t.at / 8) × AreOpen held.base t.at (Before slot ∷ k) t.marks)
  seek-low slot here stage is =
      let shown : (held.base ≤ (cond (opens_before here) (opened_at initiated here s) s).at / 8)
      × (AreSuch (before_points here (points_of k)) held.base (cond (opens_before here) (opened_at initiated here s) s).at (cond (opens_before here) (opened_at initiated here s) s).marks
      × Lie (before_at here (cond (opens_before here) (opened_at initiated here s) s).marks (cond (opens_before here) (opened_at initiated here s) s).at) k
      (outside_before here (cond (opens_before here) (opened_at initiated here s) s).marks)) = by (opens_before here) in
      let near = shown.0 in (
        omega arith,
        subst (λ (h : Here). AreSuch (before_points h (points_of k)) held.base (cond (opens_before here) (opened_at initiated here s) s).at (cond (opens_before here) (opened_at initiated here s) s).marks
            × (((slot.progress.stage ≡ stages.Before slot.rule) × (begins (here_of slot.progress slot.rule) ≡ true))
            × Lie (before_at h (cond (opens_before here) (opened_at initiated here s) s).marks (cond (opens_before here) (opened_at initiated here s) s).at) k
            (outside_before h (cond (opens_before here) (opened_at initiated here s) s).marks))) (sym is)
            (shown.1.0, (stage, shown.1.1)),
      )
    where
      by : (before : Bool) → let t : State = cond before (opened_at initiated here s) s in
          (held.base ≤ t.at / 8)
          × (AreSuch (cond before (slot_points here (points_of k)) (points_of k)) held.base t.at t.marks
          × Lie (cond before (slot_at here t.marks t.at) t.at) k (cond before (outside_slot here t.marks) t.marks))
      by true = opened-low here
      by false = (low, opens)

  -- a content begins, whose marks aren't open
  parse-low : (slot : SlotPlace) (body : ℕ) → slot.progress.stage ≡ stages.Content slot.rule → opens_before (here_of slot.progress slot.rule) ≡ false
      → (tried : Bool) → is_tried slot.rule ≡ tried
      → IsLow (cond tried (pass cost held (LookIn slot) k s)
      (pass cost held (Enter body) (Content slot s.at false ∷ k) (as_occurrence (is_tried slot.rule) s)))
  parse-low slot body stage before true tried =
      let here : Here = here_of slot.progress slot.rule in (
        low,
        (
          (stage, tried),
          subst (λ (b : Bool). AreSuch (cond b (slot_points here (points_of k)) (points_of k)) held.base s.at s.marks
              × Lie (cond b (slot_at here s.marks s.at) s.at) k (cond b (outside_slot here s.marks) s.marks)) (sym before) opens,
        ),
      )
  parse-low slot body stage before false tried =
      let here : Here = here_of slot.progress slot.rule in (
        low,
        subst (λ (b : Bool). AreSuch (cond b (true ∷ cond (has_mark here) (false ∷ points_of k) (points_of k)) (points_of k)) held.base s.at s.marks
            × (IsContent slot s.at false s.at s.marks
            × Lie (cond b (cond (has_mark here) (first_at (outer_marks s.marks) (first_at s.marks s.at)) (first_at s.marks s.at)) s.at) k
            (cond b (cond (has_mark here) (outer_marks (outer_marks s.marks)) (outer_marks s.marks)) s.marks))) (sym tried) (
              opens.0,
              (
                record {
                  stage = stage;
                  full = λ none. refl;
                  within = omega arith;
                  behind = first-le held.base s.at s.marks opens.0.1;
                  point = λ is none. absurd (cc);
                },
                opens.1,
              ),
            ),
      )

  end-low : (move : SlotMove) (last : ℕ) → IsLow (sequence_ends cost held move last k s)
  end-low (Fail fault) last = opens
  end-low move last = (low, opens)

  coming-low : (last : ℕ) (coming : Coming) → IsReady coming → IsLow (comes cost held initiated last coming k s)
  coming-low last (Past progress) ready = end-low (ending progress) last
  coming-low last (Seeks slot here) ready = seek-low slot here ready.0 ready.1
  coming-low last (Parses slot body) ready = parse-low slot body ready.0 ready.1 (is_tried slot.rule) refl
  coming-low last (Counts slot question) ready = (low, opens)
  coming-low last (Aside slot body) ready = (low, opens)
  coming-low last Lacks ready = opens
  coming-low last Over ready = (low, opens)

  pub goes-low : (slot : SlotPlace) (own : Slot) (slots : List Slot) → IsLow (goes_on cost held initiated slot own slots k s)
  goes-low slot own slots = coming-low slot.last (coming_from slot own slots) (from-ready slot own slots)

-- the sequence goes on behind a row without a slot
pub beside-low : (held : Held) (initiated : Bool) (k : List Frame) (s : State) → held.base ≤ s.at / 8 → AreOpen held.base s.at k s.marks
    → (slot : SlotPlace) (slots : List Slot) → IsLow (goes_beside held initiated slot slots k s)
beside-low held initiated k s low opens slot slots = coming-low nothing held initiated k s low opens slot.last (first_in slot slots) (in-ready slots slot)

-- it is asked how many slots of a row are required
counted-low : (held : Held) (initiated : Bool) (k : List Frame) (s : State) → held.base ≤ s.at / 8 → AreOpen held.base s.at k s.marks
    → (slot : SlotPlace) (own : Slot) (slots : List Slot) (count : Result (Option ℕ) ℕ) → IsLow (counted_slots held initiated slot own slots count k s)
counted-low held initiated k s low opens slot own slots (Ok (Some count)) =
    goes-low one_row held initiated k s low opens (record slot { optional = false; left = count }) own slots
counted-low held initiated k s low opens slot own slots (Ok None) = opens
counted-low held initiated k s low opens slot own slots (Err fault) = opens

pub count-low : (table : Table) (held : Held) (initiated : Bool) (k : List Frame) (s : State) → held.base ≤ s.at / 8 → AreOpen held.base s.at k s.marks
    → (slot : SlotPlace) (question : ℕ) (slots : List Slot) → IsLow (count_slots table held initiated slot question slots k s)
count-low table held initiated k s low opens slot question [] = (low, opens)
count-low table held initiated k s low opens slot question (own ∷ slots) =
    counted-low held initiated k (behind_question table (start.Inside s.inside) question s) low opens slot own slots
    (count_told (given_by table (start.Inside s.inside) (question_at table question) s))

pub separated-low : (held : Held) (initiated : Bool) (k : List Frame) (s : State) → held.base ≤ s.at / 8 → AreOpen held.base s.at k s.marks
    → (id : ℕ) (policy : SeparatorSuppressionPolicy) (position : SeparatorPosition) (slots : List Slot)
    → IsLow (enter_separated held id policy position initiated slots k s)
separated-low held initiated k s low opens id policy position slots =
    coming-low one_row held initiated k s low opens s.at
    (first_in (record { sequence = id; place = 0; optional = false; rule = Required; left = 0; progress = begun policy position; last = s.at }) slots)
    (in-ready slots (record { sequence = id; place = 0; optional = false; rule = Required; left = 0; progress = begun policy position; last = s.at }))
