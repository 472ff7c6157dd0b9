-- What waits in a slot leaves the bytes that are needed.
use Rattle.std.proofs.Common.{◌≡◌, ◌⊎◌, inl, inr, ℕ, ◌+◌, ◌-◌, ◌*◌, ◌/◌, ◌≤◌, refl, ap, sym, subst, ◌∙◌, List, [], ◌∷◌, drop, map, Bool, true, false, cond, None, arith}
use Rattle.dfdl_bits.specs.Window.{Held}
use Rattle.dfdl_separators.specs.declared.course.Known.TheVariants.{Occurred}
use Rattle.dfdl_separators.specs.declared.moves.SlotMove.{SlotMove}
use Rattle.dfdl_separators.specs.declared.moves.SlotMove.TheVariants.{TakeSeparator, LookForSeparator, Parse, Keep, Drop, EndArray, EndGroup, Fail}
use Rattle.dfdl_separators.specs.declared.moves.SlotSeen.TheVariants as seen
use Rattle.dfdl_separators.specs.declared.progress.Progress.{Progress}
use Rattle.dfdl_separators.specs.declared.progress.Stage.TheVariants as stages
use Rattle.dfdl_separators.specs.declared.verdict.Here.{Here}
use Rattle.dfdl_separators.specs.declared.verdict.Tried.{Tried}
use Rattle.dfdl_separators.specs.Courses.{course}
use Rattle.dfdl_separators.specs.Groups.{group_after, here_of, move_at, moved_by}
use Rattle.dfdl_separators.specs.declared.verdict.SlotRule.{SlotRule}
use Rattle.dfdl_separators.specs.declared.verdict.SlotRule.TheVariants.{Required, NeverMissing, TrailingMissing, AnyMissing}
use Rattle.dfdl_separators.specs.Verdicts.{ends, outcome, outcome_of}
use Rattle.dfdl_terms.specs.declared.slots.Slot.{Slot}
use Rattle.dfdl_looks.specs.Tallies.{nothing}
use Rattle.dfdl_grammar.specs.declared.end.End.{End}
use Rattle.dfdl_grammar.specs.declared.end.End.TheVariants.{Done, Failed, Stopped}
use Rattle.dfdl_grammar.specs.declared.mark.Mark.{Mark}
use Rattle.dfdl_grammar.specs.States.{State}
use Rattle.dfdl_grammar.specs.Marks.{back, back_among, closed, is_settled, outer_marks}
use Rattle.dfdl_grammar.specs.Slots.{closed_slot, emptied, has_mark, is_blank, is_taken_back, is_tried, taken_back}
use Rattle.dfdl_grammar.specs.Framing.{aligned}
use Rattle.dfdl_parse.specs.declared.frame.Frame.{Frame}
use Rattle.dfdl_parse.specs.declared.frame.Frame.TheVariants.{Closing}
use Rattle.dfdl_parse.specs.declared.frame.Focus.TheVariants.{LookBehind}
use Rattle.dfdl_parse.specs.declared.frame.SlotPlace.{SlotPlace}
use Rattle.dfdl_parse.specs.Opens.{AreNested, AreOpen, AreSuch, IsContent, Lie, NeedsBehind, NeedsFrom, first_at, outside_slot, points_of, slot_at, slot_points}
use Rattle.dfdl_parse.specs.Slots.{cause_of, content_ended, decide}
use Rattle.dfdl_parse.proofs.Opens.{lie-later, nested-later, slot-later}
use Rattle.dfdl_parse.proofs.SlotLows.{IsLow, first-le, goes-low}
use Rattle.dfdl_parse.proofs.SlotVerdicts.{Says, StaysOrOpen, blank-of, occurred-says, stuck-of}

-- the first of some marks is closed
such-closed : (point : Bool) (points : List Bool) (base at : ℕ) (marks : List Mark) → AreSuch (point ∷ points) base at marks → AreSuch points base at (outer_marks marks)
such-closed point points base at [] such = absurd (cc)
such-closed point points base at (mark ∷ outer) such = (ap (drop 1) such.0, nested-later base mark.at at outer such.1.1.0 such.1.1.1.1)

two-le : (base at : ℕ) (marks : List Mark) → AreNested base at marks → first_at (outer_marks marks) (first_at marks at) ≤ at
two-le base at [] nested = omega arith
two-le base at (mark ∷ outer) nested = let less = first-le base mark.at outer nested.1.1.1 in let here = nested.1.0 in omega arith

module _ (base : ℕ) (k : List Frame) (here : Here) where
  -- the marks of a slot are open
  pub record HasSlot (t : State) : Type 0 where
    pub such : AreSuch (slot_points here (points_of k)) base t.at t.marks
    pub lies : Lie (slot_at here t.marks t.at) k (outside_slot here t.marks)

  pub close-low : (t : State) → HasSlot t → (base ≤ t.at / 8 → base ≤ (closed_slot here t).at / 8) × AreOpen base (closed_slot here t).at k (closed_slot here t).marks
  close-low t has = by (is_tried here.rule) (has_mark here) has.such has.lies
    where
      by : (tried mark : Bool)
          → AreSuch (cond tried (true ∷ cond mark (false ∷ points_of k) (points_of k)) (points_of k)) base t.at t.marks
          → Lie (cond tried (cond mark (first_at (outer_marks t.marks) (first_at t.marks t.at)) (first_at t.marks t.at)) t.at) k
          (cond tried (cond mark (outer_marks (outer_marks t.marks)) (outer_marks t.marks)) t.marks)
          → (let u : State = cond tried (cond mark (closed (closed t)) (closed t)) t in (base ≤ t.at / 8 → base ≤ u.at / 8) × AreOpen base u.at k u.marks)
      by true true such lies = (
        λ low. low,
        (
          such-closed false (points_of k) base t.at (outer_marks t.marks) (such-closed true (false ∷ points_of k) base t.at t.marks such),
          lie-later (first_at (outer_marks t.marks) (first_at t.marks t.at)) t.at k (outer_marks (outer_marks t.marks)) (two-le base t.at t.marks such.1) lies,
        ),
      )
      by true false such lies = (
        λ low. low,
        (
          such-closed true (points_of k) base t.at t.marks such,
          lie-later (first_at t.marks t.at) t.at k (outer_marks t.marks) (first-le base t.at t.marks such.1) lies,
        ),
      )
      by false mark such lies = (λ low. low, (such, lies))

  -- a slot that is tried is gone back to
  back-low : (s : State) (marks : List Mark) → s.marks ≡ marks → is_tried here.rule ≡ true → HasSlot (record s { marks = marks }) → HasSlot (record (back_among marks s) { marks = marks })
  back-low s [] is tried has = has
  back-low s (mark ∷ outer) is tried has = record {
    such = (has.such.0, (has.such.1.0, (omega arith, has.such.1.1.1)));
    lies = by (is_tried here.rule) (has_mark here) tried has.lies;
  }
    where
      by : (t m : Bool) → t ≡ true
          → Lie (cond t (cond m (first_at outer mark.at) mark.at) s.at) k (cond t (cond m (outer_marks outer) outer) (mark ∷ outer))
          → Lie (cond t (cond m (first_at outer mark.at) mark.at) mark.at) k (cond t (cond m (outer_marks outer) outer) (mark ∷ outer))
      by true m so lies = lies
      by false m so lies = absurd (cc)

-- the marks of a state that is gone back to are those that were open
back-marks : (s : State) (marks : List Mark) → s.marks ≡ marks → (back_among marks s).marks ≡ marks
back-marks s [] is = is
back-marks s (mark ∷ outer) is = is

pub back-has : (base : ℕ) (k : List Frame) (here : Here) (s : State) → is_tried here.rule ≡ true → HasSlot base k here s → HasSlot base k here (back s)
back-has base k here s tried has =
    let there : HasSlot base k here (record (back s) { marks = s.marks }) = back-low base k here s s.marks refl tried has in
    let marks_are : (back s).marks ≡ s.marks = back-marks s s.marks refl in
    record {
      such = subst (λ (ms : List Mark). AreSuch (slot_points here (points_of k)) base (back s).at ms) (sym marks_are) there.such;
      lies = subst (λ (ms : List Mark). Lie (slot_at here ms (back s).at) k (outside_slot here ms)) (sym marks_are) there.lies;
    }

-- and where a bit behind comes next
further-has : (base : ℕ) (k : List Frame) (here : Here) (s : State) (bit : ℕ) → is_tried here.rule ≡ true → s.at ≤ bit → HasSlot base k here s
    → HasSlot base k here (record s { at = bit })
further-has base k here s bit tried less has = record {
  such = (has.such.0, nested-later base s.at bit s.marks less has.such.1);
  lies = lie-later (slot_at here s.marks s.at) (slot_at here s.marks bit) k (outside_slot here s.marks) (slot-later here s.at bit s.marks less) has.lies;
}

-- the bit of the innermost mark, where it is gone back to
pub back-at : (s : State) (marks : List Mark) → (back_among marks s).at ≡ first_at marks s.at
back-at s [] = refl
back-at s (mark ∷ outer) = refl

-- where its point isn't resolved, or another mark is open around it, the bytes of a slot are held
module _ (base : ℕ) (k : List Frame) (here : Here) (at : ℕ) where
  pub unresolved-low : (marks : List Mark) → is_tried here.rule ≡ true → AreSuch (slot_points here (points_of k)) base at marks → is_settled marks ≡ false
      → base ≤ first_at marks at / 8
  unresolved-low marks tried such settled = by (is_tried here.rule) tried (cond (has_mark here) (false ∷ points_of k) (points_of k)) marks such settled
    where
      by : (t : Bool) → t ≡ true → (points : List Bool) (ms : List Mark) → AreSuch (cond t (true ∷ points) (points_of k)) base at ms → is_settled ms ≡ false
          → base ≤ first_at ms at / 8
      by true so points [] such settled = absurd (cc)
      by true so points (mark ∷ outer) such settled = such.1.1.1.0 settled
      by false so points ms such settled = absurd (cc)

  pub marked-low : (marks : List Mark) → is_tried here.rule ≡ true → has_mark here ≡ true → AreSuch (slot_points here (points_of k)) base at marks
      → base ≤ first_at marks at / 8
  marked-low marks tried marked such = by (is_tried here.rule) (has_mark here) tried marked marks such
    where
      point : (b : Bool) (xs ys : List Bool) → ◌≡◌ {A = List Bool} (b ∷ xs) (false ∷ ys) → b ≡ false
      point b xs ys same = cc

      inner : (mark : Mark) (ms : List Mark) → AreNested base mark.at ms → map (λ m. m.is_point) ms ≡ false ∷ points_of k → base ≤ mark.at / 8
      inner mark [] nested same = absurd (cc)
      inner mark (outer ∷ rest) nested same =
          let no_point : outer.is_point ≡ false = point outer.is_point (map (λ m. m.is_point) rest) (points_of k) same in
          let low : base ≤ outer.at / 8 = nested.1.1.0 (nested.0 no_point) in
          let less : outer.at ≤ mark.at = nested.1.0 in
          omega arith

      by : (t m : Bool) → t ≡ true → m ≡ true → (ms : List Mark) → AreSuch (cond t (true ∷ cond m (false ∷ points_of k) (points_of k)) (points_of k)) base at ms
          → base ≤ first_at ms at / 8
      by true true so also [] such = absurd (cc)
      by true true so also (mark ∷ outer) such = inner mark outer such.1.1.1.1 (ap (drop 1) such.0)
      by true false so also ms such = absurd (cc)
      by false m so also ms such = absurd (cc)

-- the innermost mark of a slot is that of its point, wherever parsing is
point-within : (k : List Frame) (base at bit : ℕ) (t : Bool) → t ≡ true → (points : List Bool) (ms : List Mark)
    → AreSuch (cond t (true ∷ points) (points_of k)) base at ms → first_at ms bit ≤ bit → first_at ms at ≤ bit
point-within k base at bit true so points [] such less = absurd (cc)
point-within k base at bit true so points (mark ∷ outer) such less = less
point-within k base at bit false so points ms such less = absurd (cc)

pub point-behind : (k : List Frame) (base at bit : ℕ) (t : Bool) → t ≡ true → (points : List Bool) (ms : List Mark)
    → AreSuch (cond t (true ∷ points) (points_of k)) base at ms → bit ≤ first_at ms bit → bit ≤ first_at ms at
point-behind k base at bit true so points [] such less = absurd (cc)
point-behind k base at bit true so points (mark ∷ outer) such less = less
point-behind k base at bit false so points ms such less = absurd (cc)

pub taken-tried : (rule : SlotRule) → is_taken_back rule ≡ true → is_tried rule ≡ true
taken-tried Required is = absurd (cc)
taken-tried NeverMissing is = absurd (cc)
taken-tried TrailingMissing is = refl
taken-tried AnyMissing is = refl

-- the end of a row, by whether it failed
pub end-low : (base : ℕ) (end : End) (k : List Frame) (t : State) → (cause_of end ≡ None → base ≤ t.at / 8) → AreOpen base t.at k t.marks → NeedsBehind base end k t
end-low base Done k t low opens = (low refl, opens)
end-low base (Failed cause bit) k t low opens = opens
end-low base (Stopped cause quantity) k t low opens = tt

-- the occurrence of a slot has come to an end
module _ (held : Held) (initiated : Bool) (slot : SlotPlace) (bit : ℕ) (empty : Bool) (k : List Frame) (s : State)
    (content : IsContent slot bit empty s.at s.marks) (has : HasSlot held.base k (here_of slot.progress slot.rule) s)
    (moved : Bool) (end : End) (done : cause_of end ≡ None → held.base ≤ s.at / 8) (stays : cause_of end ≡ None → moved ≡ false → s.at ≤ bit) where
  abbrev here : Here
  here = here_of slot.progress slot.rule

  abbrev resolved : Bool
  resolved = is_settled s.marks

  abbrev tried : Tried
  tried = record { moved = moved; empty = empty; failure = cause_of end; resolved = resolved }

  abbrev inner : List Bool
  inner = cond (has_mark here) (false ∷ points_of k) (points_of k)

  within : is_tried slot.rule ≡ true → first_at s.marks s.at ≤ bit
  within is = point-within k held.base s.at bit (is_tried slot.rule) is inner s.marks has.such content.behind

  back-first : (back s).at ≡ first_at s.marks s.at
  back-first = back-at s s.marks

  -- the content's bit is held
  bit-low : is_tried slot.rule ≡ true → StaysOrOpen (cause_of end) moved resolved → held.base ≤ bit / 8
  bit-low is (inl there) = let low = done there.0 in let less = stays there.0 there.1 in omega arith
  bit-low is (inr not_resolved) =
      let low = unresolved-low held.base k here s.at s.marks is has.such not_resolved in let less = within is in omega arith

  -- and the bit of the slot's point
  first-low : is_tried slot.rule ≡ true → StaysOrOpen (cause_of end) moved resolved → (mark : Bool) → has_mark here ≡ mark → held.base ≤ first_at s.marks s.at / 8
  first-low is which true marked = marked-low held.base k here s.at s.marks is marked has.such
  first-low is (inl there) false marked =
      let low = done there.0 in
      let less = stays there.0 there.1 in
      let point = point-behind k held.base s.at bit (is_tried slot.rule) is inner s.marks has.such (content.point is marked) in
      omega arith
  first-low is (inr not_resolved) false marked = unresolved-low held.base k here s.at s.marks is has.such not_resolved

  point-low : is_tried slot.rule ≡ true → StaysOrOpen (cause_of end) moved resolved → held.base ≤ (back s).at / 8
  point-low is which = subst (λ (n : ℕ). held.base ≤ n / 8) (sym back-first) (first-low is which (has_mark here) refl)

  blank-tried : empty ≡ true → (t : Bool) → is_tried slot.rule ≡ t → is_tried slot.rule ≡ true
  blank-tried full true is = is
  blank-tried full false is = let none : empty ≡ false = content.full is in absurd (cc)

  emptied-has : is_tried slot.rule ≡ true → HasSlot held.base k here (emptied bit s)
  emptied-has is =
      further-has held.base k here (back s) bit is (subst (λ (n : ℕ). n ≤ bit) (sym back-first) (within is)) (back-has held.base k here s is has)

  emptied-marks : (emptied bit s).marks ≡ s.marks
  emptied-marks = back-marks s s.marks refl

  -- the progress in which the occurrence was parsed, and that behind it
  abbrev staged : Progress
  staged = record slot.progress { stage = stages.Content slot.rule }

  abbrev after : SlotMove → Progress
  after move = moved_by staged slot.rule (Occurred tried) move

  seeks-low : (blank : Bool) → is_blank (outcome_of tried) ≡ blank → ends here ≡ true → (cause_of end ≡ None) ⊎ (is_blank (outcome_of tried) ≡ true)
      → (let t : State = cond blank (emptied bit s) s in
      (held.base ≤ aligned 8 t.at / 8) × AreOpen held.base t.at (Closing (record slot { progress = after TakeSeparator }) bit ∷ k) t.marks)
  seeks-low true is closes which =
      let facts = blank-of moved empty (cause_of end) resolved is in
      let tried_is = blank-tried facts.0 (is_tried slot.rule) refl in
      let low = bit-low tried_is facts.1 in
      let there = emptied-has tried_is in
      (omega arith, (there.such, (record { tried = tried; stage = refl; closes = closes }, there.lies)))
  seeks-low false is closes (inl none) =
      let low = done none in (omega arith, (has.such, (record { tried = tried; stage = refl; closes = closes }, has.lies)))
  seeks-low false is closes (inr blank) = absurd (cc)

  looks-low : (blank : Bool) → is_blank (outcome_of tried) ≡ blank → is_blank (outcome_of tried) ≡ true
      → (let t : State = cond blank (emptied bit s) s in NeedsFrom held.base (LookBehind (record slot { progress = after LookForSeparator }) bit) k t)
  looks-low true is says =
      let facts = blank-of moved empty (cause_of end) resolved is in
      let tried_is = blank-tried facts.0 (is_tried slot.rule) refl in
      let there = emptied-has tried_is in (
        bit-low tried_is facts.1,
        (
          record {
            tried = tried;
            stage = refl;
            here = omega arith;
            point = λ so none. subst (λ (ms : List Mark). bit ≤ first_at ms bit) (sym emptied-marks) (content.point so none);
          },
          (there.such, there.lies),
        ),
      )
  looks-low false is says = absurd (cc)

  decide-low : (own : Slot) (slots : List Slot) (blank : Bool) → is_blank (outcome_of tried) ≡ blank → (move : SlotMove) → Says here tried move
      → IsLow (decide held initiated slot bit own slots blank (after move) move end k s)
  decide-low own slots blank is Keep says =
      let shut = close-low held.base k here s has in
      goes-low nothing held initiated k (closed_slot here s) (shut.0 (done says)) shut.1 (record slot { progress = after Keep; last = bit }) own slots
  decide-low own slots blank is Drop says =
      let facts = blank-of moved empty (cause_of end) resolved says in
      let tried_is = blank-tried facts.0 (is_tried slot.rule) refl in
      let shut = close-low held.base k here (emptied bit s) (emptied-has tried_is) in
      goes-low nothing held initiated k (closed_slot here (emptied bit s)) (shut.0 (bit-low tried_is facts.1)) shut.1
      (record slot { progress = after Drop; last = bit }) own slots
  decide-low own slots blank is EndArray says =
      let which = stuck-of moved empty (cause_of end) resolved says.1 in
      let tried_is = taken-tried slot.rule says.0 in
      let shut = close-low held.base k here (back s) (back-has held.base k here s tried_is has) in
      goes-low nothing held initiated k (taken_back here s) (shut.0 (point-low tried_is which)) shut.1
      (record slot { progress = after EndArray; left = 0 }) own slots
  decide-low own slots blank is (Fail fault) says =
      let shut = close-low held.base k here s has in end-low held.base end k (closed_slot here s) (λ none. shut.0 (done none)) shut.1
  decide-low own slots blank is TakeSeparator says = seeks-low blank is says.0 says.1
  decide-low own slots blank is LookForSeparator says = looks-low blank is says
  decide-low own slots blank is Parse says = absurd says
  decide-low own slots blank is EndGroup says = absurd says

  pub content-low : (slots : List Slot) → IsLow (content_ended held initiated slot bit empty slots moved (cause_of end) end k s)
  content-low [] =
      let shut = close-low held.base k here s has in end-low held.base end k (closed_slot here s) (λ none. shut.0 (done none)) shut.1
  content-low (own ∷ slots) =
      let path : slot.progress ≡ staged = λ i. record slot.progress { stage = content.stage i } in
      subst (λ (p : Progress). IsLow (decide held initiated slot bit own slots (is_blank (outcome moved empty (cause_of end) resolved))
      (group_after p (seen.Ended moved empty (cause_of end) resolved)) (move_at p (seen.Ended moved empty (cause_of end) resolved)) end k s)) (sym path)
      (decide-low own slots (is_blank (outcome_of tried)) refl (course here (Occurred tried)) (occurred-says here tried))
