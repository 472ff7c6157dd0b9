-- The begin of a slot, and the questions of it, leave the bytes that are needed.
use Rattle.std.proofs.Common.{◌≡◌, ◌⊎◌, inl, ℕ, ◌+◌, ◌-◌, ◌*◌, ◌/◌, ◌≤◌, ◌&&◌, ◌||◌, refl, ap, sym, subst, ◌∙◌, List, [], ◌∷◌, length, Bool, true, false, cond, arith}
use Rattle.dfdl_bits.specs.Window.{Held, from_byte, seen_at}
use Rattle.dfdl_report.specs.declared.cause.ParseCause.{ParseCause}
use Rattle.dfdl_separators.specs.declared.moves.SlotSeen.TheVariants as seen
use Rattle.dfdl_separators.specs.declared.progress.Progress.{Progress}
use Rattle.dfdl_separators.specs.declared.progress.Stage.TheVariants as stages
use Rattle.dfdl_separators.specs.declared.verdict.Here.{Here}
use Rattle.dfdl_separators.specs.declared.verdict.SlotRule.{SlotRule}
use Rattle.dfdl_separators.specs.declared.verdict.SlotRule.TheVariants.{Required, NeverMissing, TrailingMissing, AnyMissing}
use Rattle.dfdl_separators.specs.Groups.{group_after, here_of, move_at}
use Rattle.dfdl_separators.specs.Verdicts.{begins, ends, missing}
use Rattle.dfdl_terms.specs.declared.delimiters.Delimiters.{Delimiters}
use Rattle.dfdl_terms.specs.declared.slots.Slot.{Slot}
use Rattle.dfdl_looks.specs.Asks.{Reached, Told, TooFar, Missing, ask}
use Rattle.dfdl_looks.specs.Tallies.{Tally, needs_from, nothing}
use Rattle.dfdl_grammar.specs.declared.end.End.{End}
use Rattle.dfdl_grammar.specs.declared.end.End.TheVariants.{Done, Failed}
use Rattle.dfdl_grammar.specs.declared.limits.Limits.{Limits}
use Rattle.dfdl_grammar.specs.States.{State, anchor}
use Rattle.dfdl_grammar.specs.Delimiters.{lists_of, markup}
use Rattle.dfdl_grammar.specs.Marks.{back, marked, outer_marks, pointed}
use Rattle.dfdl_grammar.specs.Occurrences.{as_occurrence}
use Rattle.dfdl_grammar.specs.Slots.{closed_slot, has_mark, is_empty_at, is_taken_back, is_tried, opens_before, separator_follows, taken_back}
use Rattle.dfdl_parse.specs.declared.frame.Frame.{Frame}
use Rattle.dfdl_parse.specs.declared.frame.Frame.TheVariants.{Before, Content}
use Rattle.dfdl_parse.specs.declared.frame.Focus.{Focus}
use Rattle.dfdl_parse.specs.declared.frame.Focus.TheVariants.{Enter, LookIn, LookBehind}
use Rattle.dfdl_parse.specs.declared.frame.SlotPlace.{SlotPlace}
use Rattle.dfdl_parse.specs.Moves.{Move, pass}
use Rattle.dfdl_parse.specs.Opens.{AreOpen, AreSuch, IsAsking, IsContent, Lie, NeedsFrom, before_at, before_points, first_at, outside_before, outside_slot, points_of, slot_at, slot_points}
use Rattle.dfdl_parse.specs.Slots.{before_done, before_failed, content_begins, goes_on, look_behind, look_in, occurs, opened_at, settled, told_move, without_separator}
use Rattle.dfdl_parse.proofs.Finishes.{Anchored}
use Rattle.dfdl_parse.proofs.Opens.{nested-risen}
use Rattle.dfdl_parse.proofs.SlotLows.{IsLow, first-le, goes-low, opened-low}
use Rattle.dfdl_parse.proofs.SlotBacks.{HasSlot, back-at, back-has, close-low, marked-low, point-behind, taken-tried}
use Rattle.dfdl_parse.proofs.SlotCloses.{settled-low}

-- the marks that are open while the separator is sought that a slot begins with
pub record HasBefore (base : ℕ) (k : List Frame) (here : Here) (t : State) : Type 0 where
  pub such : AreSuch (before_points here (points_of k)) base t.at t.marks
  pub lies : Lie (before_at here t.marks t.at) k (outside_before here t.marks)

-- they are those of the slot, or none
opens-has : (base : ℕ) (k : List Frame) (here : Here) (t : State) → HasBefore base k here t → opens_before here ≡ true → HasSlot base k here t
opens-has base k here t has is = record {
  such = subst (λ (b : Bool). AreSuch (cond b (slot_points here (points_of k)) (points_of k)) base t.at t.marks) is has.such;
  lies = subst (λ (b : Bool). Lie (cond b (slot_at here t.marks t.at) t.at) k (cond b (outside_slot here t.marks) t.marks)) is has.lies;
}

none-has : (base : ℕ) (k : List Frame) (here : Here) (t : State) → HasBefore base k here t → opens_before here ≡ false → AreOpen base t.at k t.marks
none-has base k here t has is = (
  subst (λ (b : Bool). AreSuch (cond b (slot_points here (points_of k)) (points_of k)) base t.at t.marks) is has.such,
  subst (λ (b : Bool). Lie (cond b (slot_at here t.marks t.at) t.at) k (cond b (outside_slot here t.marks) t.marks)) is has.lies,
)

first-and : (a b : Bool) → a ≡ false → (a && b) ≡ false
first-and true b is = absurd (cc)
first-and false b is = refl

first-or : (a b : Bool) → a ≡ true → (a || b) ≡ true
first-or true b is = refl
first-or false b is = absurd (cc)

not-back : (rule : SlotRule) → is_tried rule ≡ false → is_taken_back rule ≡ false
not-back Required is = refl
not-back NeverMissing is = absurd (cc)
not-back TrailingMissing is = absurd (cc)
not-back AnyMissing is = absurd (cc)

module _ (held : Held) (slot : SlotPlace) (k : List Frame) (s : State) (has : HasBefore held.base k (here_of slot.progress slot.rule) s) where
  abbrev here : Here
  here = here_of slot.progress slot.rule

  -- they are closed
  unsought-low : (end : End) → (before : Bool) → opens_before here ≡ before
      → (let t : State = cond before (closed_slot here s) s in (held.base ≤ s.at / 8 → held.base ≤ t.at / 8) × AreOpen held.base t.at k t.marks)
  unsought-low end true is = close-low held.base k here s (opens-has held.base k here s has is)
  unsought-low end false is = (λ low. low, none-has held.base k here s has is)

  -- the separator was found
  tried-low : (slot_now : SlotPlace) (body : ℕ) → here_of slot_now.progress slot_now.rule ≡ here → slot_now.progress.stage ≡ stages.Content slot_now.rule
      → held.base ≤ s.at / 8 → (tried : Bool) → is_tried slot_now.rule ≡ tried → slot_now.rule ≡ slot.rule
      → IsLow (cond tried (pass nothing held (LookIn slot_now) k s)
      (pass nothing held (Enter body) (Content slot_now s.at false ∷ k) (as_occurrence (is_tried slot_now.rule) s)))
  tried-low slot_now body same stage low true is rule = (
    low,
    (
      (stage, is),
      (
        subst (λ (h : Here). AreSuch (before_points h (points_of k)) held.base s.at s.marks) (sym same) has.such,
        subst (λ (h : Here). Lie (before_at h s.marks s.at) k (outside_before h s.marks)) (sym same) has.lies,
      ),
    ),
  )
  tried-low slot_now body same stage low false is rule =
      let untried : is_tried slot.rule ≡ false = ap is_tried (sym rule) ∙ is in
      let opens = none-has held.base k here s has (first-and (is_taken_back slot.rule) (begins here) (not-back slot.rule untried)) in
      let there : HasSlot held.base k (here_of slot_now.progress slot_now.rule) s = shut opens (here_of slot_now.progress slot_now.rule) is in (
        low,
        (
          there.such,
          (
            record {
              stage = stage;
              full = λ none. refl;
              within = omega arith;
              behind = first-le held.base s.at s.marks opens.0.1;
              point = λ so none. absurd (cc);
            },
            there.lies,
          ),
        ),
      )
    where
      shut : AreOpen held.base s.at k s.marks → (h : Here) → is_tried h.rule ≡ false → HasSlot held.base k h s
      shut opens h none = record {
        such = subst (λ (b : Bool). AreSuch (cond b (true ∷ cond (has_mark h) (false ∷ points_of k) (points_of k)) (points_of k)) held.base s.at s.marks) (sym none) opens.0;
        lies = subst (λ (b : Bool). Lie (cond b (cond (has_mark h) (first_at (outer_marks s.marks) (first_at s.marks s.at)) (first_at s.marks s.at)) s.at) k
            (cond b (cond (has_mark h) (outer_marks (outer_marks s.marks)) (outer_marks s.marks)) s.marks)) (sym none) opens.1;
      }

  pub before_done-low : slot.progress.stage ≡ stages.Before slot.rule → held.base ≤ s.at / 8 → (slots : List Slot) → IsLow (before_done held slot slots k s)
  before_done-low stage low [] = let there = unsought-low Done (opens_before here) refl in (there.0 low, there.1)
  before_done-low stage low (own ∷ slots) =
      let path : slot.progress ≡ record slot.progress { stage = stages.Before slot.rule } = λ i. record slot.progress { stage = stage i } in
      subst (λ (p : Progress). IsLow (content_begins nothing held (record slot { progress = group_after p (seen.Separator true) }) own.body k s)) (sym path)
      (tried-low (record slot { progress = record slot.progress { stage = stages.Content slot.rule } }) own.body refl refl low (is_tried slot.rule) refl refl)

  -- the separator wasn't found: where the slot isn't there, its point is gone back to
  gone-low : (initiated : Bool) (own : Slot) (slots : List Slot) (after : Progress) → is_taken_back slot.rule ≡ true → begins here ≡ true → (before : Bool)
      → opens_before here ≡ before → IsLow (goes_on nothing held initiated (record slot { progress = after; left = 0 }) own slots k (cond before (taken_back here s) s))
  gone-low initiated own slots after taken begun true is =
      let there = opens-has held.base k here s has is in
      let tried = taken-tried slot.rule taken in
      let shut = close-low held.base k here (back s) (back-has held.base k here s tried there) in
      let low : held.base ≤ (back s).at / 8 =
      subst (λ (n : ℕ). held.base ≤ n / 8) (sym (back-at s s.marks))
      (marked-low held.base k here s.at s.marks tried (first-or (opens_before here) (is_taken_back slot.rule && ends here) is) there.such) in
      goes-low nothing held initiated k (taken_back here s) (shut.0 low) shut.1 (record slot { progress = after; left = 0 }) own slots
  gone-low initiated own slots after taken begun false is =
      absurd (both (is_taken_back slot.rule) (begins here) taken begun is)
    where
      both : (a b : Bool) → a ≡ true → b ≡ true → (a && b) ≡ false → ⊥
      both true b one two none = absurd (cc)
      both false b one two none = absurd (cc)

  -- by the rule
  lacks-low : (initiated : Bool) (own : Slot) (slots : List Slot) (cause : ParseCause) (bit : ℕ) → begins here ≡ true → (rule : SlotRule) → slot.rule ≡ rule
      → (after : Progress) → IsLow (without_separator held initiated slot own slots after (missing rule) (Failed cause bit) k s)
  lacks-low initiated own slots cause bit begun Required is after =
      none-has held.base k here s has (first-and (is_taken_back slot.rule) (begins here) (ap is_taken_back is))
  lacks-low initiated own slots cause bit begun NeverMissing is after =
      none-has held.base k here s has (first-and (is_taken_back slot.rule) (begins here) (ap is_taken_back is))
  lacks-low initiated own slots cause bit begun TrailingMissing is after =
      gone-low initiated own slots after (ap is_taken_back is) begun (opens_before here) refl
  lacks-low initiated own slots cause bit begun AnyMissing is after =
      gone-low initiated own slots after (ap is_taken_back is) begun (opens_before here) refl

  pub before_failed-low : (initiated : Bool) → slot.progress.stage ≡ stages.Before slot.rule → begins here ≡ true → (cause : ParseCause) (bit : ℕ) (slots : List Slot)
      → IsLow (before_failed held initiated slot slots (Failed cause bit) k s)
  before_failed-low initiated stage begun cause bit [] = (unsought-low (Failed cause bit) (opens_before here) refl).1
  before_failed-low initiated stage begun cause bit (own ∷ slots) =
      let path : slot.progress ≡ record slot.progress { stage = stages.Before slot.rule } = λ i. record slot.progress { stage = stage i } in
      subst (λ (p : Progress). IsLow (without_separator held initiated slot own slots (group_after p (seen.Separator false)) (move_at p (seen.Separator false)) (Failed cause bit) k s))
      (sym path)
      (lacks-low initiated own slots cause bit begun slot.rule refl
      (group_after (record slot.progress { stage = stages.Before slot.rule }) (seen.Separator false)))

-- the marks of a slot, where the bytes before the first one that is needed are given up
risen-slot : (base : ℕ) (k : List Frame) (here : Here) (s : State) → HasSlot base k here s → HasSlot (anchor s) k here s
risen-slot base k here s has = record { such = (has.such.0, nested-risen base s.at s.at s.marks has.such.1); lies = has.lies }

risen-before : (base : ℕ) (k : List Frame) (here : Here) (s : State) → HasBefore base k here s → HasBefore (anchor s) k here s
risen-before base k here s has = record { such = (has.such.0, nested-risen base s.at s.at s.marks has.such.1); lies = has.lies }

-- a question of a slot
question-low : (limits : Limits) (focus : Focus) (sight : Held) (cost : Tally) (moves : Bool → Move) (reached : Reached Bool) (k : List Frame) (s : State)
    → ((answer : Bool) → IsLow (moves answer)) → NeedsFrom sight.base focus k s → IsLow (told_move limits focus sight cost moves reached k s)
question-low limits focus sight cost moves (Told answer) k s each waits = each answer
question-low limits focus sight cost moves TooFar k s each waits = tt
question-low limits focus sight cost moves Missing k s each waits = waits

module _ (held : Held) (slot : SlotPlace) (k : List Frame) (s : State) (stands : Anchored held s) where
  abbrev of_slot : Here
  of_slot = here_of slot.progress slot.rule

  abbrev seen_from : Held
  seen_from = from_byte held (anchor s)

  -- the occurrence begins
  entered-low : (cost : Tally) (initiated : Bool) (body : ℕ) (empty : Bool) → HasBefore (anchor s) k of_slot s → slot.progress.stage ≡ stages.Content slot.rule
      → is_tried slot.rule ≡ true → (before : Bool) → opens_before of_slot ≡ before
      → IsLow (pass cost seen_from (Enter body) (Content slot s.at empty ∷ k)
      (as_occurrence (is_tried slot.rule) (cond before s (opened_at initiated of_slot s))))
  entered-low cost initiated body empty has stage tried true is =
      let there = opens-has (anchor s) k of_slot s has is in (
        stands.low,
        (
          there.such,
          (
            record {
              stage = stage;
              full = λ none. absurd (cc);
              within = omega arith;
              behind = first-le (anchor s) s.at s.marks has.such.1;
              point = λ so none. let some = first-or (opens_before of_slot) (is_taken_back slot.rule && ends of_slot) is in absurd (cc);
            },
            there.lies,
          ),
        ),
      )
  entered-low cost initiated body empty has stage tried false is =
      let opens = none-has (anchor s) k of_slot s has is in
      let there = opened-low cost seen_from initiated k s stands.low opens of_slot in
      (there.0, (there.1.0, (content (is_tried slot.rule) (has_mark of_slot) tried, there.1.1)))
    where
      content : (t m : Bool) → t ≡ true → (let u : State = cond t (pointed initiated (cond m (marked s) s)) s in IsContent slot s.at empty u.at u.marks)
      content true true so = record { stage = stage; full = λ none. absurd (cc); within = omega arith; behind = omega arith; point = λ so none. omega arith }
      content true false so = record { stage = stage; full = λ none. absurd (cc); within = omega arith; behind = omega arith; point = λ so none. omega arith }
      content false m so = absurd (cc)

  pub look_in-low : (limits : Limits) (delimiters : List Delimiters) (initiated : Bool) → NeedsFrom held.base (LookIn slot) k s → (slots : List Slot)
      → IsLow (look_in limits delimiters held initiated slot slots k s)
  look_in-low limits delimiters initiated needs [] =
      let has : HasBefore held.base k of_slot s = record { such = needs.1.1.0; lies = needs.1.1.1 } in
      let there = unsought-low held slot k s has Done (opens_before of_slot) refl in (there.0 needs.0, there.1)
  look_in-low limits delimiters initiated needs (own ∷ slots) =
      let has : HasBefore (anchor s) k of_slot s = risen-before held.base k of_slot s (record { such = needs.1.1.0; lies = needs.1.1.1 }) in
      let cost : Tally = needs_from (anchor s) (ask (seen_at seen_from) (is_empty_at (lists_of delimiters (markup s)) s.at s.stop) nothing).tally in
      question-low limits (LookIn slot) seen_from cost (occurs cost seen_from initiated slot own.body k s)
      (ask (seen_at seen_from) (is_empty_at (lists_of delimiters (markup s)) s.at s.stop) nothing).reached k s
      (λ empty. entered-low cost initiated own.body empty has needs.1.0.0 needs.1.0.1 (opens_before of_slot) refl)
      (stands.low, (needs.1.0, (has.such, has.lies)))

  -- where the point of a slot is, behind whose blank occurrence a separator is looked for
  asked-point : (base bit : ℕ) → HasSlot base k of_slot s → IsAsking slot bit s.at s.marks → base ≤ s.at / 8 → is_taken_back slot.rule ≡ true
      → (mark : Bool) → has_mark of_slot ≡ mark → base ≤ first_at s.marks s.at / 8
  asked-point base bit has asking low taken true is = marked-low base k of_slot s.at s.marks (taken-tried slot.rule taken) is has.such
  asked-point base bit has asking low taken false is =
      let tried = taken-tried slot.rule taken in
      let less : s.at ≤ bit = asking.here in
      let point = point-behind k base s.at bit (is_tried slot.rule) tried (cond (has_mark of_slot) (false ∷ points_of k) (points_of k)) s.marks has.such (asking.point tried is) in
      omega arith

  pub look_behind-low : (limits : Limits) (delimiters : List Delimiters) (initiated : Bool) (bit : ℕ) → NeedsFrom held.base (LookBehind slot bit) k s → (slots : List Slot)
      → IsLow (look_behind limits delimiters held initiated slot bit slots k s)
  look_behind-low limits delimiters initiated bit needs [] =
      let shut = close-low held.base k of_slot s (record { such = needs.1.1.0; lies = needs.1.1.1 }) in (shut.0 needs.0, shut.1)
  look_behind-low limits delimiters initiated bit needs (own ∷ slots) =
      let has : HasSlot (anchor s) k of_slot s = risen-slot held.base k of_slot s (record { such = needs.1.1.0; lies = needs.1.1.1 }) in
      let asking : IsAsking slot bit s.at s.marks = needs.1.0 in
      let place : ℕ = length (markup s) - 1 in
      let cost : Tally = needs_from (anchor s) (ask (seen_at seen_from) (separator_follows (lists_of delimiters (markup s)) place s.at s.stop) nothing).tally in
      question-low limits (LookBehind slot bit) seen_from cost (λ found. settled cost seen_from initiated slot bit own slots found Done k s)
      (ask (seen_at seen_from) (separator_follows (lists_of delimiters (markup s)) place s.at s.stop) nothing).reached k s
      (λ found. settled-low cost seen_from initiated slot bit k s asking.tried asking.stage has found Done (λ none. stands.low) (inl stands.low)
      (λ taken. subst (λ (n : ℕ). anchor s ≤ n / 8) (sym (back-at s s.marks)) (asked-point (anchor s) bit has asking stands.low taken (has_mark of_slot) refl)) own slots)
      (stands.low, (asking, (has.such, has.lies)))
