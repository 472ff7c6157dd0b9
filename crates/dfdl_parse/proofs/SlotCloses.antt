-- What waits for the separators of a slot, or for a question of it, leaves the bytes that are needed.
use Rattle.std.proofs.Common.{◌≡◌, ◌⊎◌, inl, inr, ℕ, ◌+◌, ◌-◌, ◌*◌, ◌/◌, ◌≤◌, ◌&&◌, ◌||◌, refl, ap, sym, subst, ◌∙◌, List, [], ◌∷◌, Bool, true, false, cond, None}
use Rattle.dfdl_bits.specs.Window.{Held}
use Rattle.dfdl_report.specs.declared.cause.ParseCause.{ParseCause}
use Rattle.dfdl_separators.specs.declared.course.Known.TheVariants.{Closed}
use Rattle.dfdl_separators.specs.declared.moves.SlotMove.{SlotMove}
use Rattle.dfdl_separators.specs.declared.moves.SlotMove.TheVariants.{TakeSeparator, LookForSeparator, Parse, Keep, Drop, EndArray, EndGroup, Fail}
use Rattle.dfdl_separators.specs.declared.moves.SlotSeen.TheVariants as seen
use Rattle.dfdl_separators.specs.declared.progress.Progress.{Progress}
use Rattle.dfdl_separators.specs.declared.progress.Stage.TheVariants as stages
use Rattle.dfdl_separators.specs.declared.verdict.Here.{Here}
use Rattle.dfdl_separators.specs.declared.verdict.Tried.{Tried}
use Rattle.dfdl_separators.specs.Groups.{group_after, here_of, move_at, moved_by}
use Rattle.dfdl_separators.specs.Verdicts.{begins, by_tried, ends, outcome_of}
use Rattle.dfdl_terms.specs.declared.slots.Slot.{Slot}
use Rattle.dfdl_looks.specs.Tallies.{Tally, nothing}
use Rattle.dfdl_grammar.specs.declared.end.End.{End}
use Rattle.dfdl_grammar.specs.declared.end.End.TheVariants.{Done, Failed}
use Rattle.dfdl_grammar.specs.States.{State}
use Rattle.dfdl_grammar.specs.Marks.{back}
use Rattle.dfdl_grammar.specs.Slots.{closed_slot, is_taken_back, opens_before, taken_back}
use Rattle.dfdl_parse.specs.declared.frame.Frame.{Frame}
use Rattle.dfdl_parse.specs.declared.frame.SlotPlace.{SlotPlace}
use Rattle.dfdl_parse.specs.Opens.{IsClosing}
use Rattle.dfdl_parse.specs.Slots.{cause_of, closing_ended, settle, settled}
use Rattle.dfdl_parse.proofs.SlotLows.{IsLow, goes-low}
use Rattle.dfdl_parse.proofs.SlotBacks.{HasSlot, back-at, back-has, close-low, end-low, marked-low, taken-tried}
use Rattle.dfdl_parse.proofs.SlotVerdicts.{IsOut, Tells, closing-out, rule-tells}

-- a separator behind a slot was sought
module _ (cost : Tally) (held : Held) (initiated : Bool) (slot : SlotPlace) (bit : ℕ) (k : List Frame) (s : State) (tried : Tried)
    (stage : slot.progress.stage ≡ stages.Behind slot.rule tried) (has : HasSlot held.base k (here_of slot.progress slot.rule) s)
    (found : Bool) (end : End) (low : cause_of end ≡ None → held.base ≤ s.at / 8)
    (sure : (held.base ≤ s.at / 8) ⊎ IsOut (by_tried (here_of slot.progress slot.rule) tried found))
    (point : is_taken_back slot.rule ≡ true → held.base ≤ (back s).at / 8) where
  abbrev here : Here
  here = here_of slot.progress slot.rule

  abbrev staged : Progress
  staged = record slot.progress { stage = stages.Behind slot.rule tried }

  abbrev after : SlotMove → Progress
  after move = moved_by staged slot.rule (Closed tried found) move

  stays-low : (move : SlotMove) → by_tried here tried found ≡ move → (IsOut move → ⊥) → (held.base ≤ s.at / 8) ⊎ IsOut (by_tried here tried found)
      → held.base ≤ s.at / 8
  stays-low move is never (inl there) = there
  stays-low move is never (inr out) = absurd (never (subst (λ (m : SlotMove). IsOut m) is out))

  settle-low : (own : Slot) (slots : List Slot) (move : SlotMove) → by_tried here tried found ≡ move → Tells slot.rule tried.failure (outcome_of tried) move
      → IsLow (settle cost held initiated slot bit own slots (after move) move end k s)
  settle-low own slots Keep is tells =
      let shut = close-low held.base k here s has in
      goes-low cost held initiated k (closed_slot here s) (shut.0 (stays-low Keep is (λ out. out) sure)) shut.1
      (record slot { progress = after Keep; last = bit }) own slots
  settle-low own slots Drop is tells =
      let shut = close-low held.base k here s has in
      goes-low cost held initiated k (closed_slot here s) (shut.0 (stays-low Drop is (λ out. out) sure)) shut.1
      (record slot { progress = after Drop; last = bit }) own slots
  settle-low own slots EndArray is tells =
      let shut = close-low held.base k here (back s) (back-has held.base k here s (taken-tried slot.rule tells) has) in
      goes-low cost held initiated k (taken_back here s) (shut.0 (point tells)) shut.1 (record slot { progress = after EndArray; left = 0 }) own slots
  settle-low own slots (Fail fault) is tells =
      let shut = close-low held.base k here s has in end-low held.base end k (closed_slot here s) (λ none. shut.0 (low none)) shut.1
  settle-low own slots TakeSeparator is tells = absurd tells
  settle-low own slots LookForSeparator is tells = absurd tells
  settle-low own slots Parse is tells = absurd tells
  settle-low own slots EndGroup is tells = absurd tells

  pub settled-low : (own : Slot) (slots : List Slot) → IsLow (settled cost held initiated slot bit own slots found end k s)
  settled-low own slots =
      let path : slot.progress ≡ staged = λ i. record slot.progress { stage = stage i } in
      subst (λ (p : Progress). IsLow (settle cost held initiated slot bit own slots (group_after p (seen.Separator found)) (move_at p (seen.Separator found)) end k s)) (sym path)
      (settle-low own slots (by_tried here tried found) refl
      (rule-tells slot.rule tried (cond (ends here) found true) (cond (begins here) true found)))

-- a slot that ends with a separator has a mark around its point
pub or-second : (a b : Bool) → b ≡ true → (a || b) ≡ true
or-second true b is = refl
or-second false b is = is

and-both : (a b : Bool) → a ≡ true → b ≡ true → (a && b) ≡ true
and-both true b first second = second
and-both false b first second = absurd (cc)

ending-point : (base : ℕ) (k : List Frame) (here : Here) (s : State) → HasSlot base k here s → ends here ≡ true → is_taken_back here.rule ≡ true
    → base ≤ (back s).at / 8
ending-point base k here s has closes taken =
    subst (λ (n : ℕ). base ≤ n / 8) (sym (back-at s s.marks))
    (marked-low base k here s.at s.marks (taken-tried here.rule taken)
    (or-second (opens_before here) (is_taken_back here.rule && ends here) (and-both (is_taken_back here.rule) (ends here) taken closes)) has.such)

module _ (held : Held) (initiated : Bool) (slot : SlotPlace) (bit : ℕ) (k : List Frame) (s : State) (closing : IsClosing slot)
    (has : HasSlot held.base k (here_of slot.progress slot.rule) s) where
  pub closing_done-low : held.base ≤ s.at / 8 → (slots : List Slot) → IsLow (closing_ended held initiated slot bit slots true Done k s)
  closing_done-low low [] =
      let shut = close-low held.base k (here_of slot.progress slot.rule) s has in (shut.0 low, shut.1)
  closing_done-low low (own ∷ slots) =
      settled-low nothing held initiated slot bit k s closing.tried closing.stage has true Done (λ none. low) (inl low)
      (ending-point held.base k (here_of slot.progress slot.rule) s has closing.closes) own slots

  pub closing_failed-low : (cause : ParseCause) (at : ℕ) (slots : List Slot) → IsLow (closing_ended held initiated slot bit slots false (Failed cause at) k s)
  closing_failed-low cause at [] = let shut = close-low held.base k (here_of slot.progress slot.rule) s has in shut.1
  closing_failed-low cause at (own ∷ slots) =
      settled-low nothing held initiated slot bit k s closing.tried closing.stage has false (Failed cause at) (λ none. absurd (cc))
      (inr (closing-out (here_of slot.progress slot.rule) closing.tried closing.closes))
      (ending-point held.base k (here_of slot.progress slot.rule) s has closing.closes) own slots
