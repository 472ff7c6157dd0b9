-- What holds of each step of a slot, by the few kinds of steps that there are.
use Rattle.std.proofs.Common.{◌≡◌, ℕ, ◌+◌, ◌-◌, List, [], ◌∷◌, Bool, true, false, cond, Option, Some, None, Result, Ok, Err}
use Rattle.dfdl_bits.specs.Window.{Held}
use Rattle.dfdl_report.specs.declared.cause.ParseCause.{ParseCause}
use Rattle.dfdl_report.specs.declared.cause.ParseCause.TheVariants.{ExpressionFault, NegativeCount, SeparatorMissing}
use Rattle.dfdl_paths.specs.declared.place.Start.TheVariants as start
use Rattle.dfdl_separators.specs.declared.moves.SlotMove.{SlotMove}
use Rattle.dfdl_separators.specs.declared.moves.SlotMove.TheVariants.{TakeSeparator, LookForSeparator, Parse, Keep, Drop, EndArray, EndGroup, Fail}
use Rattle.dfdl_separators.specs.declared.moves.SlotSeen.TheVariants as seen
use Rattle.dfdl_separators.specs.declared.policy.SeparatorPosition.{SeparatorPosition}
use Rattle.dfdl_separators.specs.declared.policy.SeparatorSuppressionPolicy.{SeparatorSuppressionPolicy}
use Rattle.dfdl_separators.specs.declared.progress.Progress.{Progress}
use Rattle.dfdl_separators.specs.declared.verdict.Here.{Here}
use Rattle.dfdl_separators.specs.declared.verdict.SlotRule.TheVariants.{Required}
use Rattle.dfdl_separators.specs.Groups.{begun, ending, group_after, here_of, move_at}
use Rattle.dfdl_separators.specs.Verdicts.{outcome}
use Rattle.dfdl_terms.specs.declared.slots.Slot.{Slot}
use Rattle.dfdl_terms.specs.Rows.{Table}
use Rattle.dfdl_vars.specs.Kept.{Kept}
use Rattle.dfdl_looks.specs.Tallies.{Tally, nothing, one_row, plus}
use Rattle.dfdl_grammar.specs.declared.end.End.{End}
use Rattle.dfdl_grammar.specs.declared.end.End.TheVariants.{Done, Failed}
use Rattle.dfdl_grammar.specs.States.{State}
use Rattle.dfdl_grammar.specs.Marks.{is_settled}
use Rattle.dfdl_grammar.specs.Questions.{question_at}
use Rattle.dfdl_grammar.specs.Occurrences.{as_occurrence}
use Rattle.dfdl_grammar.specs.Slots.{closed_slot, emptied, is_blank, is_tried, opens_before, taken_back}
use Rattle.dfdl_parse.specs.declared.frame.Coming.{Coming}
use Rattle.dfdl_parse.specs.declared.frame.Coming.TheVariants.{Past, Seeks, Parses, Counts, Aside, Lacks, Over}
use Rattle.dfdl_parse.specs.declared.frame.Frame.{Frame}
use Rattle.dfdl_parse.specs.declared.frame.Frame.TheVariants.{Before, Content, Closing, Aside as AsideFrame}
use Rattle.dfdl_parse.specs.declared.frame.Focus.TheVariants.{Enter, Seek, LookIn, LookBehind, Count, Leave}
use Rattle.dfdl_parse.specs.declared.frame.SlotPlace.{SlotPlace}
use Rattle.dfdl_parse.specs.declared.frame.Sought.TheVariants.{Separator}
use Rattle.dfdl_parse.specs.Asking.{behind_question, count_told, given_by}
use Rattle.dfdl_parse.specs.Moves.{Move, pass}
use Rattle.dfdl_parse.specs.Slots.{before_done, before_failed, closing_ended, coming_from, comes, content_begins, content_ended, count_slots, counted_slots, decide, enter_separated, first_in, goes_beside, goes_on, opened_at, sequence_ends, settle, settled, unslotted, unsought, without_separator}

-- the steps to what comes next, of states of which Q holds, keep P
pub record Ways (P : Move → Type 0) (Q : State → Type 0) (cost : Tally) (held : Held) (k : List Frame) : Type 0 where
  pub leaves : (end : End) (t : State) → Q t → P (pass cost held (Leave end) k t)
  pub looks : (slot : SlotPlace) (t : State) → Q t → P (pass cost held (LookIn slot) k t)
  pub enters : (slot : SlotPlace) (body bit : ℕ) (empty : Bool) (t : State) → Q t
      → P (pass cost held (Enter body) (Content slot bit empty ∷ k) (as_occurrence (is_tried slot.rule) t))
  pub seeks : (slot : SlotPlace) (t : State) → Q t → P (pass (plus cost one_row) held (Seek Separator) (Before slot ∷ k) t)
  pub counts : (slot : SlotPlace) (question : ℕ) (t : State) → Q t → P (pass cost held (Count slot question) k t)
  pub besides : (slot : SlotPlace) (body : ℕ) (t : State) → Q t → P (pass cost held (Enter body) (AsideFrame slot ∷ k) t)

-- and so do those behind an occurrence
pub record Behind (P : Move → Type 0) (Q : State → Type 0) (held : Held) (k : List Frame) : Type 0 where
  pub closes : (slot : SlotPlace) (bit : ℕ) (t : State) → Q t → P (pass one_row held (Seek Separator) (Closing slot bit ∷ k) t)
  pub asks : (slot : SlotPlace) (bit : ℕ) (t : State) → Q t → P (pass nothing held (LookBehind slot bit) k t)

module _ (P : Move → Type 0) (Q : State → Type 0) (held : Held) (initiated : Bool) (k : List Frame)
    (opens : (here : Here) (t : State) → Q t → Q (opened_at initiated here t)) where
  module _ (cost : Tally) (ways : Ways P Q cost held k) where
    tried-has : (slot : SlotPlace) (body : ℕ) (s : State) → Q s → (tried : Bool)
        → P (cond tried (pass cost held (LookIn slot) k s) (pass cost held (Enter body) (Content slot s.at false ∷ k) (as_occurrence (is_tried slot.rule) s)))
    tried-has slot body s has true = ways.looks slot s has
    tried-has slot body s has false = ways.enters slot body s.at false s has

    pub content-has : (slot : SlotPlace) (body : ℕ) (s : State) → Q s → P (content_begins cost held slot body k s)
    content-has slot body s has = tried-has slot body s has (is_tried slot.rule)

    end-has : (move : SlotMove) (last : ℕ) (s : State) → Q s → P (sequence_ends cost held move last k s)
    end-has (Fail fault) last s has = ways.leaves _ s has
    end-has move last s has = ways.leaves Done s has

    seek-has : (slot : SlotPlace) (here : Here) (s : State) → Q s → (before : Bool)
        → P (pass (plus cost one_row) held (Seek Separator) (Before slot ∷ k) (cond before (opened_at initiated here s) s))
    seek-has slot here s has true = ways.seeks slot (opened_at initiated here s) (opens here s has)
    seek-has slot here s has false = ways.seeks slot s has

    coming-has : (last : ℕ) (coming : Coming) (s : State) → Q s → P (comes cost held initiated last coming k s)
    coming-has last (Past progress) s has = end-has (ending progress) last s has
    coming-has last (Seeks slot here) s has = seek-has slot here s has (opens_before here)
    coming-has last (Parses slot body) s has = content-has slot body s has
    coming-has last (Counts slot question) s has = ways.counts slot question s has
    coming-has last (Aside slot body) s has = ways.besides slot body s has
    coming-has last Lacks s has = ways.leaves (Failed SeparatorMissing s.at) s has
    coming-has last Over s has = ways.leaves Done s has

    going-has : (slot : SlotPlace) (own : Slot) (slots : List Slot) (s : State) → Q s → P (goes_on cost held initiated slot own slots k s)
    going-has slot own slots s has = coming-has slot.last (coming_from slot own slots) s has

    pub settled-has : (slot : SlotPlace) (bit : ℕ) (own : Slot) (slots : List Slot) (found : Bool) (end : End) (s : State) → Q s
        → ((here : Here) → Q (closed_slot here s)) → ((here : Here) → Q (taken_back here s))
        → P (settled cost held initiated slot bit own slots found end k s)
    settled-has slot bit own slots found end s has closed_has back_has =
        by (group_after slot.progress (seen.Separator found)) (move_at slot.progress (seen.Separator found))
      where
        by : (after : Progress) (move : SlotMove) → P (settle cost held initiated slot bit own slots after move end k s)
        by after Keep = going-has (record slot { progress = after; last = bit }) own slots _ (closed_has (here_of slot.progress slot.rule))
        by after Drop = going-has (record slot { progress = after; last = bit }) own slots _ (closed_has (here_of slot.progress slot.rule))
        by after EndArray = going-has (record slot { progress = after; left = 0 }) own slots _ (back_has (here_of slot.progress slot.rule))
        by after (Fail fault) = ways.leaves end _ (closed_has (here_of slot.progress slot.rule))
        by after move = ways.leaves end s has

  pub beside-has : (ways : Ways P Q nothing held k) (slot : SlotPlace) (slots : List Slot) (s : State) → Q s → P (goes_beside held initiated slot slots k s)
  beside-has ways slot slots s has = coming-has nothing ways slot.last (first_in slot slots) s has

  module _ (ways : Ways P Q one_row held k) where
    counted-has : (slot : SlotPlace) (own : Slot) (slots : List Slot) (count : Result (Option ℕ) ℕ) (s : State) → Q s
        → P (counted_slots held initiated slot own slots count k s)
    counted-has slot own slots (Ok (Some count)) s has = going-has one_row ways (record slot { optional = false; left = count }) own slots s has
    counted-has slot own slots (Ok None) s has = ways.leaves (Failed NegativeCount s.at) s has
    counted-has slot own slots (Err fault) s has = ways.leaves (Failed (ExpressionFault fault) s.at) s has

    pub count-has : (table : Table) (slot : SlotPlace) (question : ℕ) (slots : List Slot) (s : State) → Q s
        → ((kept : Kept) → Q (record s { variables = kept })) → P (count_slots table held initiated slot question slots k s)
    count-has table slot question [] s has read_has = ways.leaves Done s has
    count-has table slot question (own ∷ slots) s has read_has =
        let t : State = behind_question table (start.Inside s.inside) question s in
        counted-has slot own slots (count_told (given_by table (start.Inside s.inside) (question_at table question) s)) t (read_has t.variables)

  pub separated-has : (ways : Ways P Q one_row held k) (id : ℕ) (policy : SeparatorSuppressionPolicy) (position : SeparatorPosition) (slots : List Slot) (s : State) → Q s
      → P (enter_separated held id policy position initiated slots k s)
  separated-has ways id policy position slots s has =
      coming-has one_row ways s.at
      (first_in (record { sequence = id; place = 0; optional = false; rule = Required; left = 0; progress = begun policy position; last = s.at }) slots) s has

  module _ (ways : Ways P Q nothing held k) (slot : SlotPlace) (s : State) (has : Q s)
      (closed_has : (here : Here) → Q (closed_slot here s)) where
    unsought-has : (end : End) (before : Bool) (here : Here) → P (pass nothing held (Leave end) k (cond before (closed_slot here s) s))
    unsought-has end true here = ways.leaves end (closed_slot here s) (closed_has here)
    unsought-has end false here = ways.leaves end s has

    pub unsought_end-has : (end : End) → P (pass nothing held (Leave end) k (unsought slot s))
    unsought_end-has end = unsought-has end (opens_before (here_of slot.progress slot.rule)) (here_of slot.progress slot.rule)

    pub unslotted_end-has : (end : End) → P (pass nothing held (Leave end) k (unslotted slot s))
    unslotted_end-has end = ways.leaves end _ (closed_has (here_of slot.progress slot.rule))

    pub done-has : (slots : List Slot) → P (before_done held slot slots k s)
    done-has [] = unsought_end-has Done
    done-has (own ∷ slots) = content-has nothing ways (record slot { progress = group_after slot.progress (seen.Separator true) }) own.body s has

    module _ (back_has : (here : Here) → Q (taken_back here s)) where
      lacking-has : (own : Slot) (slots : List Slot) (after : Progress) (end : End) (before : Bool) (here : Here)
          → P (goes_on nothing held initiated (record slot { progress = after; left = 0 }) own slots k (cond before (taken_back here s) s))
      lacking-has own slots after end true here = going-has nothing ways (record slot { progress = after; left = 0 }) own slots _ (back_has here)
      lacking-has own slots after end false here = going-has nothing ways (record slot { progress = after; left = 0 }) own slots s has

      pub failed-has : (slots : List Slot) (end : End) → P (before_failed held initiated slot slots end k s)
      failed-has [] end = unsought_end-has end
      failed-has (own ∷ slots) end = by (group_after slot.progress (seen.Separator false)) (move_at slot.progress (seen.Separator false))
        where
          by : (after : Progress) (move : SlotMove) → P (without_separator held initiated slot own slots after move end k s)
          by after EndArray =
              lacking-has own slots after end (opens_before (here_of slot.progress slot.rule)) (here_of slot.progress slot.rule)
          by after move = ways.leaves end s has

      pub closing-has : (bit : ℕ) (slots : List Slot) (found : Bool) (end : End) → P (closing_ended held initiated slot bit slots found end k s)
      closing-has bit [] found end = unslotted_end-has end
      closing-has bit (own ∷ slots) found end = settled-has nothing ways slot bit own slots found end s has closed_has back_has

      module _ (behind : Behind P Q held k) (bit : ℕ) (emptied_has : Q (emptied bit s)) (none_has : (here : Here) → Q (closed_slot here (emptied bit s))) where
        blank-has : (blank : Bool) → Q (cond blank (emptied bit s) s)
        blank-has true = emptied_has
        blank-has false = has

        pub content_ended-has : (empty : Bool) (slots : List Slot) (moved : Bool) (failure : Option ParseCause) (end : End)
            → P (content_ended held initiated slot bit empty slots moved failure end k s)
        content_ended-has empty [] moved failure end = unslotted_end-has end
        content_ended-has empty (own ∷ slots) moved failure end =
            by (is_blank (outcome moved empty failure (is_settled s.marks))) (group_after slot.progress (seen.Ended moved empty failure (is_settled s.marks)))
            (move_at slot.progress (seen.Ended moved empty failure (is_settled s.marks)))
          where
            by : (blank : Bool) (after : Progress) (move : SlotMove) → P (decide held initiated slot bit own slots blank after move end k s)
            by blank after Keep = going-has nothing ways (record slot { progress = after; last = bit }) own slots _ (closed_has (here_of slot.progress slot.rule))
            by blank after Drop = going-has nothing ways (record slot { progress = after; last = bit }) own slots _ (none_has (here_of slot.progress slot.rule))
            by blank after EndArray = going-has nothing ways (record slot { progress = after; left = 0 }) own slots _ (back_has (here_of slot.progress slot.rule))
            by blank after (Fail fault) = ways.leaves end _ (closed_has (here_of slot.progress slot.rule))
            by blank after TakeSeparator = behind.closes (record slot { progress = after }) bit _ (blank-has blank)
            by blank after LookForSeparator = behind.asks (record slot { progress = after }) bit _ (blank-has blank)
            by blank after Parse = ways.leaves end s has
            by blank after EndGroup = ways.leaves end s has
