-- The slots of a sequence carry what their occurrences carry.
use Rattle.std.proofs.Common.{◌≡◌, refl, inl, List, [], ◌∷◌, ℕ, zero, suc, Bool, true, false, cond, ◌&&◌, nat_lt, Option, Some, None, sym, subst, ◌∙◌, ap}
use Rattle.dfdl_bits.specs.declared.window.Seen.{Seen}
use Rattle.dfdl_paths.specs.declared.place.Start.TheVariants as start
use Rattle.dfdl_report.specs.declared.cause.LimitCause.TheVariants.{Window}
use Rattle.dfdl_report.specs.declared.cause.ParseCause.TheVariants.{EmptyTrailingSlot, NegativeCount, SeparatorMissing}
use Rattle.dfdl_looks.specs.Asks.{Ask, Reached, Told, TooFar, Missing, ask}
use Rattle.dfdl_looks.specs.Looks.{seen_in}
use Rattle.dfdl_looks.specs.Tallies.{nothing}
use Rattle.dfdl_separators.specs.declared.moves.SlotMove.{SlotMove}
use Rattle.dfdl_separators.specs.declared.moves.SlotMove.TheVariants.{TakeSeparator, LookForSeparator, Parse, Keep, Drop, EndArray, EndGroup, Fail}
use Rattle.dfdl_separators.specs.declared.policy.SeparatorSuppressionPolicy.{SeparatorSuppressionPolicy}
use Rattle.dfdl_separators.specs.declared.progress.Progress.{Progress}
use Rattle.dfdl_separators.specs.declared.progress.Stage.TheVariants.{Before, Content, Behind}
use Rattle.dfdl_separators.specs.declared.course.Known.TheVariants.{Begun, Begins, Occurred, Closed}
use Rattle.dfdl_separators.specs.declared.verdict.Here.{Here}
use Rattle.dfdl_separators.specs.declared.verdict.Outcome.{Outcome as SlotOutcome}
use Rattle.dfdl_separators.specs.declared.verdict.Outcome.TheVariants.{Item, Unmoved, Blank, Broken, Resolved}
use Rattle.dfdl_separators.specs.declared.verdict.SlotRule.{SlotRule}
use Rattle.dfdl_separators.specs.declared.verdict.SlotRule.TheVariants.{Required, NeverMissing, TrailingMissing, AnyMissing}
use Rattle.dfdl_separators.specs.declared.verdict.Tried.{Tried}
use Rattle.dfdl_separators.specs.Courses.{course as course_of}
use Rattle.dfdl_separators.specs.Groups.{begun, ending, here_of, moved_by}
use Rattle.dfdl_separators.specs.Verdicts.{begins, by_tried, ends, is_past, missing, outcome_of, rule_of}
use Rattle.dfdl_terms.specs.declared.slots.Slot.{Slot}
use Rattle.dfdl_vars.specs.Kept.{Kept}
use Rattle.dfdl_grammar.specs.declared.end.End.{End}
use Rattle.dfdl_grammar.specs.declared.end.End.TheVariants.{Done, Failed, Stopped}
use Rattle.dfdl_grammar.specs.declared.end.Halt.{Halt}
use Rattle.dfdl_grammar.specs.declared.end.Halt.TheVariants.{Limit}
use Rattle.dfdl_grammar.specs.declared.mark.Mark.{Mark}
use Rattle.dfdl_grammar.specs.States.{Input, State, anchor}
use Rattle.dfdl_grammar.specs.Outcomes.{Outcome, ended, follow, then_do}
use Rattle.dfdl_grammar.specs.Delimiters.{separator}
use Rattle.dfdl_grammar.specs.Marks.{AreSame, back, is_settled, pointed}
use Rattle.dfdl_grammar.specs.Questions.{question_at}
use Rattle.dfdl_grammar.specs.Occurrences.{occurring}
use Rattle.dfdl_grammar.specs.Slots.{Course, Sequence, Tail, Turn, after_closing, after_content, after_separator, ask_empty, ask_separator, begin, closed_slot, content, decide, emptied, ended_by, has_mark, in_row, in_slots, is_blank, is_taken_back, is_tried, occur, opened_slot, opens_before, peek, separated, settle, settled_by, slot, taken_back, then_slots, times, told, told_row, without_separator}
use Rattle.dfdl_grammar.proofs.Asked.{count-comes}
use Rattle.dfdl_grammar.proofs.Found.{whole-told}
use Rattle.dfdl_grammar.proofs.Grown.{Goes, behind}
use Rattle.dfdl_grammar.proofs.Sought.{separator-comes}
use Rattle.dfdl_grammar.proofs.Ways.{GoesOn, goes_same}
use Rattle.dfdl_grammar.proofs.Carried.{Carried, Carries, Since}
use Rattle.dfdl_grammar.proofs.SlottedMoves.{Decides, IsLeft, Settles, any-of, decides, failed-falls, not-before, settles, stands, tried-of}
use Rattle.dfdl_grammar.proofs.SlottedStates.{InSlot, around, begins-slot, closes-slot, ends-slot, goes-back, goes-back-failed, moves-slot, own_marks, stops-slot}

-- a question and what follows it come to what follows it, or to a limit
module _ (P : End → State → Type 0) (input : Input) (s : State) (next : Bool → State → Outcome)
    (stops : (cause : Halt) (quantity : ℕ) → P (Stopped cause quantity) s)
    (follows : (answer : Bool) → P (next answer s).end (next answer s).state) where
  told-comes : (reached : Reached Bool) → (reached ≡ Missing → ⊥) → P (told input.limits next reached s).end (told input.limits next reached s).state
  told-comes (Told answer) here = follows answer
  told-comes TooFar here = stops (Limit Window) input.limits.window
  told-comes Missing here = absurd (here refl)

  pub peek-comes : (question : Ask Bool) → P (peek input question next s).end (peek input question next s).state
  peek-comes question =
      let look : ℕ → Seen = seen_in input.bytes input.limits.window (anchor s) in
      told-comes (ask look question nothing).reached (λ missing. whole-told input.bytes input.limits.window (anchor s) question nothing missing)

module _ (R : List Mark → State → Type 0) (P : List Mark → End → State → Type 0) (carries : Carries R P) where
  -- what follows in a sequence carries it
  abbrev pub CarriedTail : List Mark → Tail → Type 0
  CarriedTail marks tail = (course : Course) (t : State) → R marks t → P marks (tail course t).end (tail course t).state

  module _ (sequence : Sequence) (marks : List Mark) where
    -- one slot
    module _ (body : ℕ) (goes : (tried : Bool) → Goes (occurring tried (sequence.child body)))
        (carried : (tried : Bool) → Carried R P (occurring tried (sequence.child body))) (more none : Tail)
        (more_carried : CarriedTail marks more) (none_carried : CarriedTail marks none) (group : Progress) (rule : SlotRule) (last : ℕ) where
      abbrev here : Here
      here = here_of group rule

      abbrev turn : Turn
      turn = record { body = body; rule = rule; more = more; none = none }

      -- how far the sequence has come where a separator is sought before the slot, where its content is read, and where one is sought behind
      abbrev seeking : Course
      seeking = record { progress = record group { stage = Before rule }; last = last }

      abbrev reading : Course
      reading = record { progress = record group { stage = Content rule }; last = last }

      abbrev closing : Tried → Course
      closing tried = record { progress = record group { stage = Behind rule tried }; last = last }

      -- from the state at which its marks are opened
      module _ (u : State) (start : R marks u) where
        abbrev Held : State → Type 0
        Held t = InSlot R P carries (is_tried rule) (has_mark here) sequence.initiated u marks t

        abbrev own : List Mark
        own = own_marks (is_tried rule) (has_mark here) sequence.initiated u marks

        held-moves : (t : State) → Held t → (at : ℕ) (others : List Mark) → AreSame others t.marks → Held (record t { at = at; marks = others })
        held-moves t held at others same =
            moves-slot R P carries sequence.initiated u marks (is_tried rule) (has_mark here) t at others same held

        held-closes : (t : State) → Held t → R marks (closed_slot here t)
        held-closes t held = closes-slot R P carries sequence.initiated u marks (is_tried rule) (has_mark here) t held.0

        held-ends : (e : End) (t : State) → P own e t → P marks e (closed_slot here t)
        held-ends e t holds = ends-slot R P carries sequence.initiated u marks (is_tried rule) (has_mark here) e t holds

        held-stops : (cause : Halt) (quantity : ℕ) (t : State) → P own (Stopped cause quantity) t → P marks (Stopped cause quantity) t
        held-stops cause quantity t holds =
            stops-slot R P carries sequence.initiated u marks (is_tried rule) (has_mark here) cause quantity t holds

        held-stopped : (cause : Halt) (quantity : ℕ) (t : State) → Held t → P marks (Stopped cause quantity) t
        held-stopped cause quantity t held = held-stops cause quantity t (carries.ends own (Stopped cause quantity) t held.0)

        held-back : (t : State) → Held t → is_tried rule ≡ true → Held (back t)
        held-back t held is = goes-back R P carries sequence.initiated u marks (has_mark here) start (is_tried rule) is t (held.1 is)

        -- behind the separator that was sought behind the occurrence
        settle-comes : (course : Course) (content : ℕ) (after : Progress) (move : SlotMove) (o : Outcome) → Settles (is_tried rule) move
            → Held o.state
            → P marks (settle turn here course content after move o).end (settle turn here course content after move o).state
        settle-comes course content after Keep o is held =
            more_carried (record { progress = after; last = content }) (closed_slot here o.state) (held-closes o.state held)
        settle-comes course content after Drop o is held =
            more_carried (record { progress = after; last = content }) (closed_slot here o.state) (held-closes o.state held)
        settle-comes course content after EndArray o is held =
            none_carried (record course { progress = after }) (taken_back here o.state) (held-closes (back o.state) (held-back o.state held is))
        settle-comes course content after (Fail fault) o is held = held-ends o.end o.state (carries.ends own o.end o.state held.0)
        settle-comes course content after TakeSeparator o is held = absurd is
        settle-comes course content after LookForSeparator o is held = absurd is
        settle-comes course content after Parse o is held = absurd is
        settle-comes course content after EndGroup o is held = absurd is

        settled-comes : (content : ℕ) (tried : Tried) (found : Bool) (o : Outcome) → Held o.state
            → P marks (settled_by turn (closing tried) content found o).end (settled_by turn (closing tried) content found o).state
        settled-comes content tried found o held =
            settle-comes (closing tried) content (moved_by group rule (Closed tried found) (by_tried here tried found)) (by_tried here tried found) o
            (settles rule tried (cond (ends here) found true) (cond (begins here) true found)) held

        closing-comes : (content : ℕ) (tried : Tried) (e : End) (o : Outcome) → e ≡ o.end → Held o.state
            → P marks (after_closing turn (closing tried) content e o).end (after_closing turn (closing tried) content e o).state
        closing-comes content tried Done o same held = settled-comes content tried true o held
        closing-comes content tried (Failed cause bit) o same held = settled-comes content tried false o held
        closing-comes content tried (Stopped cause quantity) o same held =
            subst (λ (e : End). P marks e o.state) same (held-stopped cause quantity o.state held)

        -- behind the occurrence
        left-held : (content : ℕ) (o : Outcome) (came : SlotOutcome) → IsLeft (is_tried rule) came → (stands came ≡ true → Held o.state)
            → (is_tried rule ≡ true → Held (back o.state)) → Held (cond (is_blank came) (emptied content o.state) o.state)
        left-held content o Item is whole backed = whole refl
        left-held content o Unmoved is whole backed = whole refl
        left-held content o Blank is whole backed = held-moves (back o.state) (backed is) content (back o.state).marks refl
        left-held content o (Broken cause) is whole backed = absurd is
        left-held content o (Resolved cause) is whole backed = absurd is

        decide-comes : (content : ℕ) (tried : Tried) (move : SlotMove) (o : Outcome) → Decides (is_tried rule) (outcome_of tried) move
            → (stands (outcome_of tried) ≡ true → Held o.state) → (is_tried rule ≡ true → Held (back o.state)) → P own o.end o.state
            → (let out : Outcome = decide sequence turn here reading content (is_blank (outcome_of tried))
            (moved_by (record group { stage = Content rule }) rule (Occurred tried) move) move o in P marks out.end out.state)
        decide-comes content tried Keep o is whole backed holds =
            more_carried (record { progress = moved_by (record group { stage = Content rule }) rule (Occurred tried) Keep; last = content })
            (closed_slot here o.state) (held-closes o.state (whole is))
        decide-comes content tried Drop o is whole backed holds =
            more_carried (record { progress = moved_by (record group { stage = Content rule }) rule (Occurred tried) Drop; last = content })
            (closed_slot here (emptied content o.state))
            (held-closes (emptied content o.state) (held-moves (back o.state) (backed is) content (back o.state).marks refl))
        decide-comes content tried EndArray o is whole backed holds =
            none_carried (record { progress = moved_by (record group { stage = Content rule }) rule (Occurred tried) EndArray; last = last })
            (taken_back here o.state) (held-closes (back o.state) (backed is))
        decide-comes content tried (Fail fault) o is whole backed holds = held-ends o.end o.state holds
        decide-comes content tried TakeSeparator o is whole backed holds =
            let s : State = cond (is_blank (outcome_of tried)) (emptied content o.state) o.state in
            let held : Held s = left-held content o (outcome_of tried) is whole backed in
            let found : Outcome = separator sequence.input sequence.table.delimiters s in
            closing-comes content tried found.end found refl
            (separator-comes (λ (e : End) (t : State). Held t) s (held-moves s held) (λ cause. held) (λ cause quantity. held)
            sequence.input sequence.table.delimiters)
        decide-comes content tried LookForSeparator o is whole backed holds =
            let s : State = cond (is_blank (outcome_of tried)) (emptied content o.state) o.state in
            let held : Held s = left-held content o (outcome_of tried) is whole backed in
            peek-comes (λ (e : End) (t : State). P marks e t) sequence.input s
            (λ found t. settled_by turn (closing tried) content found (ended Done t)) (λ cause quantity. held-stopped cause quantity s held)
            (λ found. settled-comes content tried found (ended Done s) held) (ask_separator sequence s)
        decide-comes content tried Parse o is whole backed holds = absurd is
        decide-comes content tried EndGroup o is whole backed holds = absurd is

        after-comes : (content : ℕ) (empty : Bool) → (is_tried rule ≡ false → empty ≡ false) → (e : End) (o : Outcome) → e ≡ o.end
            → P own o.end o.state
            → (is_tried rule ≡ true → Since sequence.initiated (around (has_mark here) u) o.end o.state)
            → P marks (after_content sequence turn reading content empty e o).end (after_content sequence turn reading content empty e o).state
        after-comes content empty full Done o same holds since =
            let tried : Tried = record { moved = nat_lt content o.state.at; empty = empty; failure = None; resolved = is_settled o.state.marks } in
            let went : is_tried rule ≡ true → Since sequence.initiated (around (has_mark here) u) Done o.state =
            λ is. subst (λ (e : End). Since sequence.initiated (around (has_mark here) u) e o.state) (sym same) (since is) in
            let held : Held o.state = (carries.done own o.state (subst (λ (e : End). P own e o.state) (sym same) holds), went) in
            decide-comes content tried (course_of here (Occurred tried)) o
            (decides rule tried.moved empty None tried.resolved (ends here) (begins here) full) (λ is. held) (λ is. held-back o.state held is) holds
        after-comes content empty full (Failed cause bit) o same holds since =
            let tried : Tried = record { moved = false; empty = empty; failure = Some cause; resolved = is_settled o.state.marks } in
            decide-comes content tried (course_of here (Occurred tried)) o
            (decides rule false empty (Some cause) tried.resolved (ends here) (begins here) full)
            (λ is. absurd (failed-falls empty tried.resolved cause is))
            (λ is. goes-back-failed R P carries sequence.initiated u marks (has_mark here) start (is_tried rule) is cause bit o.state
            (subst (λ (e : End). Since sequence.initiated (around (has_mark here) u) e o.state) (sym same) (since is))) holds
        after-comes content empty full (Stopped cause quantity) o same holds since =
            subst (λ (e : End). P marks e o.state) same
            (held-stops cause quantity o.state (subst (λ (e : End). P own e o.state) (sym same) holds))

        occur-comes : (empty : Bool) → (is_tried rule ≡ false → empty ≡ false) → (t : State) → Held t
            → P marks (occur sequence turn reading empty t).end (occur sequence turn reading empty t).state
        occur-comes empty full t held =
            let o : Outcome = occurring (is_tried rule) (sequence.child body) t in
            after-comes t.at empty full o.end o refl (carried (is_tried rule) own t held.0)
            (λ is. behind (pointed sequence.initiated (around (has_mark here) u)) t o.state o.end (held.1 is) (goes (is_tried rule) t))

        -- the content of a slot whose marks are open, if it has any
        content-held : opens_before here ≡ true → (t : State) → Held t → (tried : Bool) → is_tried rule ≡ tried
            → (let out : Outcome = cond tried (peek sequence.input (ask_empty sequence t) (λ empty t. occur sequence turn reading empty
            (cond (opens_before here) t (opened_slot sequence here t))) t) (occur sequence turn reading false t) in P marks out.end out.state)
        content-held before t held true is =
            peek-comes (λ (e : End) (t : State). P marks e t) sequence.input t
            (λ empty t. occur sequence turn reading empty (cond (opens_before here) t (opened_slot sequence here t)))
            (λ cause quantity. held-stopped cause quantity t held)
            (λ empty.
            let full : is_tried rule ≡ false → empty ≡ false = λ no. absurd (cc) in
            subst (λ (b : Bool). P marks (occur sequence turn reading empty (cond b t (opened_slot sequence here t))).end
            (occur sequence turn reading empty (cond b t (opened_slot sequence here t))).state) (sym before) (occur-comes empty full t held))
            (ask_empty sequence t)
        content-held before t held false is = occur-comes false (λ no. refl) t held

      -- the content of a slot whose marks aren't open yet
      content-comes : opens_before here ≡ false → (t : State) → R marks t → (tried : Bool) → is_tried rule ≡ tried
          → (let out : Outcome = cond tried (peek sequence.input (ask_empty sequence t) (λ empty t. occur sequence turn reading empty
          (cond (opens_before here) t (opened_slot sequence here t))) t) (occur sequence turn reading false t) in P marks out.end out.state)
      content-comes before t has true is =
          peek-comes (λ (e : End) (t : State). P marks e t) sequence.input t
          (λ empty t. occur sequence turn reading empty (cond (opens_before here) t (opened_slot sequence here t)))
          (λ cause quantity. carries.ends marks (Stopped cause quantity) t has)
          (λ empty.
          let full : is_tried rule ≡ false → empty ≡ false = λ no. absurd (cc) in
          subst (λ (b : Bool). P marks (occur sequence turn reading empty (cond b t (opened_slot sequence here t))).end
          (occur sequence turn reading empty (cond b t (opened_slot sequence here t))).state) (sym before)
          (occur-comes t has empty full (opened_slot sequence here t)
          (begins-slot R P carries sequence.initiated t marks (is_tried rule) (has_mark here) has)))
          (ask_empty sequence t)
      content-comes before t has false is =
          let there : opened_slot sequence here t ≡ t = ap (λ (b : Bool). cond b (pointed sequence.initiated (around (has_mark here) t)) t) is in
          occur-comes t has false (λ no. refl) t
          (subst (λ (v : State). InSlot R P carries (is_tried rule) (has_mark here) sequence.initiated t marks v) there
          (begins-slot R P carries sequence.initiated t marks (is_tried rule) (has_mark here) has))

      -- a slot without the separator that it begins with
      without-held : (u : State) (start : R marks u) → opens_before here ≡ true → (any : SlotRule) → is_taken_back any ≡ true
          → (after : Progress) (o : Outcome)
          → Held u start o.state → is_tried rule ≡ true
          → P marks (without_separator turn here seeking after (missing any) o).end (without_separator turn here seeking after (missing any) o).state
      without-held u start before Required is after o held tried = absurd (cc)
      without-held u start before NeverMissing is after o held tried = absurd (cc)
      without-held u start before TrailingMissing is after o held tried =
          let gone : Course = record seeking { progress = after } in
          subst (λ (b : Bool). P marks (none gone (cond b (taken_back here o.state) o.state)).end
          (none gone (cond b (taken_back here o.state) o.state)).state)
          (sym before) (none_carried gone (taken_back here o.state) (held-closes u start (back o.state) (held-back u start o.state held tried)))
      without-held u start before AnyMissing is after o held tried =
          let gone : Course = record seeking { progress = after } in
          subst (λ (b : Bool). P marks (none gone (cond b (taken_back here o.state) o.state)).end
          (none gone (cond b (taken_back here o.state) o.state)).state)
          (sym before) (none_carried gone (taken_back here o.state) (held-closes u start (back o.state) (held-back u start o.state held tried)))

      none-comes : opens_before here ≡ false → (after : Progress) (o : Outcome) → R marks o.state
          → (let gone : Course = record seeking { progress = after } in
          P marks (none gone (cond (opens_before here) (taken_back here o.state) o.state)).end
          (none gone (cond (opens_before here) (taken_back here o.state) o.state)).state)
      none-comes before after o has =
          let gone : Course = record seeking { progress = after } in
          subst (λ (b : Bool). P marks (none gone (cond b (taken_back here o.state) o.state)).end
          (none gone (cond b (taken_back here o.state) o.state)).state)
          (sym before) (none_carried gone o.state has)

      without-comes : opens_before here ≡ false → (any : SlotRule) (after : Progress) (o : Outcome) → R marks o.state
          → P marks (without_separator turn here seeking after (missing any) o).end (without_separator turn here seeking after (missing any) o).state
      without-comes before Required after o has = carries.ends marks o.end o.state has
      without-comes before NeverMissing after o has = carries.ends marks o.end o.state has
      without-comes before TrailingMissing after o has = none-comes before after o has
      without-comes before AnyMissing after o has = none-comes before after o has

      -- behind the separator that a slot begins with
      behind-held : (u : State) (start : R marks u) → opens_before here ≡ true → is_taken_back rule ≡ true → (e : End) (o : Outcome) → e ≡ o.end
          → Held u start o.state → P marks (after_separator sequence turn seeking e o).end (after_separator sequence turn seeking e o).state
      behind-held u start before any Done o same held = content-held u start before o.state held (is_tried rule) refl
      behind-held u start before any (Failed cause bit) o same held =
          without-held u start before rule any (moved_by (record group { stage = Before rule }) rule (Begins false) (missing rule)) o held
          (tried-of rule any)
      behind-held u start before any (Stopped cause quantity) o same held =
          subst (λ (e : End). P marks e o.state) same (held-stopped u start cause quantity o.state held)

      behind-comes : opens_before here ≡ false → (e : End) (o : Outcome) → e ≡ o.end → R marks o.state
          → P marks (after_separator sequence turn seeking e o).end (after_separator sequence turn seeking e o).state
      behind-comes before Done o same has = content-comes before o.state has (is_tried rule) refl
      behind-comes before (Failed cause bit) o same has =
          without-comes before rule (moved_by (record group { stage = Before rule }) rule (Begins false) (missing rule)) o has
      behind-comes before (Stopped cause quantity) o same has =
          subst (λ (e : End). P marks e o.state) same (carries.ends marks (Stopped cause quantity) o.state has)

      seek-comes : (s : State) → R marks s → (before : Bool) → opens_before here ≡ before
          → (let o : Outcome = separator sequence.input sequence.table.delimiters (cond before (opened_slot sequence here s) s) in
          P marks (after_separator sequence turn seeking o.end o).end (after_separator sequence turn seeking o.end o).state)
      seek-comes s has true is =
          let opened : State = opened_slot sequence here s in
          let held : Held s has opened = begins-slot R P carries sequence.initiated s marks (is_tried rule) (has_mark here) has in
          let o : Outcome = separator sequence.input sequence.table.delimiters opened in
          behind-held s has is (any-of rule (begins here) is) o.end o refl
          (separator-comes (λ (e : End) (t : State). Held s has t) opened (held-moves s has opened held) (λ cause. held) (λ cause quantity. held)
          sequence.input sequence.table.delimiters)
      seek-comes s has false is =
          let o : Outcome = separator sequence.input sequence.table.delimiters s in
          behind-comes is o.end o refl
          (separator-comes (λ (e : End) (t : State). R marks t) s
          (λ at others same. carries.moves marks (record s { marks = others }) at
          (carries.again marks others s s.instead s.variables has (inl refl) same (goes_same s.variables)))
          (λ cause. has) (λ cause quantity. has) sequence.input sequence.table.delimiters)

      -- a slot begins
      missing-comes : (s : State) → R marks s → (course : Course) (any : SlotRule) (after : Progress)
          → P marks (begin sequence turn here course after (missing any) s).end (begin sequence turn here course after (missing any) s).state
      missing-comes s has course Required after = carries.ends marks (Failed SeparatorMissing s.at) s has
      missing-comes s has course NeverMissing after = carries.ends marks (Failed SeparatorMissing s.at) s has
      missing-comes s has course TrailingMissing after = none_carried (record course { progress = after }) s has
      missing-comes s has course AnyMissing after = none_carried (record course { progress = after }) s has

      begin-comes : (s : State) → R marks s → (past starts : Bool) → begins here ≡ starts
          → (let move : SlotMove = cond past (missing rule) (cond starts TakeSeparator Parse) in
          let out : Outcome = begin sequence turn here (record { progress = group; last = last }) (moved_by group rule Begun move) move s in
          P marks out.end out.state)
      begin-comes s has true starts is =
          missing-comes s has (record { progress = group; last = last }) rule (moved_by group rule Begun (missing rule))
      begin-comes s has false true is = seek-comes s has (opens_before here) refl
      begin-comes s has false false is =
          content-comes (ap (λ (b : Bool). is_taken_back rule && b) is ∙ not-before rule) s has (is_tried rule) refl

    module _ (goes : (id : ℕ) (tried : Bool) → Goes (occurring tried (sequence.child id)))
        (carried : (id : ℕ) (tried : Bool) → Carried R P (occurring tried (sequence.child id)))
        (beside : (id : ℕ) → Carried R P (sequence.child id)) where
      slot-carried : (optional parsed : Bool) (body : ℕ) (more none : Tail) → CarriedTail marks more → CarriedTail marks none
          → CarriedTail marks (slot sequence optional parsed body more none)
      slot-carried optional parsed body more none more_carried none_carried course s has =
          let rule : SlotRule = rule_of course.progress.policy optional parsed in
          begin-comes body (goes body) (carried body) more none more_carried none_carried course.progress rule course.last s has
          (is_past (here_of course.progress rule)) (begins (here_of course.progress rule)) refl

      times-carried : (optional parsed : Bool) (body count : ℕ) (next : Tail) → CarriedTail marks next
          → CarriedTail marks (times sequence optional parsed body count next)
      unfolding times
      times-carried optional parsed body zero next next_carried course s has = next_carried course s has
      times-carried optional parsed body (suc left) next next_carried course s has =
          slot-carried optional parsed body (times sequence optional parsed body left next) next
          (times-carried optional parsed body left next next_carried) next_carried course s has

      ended-comes : (move : SlotMove) (course : Course) (s : State) → R marks s → P marks (ended_by move course s).end (ended_by move course s).state
      ended-comes (Fail fault) course s has = carries.ends marks (Failed EmptyTrailingSlot course.last) s has
      ended-comes Keep course s has = carries.ends marks Done s has
      ended-comes Drop course s has = carries.ends marks Done s has
      ended-comes EndArray course s has = carries.ends marks Done s has
      ended-comes EndGroup course s has = carries.ends marks Done s has
      ended-comes TakeSeparator course s has = carries.ends marks Done s has
      ended-comes LookForSeparator course s has = carries.ends marks Done s has
      ended-comes Parse course s has = carries.ends marks Done s has

      -- the slots of one row, of which a question may tell how many are required
      row-carried : (own : Slot) (least : ℕ) (next : Tail) → CarriedTail marks next → CarriedTail marks (in_row sequence own least next)
      row-carried own least next next_carried course s has =
          times-carried false false own.body least (times sequence true own.is_parsed own.body own.further next)
          (times-carried true own.is_parsed own.body own.further next next_carried) course s has

      read-has : (s : State) → R marks s → (kept : Kept) → GoesOn s.variables kept → R marks (record s { variables = kept })
      read-has s has kept ways = carries.again marks s.marks s s.instead kept has (inl refl) refl ways

      told-carried : (own : Slot) (question : Option ℕ) (next : Tail) → CarriedTail marks next → CarriedTail marks (told_row sequence own question next)
      told-carried own None next next_carried course s has = row-carried own own.least next next_carried course s has
      told-carried own (Some question) next next_carried course s has =
          count-comes (λ (e : End) (t : State). P marks e t) s
          (λ cause kept ways. carries.ends marks (Failed cause s.at) (record s { variables = kept }) (read-has s has kept ways)) sequence.table
          (start.Inside s.inside) NegativeCount (λ count after. in_row sequence own count next course after)
          (λ count kept ways. row-carried own count next next_carried course (record s { variables = kept }) (read-has s has kept ways))
          (question_at sequence.table question)

      -- a row without a slot, and what follows it
      follow-carried : (e : End) (o : Outcome) → e ≡ o.end → P marks o.end o.state → (next : State → Outcome)
          → ((t : State) → R marks t → P marks (next t).end (next t).state)
          → P marks (follow e o next).end (follow e o next).state
      follow-carried Done o same holds next goes_on =
          goes_on o.state (carries.done marks o.state (subst (λ (e : End). P marks e o.state) (sym same) holds))
      follow-carried (Failed cause bit) o same holds next goes_on = holds
      follow-carried (Stopped cause quantity) o same holds next goes_on = holds

      then-carried : (own : Slot) (next : Tail) → CarriedTail marks next → CarriedTail marks (then_slots sequence own next)
      then-carried own next next_carried course s has = by own.is_slotless
        where
          by : (slotless : Bool) → let out : Outcome =
              cond slotless (then_do (sequence.child own.body s) (next course)) (told_row sequence own own.question next course s) in P marks out.end out.state
          by true =
              let o : Outcome = sequence.child own.body s in
              follow-carried o.end o refl (beside own.body marks s has) (next course) (λ t has. next_carried course t has)
          by false = told-carried own own.question next next_carried course s has

      slots-carried : (slots : List Slot) → CarriedTail marks (in_slots sequence slots)
      slots-carried [] course s has = ended-comes (ending course.progress) course s has
      slots-carried (own ∷ slots) course s has = then-carried own (in_slots sequence slots) (slots-carried slots) course s has

  pub separated-carried : (sequence : Sequence) → ((id : ℕ) (tried : Bool) → Goes (occurring tried (sequence.child id)))
      → ((id : ℕ) (tried : Bool) → Carried R P (occurring tried (sequence.child id))) → ((id : ℕ) → Carried R P (sequence.child id))
      → (policy : SeparatorSuppressionPolicy) (slots : List Slot) → Carried R P (separated sequence policy slots)
  separated-carried sequence goes carried beside policy slots marks s has =
      slots-carried sequence marks goes carried beside slots (record { progress = begun policy sequence.position; last = s.at }) s has
