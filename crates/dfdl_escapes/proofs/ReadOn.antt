-- The reading of a content goes on by its first step.
use Rattle.std.proofs.Common.{◌≡◌, ℕ, suc, ◌+◌, ◌-◌, ◌/◌, ◌≤◌, Bool, List, [], ◌∷◌, ◌++◌, max, refl, ap, sym, subst, ◌∙◌, arith}
use Rattle.dfdl_bits.specs.declared.window.Seen.{Seen}
use Rattle.dfdl_looks.specs.Tallies.{Tally, nothing}
use Rattle.dfdl_looks.specs.Asks.{Ask, Reached, Told, TooFar, Missing, Reading, ask, go_on}
use Rattle.dfdl_looks.proofs.Sequels.{ask-then}
use Rattle.dfdl_looks.proofs.Shifted.{Shifts, shifted}
use Rattle.dfdl_delims.specs.Lists.{Opened}
use Rattle.dfdl_escapes.specs.declared.character.Character.{Character}
use Rattle.dfdl_escapes.specs.declared.ending.Ending.{Ending}
use Rattle.dfdl_escapes.specs.declared.ending.Ending.TheVariants.{Ends, EndOfBox, Broken, NotYet, Over}
use Rattle.dfdl_escapes.specs.declared.ending.Passed.{Passed}
use Rattle.dfdl_escapes.specs.declared.ending.Passed.TheVariants.{Gives, Mark, Stops}
use Rattle.dfdl_escapes.specs.declared.ending.Read.{Read}
use Rattle.dfdl_escapes.specs.declared.form.Form.{Form}
use Rattle.dfdl_escapes.specs.declared.form.Stand.{Stand}
use Rattle.dfdl_escapes.specs.declared.reading.Progress.{Progress}
use Rattle.dfdl_escapes.specs.declared.reading.Progress.TheVariants.{Goes, Halts}
use Rattle.dfdl_escapes.specs.declared.scanned.Glance.{Glance}
use Rattle.dfdl_escapes.specs.Steps.{Step, step_at}
use Rattle.dfdl_escapes.specs.Contents.{ArePassed, Gave, PassedMark, Content, after_step, content_from, rest_of}
use Rattle.dfdl_escapes.specs.Readings.{Answers, Comes, step_shown}
use Rattle.dfdl_escapes.specs.Reads.{IsRead, Sum, TurnsTo, ending_shown, ending_step, left_of, passed_shown, spent, sum_of}
use Rattle.dfdl_escapes.proofs.Coming.{anywhere}

same_sum : (a b : Reading Content) → Shifts 0 a b → sum_of a ≡ sum_of b
same_sum a b same =
    let looks : a.tally.looks ≡ b.tally.looks = let is = same.looks in omega arith in
    ap (λ (r : Reached Content). record { reached = r; looks = a.tally.looks; far = a.tally.far }) same.reached
    ∙ ap (λ (n : ℕ). record { reached = b.reached; looks = n; far = a.tally.far }) looks
    ∙ ap (λ (n : ℕ). record { reached = b.reached; looks = b.tally.looks; far = n }) same.far

module _ (look : ℕ → Seen) (test : List ℕ → Bool) (lists : List Opened) (form : Form) where
  abbrev left : ℕ → List Character → Stand → ℕ → ℕ → Sum
  left = left_of look test lists form

  abbrev after : ℕ → List Character → Stand → Step → Ask Content
  after more read at step = after_step (λ next_read next. content_from test lists form more next_read next) read at step

  -- what follows an answer costs the same behind the same looks
  follows : (go : Step → Ask Content) (r : Reached Step) (t : Tally) (looks far : ℕ) → t.looks ≡ looks → t.far ≡ far
      → sum_of (go_on look go r t) ≡ sum_of (go_on look go r (spent looks far))
  follows go (Told step) t looks far same_looks same_far =
      same_sum (ask look (go step) t) (ask look (go step) (spent looks far)) (shifted look 0 (go step) t (spent looks far) (omega arith) same_far)
  follows go TooFar t looks far same_looks same_far =
      same_sum (record { reached = TooFar; tally = t }) (record { reached = TooFar; tally = spent looks far })
      (record { reached = refl; looks = omega arith; far = same_far })
  follows go Missing t looks far same_looks same_far =
      same_sum (record { reached = Missing; tally = t }) (record { reached = Missing; tally = spent looks far })
      (record { reached = refl; looks = omega arith; far = same_far })

  module _ (more : ℕ) (read : List Character) (at next : Stand) (glance : Glance) (from to far seen : ℕ) (steps : from ≤ to)
      (answers : Answers (ask look (step_at test lists form at) nothing) next glance (to - from)) (seen_is : seen ≡ max far glance.far) where
    first : left (suc more) read at from far ≡ sum_of (go_on look (after more read at) (step_shown next glance.scanned) (spent to seen))
    first =
        let here : Comes (spent from far) (ask look (step_at test lists form at) (spent from far)) (step_shown next glance.scanned) (to - from) glance.far =
        anywhere look (step_at test lists form at) (step_shown next glance.scanned) (to - from) glance.far answers.reached answers.looks answers.far (spent from far) in
        let looks = here.looks in
        let furthest = here.far in
        ap sum_of (ask-then look (after more read at) (step_at test lists form at) (spent from far)
        ∙ ap (λ (r : Reached Step). go_on look (after more read at) r (ask look (step_at test lists form at) (spent from far)).tally) here.reached)
        ∙ follows (after more read at) (step_shown next glance.scanned) (ask look (step_at test lists form at) (spent from far)).tally to seen
        (omega arith) (omega arith)

    by-passed : (passed : Passed) → step_shown next glance.scanned ≡ passed_shown next passed
        → left (suc more) read at from far ≡ sum_of (go_on look (after more read at) (passed_shown next passed) (spent to seen))
    by-passed passed is = first ∙ ap (λ (r : Reached Step). sum_of (go_on look (after more read at) r (spent to seen))) is

    pub gives-more : (character : Character) (passed : Passed) (new : List Character) → passed ≡ Gives character
        → step_shown next glance.scanned ≡ passed_shown next passed → new ≡ read ++ character ∷ []
        → left (suc more) read at from far ≡ left more new next to seen
    gives-more character passed new is shown new_is =
        by-passed (Gives character) (shown ∙ ap (passed_shown next) is)
        ∙ ap (λ (cs : List Character). left more cs next to seen) (sym new_is)

    pub marks-more : (passed : Passed) → passed ≡ Mark → step_shown next glance.scanned ≡ passed_shown next passed
        → left (suc more) read at from far ≡ left more read next to seen
    marks-more passed is shown = by-passed Mark (shown ∙ ap (passed_shown next) is)

    ends-so : (ending : Ending) → sum_of (go_on look (after more read at) (ending_step ending) (spent to seen))
        ≡ record { reached = ending_shown read at ending; looks = to; far = seen }
    ends-so (Ends which) = refl
    ends-so EndOfBox = refl
    ends-so (Broken cause) = refl
    ends-so NotYet = refl
    ends-so Over = refl

    pub stops-there : (ending : Ending) (passed : Passed) → passed ≡ Stops ending → step_shown next glance.scanned ≡ passed_shown next passed → next ≡ at
        → left (suc more) read at from far ≡ record { reached = ending_shown read next ending; looks = to; far = seen }
    stops-there ending passed is shown stays =
        by-passed (Stops ending) (shown ∙ ap (passed_shown next) is) ∙ ends-so ending
        ∙ ap (λ (s : Stand). record { reached = ending_shown read s ending; looks = to; far = seen }) (sym stays)

  module _ (begin : Stand) (before read : List Character) (at next : Stand) (glance : Glance) (looks : ℕ)
      (answers : Answers (ask look (step_at test lists form at) nothing) next glance looks)
      (steps : ArePassed look test lists form begin before at read) where
    pub gives-one : (character : Character) (passed : Passed) (new : List Character) → passed ≡ Gives character
        → step_shown next glance.scanned ≡ passed_shown next passed → new ≡ read ++ character ∷ []
        → ArePassed look test lists form begin before next new
    gives-one character passed new is shown new_is =
        subst (λ (cs : List Character). ArePassed look test lists form begin before next cs) (sym new_is)
        (Gave at next read character.c character.is_escaped steps (answers.reached ∙ shown ∙ ap (passed_shown next) is))

    pub marks-one : (passed : Passed) → passed ≡ Mark → step_shown next glance.scanned ≡ passed_shown next passed
        → ArePassed look test lists form begin before next read
    marks-one passed is shown = PassedMark at next read steps (answers.reached ∙ shown ∙ ap (passed_shown next) is)

    pub stays-there : next ≡ at → ArePassed look test lists form begin before next read
    stays-there same = subst (λ (s : Stand). ArePassed look test lists form begin before s read) (sym same) steps

  -- the whole reading, counted from none
  pub read-whole : (read new : List Character) (at last : Stand) (from to : ℕ) (answer : Read)
      → left (suc (form.stop / 8 - at.byte)) read at from 0 ≡ record { reached = ending_shown new last answer.ending; looks = to; far = answer.far }
      → IsRead (ask look (rest_of test lists form read at) nothing) new last answer (to - from)
  read-whole read new at last from to answer is =
      let same : Shifts from (ask look (rest_of test lists form read at) nothing) (ask look (rest_of test lists form read at) (spent from 0)) =
      shifted look from (rest_of test lists form read at) nothing (spent from 0) (omega arith) refl in
      let looks : (ask look (rest_of test lists form read at) (spent from 0)).tally.looks ≡ to = ap (λ (s : Sum). s.looks) is in
      let added = same.looks in
      record {
        reached = same.reached ∙ ap (λ (s : Sum). s.reached) is;
        looks = omega arith;
        far = same.far ∙ ap (λ (s : Sum). s.far) is;
      }

  module _ (start : Sum) (now : Form) (count more : ℕ) (read new : List Character) (at last : Stand) (from to far : ℕ) (turn : Progress)
      (so_far : start ≡ left count read at from far) (same_form : now ≡ form) (some : count ≡ suc more)
      (turns : TurnsTo look test lists now (left_of look test lists now (suc more) read at from far) more new last to turn) where
    -- by one step, with the form that the reading began with
    turned : TurnsTo look test lists form start more new last to turn
    turned =
        subst (λ (s : Sum). TurnsTo look test lists form s more new last to turn) (sym (so_far ∙ ap (λ (n : ℕ). left n read at from far) some))
        (subst (λ (f : Form). TurnsTo look test lists f (left_of look test lists f (suc more) read at from far) more new last to turn) same_form turns)

    pub goes-on : (seen : ℕ) → turn ≡ Goes seen → start ≡ left more new last to seen
    goes-on seen is = subst (λ (p : Progress). TurnsTo look test lists form start more new last to p) is turned

    pub halts-so : (answer : Read) → turn ≡ Halts answer → start ≡ record { reached = ending_shown new last answer.ending; looks = to; far = answer.far }
    halts-so answer is = subst (λ (p : Progress). TurnsTo look test lists form start more new last to p) is turned

  -- no step is left
  pub runs-out : (start : Sum) (count : ℕ) (read : List Character) (at : Stand) (from far : ℕ) → start ≡ left count read at from far → count ≡ 0
      → start ≡ record { reached = ending_shown read at EndOfBox; looks = from; far = far }
  runs-out start count read at from far so_far none = so_far ∙ ap (λ (n : ℕ). left n read at from far) none

  -- steps behind steps, with the form that the reading began with
  pub passed-on : (now : Form) (begin : Stand) (before read new : List Character) (at next : Stand) → now ≡ form
      → ArePassed look test lists form begin before at read
      → ((start : Stand) (first : List Character) → ArePassed look test lists now start first at read → ArePassed look test lists now start first next new)
      → ArePassed look test lists form begin before next new
  passed-on now begin before read new at next same steps further =
      subst (λ (f : Form). ArePassed look test lists f begin before next new) same
      (further begin before (subst (λ (f : Form). ArePassed look test lists f begin before at read) (sym same) steps))

  -- behind a run, with the form that the reading began with
  pub run-on : (start : Sum) (now : Form) (all count more : ℕ) (read new : List Character) (at next : Stand) (from to far seen : ℕ)
      → start ≡ left all read at from far → now ≡ form → all ≡ count + suc more
      → left_of look test lists now (count + suc more) read at from far ≡ left_of look test lists now (suc more) new next to seen
      → start ≡ left (suc more) new next to seen
  run-on start now all count more read new at next from to far seen so_far same counts run =
      so_far ∙ ap (λ (n : ℕ). left n read at from far) counts
      ∙ subst (λ (f : Form). left_of look test lists f (count + suc more) read at from far ≡ left_of look test lists f (suc more) new next to seen) same run
