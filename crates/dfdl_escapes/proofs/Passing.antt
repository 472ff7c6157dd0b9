-- What is left of a content behind the steps that were taken.
use Rattle.std.proofs.Common.{◌≡◌, ℕ, zero, suc, ◌-◌, ◌/◌, ◌≤◌, Bool, List, [], ◌∷◌, ◌++◌, refl, ap, sym, ◌∙◌, arith}
use Rattle.dfdl_bits.specs.declared.window.Seen.{Seen}
use Rattle.dfdl_bits.specs.Window.{Held, seen_at}
use Rattle.dfdl_looks.specs.Looks.{Agrees, seen_in}
use Rattle.dfdl_looks.specs.Tallies.{Tally, nothing}
use Rattle.dfdl_looks.specs.Asks.{Ask, Answer, Look, AsksFrom, Reached, Told, TooFar, Missing, Reading, ask, go_on}
use Rattle.dfdl_looks.proofs.Resumed.{asked}
use Rattle.dfdl_looks.proofs.Sequels.{ask-then}
use Rattle.dfdl_delims.specs.Lists.{Opened}
use Rattle.dfdl_delims.specs.Longest.{longest_at}
use Rattle.dfdl_escapes.specs.declared.character.Character.{Character}
use Rattle.dfdl_escapes.specs.declared.form.Form.{Form}
use Rattle.dfdl_escapes.specs.declared.form.Stand.{Stand}
use Rattle.dfdl_escapes.specs.Steps.{Step, Takes, Passes, Closes, RunsOut, Fails, step_at}
use Rattle.dfdl_escapes.specs.Contents.{ArePassed, NoStep, Gave, PassedMark, Content, IsStep, MovesOn, after_step, content_from, rest_of}
use Rattle.dfdl_escapes.proofs.Coming.{reached-anywhere}
use Rattle.dfdl_escapes.proofs.Giving.{by-step}
use Rattle.dfdl_escapes.proofs.Moving.{step-from, told-moves}

module _ (look : ℕ → Seen) (test : List ℕ → Bool) (lists : List Opened) (form : Form) where
  abbrev reached : ℕ → List Character → Stand → Tally → Reached Content
  reached more read at t = (ask look (content_from test lists form more read at) t).reached

  abbrev after : ℕ → List Character → Stand → Step → Ask Content
  after more read at step = after_step (λ next_read next. content_from test lists form more next_read next) read at step

  first : (more : ℕ) (read : List Character) (at : Stand) (t : Tally)
      → reached (suc more) read at t ≡ (go_on look (after more read at) (ask look (step_at test lists form at) nothing).reached (ask look (step_at test lists form at) t).tally).reached
  first more read at t =
      ap (λ (r : Reading Content). r.reached) (ask-then look (after more read at) (step_at test lists form at) t)
      ∙ ap (λ (r : Reached Step). (go_on look (after more read at) r (ask look (step_at test lists form at) t).tally).reached)
      (reached-anywhere look (step_at test lists form at) t)

  -- so many steps that are enough
  abbrev Enough : ℕ → Stand → Type 0
  Enough more at = suc (form.stop / 8 - at.byte) ≤ more

  by-told : (more other : ℕ) (read : List Character) (at : Stand) (t u : Tally) → Enough (suc more) at → Enough (suc other) at
      → ((next_read : List Character) (next : Stand) (v w : Tally) → Enough more next → Enough other next → reached more next_read next v ≡ reached other next_read next w)
      → (r : Reached Step) → (ask look (step_at test lists form at) nothing).reached ≡ r
      → (go_on look (after more read at) r t).reached ≡ (go_on look (after other read at) r u).reached
  by-told more other read at t u enough too again (Told (Takes c escaped next)) is =
      let moves : MovesOn form at (Takes c escaped next) = told-moves look test lists form at (Takes c escaped next) nothing is in
      again (read ++ record { c = c; is_escaped = escaped } ∷ []) next t u (omega (arith, moves.0, moves.1)) (omega (arith, moves.0, moves.1))
  by-told more other read at t u enough too again (Told (Passes next)) is =
      let moves : MovesOn form at (Passes next) = told-moves look test lists form at (Passes next) nothing is in
      again read next t u (omega (arith, moves.0, moves.1)) (omega (arith, moves.0, moves.1))
  by-told more other read at t u enough too again (Told (Closes which)) is = refl
  by-told more other read at t u enough too again (Told RunsOut) is = refl
  by-told more other read at t u enough too again (Told (Fails cause)) is = refl
  by-told more other read at t u enough too again TooFar is = refl
  by-told more other read at t u enough too again Missing is = refl

  -- more steps than are enough change nothing
  pub enough-same : (more other : ℕ) (read : List Character) (at : Stand) (t u : Tally) → Enough more at → Enough other at
      → reached more read at t ≡ reached other read at u
  enough-same zero other read at t u enough too = absurd (omega arith)
  enough-same (suc more) zero read at t u enough too = absurd (omega arith)
  enough-same (suc more) (suc other) read at t u enough too =
      first more read at t
      ∙ by-told more other read at (ask look (step_at test lists form at) t).tally (ask look (step_at test lists form at) u).tally enough too
      (λ next_read next v w less fewer. enough-same more other next_read next v w less fewer)
      (ask look (step_at test lists form at) nothing).reached refl
      ∙ sym (first other read at u)

  abbrev rest : List Character → Stand → Tally → Reached Content
  rest read at t = (ask look (rest_of test lists form read at) t).reached

  -- what is left behind steps is what the content comes to
  pub passed-same : (begin : Stand) (before : List Character) (last : Stand) (read : List Character) → ArePassed look test lists form begin before last read → (t u : Tally)
      → rest before begin t ≡ rest read last u
  passed-same begin before _ _ NoStep t u = enough-same (suc (form.stop / 8 - begin.byte)) (suc (form.stop / 8 - begin.byte)) before begin t u (omega arith) (omega arith)
  passed-same begin before _ _ (Gave at next read c escaped steps is) t u =
      let moves : MovesOn form at (Takes c escaped next) = told-moves look test lists form at (Takes c escaped next) nothing is in
      passed-same begin before at read steps t nothing
      ∙ ap (λ (r : Reading Content). r.reached) (by-step look test lists form (form.stop / 8 - at.byte) read at (Takes c escaped next) nothing is)
      ∙ enough-same (form.stop / 8 - at.byte) (suc (form.stop / 8 - next.byte)) (read ++ record { c = c; is_escaped = escaped } ∷ []) next
      (ask look (step_at test lists form at) nothing).tally u (omega (arith, moves.0, moves.1)) (omega arith)
  passed-same begin before _ _ (PassedMark at next read steps is) t u =
      let moves : MovesOn form at (Passes next) = told-moves look test lists form at (Passes next) nothing is in
      passed-same begin before at read steps t nothing
      ∙ ap (λ (r : Reading Content). r.reached) (by-step look test lists form (form.stop / 8 - at.byte) read at (Passes next) nothing is)
      ∙ enough-same (form.stop / 8 - at.byte) (suc (form.stop / 8 - next.byte)) read next
      (ask look (step_at test lists form at) nothing).tally u (omega (arith, moves.0, moves.1)) (omega arith)

asks-lower : {F : Type 0} (low high : ℕ) → low ≤ high → (a : Ask F) → AsksFrom high a → AsksFrom low a
asks-lower low high under (Answer f) is = tt
asks-lower low high under (Look k go) is = (omega (arith, is.0), λ o. asks-lower low high under (go o) (is.1 o))

module _ (held : Held) (whole : List ℕ) (agrees : Agrees held whole) (test : List ℕ → Bool) (lists : List Opened) (form : Form)
    (markup-from : (stop k : ℕ) → AsksFrom k (longest_at test lists stop k)) where
  abbrev there : ℕ → Seen
  there = seen_in whole held.size held.base

  passed-behind : (begin : Stand) (before : List Character) (last : Stand) (read : List Character)
      → ArePassed (seen_at held) test lists form begin before last read → begin.byte ≤ last.byte
  passed-behind begin before _ _ NoStep = omega arith
  passed-behind begin before _ _ (Gave at next read c escaped steps is) =
      let earlier = passed-behind begin before at read steps in
      let moves : MovesOn form at (Takes c escaped next) = told-moves (seen_at held) test lists form at (Takes c escaped next) nothing is in
      omega (arith, earlier, moves.0)
  passed-behind begin before _ _ (PassedMark at next read steps is) =
      let earlier = passed-behind begin before at read steps in
      let moves : MovesOn form at (Passes next) = told-moves (seen_at held) test lists form at (Passes next) nothing is in
      omega (arith, earlier, moves.0)

  step-there : (at : Stand) (step : Step) → held.base ≤ at.byte → IsStep (seen_at held) test lists form at step → IsStep there test lists form at step
  step-there at step base is =
      ap (λ (r : Reading Step). r.reached)
      (sym (asked held whole agrees (step_at test lists form at)
      (asks-lower held.base at.byte base (step_at test lists form at) (step-from test lists form markup-from at)) nothing (λ missing. absurd (cc))))
      ∙ is

  pub passed-there : (begin : Stand) (before : List Character) (last : Stand) (read : List Character) → held.base ≤ begin.byte
      → ArePassed (seen_at held) test lists form begin before last read → ArePassed there test lists form begin before last read
  passed-there begin before _ _ base NoStep = NoStep
  passed-there begin before _ _ base (Gave at next read c escaped steps is) =
      let behind = passed-behind begin before at read steps in
      Gave at next read c escaped (passed-there begin before at read base steps) (step-there at (Takes c escaped next) (omega (arith, base, behind)) is)
  passed-there begin before _ _ base (PassedMark at next read steps is) =
      let behind = passed-behind begin before at read steps in
      PassedMark at next read (passed-there begin before at read base steps) (step-there at (Passes next) (omega (arith, base, behind)) is)
