-- Steps one after the other give the content, and the other way round.
use Rattle.std.proofs.Common.{◌≡◌, ℕ, zero, suc, ◌-◌, ◌/◌, ◌≤◌, Bool, true, List, [], ◌∷◌, ◌++◌, refl, ap, sym, subst, ◌∙◌, arith, append_assoc}
use Rattle.std.proofs.lemmas.List.{append-nil}
use Rattle.dfdl_bits.specs.declared.window.Seen.{Seen}
use Rattle.dfdl_looks.specs.Tallies.{Tally, nothing}
use Rattle.dfdl_looks.specs.Asks.{Ask, Reached, Told, TooFar, Missing, Reading, ask, go_on}
use Rattle.dfdl_looks.proofs.Sequels.{ask-then}
use Rattle.dfdl_delims.specs.Lists.{Opened}
use Rattle.dfdl_escapes.specs.declared.character.Character.{Character}
use Rattle.dfdl_escapes.specs.declared.form.Form.{Form}
use Rattle.dfdl_escapes.specs.declared.form.Stand.{Stand}
use Rattle.dfdl_escapes.specs.Steps.{Step, Takes, Passes, Closes, RunsOut, Fails, step_at}
use Rattle.dfdl_escapes.specs.Contents.{Content, IsContent, Ended, Taken, Passed, IsStep, MovesOn, after_step, content_from, is_end}
use Rattle.dfdl_escapes.proofs.Coming.{reached-anywhere}
use Rattle.dfdl_escapes.proofs.Moving.{told-moves}

module _ (look : ℕ → Seen) (test : List ℕ → Bool) (lists : List Opened) (form : Form) where
  abbrev from : ℕ → List Character → Stand → Ask Content
  from more read at = content_from test lists form more read at

  abbrev Is : Stand → List Character → Stand → Step → Type 0
  Is = IsContent look test lists form

  abbrev after : ℕ → List Character → Stand → Step → Ask Content
  after more read at step = after_step (λ next_read next. from more next_read next) read at step

  -- the reading of a content goes on by its first step
  pub by-step : (more : ℕ) (read : List Character) (at : Stand) (step : Step) (t : Tally) → IsStep look test lists form at step
      → ask look (from (suc more) read at) t ≡ ask look (after more read at step) (ask look (step_at test lists form at) t).tally
  by-step more read at step t is =
      ask-then look (λ s. after more read at s) (step_at test lists form at) t
      ∙ ap (λ (r : Reached Step). go_on look (λ s. after more read at s) r (ask look (step_at test lists form at) t).tally)
      (reached-anywhere look (step_at test lists form at) t ∙ is)

  ends-there : (more : ℕ) (read : List Character) (at : Stand) (step : Step) (u : Tally) → is_end step ≡ true
      → (ask look (after more read at step) u).reached ≡ Told (record { characters = read; last = at; ends = step })
  ends-there more read at (Takes c escaped next) u ends = absurd (cc)
  ends-there more read at (Passes next) u ends = absurd (cc)
  ends-there more read at (Closes which) u ends = refl
  ends-there more read at RunsOut u ends = refl
  ends-there more read at (Fails cause) u ends = refl

  pub steps-give : (at last : Stand) (cs : List Character) (step : Step) → Is at cs last step
      → (more : ℕ) → suc (form.stop / 8 - at.byte) ≤ more → (read : List Character) (t : Tally)
      → (ask look (from more read at) t).reached ≡ Told (record { characters = read ++ cs; last = last; ends = step })
  steps-give at last cs step is zero enough read t = absurd (omega arith)
  steps-give _ _ _ _ (Ended at step is ends) (suc more) enough read t =
      ap (λ (r : Reading Content). r.reached) (by-step more read at step t is)
      ∙ ends-there more read at step (ask look (step_at test lists form at) t).tally ends
      ∙ ap (λ (cs : List Character). Told (record { characters = cs; last = at; ends = step })) (sym (append-nil read))
  steps-give _ _ _ _ (Taken at next last c escaped rest step is more_steps) (suc more) enough read t =
      let moves : MovesOn form at (Takes c escaped next) = told-moves look test lists form at (Takes c escaped next) nothing is in
      ap (λ (r : Reading Content). r.reached) (by-step more read at (Takes c escaped next) t is)
      ∙ steps-give next last rest step more_steps more (omega (arith, moves.0, moves.1)) (read ++ record { c = c; is_escaped = escaped } ∷ []) (ask look (step_at test lists form at) t).tally
      ∙ ap (λ (cs : List Character). Told (record { characters = cs; last = last; ends = step })) (append_assoc read (record { c = c; is_escaped = escaped } ∷ []) rest)
  steps-give _ _ _ _ (Passed at next last rest step is more_steps) (suc more) enough read t =
      let moves : MovesOn form at (Passes next) = told-moves look test lists form at (Passes next) nothing is in
      ap (λ (r : Reading Content). r.reached) (by-step more read at (Passes next) t is)
      ∙ steps-give next last rest step more_steps more (omega (arith, moves.0, moves.1)) read (ask look (step_at test lists form at) t).tally

  -- these characters and more of the content, which steps give
  record Given (at : Stand) (read : List Character) (content : Content) : Type 0 where
    pub rest : List Character
    pub same : content.characters ≡ read ++ rest
    pub is : Is at rest content.last content.ends

  abbrev ended : List Character → Stand → Step → Content
  ended read at step = record { characters = read; last = at; ends = step }

  at-end : (at : Stand) (read : List Character) (step : Step) (content : Content) → IsStep look test lists form at step → is_end step ≡ true
      → Told (ended read at step) ≡ Told content → Given at read content
  at-end at read step content is ends same =
      let characters : read ≡ content.characters = cc in
      let last : at ≡ content.last = cc in
      let ending : step ≡ content.ends = cc in
      record {
        rest = [];
        same = sym characters ∙ sym (append-nil read);
        is = subst (λ (x : Step). Is at [] content.last x) ending (subst (λ (x : Stand). Is at [] x step) last (Ended at step is ends));
      }

  by-reached : (more : ℕ) (at : Stand) (read : List Character) (content : Content) (u : Tally) → suc (form.stop / 8 - at.byte) ≤ suc more
      → (r : Reached Step) → (ask look (step_at test lists form at) nothing).reached ≡ r
      → (go_on look (λ s. after more read at s) r u).reached ≡ Told content
      → ((next : Stand) (next_read : List Character) (v : Tally) → suc (form.stop / 8 - next.byte) ≤ more
      → (ask look (from more next_read next) v).reached ≡ Told content → Given next next_read content) → Given at read content
  by-reached more at read content u enough (Told (Takes c escaped next)) is goes again =
      let moves : MovesOn form at (Takes c escaped next) = told-moves look test lists form at (Takes c escaped next) nothing is in
      let given = again next (read ++ record { c = c; is_escaped = escaped } ∷ []) u (omega (arith, moves.0, moves.1)) goes in
      record {
        rest = record { c = c; is_escaped = escaped } ∷ given.rest;
        same = given.same ∙ append_assoc read (record { c = c; is_escaped = escaped } ∷ []) given.rest;
        is = Taken at next content.last c escaped given.rest content.ends is given.is;
      }
  by-reached more at read content u enough (Told (Passes next)) is goes again =
      let moves : MovesOn form at (Passes next) = told-moves look test lists form at (Passes next) nothing is in
      let given = again next read u (omega (arith, moves.0, moves.1)) goes in
      record { rest = given.rest; same = given.same; is = Passed at next content.last given.rest content.ends is given.is }
  by-reached more at read content u enough (Told (Closes which)) is goes again = at-end at read (Closes which) content is refl goes
  by-reached more at read content u enough (Told RunsOut) is goes again = at-end at read RunsOut content is refl goes
  by-reached more at read content u enough (Told (Fails cause)) is goes again = at-end at read (Fails cause) content is refl goes
  by-reached more at read content u enough TooFar is goes again = absurd (cc)
  by-reached more at read content u enough Missing is goes again = absurd (cc)

  steps-back : (more : ℕ) (at : Stand) (read : List Character) (content : Content) (t : Tally) → suc (form.stop / 8 - at.byte) ≤ more
      → (ask look (from more read at) t).reached ≡ Told content → Given at read content
  steps-back zero at read content t enough reads = absurd (omega arith)
  steps-back (suc more) at read content t enough reads =
      by-reached more at read content (ask look (step_at test lists form at) t).tally enough (ask look (step_at test lists form at) nothing).reached refl
      (ap (λ (r : Reached Step). (go_on look (λ s. after more read at s) r (ask look (step_at test lists form at) t).tally).reached)
      (sym (reached-anywhere look (step_at test lists form at) t))
      ∙ ap (λ (r : Reading Content). r.reached) (sym (ask-then look (λ s. after more read at s) (step_at test lists form at) t)) ∙ reads)
      (λ next next_read v fewer goes. steps-back more next next_read content v fewer goes)

  pub content-back : (at : Stand) (content : Content) (t : Tally) → (ask look (from (suc (form.stop / 8 - at.byte)) [] at) t).reached ≡ Told content
      → Is at content.characters content.last content.ends
  content-back at content t reads =
      let given = steps-back (suc (form.stop / 8 - at.byte)) at [] content t (omega arith) reads in
      subst (λ (cs : List Character). Is at cs content.last content.ends) (sym given.same) given.is
