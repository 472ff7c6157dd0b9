-- Steps of the parser, one after another, over all data at once.
use Rattle.std.proofs.Common.{◌≡◌, ℕ, ◌+◌, ◌-◌, ◌*◌, ◌/◌, ◌<◌, ◌≤◌, max, refl, List, ◌++◌, length, get_or, Bool, true, false, ap, sym, subst, ◌∙◌, arith, length-append}
use Rattle.std.specs.Prelude.{replicate}
use Rattle.std.proofs.lemmas.List.{length-replicate, get_or-append-add}
use Rattle.dfdl_bits.specs.Window.{Held, end_of, room_of}
use Rattle.dfdl_terms.specs.Rows.{Table, Nests}
use Rattle.dfdl_looks.specs.Looks.{Agrees}
use Rattle.dfdl_looks.specs.Tallies.{beside_first, first_of, plus}
use Rattle.dfdl_grammar.specs.declared.limits.Limits.{Limits}
use Rattle.dfdl_grammar.specs.States.{Input, State}
use Rattle.dfdl_grammar.specs.Outcomes.{Outcome, spend}
use Rattle.dfdl_grammar.proofs.Spending.{spend-spend}
use Rattle.dfdl_parse.specs.declared.parser.Parser.{Parser}
use Rattle.dfdl_parse.specs.declared.frame.Focus.{Focus}
use Rattle.dfdl_parse.specs.declared.frame.Focus.TheVariants.{Enter, Pass, PassRest, Sized, Seek, LookIn, LookBehind, Count, Leave}
use Rattle.dfdl_parse.specs.Moves.{Machine, Move}
use Rattle.dfdl_parse.specs.Machines.{HasEnded, step}
use Rattle.dfdl_parse.specs.Opens.{IsHeld, NeedsFrom}
use Rattle.dfdl_parse.specs.Ahead.{ahead}
use Rattle.dfdl_parse.specs.Shown.{HasSameLimits, KeepsTo, limits_of, shown, state_of}
use Rattle.dfdl_parse.specs.Steps.{Moved}
use Rattle.dfdl_parse.specs.Runs.{Runs}
use Rattle.dfdl_parse.specs.Running.{Advanced, Reaches, Slid, Waited}
use Rattle.dfdl_parse.proofs.Finishes.{Anchored, Does, Fits, Stands}
use Rattle.dfdl_parse.proofs.Opens.{holds}
use Rattle.dfdl_parse.proofs.Ahead.{step-ahead}
use Rattle.dfdl_parse.proofs.Advances.{Keeps, step-keeps}
use Rattle.dfdl_parse.proofs.Waits.{step-waits}
use Rattle.dfdl_parse.proofs.Lows.{step-low}
use Rattle.dfdl_parse.proofs.Reaches.{further, step-reaches, waiting-reaches}
use Rattle.dfdl_parse.proofs.Falls.{measure, smaller}

tail_none : (a b : ℕ) → a ≡ 0 → b ≡ 0 → first_of a b ≡ 0
tail_none a b first second = ap (λ (n : ℕ). first_of n b) first ∙ second

tail_last : (a b c : ℕ) → a ≡ 0 → b ≡ c → first_of a b ≡ c
tail_last a b c first second = ap (λ (n : ℕ). first_of n b) first ∙ second

anchor_last : (n a b : ℕ) → n ≡ 0 → beside_first n a b ≡ b
anchor_last n a b none = ap (λ (m : ℕ). beside_first m a b) none

within : (at end : ℕ) → at ≤ 8 * end → at / 8 ≤ end
within at end few = omega arith

same_number : (n : ℕ) → n ≤ n
same_number n = omega arith

-- the limits that a parser keeps to, over a window
pub limits_are : (p : Parser) (held : Held) (limits : Limits) → KeepsTo p limits → held.size ≡ limits.window → limits ≡ limits_of p held
limits_are p held limits keeps size =
    ap (λ (n : ℕ). record { window = n; nodes = limits.nodes; text = limits.text }) (sym size)
    ∙ ap (λ (n : ℕ). record { window = held.size; nodes = n; text = limits.text }) keeps.0
    ∙ ap (λ (n : ℕ). record { window = held.size; nodes = p.region.most; text = n }) keeps.1

still_keeps : (a b : Parser) (limits : Limits) → HasSameLimits a b → KeepsTo a limits → KeepsTo b limits
still_keeps a b limits same keeps = (keeps.0 ∙ sym same.0, keeps.1 ∙ sym same.1.0)

pub keeps_first : (a b : Parser) (held : Held) → HasSameLimits a b → KeepsTo b (limits_of a held)
keeps_first a b held same = (sym same.0, sym same.1.0)

-- the window holds the bytes that are needed next
anchored_at : (held : Held) (s : State) → IsHeld held.base s.at s → s.at ≤ 8 * end_of held → Anchored held s
anchored_at held s here at = let low = here.1 in record { base = here.0; end = omega arith; low = low }

stands_at : (held : Held) (p : Parser) (focus : Focus) → NeedsFrom held.base focus p.stack (state_of p) → p.at ≤ 8 * end_of held → Stands held focus (state_of p)
stands_at held p (Enter id) low at = anchored_at held (state_of p) (holds held.base (Enter id) p.stack (state_of p) low) at
stands_at held p (Pass to) low at = holds held.base (Pass to) p.stack (state_of p) low
stands_at held p (PassRest bit outer) low at =
    let here = holds held.base (PassRest bit outer) p.stack (state_of p) low in
    let few = here.1 in
    (here.0, (low.1.0, omega arith))
stands_at held p (Sized prim size) low at = anchored_at held (state_of p) (holds held.base (Sized prim size) p.stack (state_of p) low) at
stands_at held p (Seek what) low at =
    let s : State = state_of p in
    let here = holds held.base (Seek what) p.stack s low in
    let few = here.1 in
    record { base = here.0; end = omega arith; low = few }
stands_at held p (LookIn slot) low at = anchored_at held (state_of p) (holds held.base (LookIn slot) p.stack (state_of p) low) at
stands_at held p (LookBehind slot bit) low at = anchored_at held (state_of p) (holds held.base (LookBehind slot bit) p.stack (state_of p) low).0 at
stands_at held p (Count slot question) low at = anchored_at held (state_of p) (holds held.base (Count slot question) p.stack (state_of p) low) at
stands_at held p (Leave end) low at = tt

module _ (table : Table) (nests : Nests table.rows) (old new : Parser) (before after : Held) (looks_made : ℕ)
    (low : NeedsFrom before.base old.focus old.stack (state_of old)) (at : old.at ≤ 8 * end_of before) where
  abbrev move : Move
  move = step (limits_of old before) table before old.focus old.stack (state_of old)

  stands : Stands before old.focus (state_of old)
  stands = stands_at before old old.focus low at

  fits : (input : Input) → Agrees before input.bytes → before.size ≡ input.limits.window → Fits before input old.focus (state_of old)
  fits input agrees size = record { agrees = agrees; size = size; stands = stands }

  does : (input : Input) → KeepsTo old input.limits → Fits before input old.focus (state_of old) → move.waits ≡ false
      → Does input table (ahead input table (shown old)) move
  does input most fit =
      subst (λ (l : Limits). (step l table before old.focus old.stack (state_of old)).waits ≡ false
      → Does input table (ahead input table (shown old)) (step l table before old.focus old.stack (state_of old)))
      (limits_are old before input.limits most fit.size)
      (step-ahead input table nests before old.focus old.stack (state_of old) fit)

  keeps : Keeps before move
  keeps = step-keeps before (state_of old) (limits_of old before) table old.focus old.stack stands

  pub advance : Moved move false old.far new after looks_made → Advanced table old new before after looks_made
  advance moved =
      let slid : Slid before after = subst (λ (h : Held). Slid before h) (sym moved.held) keeps.slid in
      record {
        slid = slid;
        runs = λ input root spent most runs.
            let fit : Fits before input old.focus (state_of old) = fits input runs.agrees runs.size in
            let done : ahead input table (shown old) ≡ spend move.tally (ahead input table move.machine) = does input most fit (sym moved.waits) in
            let looks = runs.looks in
            let far = runs.far in
            let grows : new.far ≡ max old.far move.tally.far = moved.far refl in
            let made : looks_made ≡ move.tally.looks = moved.looks in
            record {
              spent = plus runs.spent move.tally;
              same = runs.same ∙ ap (spend runs.spent) done ∙ spend-spend runs.spent move.tally (ahead input table move.machine)
                  ∙ ap (λ (m : Machine). spend (plus runs.spent move.tally) (ahead input table m)) (sym moved.machine);
              looks = omega arith;
              far = omega arith;
              found = λ on.
                  let on_before : before.ended ≡ false = sym slid.ended ∙ on in
                  let found = runs.found on_before in
                  let seen : move.tally.far ≤ end_of before = keeps.far on_before in
                  let ends : end_of after ≡ end_of before = slid.end in
                  let most_far : old.far ≤ end_of before = found.1 in
                  (tail_none runs.spent.tail move.tally.tail found.0 (keeps.tail on_before), omega arith);
              agrees = subst (λ (h : Held). Agrees h input.bytes) (sym moved.held) (keeps.agrees input.bytes runs.agrees);
              size = slid.size ∙ runs.size;
            };
      }

  -- the window behind the step holds the bytes that are needed next
  pub still_low : (waited : Bool) → Moved move waited old.far new after looks_made → NeedsFrom after.base new.focus new.stack (state_of new)
  still_low waited moved =
      subst (λ (h : Held). NeedsFrom h.base new.focus new.stack (state_of new)) (sym moved.held)
      (subst (λ (m : Machine). NeedsFrom move.held.base m.focus m.stack m.state) (sym moved.machine)
      (step-low before (state_of old) (limits_of old before) table old.focus old.stack stands low))

  -- while the end of the data wasn't told, no byte was looked at that hasn't come
  pub still_seen : (waited : Bool) → Moved move waited old.far new after looks_made → (before.ended ≡ false → old.far ≤ end_of before)
      → after.ended ≡ false → new.far ≤ end_of after
  still_seen waited moved seen on = by waited refl
    where
      slid : Slid before after
      slid = subst (λ (h : Held). Slid before h) (sym moved.held) keeps.slid

      on_before : before.ended ≡ false
      on_before = sym slid.ended ∙ on

      by : (w : Bool) → waited ≡ w → new.far ≤ end_of after
      by true is = let stays : new.far ≡ old.far = moved.stays is in let few = seen on_before in let ends = slid.end in omega arith
      by false is =
          let grows : new.far ≡ max old.far move.tally.far = moved.far is in
          let few = seen on_before in
          let most = keeps.far on_before in
          let ends = slid.end in
          omega arith

  -- it comes no further than the bytes that were looked at
  pub still_reaches : (waited : Bool) → Moved move waited old.far new after looks_made → 0 < before.size
      → (last : ℕ) → Reaches (max last old.far) before old.focus (state_of old) → Reaches (max last new.far) after new.focus (state_of new)
  still_reaches true moved some last reaches =
      let waits = step-waits table before (state_of old) (limits_of old before) old.focus old.stack (sym moved.waits) in
      let same_machine : shown new ≡ shown old = moved.machine ∙ waits.machine in
      let stays : new.far ≡ old.far = moved.stays refl in
      subst (λ (n : ℕ). Reaches (max last n) after new.focus (state_of new)) (sym stays)
      (subst (λ (m : Machine). Reaches (max last old.far) after m.focus m.state) (sym same_machine)
      (waiting-reaches table (max last old.far) before after (state_of old) (limits_of old before) old.focus old.stack (sym moved.waits) reaches))
  still_reaches false moved some last reaches =
      let grows : new.far ≡ max old.far move.tally.far = moved.far refl in
      let all : ℕ = max (max last old.far) move.tally.far in
      further all (max last new.far) after new.focus (state_of new) (omega arith)
      (subst (λ (h : Held). Reaches all h new.focus (state_of new)) (sym moved.held)
      (subst (λ (m : Machine). Reaches all move.held m.focus m.state) (sym moved.machine)
      (step-reaches (max last old.far) before (state_of old) some (limits_of old before) table old.focus old.stack stands low reaches)))

  pub still_agrees : (waited : Bool) → Moved move waited old.far new after looks_made → (whole : List ℕ) → Agrees before whole → Agrees after whole
  still_agrees waited moved whole agrees = subst (λ (h : Held). Agrees h whole) (sym moved.held) (keeps.agrees whole agrees)

  pub wait : Moved move true old.far new after looks_made → Waited table old new before after looks_made
  wait moved =
      let slid : Slid before after = subst (λ (h : Held). Slid before h) (sym moved.held) keeps.slid in
      let waits = step-waits table before (state_of old) (limits_of old before) old.focus old.stack (sym moved.waits) in
      let same_machine : shown new ≡ shown old = moved.machine ∙ waits.machine in
      let stays : new.far ≡ old.far = moved.stays refl in
      record {
        vain = looks_made;
        few = same_number looks_made;
        ended = waits.on;
        room = subst (λ (h : Held). 0 < room_of h) (sym moved.held) waits.room;
        advanced = record {
          slid = slid;
          runs = λ input root spent most runs.
              let looks = runs.looks in
              record {
                spent = runs.spent;
                same = runs.same ∙ ap (λ (m : Machine). spend runs.spent (ahead input table m)) (sym same_machine);
                looks = omega arith;
                far = runs.far ∙ sym stays;
                found = λ on.
                    let found = runs.found waits.on in
                    let ends : end_of after ≡ end_of before = slid.end in
                    let most_far : old.far ≤ end_of before = found.1 in
                    (found.0, omega arith);
                agrees = subst (λ (h : Held). Agrees h input.bytes) (sym moved.held) (keeps.agrees input.bytes runs.agrees);
                size = slid.size ∙ runs.size;
              };
        };
        missed = λ input root spent most runs all.
            let lost = waits.missed input (fits input runs.agrees runs.size) all in
            let found = runs.found waits.on in
            let far_is : root.tally.far ≡ max runs.spent.far (ahead input table (shown old)).tally.far = ap (λ (o : Outcome). o.tally.far) runs.same in
            let far : end_of before < (ahead input table (shown old)).tally.far = lost.1.0 in
            let anchor_is : root.tally.anchor ≡ (ahead input table (shown old)).tally.anchor =
            ap (λ (o : Outcome). o.tally.anchor) runs.same
            ∙ anchor_last runs.spent.tail runs.spent.anchor (ahead input table (shown old)).tally.anchor found.0 in
            let kept : length move.held.bytes ≡ end_of before - (ahead input table (shown old)).tally.anchor = lost.1.1 in
            let held_is : length after.bytes ≡ length move.held.bytes = ap (λ (h : Held). length h.bytes) moved.held in
            let ends : end_of after ≡ end_of before = slid.end in (
              omega arith,
              (
                ap (λ (o : Outcome). o.tally.tail) runs.same
                    ∙ tail_last runs.spent.tail (ahead input table (shown old)).tally.tail move.tally.looks found.0 lost.0 ∙ sym moved.looks,
                omega (arith, kept, held_is, ends, anchor_is),
              ),
            );
      }

-- no step yet
pub reaches_first : (last far : ℕ) (held : Held) (focus : Focus) (s : State) → Reaches last held focus s → Reaches (max last far) held focus s
reaches_first last far held focus s reaches = further last (max last far) held focus s (omega arith) reaches

pub stay : (table : Table) (p : Parser) (held : Held) (n : ℕ) → Advanced table p p held held (n - n)
stay table p held n = record {
  slid = record { size = refl; ended = refl; end = refl; base = omega arith };
  runs = λ input root spent most runs. let none : spent ≡ spent + (n - n) = omega arith in
      subst (λ (m : ℕ). Runs input table root (shown p) held m p.far) none runs;
}

both_slid : (first second third : Held) → Slid first second → Slid second third → Slid first third
both_slid first second third one two =
    let low = one.base in
    let more = two.base in
    record { size = two.size ∙ one.size; ended = two.ended ∙ one.ended; end = two.end ∙ one.end; base = omega arith }

-- one part and then another, where the looks are those of both
pub go_further : (table : Table) (a b c : Parser) (first second third : Held) (n m all : ℕ) → HasSameLimits a b → all ≡ n + m
    → Advanced table a b first second n → Advanced table b c second third m → Advanced table a c first third all
go_further table a b c first second third n m all most sum one two = record {
  slid = both_slid first second third one.slid two.slid;
  runs = λ input root spent nodes runs.
      let place : spent + n + m ≡ spent + all = omega arith in
      subst (λ (looks : ℕ). Runs input table root (shown c) third looks c.far) place
      (two.runs input root (spent + n) (still_keeps a b input.limits most nodes) (one.runs input root spent nodes runs));
}

-- and then a part that waits
pub go_and_wait : (table : Table) (a b c : Parser) (first second third : Held) (n m all : ℕ) → HasSameLimits a b → all ≡ n + m
    → Advanced table a b first second n → Waited table b c second third m → Waited table a c first third all
go_and_wait table a b c first second third n m all most sum one two =
    let few = two.few in
    record {
      vain = two.vain;
      few = omega arith;
      advanced = go_further table a b c first second third n (m - two.vain) (all - two.vain) most (omega arith) one two.advanced;
      ended = sym one.slid.ended ∙ two.ended;
      room = two.room;
      missed = λ input root spent nodes runs whole.
          let lost = two.missed input root (spent + n) (still_keeps a b input.limits most nodes) (one.runs input root spent nodes runs) (whole ∙ sym one.slid.end) in
          (subst (λ (e : ℕ). e < root.tally.far) one.slid.end lost.0, lost.1);
    }

-- some data that the window agrees with: the bytes that it gave up are zeros
abbrev pub padded : Held → List ℕ
padded held = replicate held.base 0 ++ held.bytes

pub agrees_padded : (held : Held) → Agrees held (padded held)
agrees_padded held =
    let zeros : length (replicate held.base 0) ≡ held.base = length-replicate held.base 0 in
    let size = length-append (replicate held.base 0) held.bytes in
    record {
      bytes = λ i less. sym (subst (λ (b : ℕ). get_or (padded held) (b + i) 0 ≡ get_or held.bytes i 0) zeros (get_or-append-add (replicate held.base 0) held.bytes i 0));
      within = omega (arith, zeros, size);
      all = λ ended. omega (arith, zeros, size);
    }

-- a step over the data of the window leaves less to be done
pub step-smaller : (table : Table) → Nests table.rows → (old new : Parser) (before after : Held) (looks_made : ℕ) (input : Input)
    → NeedsFrom before.base old.focus old.stack (state_of old) → old.at ≤ 8 * end_of before → KeepsTo old input.limits → before.size ≡ input.limits.window → Agrees before input.bytes
    → (HasEnded old.focus old.stack → ⊥)
    → Moved (step (limits_of old before) table before old.focus old.stack (state_of old)) false old.far new after looks_made
    → measure input table (shown new) < measure input table (shown old)
step-smaller table nests old new before after looks_made input low at most size agrees on moved =
    let fit : Fits before input old.focus (state_of old) = record { agrees = agrees; size = size; stands = stands_at before old old.focus low at } in
    let less = subst (λ (l : Limits). (step l table before old.focus old.stack (state_of old)).waits ≡ false
    → measure input table (step l table before old.focus old.stack (state_of old)).machine < measure input table (shown old))
    (limits_are old before input.limits most size)
    (smaller input table nests before old.focus old.stack (state_of old) fit on) in
    subst (λ (m : Machine). measure input table m < measure input table (shown old)) (sym moved.machine) (less (sym moved.waits))
